use mathlib.Core.Path.{sym, ap, ◌∙◌}
use Rattle.session.specs.Live.{with_live, with_fault}
use Rattle.session.proofs.LiveMessages.{bfd-acts, fault-acts}
use Rattle.own.proofs.received_by.Goals as goal

pub returns-then-is_fault : goal.returns-then-is_fault
returns-then-is_fault c = let a = c.args in
    c.with_fault.ensures ∙ ap (with_fault a.s) c.fault_act.ensures
    ∙ (fault-acts a.s a.m.now a.reading (sym c.is_fault.ensures ∙ c.if-is_fault.true)).1

pub returns-else-is_fault : goal.returns-else-is_fault
returns-else-is_fault c = let a = c.args in
    c.with_live.ensures ∙ ap (with_live a.s) c.bfd_act.ensures
    ∙ (bfd-acts a.s a.m.now a.reading (sym c.is_fault.ensures ∙ c.if-is_fault.false)).1
