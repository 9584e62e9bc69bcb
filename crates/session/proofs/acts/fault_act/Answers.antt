use mathlib.Core.Path.{◌≡◌, ap, ◌∙◌}
use Rattle.octets.specs.Choice.{Answer, accepted, refused, Placed}
use Rattle.fault.specs.declared.Fault.{Fault}
use Rattle.fault.specs.Message.{read_fault}
use Rattle.session.specs.Live.{faulted_of}
use Rattle.session.proofs.LiveMessages.{fault-read, fault-refused}
use Rattle.session.proofs.acts.fault_act.Goals as goal

-- what is received has no place
abbrev answer-of : Placed Fault → Answer Fault
answer-of r = r.answer

pub returns-in-Ok : goal.returns-in-Ok
returns-in-Ok c = let a = c.args in
    let r : accepted _ ≡ read_fault a.m.now = ap answer-of c.in-Ok.ensures in
    c.fault_by.ensures ∙ fault-read a.s a.m.now a.reading _ r

pub returns-in-Err : goal.returns-in-Err
returns-in-Err c = let a = c.args in
    let r : refused _ ≡ read_fault a.m.now = ap answer-of c.in-Err.ensures in
    c.fault_refused.ensures ∙ ap (faulted_of a.s) c.from.ensures ∙ fault-refused a.s a.m.now a.reading _ r
