use mathlib.Core.Path.{ap, ◌∙◌}
use Rattle.conditions.specs.declared.Verdict.{Verdict}
use Rattle.session.specs.Steps.{fault_taken}
use Rattle.session.proofs.acts.fault_by.Goals as goal

pub returns : goal.returns
unfolding fault_taken
returns c = let e = ap (λ (v : Verdict). v.answer) c.take_fault-v.ensures in
    rw (← e, c.if-v-ne0.false, c.take_fault-v.ensures, c.fault_state.ensures, c.pw_at.ensures)
