use mathlib.Core.Path.{sym, ◌∙◌}
use Rattle.conditions.proofs.Empties.{none-followed, none-marked}
use Rattle.session.specs.Queries.{defect_at}
use Rattle.session.proofs.queries.defect_at.Goals as goal

pub returns-then-four_empty : goal.returns-then-four_empty
unfolding defect_at
returns-then-four_empty c =
    let a = c.args in
    rw (← c.crossing_at.ensures, c.if-crossing_at.false)
    (sym (none-followed a.s.settings.followlink a.s.settings.followlock a.s.conditions a.now (sym c.four_empty.ensures ∙ c.if-four_empty.true)))

pub returns-else-any_marked : goal.returns-else-any_marked
unfolding defect_at
returns-else-any_marked c =
    let a = c.args in
    c.if-any_marked.false
    ∙ rw (← c.crossing_at.ensures, c.if-crossing_at.false)
    (sym (none-marked a.s.settings.followlink a.s.settings.followlock a.s.conditions a.now (sym c.any_marked.ensures ∙ c.if-any_marked.false)))
