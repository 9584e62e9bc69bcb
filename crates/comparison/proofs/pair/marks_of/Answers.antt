use mathlib.Core.Path.{sym, ◌∙◌}
use Rattle.comparison.proofs.Octets.{same_is}
use Rattle.comparison.proofs.Pairs.{marks-both}
use Rattle.comparison.proofs.pair.marks_of.Goals as goal

pub returns : goal.returns
returns c = let a = c.args in
    let none = c.default-2.ensures.1.1.1.1.1 in
    rw (none.0, none.1)
    (marks-both a.s.now a.t.now
    (sym c.stands.ensures ∙ c.if-not-stands.false)
    (sym c.stands-here.ensures ∙ c.if-not-here.false)
    c.record_at-a.result c.record_at-b.result c.record_at-a.ensures c.record_at-b.ensures
    c.body_at.result.now c.body_at-2.result.now c.body_at.ensures c.body_at-2.ensures
    c.eq-same.result (c.eq-same.ensures ∙ same_is c.body_at.result.now c.body_at-2.result.now))
