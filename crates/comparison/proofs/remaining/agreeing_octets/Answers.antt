use mathlib.Core.Path.{sym, ap, ◌∙◌}
use native.Mathlib.Omega.{arith}
use Rattle.comparison.specs.Walk.{step_of}
use Rattle.comparison.proofs.Whole.{agreed-first, agreed-step, agreed-more, agreed-all}
use Rattle.comparison.proofs.remaining.agreeing_octets.Goals as goal

pub loop-at-init : goal.loop-at-init
loop-at-init c = let a = c.args in agreed-first a.s.now a.t.now

pub overflow_add-at : goal.overflow_add-at
overflow_add-at c =
    let q = agreed-step c.loop-at.invariant _ _ c.from_place.ensures c.from_place-in-loop-at.ensures (sym c.are_alike.ensures ∙ c.loop-at-test.true)
    c.step_of-at.result (c.step_of-at.ensures.0 ∙ ap step_of c.from_place-in-loop-at-2.ensures) in
    omega (arith, q.1, c.well_formed.0.0)

pub loop-at-smaller : goal.loop-at-smaller
loop-at-smaller c =
    let q = agreed-step c.loop-at.invariant _ _ c.from_place.ensures c.from_place-in-loop-at.ensures (sym c.are_alike.ensures ∙ c.loop-at-test.true)
    c.step_of-at.result (c.step_of-at.ensures.0 ∙ ap step_of c.from_place-in-loop-at-2.ensures) in
    omega (arith, q.0, q.1)

pub loop-at-preserved : goal.loop-at-preserved
loop-at-preserved c =
    agreed-more c.loop-at.invariant _ _ c.from_place.ensures c.from_place-in-loop-at.ensures (sym c.are_alike.ensures ∙ c.loop-at-test.true)
    c.step_of-at.result (c.step_of-at.ensures.0 ∙ ap step_of c.from_place-in-loop-at-2.ensures)

pub returns : goal.returns
returns c =
    agreed-all c.loop-at.invariant _ _ c.from_place.ensures c.from_place-in-loop-at.ensures (sym c.are_alike.ensures ∙ c.loop-at-test.false)
