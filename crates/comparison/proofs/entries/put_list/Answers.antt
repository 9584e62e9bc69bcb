use mathlib.Core.Path.{sym, ◌∙◌}
use native.Mathlib.Omega.{arith}
use Rattle.comparison.proofs.Going.{begins, fit, falls, more, ended}
use Rattle.comparison.proofs.entries.put_list.Goals as goal

pub loop-s-init : goal.loop-s-init
loop-s-init c = let a = c.args in begins a.first.now a.second.now a.list.now _ _ c.from_place-s.ensures c.from_place-t.ensures

pub put_marks-count-requires : goal.put_marks-count-requires
put_marks-count-requires c = fit c.loop-s.invariant (omega (arith, c.well_formed.0.1)) (omega (arith, c.well_formed.1.0.1))

pub overflow_add-n : goal.overflow_add-n
overflow_add-n c = omega (arith, (fit c.loop-s.invariant (omega (arith, c.well_formed.0.1)) (omega (arith, c.well_formed.1.0.1))).1)

pub loop-s-smaller : goal.loop-s-smaller
loop-s-smaller c =
    falls c.loop-s.invariant (sym c.any_stands.ensures ∙ c.loop-s-test.true) c.step_of.result c.step_of-in-loop-s.result c.step_of.ensures.0
    c.step_of-in-loop-s.ensures.0

pub loop-s-preserved : goal.loop-s-preserved
loop-s-preserved c =
    more c.loop-s.invariant (sym c.any_stands.ensures ∙ c.loop-s-test.true) c.marks_of.result c.marks_of.ensures _ _ c.put_marks-count.ensures
    c.step_of.result c.step_of-in-loop-s.result c.step_of.ensures.0 c.step_of-in-loop-s.ensures.0

pub shape_of-list : goal.shape_of-list
shape_of-list c = c.loop-s.invariant.same

pub returns : goal.returns
returns c = ended c.loop-s.invariant (sym c.any_stands.ensures ∙ c.loop-s-test.false)
