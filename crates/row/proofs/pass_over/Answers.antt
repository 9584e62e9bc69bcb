-- The loop's turns are those of `pass_over`, by `Passed.antt`.
use mathlib.Core.Path.{sym, ◌∙◌}
use Prim.Native.Nat.{◌<◌}
use native.Mathlib.Omega.{arith}
use lib.ListN.{length}
use Rattle.row.proofs.Searched.{within}
use Rattle.row.proofs.Passed.{goes_one, at-end}
use Rattle.row.proofs.pass_over.Goals as goal

pub loop-pairs-preserved : goal.loop-pairs-preserved
loop-pairs-preserved c =
    let more = sym c.more.ensures ∙ c.loop-pairs-test.true in
    let so : c.loop-pairs.i < length c.args.row.now = within c.loop-pairs.s.rest c.loop-pairs.i _ more in
    record {
      inside = omega (arith, so);
      so_far = goes_one c.args.row.now c.loop-pairs.i c.loop-pairs.s c.loop-pairs.pairs _ more c.take_in-s.result c.take_in-s.ensures.0 c.take_in-s.new.pairs c.take_in-s.ensures.1 ∙ c.loop-pairs.invariant.so_far;
    }

pub returns : goal.returns
returns c = at-end c.args.row.now c.loop-pairs.i c.loop-pairs.s c.loop-pairs.pairs (sym c.more.ensures ∙ c.loop-pairs-test.false) ∙ c.loop-pairs.invariant.so_far
