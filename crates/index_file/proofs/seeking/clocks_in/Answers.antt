use native.Mathlib.Omega.{arith}
use mathlib.Core.Path.{refl}
use Rattle.index_file.specs.Files.{clock_at}
use Rattle.index_file.proofs.Lists.{filled_none, filled_more, filled-all}
use Rattle.index_file.proofs.seeking.clocks_in.Goals as goal

pub loop-k-init : goal.loop-k-init
loop-k-init c = filled_none _ 256 _ refl

pub bounds-clocks-k : goal.bounds-clocks-k
bounds-clocks-k c = omega (arith, c.loop-k.invariant.size)

pub loop-k-preserved : goal.loop-k-preserved
loop-k-preserved c = let l = c.loop-k in
    let index = c.args.index.now in
    filled_more (clock_at index) 256 l.k l.clocks _ c.loop-k-test.true c.clock_at.ensures l.invariant

pub returns : goal.returns
returns c = let l = c.loop-k in filled-all (clock_at c.args.index.now) 256 l.k l.clocks c.loop-k-test.false l.invariant
