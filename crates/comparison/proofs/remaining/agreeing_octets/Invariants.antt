use Prim.Native.Nat.{◌-◌}
use lib.ListN.{length}
use Rattle.comparison.proofs.Whole.{Agreed}
use Rattle.comparison.proofs.remaining.agreeing_octets.Given as goal

abbrev pub invariant-loop-at : goal.invariant-loop-at
invariant-loop-at l = Agreed l.s l.t l.at

abbrev pub decreases-loop-at : goal.decreases-loop-at
decreases-loop-at l = length l.s - l.at
