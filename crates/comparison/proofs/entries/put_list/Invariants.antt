use Prim.Native.Nat.{◌+◌}
use lib.ListN.{length}
use Rattle.comparison.proofs.Going.{Going}
use Rattle.comparison.proofs.entries.put_list.Given as goal

abbrev pub invariant-loop-s : goal.invariant-loop-s
invariant-loop-s l = Going l.first l.second l.initial.list l.list l.s l.t l.n l.count

abbrev pub decreases-loop-s : goal.decreases-loop-s
decreases-loop-s l = length l.s + length l.t
