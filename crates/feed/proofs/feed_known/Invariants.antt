use Prim.Native.Nat.{◌-◌}
use lib.ListN.{length}
use Rattle.feed.proofs.Turns.{flow, After}
use Rattle.feed.proofs.feed_known.Given as goal

-- some number of turns is enough for what is left of the input; and where the mark was right it is still, and what is left to do gives what the whole gives
abbrev pub invariant-loop-row : goal.invariant-loop-row
invariant-loop-row l = After l.sound l.input (flow l.fn.row l.fn.from l.fn.out) (flow l.row l.f l.out)

abbrev pub decreases-loop-row : goal.decreases-loop-row
decreases-loop-row l = length l.input - l.f.used
