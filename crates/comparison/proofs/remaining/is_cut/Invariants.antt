use mathlib.Core.Path.{◌≡◌}
use lib.ListN.{length}
use Rattle.capture.specs.Raws.{raws_in}
use Rattle.comparison.proofs.remaining.is_cut.Given as goal

-- what is left of the records not yet passed is what is left of all
abbrev pub invariant-loop-left : goal.invariant-loop-left
invariant-loop-left l = (raws_in 16 l.s).rest ≡ (raws_in 16 l.left).rest

abbrev pub decreases-loop-left : goal.decreases-loop-left
decreases-loop-left l = length l.left
