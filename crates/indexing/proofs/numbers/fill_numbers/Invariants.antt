use Prim.Native.Nat.{◌-◌}
use mathlib.Core.Path.{◌≡◌}
use lib.ListN.{length}
use Rattle.indexing.specs.Filling.{notes_of, note_all}
use Rattle.indexing.proofs.numbers.fill_numbers.Given as goal

abbrev pub invariant-loop-next : goal.invariant-loop-next
invariant-loop-next l =
    (notes_of (l.x.count - l.x.at) l.log (record { filling = l.x; clocks = l.clocks; places = l.places }) ≡ note_all l.initial.clocks l.initial.places l.initial.x l.log)
    × ((length l.clocks ≡ length l.initial.clocks) × (length l.places ≡ length l.initial.places))

abbrev pub decreases-loop-next : goal.decreases-loop-next
decreases-loop-next l = l.x.count - l.x.at
