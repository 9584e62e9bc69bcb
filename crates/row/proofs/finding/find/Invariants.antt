-- The place so far and what a search of the records left gives come to what a search of all of them gives.
use Rattle.std.proofs.Common.{◌≡◌, ◌+◌, drop}
use Rattle.table.specs.Places.{first_hit}
use Rattle.row.proofs.finding.find.Given as goal

abbrev pub invariant-loop-i : goal.invariant-loop-i
invariant-loop-i l = l.i + first_hit l.label l.discriminator l.rest (drop l.i l.row) ≡ first_hit l.label l.discriminator l.occupied l.row
