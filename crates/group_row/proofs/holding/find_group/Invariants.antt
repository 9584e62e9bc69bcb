-- The place so far and what a search of the records left gives come to what a search of all of them gives.
use Rattle.std.proofs.Common.{◌≡◌, ◌+◌, drop}
use Rattle.group_step.specs.GroupSeeing.{holder_place}
use Rattle.group_row.proofs.holding.find_group.Given as goal

abbrev pub invariant-loop-i : goal.invariant-loop-i
invariant-loop-i l = l.i + holder_place l.party l.id l.rest (drop l.i l.row) ≡ holder_place l.party l.id l.occupied l.row
