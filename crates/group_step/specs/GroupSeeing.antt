-- What is looked for in a row before a call on a group: the labels, and the group of an ID in a party.
-- Assumes nothing.
use Rattle.std.specs.Prelude.{ℕ, suc, ◌/◌, cond, ◌&&◌, List, [], ◌∷◌}
use Rattle.session.specs.declared.Session.{Session}
use Rattle.table.specs.declared.Head.{Head}
use Rattle.table.specs.Places.{first_on, first_hit}
use Rattle.grouping.specs.Grouped.{holds_group}
use Rattle.scan.specs.Passing.{summary_of}
use Rattle.group_step.specs.declared.GroupTarget.{GroupTarget}
use Rattle.group_step.specs.declared.GroupSeen.{GroupSeen}
use Rattle.group_step.specs.GroupStepping.{plain_of, seen_of}

-- the place of the first open record with the party's group of this ID; behind the row where there is none
unfoldable pub holder_place : ℕ → ℕ → ℕ → List Session → ℕ
holder_place p id set [] = 0
holder_place p id set (r ∷ rs) = cond (first_on set && holds_group p id r) 0 (suc (holder_place p id (set / 2) rs))

-- a scan for the label, which says whether the table is in order; a search for the second label, and one for the group
abbrev pub seen_in : List Session → Head → GroupTarget → GroupSeen
seen_in row head t =
    seen_of (summary_of row head (plain_of t)) (first_hit t.second 0 head.occupied row) (holder_place t.party t.id head.occupied row) t
