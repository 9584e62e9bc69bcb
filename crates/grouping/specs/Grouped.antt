-- Groups on a table: what each command says, and what it leaves. The group of a service PW lies in its record and ends when that closes. For every table this is what the
-- code is proved to do; of a table that commands have made from an empty one it is proved to be what the accepted commands come to.
-- Assumes nothing.
use Rattle.std.specs.Prelude.{ℕ, Bool, false, cond, ◌&&◌, List, [], ◌∷◌}
use Rattle.std.proofs.Math.Option.{Option, none, some}
use Rattle.octets.specs.Choice.{need, bar, or_else}
use Rattle.coordination.specs.declared.Dhc.{Dhc}
use Rattle.coordination.specs.Message.{dhc_refusal, dhc_of}
use Rattle.rules.specs.Times.{late}
use Rattle.rules.specs.Parties.{party_of, is_of, own_label}
use Rattle.rules.specs.Calls.{Said, is_accepted}
use Rattle.homing.specs.declared.Group.{Group}
use Rattle.homing.specs.declared.GroupSettings.{GroupSettings}
use Rattle.homing.specs.declared.Found.{Found}
use Rattle.homing.specs.Groups.{grouped, ac_set, returned}
use Rattle.homing.specs.Messages.{has_id, takes_from, coordinated}
use Rattle.homing.specs.Setting.{set_refusal}
use Rattle.session.specs.declared.Session.{Session}
use Rattle.session.specs.Queries.{loss_at, crossing_at, group_at}
use Rattle.table.specs.Table.{Table, open_of, has_group, in_order, find, is_found, answer, altered, next}
use Rattle.grouping.specs.Commands.{Command, Ordinary, SetGroup, SetAc, ReturnGroup, Coordinate, silent}

-- a record whose label is of this party and whose group has this ID
abbrev pub holds_group : ℕ → ℕ → Session → Bool
holds_group p id r = is_of p r.settings.label && has_id id r.group

-- the open record with a group of a party
unfoldable pub find_group : ℕ → ℕ → List Session → Option Session
find_group p id [] = none
find_group p id (r ∷ rs) = cond (holds_group p id r) (some r) (find_group p id rs)

-- the label of what was found; 0, which is no label, where nothing was
abbrev pub label_of : Option Session → ℕ
label_of none = 0
label_of (some r) = r.settings.label

abbrev pub is_grouped : Option Session → Bool
is_grouped none = false
is_grouped (some r) = has_group r

-- setting: whether the two labels are open to the party, whether the service PW has a group, whether some group of the party has the ID
abbrev pub found_for : ℕ → GroupSettings → List Session → Found
found_for p s rs =
    record {
      service = is_found (find (own_label p s.service) rs);
      dni = is_found (find (own_label p s.dni) rs);
      grouped = is_grouped (find (own_label p s.service) rs);
      taken = is_found (find_group p s.id rs);
    }

-- 1, 2, 10, 11
unfoldable pub set_number : Table → ℕ → GroupSettings → ℕ → ℕ
set_number t p s u = bar (late t.clock u) 1 (set_refusal s (found_for p s (open_of t)))

-- AC and return: 1, 24
unfoldable pub named_number : Table → ℕ → ℕ → ℕ → ℕ
named_number t p id u = bar (late t.clock u) 1 (need (is_found (find_group p id (open_of t))) 24 0)

-- the group of the message's ID in the label's party takes it
abbrev pub taken_by : ℕ → Dhc → Option Session → Bool
taken_by l d none = false
taken_by l d (some r) = takes_from l d r.group

abbrev pub holder_of : ℕ → Dhc → List Session → Option Session
holder_of l d rs = find_group (party_of l) d.id rs

-- a DHC message on a label: 1, 2, the reader's refusals, 24
unfoldable pub coordinate_number : Table → ℕ → List ℕ → ℕ → ℕ
coordinate_number t l m u =
    bar (late t.clock u) 1
    (need (is_found (find l (open_of t))) 2
    (or_else (dhc_refusal m)
    (need (taken_by l (dhc_of m) (holder_of l (dhc_of m) (open_of t))) 24 0)))

-- 26 before all
abbrev pub command_number : Table → ℕ → ℕ
command_number t n = need (in_order t) 26 n

unfoldable pub answer_to : Table → Command → Said
answer_to t (Ordinary c) = answer t c
answer_to t (SetGroup p s u) = silent (command_number t (set_number t p s u))
answer_to t (SetAc p id ac u) = silent (command_number t (named_number t p id u))
answer_to t (ReturnGroup p id u) = silent (command_number t (named_number t p id u))
answer_to t (Coordinate l m u) = silent (command_number t (coordinate_number t l m u))

-- a record with another group
unfoldable pub with_group : Group → Session → Session
with_group g r =
    record {
      timed = r.timed;
      crossed = r.crossed;
      conditions = r.conditions;
      settings = r.settings;
      peer = r.peer;
      state = r.state;
      crossing = r.crossing;
      group = g;
    }

-- what each makes of the service PW's record, of which its group alone changes: a loss at the reading is looked for first
unfoldable pub set_in : GroupSettings → ℕ → Session → Session
set_in s u r = with_group (grouped s (loss_at r u) (crossing_at r u)) r

unfoldable pub ac_set_in : ℕ → ℕ → Session → Session
ac_set_in ac u r = with_group (ac_set ac (group_at r u)) r

unfoldable pub returned_in : ℕ → Session → Session
returned_in u r = with_group (returned (loss_at r u) (crossing_at r u) (group_at r u)) r

unfoldable pub coordinated_in : Dhc → ℕ → Session → Session
coordinated_in d u r = with_group (coordinated d (group_at r u)) r

-- what an accepted command leaves: the reading becomes the clock
unfoldable pub done_by : Table → Command → Table
done_by t (Ordinary c) = next t c
done_by t (SetGroup p s u) = altered t (own_label p s.service) (set_in s u) u
done_by t (SetAc p id ac u) = altered t (label_of (find_group p id (open_of t))) (ac_set_in ac u) u
done_by t (ReturnGroup p id u) = altered t (label_of (find_group p id (open_of t))) (returned_in u) u
done_by t (Coordinate l m u) = altered t (label_of (holder_of l (dhc_of m) (open_of t))) (coordinated_in (dhc_of m) u) u

-- a refused command leaves row, clock and set as they were
unfoldable pub next_by : Table → Command → Table
next_by t c = cond (is_accepted (answer_to t c)) (done_by t c) t
