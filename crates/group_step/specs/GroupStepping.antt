-- The decision and the step of a call on a group, from what is known of the row (in order or not, the labels open or not, a group of the ID or none), the head, the call and the one record that
-- it concerns. This is what the code is proved to do; `proofs/GroupSteps.antt` says that it is the table's step.
-- Assumes nothing.
use Rattle.std.specs.Prelude.{ℕ, ◌≡◌, Bool, true, false, cond, ◌&&◌, List, eqb, get_or, set}
use Rattle.octets.specs.Choice.{need, bar, or_else}
use Rattle.coordination.specs.declared.Dhc.{Dhc}
use Rattle.coordination.specs.Message.{dhc_refusal, dhc_of}
use Rattle.rules.specs.Times.{late}
use Rattle.rules.specs.Parties.{party_of, own_label}
use Rattle.rules.specs.Calls.{Said}
use Rattle.homing.specs.declared.GroupSettings.{GroupSettings}
use Rattle.homing.specs.declared.GroupReport.{GroupReport}
use Rattle.homing.specs.declared.Found.{Found}
use Rattle.homing.specs.Messages.{takes_from}
use Rattle.homing.specs.Setting.{set_refusal}
use Rattle.homing.specs.Forwarding.{forwarding}
use Rattle.session.specs.declared.Session.{Session}
use Rattle.session.specs.Queries as Queries
use Rattle.table.specs.declared.Head.{Head}
use Rattle.table.specs.Table.{absent, has_group}
use Rattle.grouping.specs.Commands.{Command, Ordinary, SetGroup, SetAc, ReturnGroup, Coordinate, silent}
use Rattle.grouping.specs.Grouped.{set_in, ac_set_in, returned_in, coordinated_in, answer_to, next_by}
use Rattle.scan.specs.declared.Target.{Target}
use Rattle.scan.specs.declared.Summary.{Summary}
use Rattle.step.specs.Stepping.{table_of, is_place, at, nowhere}
use Rattle.walks.specs.AtPlace.{Afterwards}
use Rattle.group_step.specs.declared.GroupRequest.{GroupRequest}
use Rattle.group_step.specs.declared.GroupRequest.TheVariants.{Set, Ac, Return, Heard, Ask}
use Rattle.group_step.specs.declared.GroupTarget.{GroupTarget}
use Rattle.group_step.specs.declared.GroupSeen.{GroupSeen}
use Rattle.group_step.specs.declared.GroupTold.{GroupTold}
use Rattle.group_step.specs.declared.GroupOutcome.{GroupOutcome}
use Rattle.group_step.specs.declared.GroupStepped.{GroupStepped}

-- a DHC message that came on a label: the reader's refusal, and the fields, which are there also where it is refused
abbrev pub heard_of : ℕ → List ℕ → ℕ → GroupRequest
heard_of l m u = Heard l (dhc_refusal m) (dhc_of m) u

-- the request of each command on groups; nothing is asked of a call that there was before
abbrev pub is_on_groups : Command → Bool
is_on_groups (Ordinary c) = false
is_on_groups (SetGroup p s u) = true
is_on_groups (SetAc p id ac u) = true
is_on_groups (ReturnGroup p id u) = true
is_on_groups (Coordinate l m u) = true

abbrev pub request_of : Command → GroupRequest
request_of (Ordinary c) = Ask 0 0
request_of (SetGroup p s u) = Set p s u
request_of (SetAc p id ac u) = Ac p id ac u
request_of (ReturnGroup p id u) = Return p id u
request_of (Coordinate l m u) = heard_of l m u

-- setting looks for both labels as the party means them, and whether the ID is taken; it meets the service PW's record
abbrev pub named_by : ℕ → GroupSettings → GroupTarget
named_by p s = record { label = own_label p s.service; second = own_label p s.dni; party = p; id = s.id; named = true }

-- the operator's other calls look for the party's group of the ID, and meet its record
abbrev pub held_by : ℕ → ℕ → GroupTarget
held_by p id = record { label = 0; second = 0; party = p; id = id; named = false }

-- a message: its label, and the group of its ID in the label's party
abbrev pub heard_on : ℕ → ℕ → GroupTarget
heard_on l id = record { label = l; second = 0; party = party_of l; id = id; named = false }

abbrev pub target_of : GroupRequest → GroupTarget
target_of (Set p s u) = named_by p s
target_of (Ac p id ac u) = held_by p id
target_of (Return p id u) = held_by p id
target_of (Heard l n d u) = heard_on l d.id
target_of (Ask p id) = held_by p id

-- the label, as a scan looks for it
abbrev pub plain_of : GroupTarget → Target
plain_of t = record { label = t.label; discriminator = 0 }

-- what is known, from a scan, the place of the second label and the place of the group
abbrev pub seen_of : Summary → ℕ → ℕ → GroupTarget → GroupSeen
seen_of s second holder t =
    record { place = cond t.named s.place holder; sound = s.sound; first = is_place s.place; second = is_place second; taken = is_place holder }

-- setting is judged by these; a record that is not there has no group
abbrev pub found_of : GroupSeen → Session → Found
found_of seen r = record { service = seen.first; dni = seen.second; grouped = has_group r; taken = seen.taken }

-- 1, then 2, 10, 11
abbrev pub set_answer : ℕ → GroupSettings → Found → ℕ → ℕ
set_answer clock s f u = bar (late clock u) 1 (set_refusal s f)

-- 1, then 24
abbrev pub named_answer : ℕ → Bool → ℕ → ℕ
named_answer clock taken u = bar (late clock u) 1 (need taken 24 0)

-- 1, then 2, then the reader's refusal, then 24
abbrev pub heard_answer : ℕ → Bool → ℕ → Bool → ℕ → ℕ
heard_answer clock first n takes u = bar (late clock u) 1 (need first 2 (or_else n (need takes 24 0)))

-- the group of the record takes the message
abbrev pub takes_in : ℕ → Dhc → Session → Bool
takes_in l d r = takes_from l d r.group

unfoldable pub sound_answer : GroupSeen → ℕ → GroupRequest → Session → ℕ
sound_answer seen clock (Set p s u) r = set_answer clock s (found_of seen r) u
sound_answer seen clock (Ac p id ac u) r = named_answer clock seen.taken u
sound_answer seen clock (Return p id u) r = named_answer clock seen.taken u
sound_answer seen clock (Heard l n d u) r = heard_answer clock seen.first n (takes_in l d r) u
sound_answer seen clock (Ask p id) r = need seen.taken 24 0

-- 26 before all
unfoldable pub answer_of : GroupSeen → Head → GroupRequest → Session → ℕ
answer_of seen head q r = need seen.sound 26 (sound_answer seen head.clock q r)

-- the clock after an accepted call; asking brings no reading
unfoldable pub head_after : Head → GroupRequest → Head
head_after head (Set p s u) = at head u
head_after head (Ac p id ac u) = at head u
head_after head (Return p id u) = at head u
head_after head (Heard l n d u) = at head u
head_after head (Ask p id) = head

-- the place that an accepted call stores to; asking changes nothing
unfoldable pub stored_at : ℕ → GroupRequest → ℕ
stored_at place (Set p s u) = place
stored_at place (Ac p id ac u) = place
stored_at place (Return p id u) = place
stored_at place (Heard l n d u) = place
stored_at place (Ask p id) = nowhere

-- what an accepted call makes of the record
unfoldable pub acted_of : GroupRequest → Session → Session
acted_of (Set p s u) r = set_in s u r
acted_of (Ac p id ac u) r = ac_set_in ac u r
acted_of (Return p id u) r = returned_in u r
acted_of (Heard l n d u) r = coordinated_in d u r
acted_of (Ask p id) r = r

-- what is told: of asking the label of the DNI-PW, and PW and AC at the clock; of the others noughts
abbrev pub nothing_told : GroupTold
nothing_told = record { dni = 0; pw = 0; ac = 0 }

unfoldable pub told_by : GroupRequest → Session → ℕ → GroupTold
told_by (Set p s u) r clock = nothing_told
told_by (Ac p id ac u) r clock = nothing_told
told_by (Return p id u) r clock = nothing_told
told_by (Heard l n d u) r clock = nothing_told
told_by (Ask p id) r clock = record { dni = (Queries.group_at r clock).dni; pw = (Queries.group_at r clock).pw; ac = (Queries.group_at r clock).ac }

-- the outcome, and where the record goes. A refusal stores nothing, moves no clock and tells nothing
unfoldable pub step_of : GroupSeen → Head → GroupRequest → Session → GroupStepped
step_of seen head q r =
    let n = answer_of seen head q r in
    record {
      outcome = record { head = cond (eqb n 0) (head_after head q) head; told = cond (eqb n 0) (told_by q r head.clock) nothing_told; answer = n };
      place = cond (eqb n 0) (stored_at seen.place q) nowhere;
    }

-- what comes of a call on a row, and the row afterwards
abbrev pub GroupObeyed : Type 0
GroupObeyed = Afterwards GroupOutcome Session

unfoldable pub group_at : List Session → Head → GroupSeen → GroupRequest → GroupObeyed
group_at row head seen q =
    let r = get_or row seen.place absent in
    let d = step_of seen head q r in
    record { outcome = d.outcome; row = set row d.place (acted_of q r) }

-- what comes of a command on a row is the table's step
abbrev pub GroupSteps : List Session → Head → Command → GroupObeyed → Type 0
GroupSteps row head c x = (silent x.outcome.answer ≡ answer_to (table_of row head) c) × (table_of x.row x.outcome.head ≡ next_by (table_of row head) c)

-- the DNI-PW is up where a report on its label is accepted and says UP
abbrev pub up_in : Said → Bool
up_in said = eqb said.number 0 && eqb said.report.state 3

-- what asking answers its caller, with what is known of the DNI-PW
abbrev pub group_told : GroupTold → Bool → GroupReport
group_told told up = record { pw = told.pw; ac = told.ac; forwarding = forwarding told.pw told.ac up }
