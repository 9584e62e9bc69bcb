-- What a dual-homing group comes to, from what was called and what was answered alone (M-164): the group of each label, what asking of a group tells, and what each
-- command on groups is answered.
-- Assumes nothing.
use Rattle.std.specs.Prelude.{ℕ, Bool, true, false, cond, ◌&&◌, List, [], ◌∷◌, eqb}
use Rattle.std.proofs.Math.Option.{Option, none, some}
use Rattle.octets.specs.Choice.{need, bar, or_else}
use Rattle.coordination.specs.declared.Dhc.{Dhc}
use Rattle.coordination.specs.Message.{dhc_refusal, dhc_of}
use Rattle.message.specs.Message.{message_of}
use Rattle.rules.specs.Times.{late}
use Rattle.rules.specs.States.{reported}
use Rattle.rules.specs.Parties.{party_of, is_of}
use Rattle.rules.specs.Calls.{Act, Close, Lock, Unlock, Receive, ReportOn, WriteCc, WriteCv, Call, Tick, Open, On, Said, is_accepted, number_only}
use Rattle.homing.specs.declared.Group.{Group}
use Rattle.homing.specs.declared.GroupSettings.{GroupSettings}
use Rattle.homing.specs.Groups.{grouped, ac_set, returned, fallen, crossed_by}
use Rattle.homing.specs.Messages.{has_id, takes_from, coordinated}
use Rattle.homing.specs.Forwarding.{report_of}
use Rattle.grouping.specs.Commands.{Command, Ordinary, SetGroup, SetAc, ReturnGroup, Coordinate, silent}
use Rattle.grouping.specs.Asking.{Told, refused_with}
use Rattle.meaning.specs.Stories.{Story, was_to, is_crossed}
use Rattle.meaning.specs.Standing.{loss, crossing, state_at}
use Rattle.meaning.specs.Histories as Histories
use Rattle.meaning.specs.Histories.{History, reading, clock_of, story, labels}
use Rattle.meaning.specs.Answers.{is_open, says}

-- what was called and what it said, the latest last
pub data Past : Type 0 where
  start : Past
  after : Past → (command : Command) → (said : Said) → Past

-- the same as all else sees it: an accepted command on groups, a DHC message among them, is a tick to its reading, a refused one nothing
abbrev pub ticked : ℕ → Said → History → History
ticked u a h = cond (is_accepted a) (Histories.after h (Tick u) (number_only (Tick u) 0)) h

abbrev pub seen : Command → Said → History → History
seen (Ordinary c) a h = Histories.after h c a
seen (SetGroup p s u) a h = ticked u a h
seen (SetAc p id ac u) a h = ticked u a h
seen (ReturnGroup p id u) a h = ticked u a h
seen (Coordinate l m u) a h = ticked u a h

unfoldable pub plain : Past → History
plain start = Histories.start
plain (after h c a) = seen c a (plain h)

-- now: the reading of the last accepted command that brought one
abbrev pub now_of : Past → ℕ
now_of h = clock_of (plain h)

-- the clock that an accepted command leaves
abbrev pub reading_of : Command → ℕ → ℕ
reading_of (Ordinary c) now = reading c now
reading_of (SetGroup p s u) now = u
reading_of (SetAc p id ac u) now = u
reading_of (ReturnGroup p id u) now = u
reading_of (Coordinate l m u) now = u

-- the loss and the crossing of a label at a reading, by its story; what is not open has none
abbrev pub loss_by : ℕ → Option Story → Bool
loss_by u none = false
loss_by u (some s) = loss u s

abbrev pub crossing_by : ℕ → Option Story → Bool
crossing_by u none = false
crossing_by u (some s) = crossing u s

abbrev pub loss_on : ℕ → ℕ → Past → Bool
loss_on l u h = loss_by u (story l (plain h))

abbrev pub crossing_on : ℕ → ℕ → Past → Bool
crossing_on l u h = crossing_by u (story l (plain h))

-- whether a message is crossed to the session of a label
abbrev pub crossed_to : List ℕ → Option Story → Bool
crossed_to m none = false
crossed_to m (some s) = is_crossed (was_to s (message_of m))

-- a group, if there is one, after something that happens to it
abbrev pub changed : (Group → Group) → Option Group → Option Group
changed f none = none
changed f (some g) = some (f g)

-- only where it does
abbrev pub changed_if : Bool → (Group → Group) → Option Group → Option Group
changed_if b f o = cond b (changed f o) o

-- there is a group, and it has this ID
abbrev pub is_there : Option Group → Bool
is_there none = false
is_there (some g) = true

abbrev pub has_id_in : ℕ → Option Group → Bool
has_id_in id none = false
has_id_in id (some g) = has_id id g

-- what an accepted call on the group's own label does to it: the group ends when the label closes; a crossed CC or CV makes a working PE's PW standby; lock, unlock,
-- every other message, a report and a written message do nothing
abbrev pub acted : Act → Option Story → Option Group → Option Group
acted (Close u) s o = none
acted (Lock u) s o = o
acted (Unlock u) s o = o
acted (Receive m u) s o = changed_if (crossed_to m s) crossed_by o
acted ReportOn s o = o
acted (WriteCc b) s o = o
acted (WriteCv b) s o = o

-- what an accepted call does to the group of the label l. A label is opened without a group
abbrev pub called : ℕ → Call → Option Story → Option Group → Option Group
called l (Tick u) s o = o
called l (Open g u) s o = cond (eqb g.label l) none o
called l (On m a) s o = cond (eqb m l) (acted a s o) o

-- what an accepted command does to the group of the label l, h being what came before: setting puts a group on its service label; setting the AC and return act
-- on the party's group of the ID; a DHC message acts on the group of its ID in the party of the label that it came on
abbrev pub commanded : ℕ → Past → Command → Option Group → Option Group
commanded l h (Ordinary c) o = called l c (story l (plain h)) o
commanded l h (SetGroup p s u) o = cond (eqb s.service l) (some (grouped s (loss_on l u h) (crossing_on l u h))) o
commanded l h (SetAc p id ac u) o = changed_if (is_of p l && has_id_in id o) (ac_set ac) o
commanded l h (ReturnGroup p id u) o = changed_if (is_of p l && has_id_in id o) (returned (loss_on l u h) (crossing_on l u h)) o
commanded l h (Coordinate k m u) o = changed_if (is_of (party_of k) l && has_id_in (dhc_of m).id o) (coordinated (dhc_of m)) o

-- the group of a label: at each accepted command, on whatever label it is, first a loss of the label at the clock that the command leaves is looked for, and then
-- the command acts. A refused command does nothing
unfoldable pub group_of : ℕ → Past → Option Group
group_of l start = none
group_of l (after h c a) =
    cond (is_accepted a) (commanded l h c (changed (fallen (loss_on l (reading_of c (now_of h)) h)) (group_of l h))) (group_of l h)

-- the group of a party with an ID, among the groups of some labels
unfoldable pub group_among : ℕ → ℕ → (ℕ → Option Group) → List ℕ → Option Group
group_among p id of [] = none
group_among p id of (l ∷ ls) = cond (is_of p l && has_id_in id (of l)) (of l) (group_among p id of ls)

-- among those of the open labels
abbrev pub group_with : ℕ → ℕ → Past → Option Group
group_with p id h = group_among p id (λ l. group_of l h) (labels (plain h))

-- the DNI-PW is up where its label is open and its session is UP at the clock, which a report has as 3
abbrev pub up_by : ℕ → Option Story → Bool
up_by now none = false
up_by now (some s) = eqb (reported (state_at now s)) 3

abbrev pub up_on : ℕ → Past → Bool
up_on l h = up_by (now_of h) (story l (plain h))

-- asked of a party's group of an ID: 24 where there is none, else PW, AC and forwarding
abbrev pub tells_of : Past → Option Group → Told
tells_of h none = refused_with 24
tells_of h (some g) = record { number = 0; group = report_of (up_on g.dni h) g }

unfoldable pub tells : ℕ → ℕ → Past → Told
tells p id h = tells_of h (group_with p id h)

-- a label is open to a party
abbrev pub open_to : ℕ → ℕ → Past → Bool
open_to p l h = is_of p l && is_open (story l (plain h))

-- setting: 1, 2 for either label not open to the party, 10 for equal labels, 11 for a second group on the service label or of the ID in the party
unfoldable pub sets_to : Past → ℕ → GroupSettings → ℕ → ℕ
sets_to h p s u =
    bar (late (now_of h) u) 1
    (need (open_to p s.service h) 2
    (need (open_to p s.dni h) 2
    (bar (eqb s.service s.dni) 10
    (bar (is_there (group_of s.service h)) 11
    (bar (is_there (group_with p s.id h)) 11 0)))))

-- setting the AC, and return: 1, 24
unfoldable pub names_to : Past → ℕ → ℕ → ℕ → ℕ
names_to h p id u = bar (late (now_of h) u) 1 (need (is_there (group_with p id h)) 24 0)

-- a DHC message: 1, 2, what the reader refuses it for, 24 where the party has no group of its ID, or that group does not take it from this label
abbrev pub takes : ℕ → Dhc → Option Group → Bool
takes l d none = false
takes l d (some g) = takes_from l d g

unfoldable pub coordinates_to : Past → ℕ → List ℕ → ℕ → ℕ
coordinates_to h l m u =
    bar (late (now_of h) u) 1
    (need (is_open (story l (plain h))) 2
    (or_else (dhc_refusal m)
    (need (takes l (dhc_of m) (group_with (party_of l) (dhc_of m).id h)) 24 0)))

-- what a command says: every call that there was before says what it said before there were groups
unfoldable pub says_to : Past → Command → Said
says_to h (Ordinary c) = says (plain h) c
says_to h (SetGroup p s u) = silent (sets_to h p s u)
says_to h (SetAc p id ac u) = silent (names_to h p id u)
says_to h (ReturnGroup p id u) = silent (names_to h p id u)
says_to h (Coordinate l m u) = silent (coordinates_to h l m u)

-- its number
abbrev pub number_of : Past → Command → ℕ
number_of h c = (says_to h c).number
