-- M-153 with groups (M-164): two parties on one row. A command names its party, and so does who asks of a group; what a party is told rests on what it asked alone,
-- each with the clock before it.
-- Assumes nothing.
use Rattle.std.specs.Prelude.{ℕ, ◌≡◌, Bool, cond, List, [], ◌∷◌, length, eqb}
use Rattle.rules.specs.Parties.{own_label}
use Rattle.rules.specs.Calls.{Said}
use Rattle.homing.specs.declared.GroupSettings.{GroupSettings}
use Rattle.session.specs.declared.Session.{Session}
use Rattle.table.specs.Table.{Table, emptied}
use Rattle.grouping.specs.Commands.{Command, Ordinary, SetGroup, SetAc, ReturnGroup, Coordinate}
use Rattle.grouping.specs.Grouped.{answer_to, next_by}
use Rattle.grouping.specs.Asking.{Told, asked_of}
use Rattle.meaning.specs.Parties.{Named, taken, names}

-- a command as it is made: a call as ever, of which a tick names no party; the operator's calls on groups; and a DHC message, with the label that it came on
pub data NamedCommand : Type 0 where
  CallFor : (call : Named) → NamedCommand
  SetGroupFor : (party : ℕ) (settings : GroupSettings) (reading : ℕ) → NamedCommand
  SetAcFor : (party id ac reading : ℕ) → NamedCommand
  ReturnGroupFor : (party id reading : ℕ) → NamedCommand
  CoordinateFor : (party label : ℕ) (message : List ℕ) (reading : ℕ) → NamedCommand

-- the table's command that it is: a message on another party's label comes on 0, which is never open
abbrev pub command_of : NamedCommand → Command
command_of (CallFor c) = Ordinary (taken c)
command_of (SetGroupFor p s u) = SetGroup p s u
command_of (SetAcFor p id ac u) = SetAc p id ac u
command_of (ReturnGroupFor p id u) = ReturnGroup p id u
command_of (CoordinateFor p l m u) = Coordinate (own_label p l) m u

abbrev pub command_names : ℕ → NamedCommand → Bool
command_names p (CallFor c) = names p c
command_names p (SetGroupFor q s u) = eqb q p
command_names p (SetAcFor q id ac u) = eqb q p
command_names p (ReturnGroupFor q id u) = eqb q p
command_names p (CoordinateFor q l m u) = eqb q p

-- what is put to a table: a command, or asking of a group between the commands
pub data Request : Type 0 where
  Gives : (command : NamedCommand) → Request
  Asks : (party id : ℕ) → Request

abbrev pub request_names : ℕ → Request → Bool
request_names p (Gives c) = command_names p c
request_names p (Asks q id) = eqb q p

-- what comes back: number, report and buffer; or number and the three numbers of a group
pub data Response : Type 0 where
  Says : (said : Said) → Response
  Tells : (told : Told) → Response

abbrev pub response_of : Table → Request → Response
response_of t (Gives c) = Says (answer_to t (command_of c))
response_of t (Asks p id) = Tells (asked_of t p id)

-- the table behind it: asking changes nothing
abbrev pub leaves : Table → Request → Table
leaves t (Gives c) = next_by t (command_of c)
leaves t (Asks p id) = t

-- a party's turn: the clock before its request, the request, and what came back
pub record Turn : Type 0 where
  pub before : ℕ
  pub request : Request
  pub response : Response

-- the turns of a party among requests that are made from a table on: every one that names it, refused or not, whosever the label
unfoldable pub turns : ℕ → Table → List Request → List Turn
turns p t [] = []
turns p t (r ∷ rs) =
    let rest = turns p (leaves t r) rs in
    cond (request_names p r) (record { before = t.clock; request = r; response = response_of t r } ∷ rest) rest

-- what was asked: the same without what came back
pub record Question : Type 0 where
  pub before : ℕ
  pub request : Request

unfoldable pub questions : List Turn → List Question
questions [] = []
questions (x ∷ xs) = record { before = x.before; request = x.request } ∷ questions xs

-- the other party shows nowhere, nor do its groups: where the same is asked for a party, with the same clock before each, the same is told, number, report and whole
-- buffer, and of a group PW, AC and forwarding; whatever the rows held, and whatever ticks and requests of others come between
abbrev pub GroupIsolation : Type 0
GroupIsolation =
    (row other : List Session) → length row ≡ 64 → length other ≡ 64 → (rs qs : List Request) (p : ℕ)
    → questions (turns p (emptied row) rs) ≡ questions (turns p (emptied other) qs) → turns p (emptied row) rs ≡ turns p (emptied other) qs
