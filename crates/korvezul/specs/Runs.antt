-- A run of the public calls, as a host makes them: one after another on one row and head.
-- Assumes nothing.
use Rattle.std.specs.Prelude.{ℕ, ◌≡◌, cond, List, [], ◌∷◌, ◌++◌}
use Rattle.rules.specs.Calls.{Receive}
use Rattle.session.specs.declared.Session.{Session}
use Rattle.table.specs.Table.{Table}
use Rattle.grouping.specs.Commands.{Command, is_dhc}
use Rattle.meaning.specs.Parties.{OnFor}
use Rattle.switching.specs.Groups.{Past, start, after, tells}
use Rattle.switching.specs.Switching.{past_of, table_after}
use Rattle.switching.specs.Demand.{GroupDemand3}
use Rattle.group_parties.specs.Parties.{NamedCommand, CallFor, CoordinateFor, command_of, Request, Gives, Asks, request_names, Response, Says, Tells, response_of, leaves, Turn, questions}

-- one public call: the table that it was lent (row, clock and set), what was put to it and by which party, what came back, and the table that it left
pub record PublicCall : Type 0 where
  pub lent : Table
  pub request : Request
  pub response : Response
  pub left : Table

-- what comes back of a request, and the table afterwards
pub record Answered : Type 0 where
  pub response : Response
  pub table : Table

abbrev pub answered : Table → Request → Answered
answered t r = record { response = response_of t r; table = leaves t r }

-- what each of the thirteen functions promises: what comes back, and what is left, is what the table that was lent answers and leaves
abbrev pub Promise : PublicCall → Type 0
Promise c = record { response = c.response; table = c.left } ≡ answered c.lent c.request

abbrev pub Promises : List PublicCall → Type 0
Promises [] = Unit {0}
Promises (c ∷ cs) = Promise c × Promises cs

-- from the table t to the table v, each call is lent what the last one left, and nobody else writes it meanwhile
abbrev pub HandedOn : Table → List PublicCall → Table → Type 0
HandedOn t [] v = t ≡ v
HandedOn t (c ∷ cs) v = (t ≡ c.lent) × HandedOn c.left cs v

-- a message that is received is, by its header, for a group or for a session
abbrev pub received_for : ℕ → ℕ → List ℕ → ℕ → NamedCommand
received_for p l m u = cond (is_dhc m) (CoordinateFor p l m u) (CallFor (OnFor p l (Receive m u)))

-- the commands among the calls: all but asking of a group, which changes nothing
abbrev pub command_in : Request → List Command
command_in (Gives c) = command_of c ∷ []
command_in (Asks p id) = []

unfoldable pub commands_of : List PublicCall → List Command
commands_of [] = []
commands_of (c ∷ cs) = command_in c.request ++ commands_of cs

-- what was commanded and said, in order, behind a past; a command is never answered as asking is
abbrev pub behind : Past → Request → Response → Past
behind h (Gives c) (Says a) = after h (command_of c) a
behind h (Gives c) (Tells x) = h
behind h (Asks p id) r = h

abbrev pub told_behind : Past → List PublicCall → Past
told_behind h [] = h
told_behind h (c ∷ cs) = told_behind (behind h c.request c.response) cs

-- whoever asked of a group was told what the accepted commands before that come to
abbrev pub told_right : Past → Request → Response → Type 0
told_right h (Gives c) r = Unit {0}
told_right h (Asks p id) r = r ≡ Tells (tells p id h)

abbrev pub AsksTold : Past → List PublicCall → Type 0
AsksTold h [] = Unit {0}
AsksTold h (c ∷ cs) = told_right h c.request c.response × AsksTold (behind h c.request c.response) cs

-- demand 3 of a run on a row made empty: of its commands; the last table, and everything that was commanded and said, are those that it speaks of; and so is what was told of groups
pub record RunDemand3 (row : List Session) (cs : List PublicCall) (v : Table) : Type 0 where
  pub demand : GroupDemand3 row (commands_of cs)
  pub table : table_after row (commands_of cs) ≡ v
  pub past : past_of row (commands_of cs) ≡ told_behind start cs
  pub asked : AsksTold start cs

-- the turns of a party among public calls: every one that names it, refused or not, with the clock before it and what came back
unfoldable pub turns_of : ℕ → List PublicCall → List Turn
turns_of p [] = []
turns_of p (c ∷ cs) =
    let rest = turns_of p cs in
    cond (request_names p c.request) (record { before = c.lent.clock; request = c.request; response = c.response } ∷ rest) rest

-- of two runs: where the same is asked for a party, with the same clock before each call, the same is told
abbrev pub Isolated : ℕ → List PublicCall → List PublicCall → Type 0
Isolated p cs ds = questions (turns_of p cs) ≡ questions (turns_of p ds) → turns_of p cs ≡ turns_of p ds
