-- A table without its groups, and a run of commands without them: nothing else depends on a group.
-- Assumes nothing.
use Rattle.std.specs.Prelude.{ℕ, cond, List, [], ◌∷◌, ◌++◌, map}
use Rattle.rules.specs.Calls.{Call, Tick, Said, is_accepted}
use Rattle.homing.specs.Groups.{no_group}
use Rattle.session.specs.declared.Session.{Session}
use Rattle.table.specs.Table.{Table}
use Rattle.grouping.specs.Commands.{Command, Ordinary, SetGroup, SetAc, ReturnGroup, Coordinate}
use Rattle.grouping.specs.Grouped.{with_group, answer_to, next_by}

unfoldable pub bare : Session → Session
bare r = with_group no_group r

unfoldable pub bare_table : Table → Table
bare_table t = record { row = map bare t.row; clock = t.clock; occupied = t.occupied }

-- what a command is to all that knows of no group: an accepted one on groups is a tick to its reading, a refused one nothing
abbrev pub tick_if : Said → ℕ → List Call
tick_if a u = cond (is_accepted a) (Tick u ∷ []) []

abbrev pub calls_of : Command → Said → List Call
calls_of (Ordinary c) a = c ∷ []
calls_of (SetGroup p s u) a = tick_if a u
calls_of (SetAc p id ac u) a = tick_if a u
calls_of (ReturnGroup p id u) a = tick_if a u
calls_of (Coordinate l m u) a = tick_if a u

-- a table after commands, and what they were to all that knows of no group
unfoldable pub table_by : Table → List Command → Table
table_by t [] = t
table_by t (c ∷ cs) = table_by (next_by t c) cs

unfoldable pub calls_by : Table → List Command → List Call
calls_by t [] = []
calls_by t (c ∷ cs) = calls_of c (answer_to t c) ++ calls_by (next_by t c) cs

-- what the ordinary calls among them said, one after another
abbrev pub said_of : Command → Said → List Said
said_of (Ordinary c) a = a ∷ []
said_of (SetGroup p s u) a = []
said_of (SetAc p id ac u) a = []
said_of (ReturnGroup p id u) a = []
said_of (Coordinate l m u) a = []

unfoldable pub said_by : Table → List Command → List Said
said_by t [] = []
said_by t (c ∷ cs) = said_of c (answer_to t c) ++ said_by (next_by t c) cs
