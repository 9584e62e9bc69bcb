-- Demand 3 with groups: one statement about every list of commands, refused ones included, from any row of 64 made empty. Every word of `Demand3` holds of the run, as all
-- that knows of no group sees it: an accepted command on groups is a tick to its reading, a refused one nothing. And which PW is active follows from the accepted commands.
-- Assumes nothing.
use Rattle.std.specs.Prelude.{◌≡◌, List, map}
use Rattle.rules.specs.Calls.{Call}
use Rattle.session.specs.declared.Session.{Session}
use Rattle.table.specs.Table.{answer, emptied}
use Rattle.grouping.specs.Commands.{Command}
use Rattle.grouping.specs.Bare.{bare, bare_table, calls_by}
use Rattle.meaning.specs.Worlds as Worlds
use Rattle.meaning.specs.Demand.{Demand3}
use Rattle.switching.specs.Groups.{plain}
use Rattle.switching.specs.Switching.{past_of, table_after, Switching}

-- the calls that a list of commands is, on a row made empty
abbrev pub plain_calls : List Session → List Command → List Call
plain_calls row cs = calls_by (emptied row) cs

pub record GroupDemand3 (row : List Session) (cs : List Command) : Type 0 where
  -- demand 3 of these calls
  pub demand : Demand3 (map bare row) (plain_calls row cs)
  -- what they said is what the commands said, and the table that they leave is the one that the commands leave, without its groups
  pub past : Worlds.past_of (map bare row) (plain_calls row cs) ≡ plain (past_of row cs)
  pub table : Worlds.table_after (map bare row) (plain_calls row cs) ≡ bare_table (table_after row cs)
  -- after the list every call is answered as without groups
  pub answers : (c : Call) → answer (table_after row cs) c ≡ answer (Worlds.table_after (map bare row) (plain_calls row cs)) c
  -- which PW is active, and what asking tells
  pub switching : Switching row cs
