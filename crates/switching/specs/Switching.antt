-- The groups of a table are what the accepted commands come to: one statement about every list of commands, refused ones included, from any row of 64 made empty.
-- Assumes nothing.
use Rattle.std.specs.Prelude.{ℕ, ◌≡◌, true, cond, List, [], ◌∷◌}
use Rattle.std.proofs.Math.Option.{Option, none, some}
use Rattle.rules.specs.Lists.{once}
use Rattle.homing.specs.declared.Group.{Group}
use Rattle.session.specs.declared.Session.{Session}
use Rattle.session.specs.Queries.{group_at}
use Rattle.table.specs.Table.{Table, open_of, has_group, same_group, find, emptied}
use Rattle.grouping.specs.Commands.{Command}
use Rattle.grouping.specs.Grouped.{answer_to, next_by}
use Rattle.grouping.specs.Asking.{asked_of}
use Rattle.switching.specs.Groups.{Past, start, after, group_of, tells, says_to}

-- a table, and what was called on it and answered by it
pub record Run : Type 0 where
  pub table : Table
  pub past : Past

-- each command gets table and clock as the last one left them
unfoldable pub step : Run → Command → Run
step w c = record { table = next_by w.table c; past = after w.past c (answer_to w.table c) }

unfoldable pub play : Run → List Command → Run
play w [] = w
play w (c ∷ cs) = play (step w c) cs

-- a row made empty, at clock 0, and nothing called
unfoldable pub begun : List Session → Run
begun row = record { table = emptied row; past = start }

unfoldable pub past_of : List Session → List Command → Past
past_of row cs = (play (begun row) cs).past

unfoldable pub table_after : List Session → List Command → Table
table_after row cs = (play (begun row) cs).table

-- the group that lies with a label, at the clock
abbrev pub group_in : ℕ → Option Session → Option Group
group_in clock none = none
group_in clock (some r) = cond (has_group r) (some (group_at r clock)) none

abbrev pub group_on : Table → ℕ → Option Group
group_on t l = group_in t.clock (find l (open_of t))

-- each command said what the request gives from what was called and said before it
unfoldable pub Right : Past → Type 0
Right start = Unit {0}
Right (after h c a) = Right h × (a ≡ says_to h c)

-- no command answered n
unfoldable pub Never : ℕ → Past → Type 0
Never n start = Unit {0}
Never n (after h c a) = Never n h × (a.number ≡ n → ⊥)

pub record Switching (row : List Session) (cs : List Command) : Type 0 where
  -- each command was answered with its number from the commands before it, and every other call what it says without groups; none was answered 26
  pub numbers : Right (past_of row cs)
  pub never-26 : Never 26 (past_of row cs)
  -- after the list, each label has the group that the accepted commands come to, or none
  pub groups : (l : ℕ) → group_of l (past_of row cs) ≡ group_on (table_after row cs) l
  -- and asking of a group tells what they come to
  pub asked : (p id : ℕ) → asked_of (table_after row cs) p id ≡ tells p id (past_of row cs)
  -- no two groups of one party have one ID
  pub row-groups : once same_group (open_of (table_after row cs)) ≡ true
