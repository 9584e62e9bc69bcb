-- M-158 with groups: in which order two messages of one reading come on two labels shows nowhere, DHC messages among them, also where both
-- alter one record (a message on the service PW and a DHC message on its DNI-PW). Said of tables: what is equal there is equal in every
-- answer and report that follows.
-- Assumes nothing.
use Rattle.std.specs.Prelude.{ℕ, ◌≡◌, false, List, eqb}
use Rattle.table.specs.Table.{Table}
use Rattle.grouping.specs.Commands.{Command, received_on}
use Rattle.grouping.specs.Grouped.{answer_to, next_by}

-- two commands that may come in either order: each is answered as if the other had not come, and one table is left
pub record Exchangeable (t : Table) (c d : Command) : Type 0 where
  pub first : answer_to (next_by t d) c ≡ answer_to t c
  pub second : answer_to (next_by t c) d ≡ answer_to t d
  pub table : next_by (next_by t c) d ≡ next_by (next_by t d) c

-- two messages at one reading on different labels, open or not, accepted or refused, DHC by their headers or not, on every table, in order or not
abbrev pub EitherFirst : Type 0
EitherFirst = (t : Table) (l k : ℕ) → eqb l k ≡ false → (m n : List ℕ) (u : ℕ) → Exchangeable t (received_on l m u) (received_on k n u)
