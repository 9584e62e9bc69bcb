-- M-158: in which order two messages of one reading come on two labels, and whether a tick came before a later one, shows nowhere. Said of
-- tables: what is equal there is equal in every answer, report and octet that follows.
-- Assumes nothing.
use Rattle.std.specs.Prelude.{ℕ, ◌≡◌, true, false, List, [], ◌∷◌, ◌++◌, eqb}
use Rattle.rules.specs.Calls.{Receive, Call, Tick, On, is_accepted}
use Rattle.session.specs.declared.Session.{Session}
use Rattle.table.specs.Table.{Table, answer, next}
use Rattle.meaning.specs.Timer.{eager_state}
use Rattle.meaning.specs.Worlds.{past_of, table_after}
use Rattle.meaning.specs.Further.{answers_from}
use Rattle.meaning.specs.Edges.{Edge, opening, seven, cc as cc_in, report_now}

-- two calls that may come in either order: each is answered as if the other had not come, and one table is left
pub record Exchangeable (t : Table) (c d : Call) : Type 0 where
  pub first : answer (next t d) c ≡ answer t c
  pub second : answer (next t c) d ≡ answer t d
  pub table : next (next t c) d ≡ next (next t d) c

-- 1: two messages at one reading on different labels, open or not, accepted or refused, on every table, in order or not
abbrev pub EitherFirst : Type 0
EitherFirst = (t : Table) (l k : ℕ) → eqb l k ≡ false → (m n : List ℕ) (u : ℕ) → Exchangeable t (On l (Receive m u)) (On k (Receive n u))

-- the same between a list of calls before and one behind: the answers of the two, the table at the end and every answer behind them
pub record Exchanged (row : List Session) (before : List Call) (c d : Call) (behind : List Call) : Type 0 where
  pub first : answer (table_after row (before ++ d ∷ [])) c ≡ answer (table_after row before) c
  pub second : answer (table_after row (before ++ c ∷ [])) d ≡ answer (table_after row before) d
  pub table : table_after row (before ++ c ∷ d ∷ behind) ≡ table_after row (before ++ d ∷ c ∷ behind)
  pub answers : answers_from (table_after row (before ++ c ∷ d ∷ [])) behind ≡ answers_from (table_after row (before ++ d ∷ c ∷ [])) behind

-- of one label it is false: a CC of DOWN and then one of INIT end in UP, the other way round in DOWN
unfoldable pub one_label : List Edge
one_label =
    record { calls = opening ∷ cc_in 1 17 0 ∷ cc_in 2 17 0 ∷ []; last = report_now; said = seven 3 0 0 0 0 }
    ∷ record { calls = opening ∷ cc_in 2 17 0 ∷ cc_in 1 17 0 ∷ []; last = report_now; said = seven 1 0 0 0 0 }
    ∷ []

-- 2: a tick to a and then one to b, both accepted (so b is not below a), leave what the tick to b leaves alone, which is accepted alone too; on
-- every table
pub record TickAlone (t : Table) (a b : ℕ) : Type 0 where
  pub accepted : is_accepted (answer t (Tick b)) ≡ true
  pub table : next (next t (Tick a)) (Tick b) ≡ next t (Tick b)

abbrev pub TicksAlone : Type 0
TicksAlone =
    (t : Table) (a b : ℕ) → is_accepted (answer t (Tick a)) ≡ true → is_accepted (answer (next t (Tick a)) (Tick b)) ≡ true → TickAlone t a b

-- and it is no matter of when the records are looked at: given TIMER at every accepted reading, each label is in the same state
abbrev pub StatesAlone : List Session → List Call → ℕ → ℕ → Type 0
StatesAlone row cs a b = (l : ℕ) → eager_state l (past_of row (cs ++ Tick a ∷ Tick b ∷ [])) ≡ eager_state l (past_of row (cs ++ Tick b ∷ []))
