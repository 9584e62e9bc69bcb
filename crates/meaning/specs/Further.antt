-- Sentences of the rules paper beside demand 3, over every list of calls, refused ones included, from any row of 64 made empty.
-- Assumes nothing.
use Rattle.std.specs.Prelude.{ℕ, ◌≤◌, ◌<◌, ◌≡◌, true, false, List, [], ◌∷◌, ◌++◌, get_or}
use Rattle.std.proofs.Math.Option.{some}
use Rattle.fault.specs.declared.Fault.{Fault}
use Rattle.message.specs.declared.Message.TheVariants.{FaultManagement}
use Rattle.message.specs.Message.{message_of}
use Rattle.rules.specs.declared.Settings.{Settings}
use Rattle.rules.specs.Times.{late}
use Rattle.rules.specs.Conditions.{key_of}
use Rattle.rules.specs.OneKey.{OneCause}
use Rattle.rules.specs.Calls.{Close, Lock, Unlock, Receive, ReportOn, Call, Tick, Open, On, Said, number_only}
use Rattle.session.specs.declared.Session.{Session}
use Rattle.table.specs.Places.{occupied_at}
use Rattle.table.specs.Table.{Table, answer, next}
use Rattle.meaning.specs.Stories.{Story}
use Rattle.meaning.specs.Standing.{locked, stands, conditions}
use Rattle.meaning.specs.Histories.{clock_of, story}
use Rattle.meaning.specs.Worlds.{past_of, table_after}

-- what the calls of a list say, one after the other, from a table on
unfoldable pub answers_from : Table → List Call → List Said
answers_from t [] = []
answers_from t (c ∷ cs) = answer t c ∷ answers_from (next t c) cs

-- a call that is accepted and cannot be told from a tick at its reading: whatever is called afterwards, it is answered alike
pub record OnlyTicks (t : Table) (c : Call) (reading : ℕ) : Type 0 where
  pub accepted : answer t c ≡ number_only c 0
  pub alike : (ds : List Call) → answers_from (next t c) ds ≡ answers_from (next t (Tick reading)) ds

-- place p was free, with all lower ones occupied; afterwards it has a session of the settings, and every other place is as it was
pub record TakesLowest (t u : Table) (g : Settings) (p : ℕ) : Type 0 where
  pub within-row : p < 64
  pub was_free : occupied_at t.occupied p ≡ false
  pub lowest : (i : ℕ) → i < p → occupied_at t.occupied i ≡ true
  pub taken : occupied_at u.occupied p ≡ true
  pub session : (r : Session) → (get_or u.row p r).settings ≡ g
  pub other-marks : (i : ℕ) → (i ≡ p → ⊥) → occupied_at u.occupied i ≡ occupied_at t.occupied i
  pub other-records : (i : ℕ) → (i ≡ p → ⊥) → (r : Session) → get_or u.row i r ≡ get_or t.row i r

-- place p held the session of the label; afterwards it is free, and no other mark and no record is altered
pub record GivesBack (t u : Table) (l p : ℕ) : Type 0 where
  pub within-row : p < 64
  pub was-taken : occupied_at t.occupied p ≡ true
  pub session : (r : Session) → (get_or t.row p r).settings.label ≡ l
  pub freed : occupied_at u.occupied p ≡ false
  pub other-marks : (i : ℕ) → (i ≡ p → ⊥) → occupied_at u.occupied i ≡ occupied_at t.occupied i
  pub records : u.row ≡ t.row

pub record Further (row : List Session) (cs : List Call) : Type 0 where
  -- "Locking twice, or unlocking what isn't locked, is accepted and, TIMER apart, alters only the clock" (a tick gives TIMER too)
  pub locked-twice : (l u : ℕ) (s : Story) → story l (past_of row cs) ≡ some s → locked s ≡ true → late (clock_of (past_of row cs)) u ≡ false
      → OnlyTicks (table_after row cs) (On l (Lock u)) u
  pub not-locked : (l u : ℕ) (s : Story) → story l (past_of row cs) ≡ some s → locked s ≡ false → late (clock_of (past_of row cs)) u ≡ false
      → OnlyTicks (table_after row cs) (On l (Unlock u)) u
  -- "A session holds at most 4 fault conditions", at the clock and at every later one
  pub four-conditions : (l now : ℕ) (s : Story) → story l (past_of row cs) ≡ some s → clock_of (past_of row cs) ≤ now → conditions now s ≤ 4
  -- "A new session takes the lowest free place, and a closed session's place serves again"
  pub lowest-place : (g : Settings) (u : ℕ) → (answer (table_after row cs) (Open g u)).number ≡ 0
      → (p : ℕ) × TakesLowest (table_after row cs) (next (table_after row cs) (Open g u)) g p
  pub place-again : (l u : ℕ) → (answer (table_after row cs) (On l (Close u))).number ≡ 0
      → (p : ℕ) × GivesBack (table_after row cs) (next (table_after row cs) (On l (Close u))) l p
  -- a fault message of another type, IF_ID or Global_ID, each absent or present, leaves a condition as it is at every clock: it ends none and
  -- makes none of that key, R or not, accepted or refused
  pub other_key : (l t : ℕ) (m : List ℕ) (f g : Fault) (s : Story) → story l (past_of row cs) ≡ some s → message_of m ≡ FaultManagement f
      → (OneCause f g → ⊥) → (u : Story) × (story l (past_of row (cs ++ On l (Receive m t) ∷ [])) ≡ some u)
      × ((now : ℕ) → stands now u (key_of g) ≡ stands now s (key_of g))
  -- "report changes nothing"
  pub report-alters-nothing : (l : ℕ) → next (table_after row cs) (On l ReportOn) ≡ table_after row cs
