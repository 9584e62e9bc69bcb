-- A run over calls that keeps the last heard CC of one label and the account of its errors: what the code computes, call by call. A part of a capture goes on from what
-- is handed to it.
-- Assumes nothing.
use Rattle.std.specs.Prelude.{ℕ, true, false, cond, List, [], ◌∷◌}
use Rattle.std.proofs.Math.Option.{Option, none, some, map}
use Rattle.rules.specs.declared.Settings.{Settings}
use Rattle.rules.specs.Calls.{Call, is_accepted}
use Rattle.session.specs.declared.Session.{Session}
use Rattle.table.specs.Table.{Table, open_of, find, answer, next, emptied}
use Rattle.account.specs.declared.Account.{Account}
use Rattle.account.specs.Figures.{none as no_pair, error_of}
use Rattle.account.specs.Accounts.{kept, added}
use Rattle.interval.specs.declared.Pace.{Pace}
use Rattle.interval.specs.Spacing.{Event, Nothing, Forgotten, Heard, call_event}

-- the last heard CC that is kept, if there is one
abbrev pub last_in : Pace → Option ℕ
last_in p = cond p.heard (some p.reading) none

-- a heard CC: an error more where one is kept
abbrev pub hearing : Pace → ℕ → ℕ → Pace
hearing p t period = record { account = cond p.heard (added p.account (error_of t p.reading period)) p.account; reading = t; heard = true }

abbrev pub paced_by : Pace → Event → Pace
paced_by p Nothing = p
paced_by p Forgotten = record { account = p.account; reading = 0; heard = false }
paced_by p (Heard t period) = hearing p t period

-- the settings under which a table has the label open
abbrev pub settings_for : ℕ → Table → Option Settings
settings_for l t = map (λ (r : Session). r.settings) (find l (open_of t))

-- any call on a table: a refused one counts for nothing
unfoldable pub paced : ℕ → Pace → Table → Call → Pace
paced l p t c = cond (is_accepted (answer t c)) (paced_by p (call_event l (settings_for l t) c)) p

-- the table, and what is kept of the label
pub record Run : Type 0 where
  pub table : Table
  pub pace : Pace

unfoldable pub run_step : ℕ → Run → Call → Run
run_step l x c = record { table = next x.table c; pace = paced l x.pace x.table c }

unfoldable pub run_all : ℕ → Run → List Call → Run
run_all l x [] = x
run_all l x (c ∷ cs) = run_all l (run_step l x c) cs

-- no CC yet, no pair
abbrev pub at_rest : Pace
at_rest = record { account = kept no_pair; reading = 0; heard = false }

-- an empty table
unfoldable pub run_start : List Session → Run
run_start row = record { table = emptied row; pace = at_rest }

-- the next part: table, clock and last heard CC as left, an account of its own
unfoldable pub handed_over : Run → Run
handed_over x = record { table = x.table; pace = record { account = kept no_pair; reading = x.pace.reading; heard = x.pace.heard } }
