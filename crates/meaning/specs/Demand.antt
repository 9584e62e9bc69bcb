-- Demand 3: one statement about every list of calls, refused ones included, from any row of 64 made empty.
-- Assumes nothing.
use Rattle.std.specs.Prelude.{ℕ, ◌+◌, ◌≤◌, ◌<◌, ◌≡◌, true, ◌↔◌, length, eqb}
use Rattle.std.proofs.Math.Option.{some}
use mathlib.Core.List.{List, ◌∷◌, Memᴰ}
use Rattle.rules.specs.declared.Settings.{Settings}
use Rattle.rules.specs.declared.Key.{Key}
use Rattle.rules.specs.declared.Report.{Report}
use Rattle.rules.specs.Parties.{party_of, is_of, own_most}
use Rattle.rules.specs.Lists.{only, once}
use Rattle.rules.specs.Calls.{Call, On, ReportOn, reporting}
use Rattle.session.specs.declared.Session.{Session}
use Rattle.table.specs.Places.{occupied_of}
use Rattle.table.specs.Table.{Table, open_of, find, is_found, same_label, same_discriminator, open_by, answer}
use Rattle.meaning.specs.Stories.{Story, settings_of}
use Rattle.meaning.specs.Standing.{report}
use Rattle.meaning.specs.Histories.{clock_of, story, labels}
use Rattle.meaning.specs.Answers.{is_open}
use Rattle.meaning.specs.Accounts.{Opening, AccountsForCrossing, AccountsForLoss, AccountedKeys, AccountsForHeldBack}
use Rattle.meaning.specs.Timer.{eager_state, shown}
use Rattle.meaning.specs.Worlds.{past_of, table_after, Right, Never}
use Rattle.meaning.specs.Lives.{Made, lives, calls_from, asked_in}

-- the report that the table gives on a label
abbrev pub report_on : Table → ℕ → Report
report_on t l = (answer t (On l ReportOn)).report

pub record Demand3 (row : List Session) (cs : List Call) : Type 0 where
  -- each answer, report and buffer is the one that the rules paper gives; none is 26
  pub answers : Right (past_of row cs)
  pub never-26 : Never 26 (past_of row cs)
  -- after the list, the report on every open label is what its story means at the clock
  pub reports : (l : ℕ) (s : Story) → story l (past_of row cs) ≡ some s
      → answer (table_after row cs) (On l ReportOn) ≡ reporting (report (clock_of (past_of row cs)) s)
  -- of the table's own report on an open label after the list: it shows a crossing, a loss, a held-back alarm (loss 1 and alarm 0)
  -- exactly when an accepted call accounts for it
  pub crossing : (l : ℕ) → is_open (story l (past_of row cs)) ≡ true
      → ((report_on (table_after row cs) l).crossing ≡ 1) ↔ ((p : ℕ) × AccountsForCrossing (past_of row cs) l (clock_of (past_of row cs)) p)
  pub loss : (l : ℕ) → is_open (story l (past_of row cs)) ≡ true
      → ((report_on (table_after row cs) l).loss ≡ 1) ↔ ((p : ℕ) × AccountsForLoss (past_of row cs) l (clock_of (past_of row cs)) p)
  pub held_back : (l : ℕ) → is_open (story l (past_of row cs)) ≡ true
      → (((report_on (table_after row cs) l).loss ≡ 1) × ((report_on (table_after row cs) l).alarm ≡ 0))
      ↔ ((p : ℕ) × AccountsForHeldBack (past_of row cs) l (clock_of (past_of row cs)) p)
  -- the number of conditions shown is that of the keys so accounted for: there is a list of exactly these, and the number is its length
  pub conditions : (l : ℕ) → is_open (story l (past_of row cs)) ≡ true
      → (keys : List Key) × AccountedKeys (past_of row cs) l (clock_of (past_of row cs)) keys × ((report_on (table_after row cs) l).conditions ≡ length keys)
  -- every message that accounts for a held-back alarm is less than 70 seconds old
  pub fresh : (l p : ℕ) (held : AccountsForHeldBack (past_of row cs) l (clock_of (past_of row cs)) p)
      → clock_of (past_of row cs) < held.condition.1.reading + 70000000
  -- the states are those that TIMER leaves when it is given to every session at every accepted reading
  pub timer : (l : ℕ) → eager_state l (past_of row cs) ≡ shown (clock_of (past_of row cs)) (story l (past_of row cs))
  -- an open label has its opening, and its latest life is its calls from there on, with the clock before each and what it said
  pub opening : (l : ℕ) → is_open (story l (past_of row cs)) ≡ true → (o : ℕ) × (g : Settings) × (t : ℕ) × Opening (past_of row cs) l o g t
  pub latest-life : (l o : ℕ) (g : Settings) (t : ℕ) → Opening (past_of row cs) l o g t
      → (earlier : List (List Made)) × (lives l (past_of row cs) ≡ calls_from l o (past_of row cs) ∷ earlier)
  -- whatever the calls on other labels: two lives in which the same is asked, with the same clock before each call, are told the same
  pub untouched : (other : List Session) → length other ≡ 64 → (ds : List Call) (l : ℕ) (x y : List Made)
      → Memᴰ x (lives l (past_of row cs)) → Memᴰ y (lives l (past_of other ds)) → asked_in x ≡ asked_in y → x ≡ y
  -- no two open sessions share a label, no two of one party a discriminator, and of no party are more than 32 open
  pub once-each : once eqb (labels (past_of row cs)) ≡ true
  pub unshared : (l m : ℕ) (s u : Story) → story l (past_of row cs) ≡ some s → story m (past_of row cs) ≡ some u
      → party_of l ≡ party_of m → (settings_of s).discriminator ≡ (settings_of u).discriminator → l ≡ m
  pub at-most-32 : (p : ℕ) → length (only (is_of p) (labels (past_of row cs))) ≤ own_most
  -- so it is with the occupied places of the row; they are exactly the open labels' records, and the set's ones are their number
  pub row_open : (l : ℕ) → is_found (find l (open_of (table_after row cs))) ≡ is_open (story l (past_of row cs))
  pub row-labels : once same_label (open_of (table_after row cs)) ≡ true
  pub row-discriminators : once same_discriminator (open_of (table_after row cs)) ≡ true
  pub row-at-most-32 : (p : ℕ) → open_by p (table_after row cs) ≤ own_most
  pub row_count : occupied_of 64 (table_after row cs).occupied ≡ length (labels (past_of row cs))
