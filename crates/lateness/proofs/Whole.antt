-- The run over a whole capture in one slice gives the spacing of the capture's history.
-- Assumes nothing.
use Prim.Native.Nat.{ℕ}
use mathlib.Core.Path.{◌≡◌, sym, ap, ◌∙◌}
use mathlib.Core.Bool.{true, false, cond}
use mathlib.Core.List.{List, []}
use lib.ListN.{drop, replicate, length-replicate}
use Rattle.rules.specs.Calls.{Call}
use Rattle.session.specs.declared.Session.{Session}
use Rattle.table.specs.Table.{absent, emptied}
use Rattle.capture.specs.Records.{header_fits}
use Rattle.meaning.specs.Histories.{start}
use Rattle.meaning.specs.Edges.{told-all}
use Rattle.text.specs.Text.{parsed}
use Rattle.cause.specs.Pasts.{past_of}
use Rattle.account.specs.Figures.{Spaced}
use Rattle.account.specs.Figures.{none as no_pair, exact}
use Rattle.account.specs.Accounts.{kept as kept_as, finished_of}
use Rattle.account.proofs.Joined.{account-none, finished-account}
use Rattle.interval.specs.Spacing.{errors, spacing_of}
use Rattle.interval.specs.Pacing.{Run, run_all, run_start}
use Rattle.interval.proofs.Spaced.{spacing-is}
use Rattle.pace.specs.declared.asked.Asked.{Asked}
use Rattle.pace.specs.Pacing.{Trail, pace_of}
use Rattle.pace.proofs.Paces.{run_of, pace-runs}
use Rattle.lateness.specs.Beginning.{beginning}

-- a header that does not fit: nothing was called
pub unfit : (capture : List ℕ) (l : ℕ) → header_fits capture ≡ false → finished_of (kept_as no_pair) ≡ spacing_of l (past_of capture)
unfolding past_of spacing_of errors
unfit capture l e = rw e (ap finished_of (sym account-none) ∙ finished-account (exact []))

module _ (capture : List ℕ) (l : ℕ) (fits : header_fits capture ≡ true) where
  abbrev row : List Session
  row = replicate 64 absent

  abbrev a : Asked
  a = beginning l

  abbrev y : Trail
  y = pace_of a.row a.pacing capture

  abbrev calls : List Call
  calls = (parsed (drop 8 capture)).calls

  is-run : run_of y ≡ run_all l (run_start row) calls
  unfolding beginning run_start emptied
  is-run = (pace-runs a.row a.pacing capture).run

  past_is : told-all start calls ≡ past_of capture
  unfolding past_of
  past_is = sym (ap (λ b. cond b (told-all start calls) start) fits)

  pub whole : finished_of y.pacing.pace.account ≡ spacing_of l (past_of capture)
  whole =
      ap (λ (x : Run). finished_of x.pace.account) is-run
      ∙ spacing-is l row (length-replicate 64 absent) calls
      ∙ ap (spacing_of l) past_is

-- by the parts of the code
pub spaces : (capture : List ℕ) (l : ℕ) → header_fits capture ≡ true → (b : Asked) → b ≡ beginning l
    → (t : Asked) → record { row = t.row; pacing = t.pacing } ≡ pace_of b.row b.pacing capture
    → (r : Spaced) → r ≡ finished_of t.pacing.pace.account → r ≡ spacing_of l (past_of capture)
spaces capture l fits b eb t et r er =
    er
    ∙ ap (λ (w : Trail). finished_of w.pacing.pace.account) (et ∙ ap (λ (x : Asked). pace_of x.row x.pacing capture) eb)
    ∙ whole capture l fits
