-- A capture that is cut between records, in octets: of the first part's table, clock and last heard CC the second part goes on with an account of its own, and the two accounts
-- combine to that of the whole. Numbers and sums add up, least and greatest combine (`combined`).
-- Assumes nothing.
use Prim.Native.Nat.{ℕ}
use mathlib.Core.Path.{◌≡◌, sym, ap, ◌∙◌}
use mathlib.Core.List.{List, [], ◌++◌}
use lib.ListN.{drop}
use Rattle.rules.specs.Calls.{Call}
use Rattle.session.specs.declared.Session.{Session}
use Rattle.text.specs.Text.{Parsed, parsed}
use Rattle.account.specs.Figures.{none as no_pair}
use Rattle.account.specs.Accounts.{kept, combined}
use Rattle.interval.specs.Pacing.{Run, run_all, handed_over}
use Rattle.interval.proofs.Spaced.{parts-combine}
use Rattle.pace.specs.declared.Pacing.{Pacing}
use Rattle.pace.specs.Pacing.{Trail, pace_of}
use Rattle.pace.proofs.Paces.{run_of, pace-runs}
use Rattle.gauge.proofs.Portions.{more-behind}

-- before the first octet of the next part, with an account of its own
abbrev pub handed : Pacing → Pacing
handed x =
    record {
      fed = record { head = x.fed.head; number = x.fed.number; used = 0; written = x.fed.written };
      pace = record { account = kept no_pair; reading = x.pace.reading; heard = x.pace.heard };
      label = x.label;
    }

-- on any row, in order or not, and from any last heard CC: first is a number of whole records
module _ (row : List Session) (x : Pacing) (first second : List ℕ) (own : x.pace.account ≡ kept no_pair) (front : x.fed.used ≡ 0) (cut : (parsed first).rest ≡ []) where
  abbrev y : Trail
  y = pace_of row x first

  abbrev z : Trail
  z = pace_of y.row (handed y.pacing) second

  abbrev begins : Run
  begins = run_of (record { row = row; pacing = x })

  -- what is read is all of an input
  all_read : (input : List ℕ) → run_of (pace_of row x input) ≡ run_all x.label begins (parsed input).calls
  all_read input = (pace-runs row x input).run ∙ ap (λ (k : ℕ). run_all x.label begins (parsed (drop k input)).calls) front

  both : (parsed (first ++ second)).calls ≡ (parsed first).calls ++ (parsed second).calls
  both =
      ap (λ (q : Parsed). q.calls) (more-behind first second)
      ∙ ap (λ (r : List ℕ). (parsed first).calls ++ (parsed (r ++ second)).calls) cut

  same-label : y.pacing.label ≡ x.label
  same-label = (pace-runs row x first).label

  second_run : run_of z ≡ run_all x.label (handed_over (run_all x.label begins (parsed first).calls)) (parsed second).calls
  unfolding handed_over
  second_run =
      (pace-runs y.row (handed y.pacing) second).run
      ∙ ap (λ (l : ℕ). run_all l (handed_over (run_of y)) (parsed second).calls) same-label
      ∙ ap (λ (r : Run). run_all x.label (handed_over r) (parsed second).calls) (all_read first)

  pub octets-combine : (pace_of row x (first ++ second)).pacing.pace.account ≡ combined y.pacing.pace.account z.pacing.pace.account
  octets-combine =
      ap (λ (r : Run). r.pace.account) (all_read (first ++ second))
      ∙ ap (λ (cs : List Call). (run_all x.label begins cs).pace.account) both
      ∙ parts-combine x.label begins own (parsed first).calls (parsed second).calls
      ∙ ap (λ (r : Run). combined r.pace.account (run_all x.label (handed_over (run_all x.label begins (parsed first).calls)) (parsed second).calls).pace.account) (sym (all_read first))
      ∙ ap (λ (r : Run). combined y.pacing.pace.account r.pace.account) (sym second_run)
