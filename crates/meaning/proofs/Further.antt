-- Sentences of the rules paper beside demand 3, proved.
-- Assumes nothing.
use Prim.Native.Nat.{ℕ, ◌≤◌}
use native.Mathlib.Omega.{arith}
use mathlib.Core.Path.{◌≡◌, subst}
use mathlib.Core.Option.{Option, some}
use mathlib.Core.List.{List}
use lib.ListN.{length}
use Rattle.rules.specs.Calls.{Call, On, ReportOn, is_accepted}
use Rattle.rules.proofs.Bools.{split}
use Rattle.conditions.proofs.Fading.{at-most-four}
use Rattle.session.specs.declared.Session.{Session}
use Rattle.table.specs.Table.{Table, open_of, find, answer, act_done, done, next}
use Rattle.meaning.specs.Stories.{Story}
use Rattle.meaning.specs.Standing.{conditions}
use Rattle.meaning.specs.Histories.{History, clock_of, story}
use Rattle.meaning.specs.Worlds.{play, begin, past_of, table_after}
use Rattle.meaning.specs.Further.{Further}
use Rattle.meaning.proofs.Places.{kept-count}
use Rattle.meaning.proofs.Sim.{Fit, fit-record}
use Rattle.meaning.proofs.Demand.{InStep, good-play, good-begin}
use Rattle.meaning.proofs.OnlyTicks.{twice-locked, unlocked-again}
use Rattle.meaning.proofs.OtherKeys.{Kept, kept-by-others}
use Rattle.meaning.proofs.TakenPlaces.{opens-lowest, closes-place}

-- the four places of a record keep a story's conditions
most-four : (h : History) (t : Table) → InStep h t → (l now : ℕ) (s : Story) → story l h ≡ some s → clock_of h ≤ now → conditions now s ≤ 4
most-four h t S l now s o b =
    let f = fit-record (find l (open_of t)) (subst (λ (p : Option Story). Fit (clock_of h) (find l (open_of t)) p) o (S.fit l)) in
    omega (arith, kept-count now b f.2.places, at-most-four f.0.conditions now)

-- answered 0 or 2, a report leaves the table as it was
report-leaves : (t : Table) (l : ℕ) → next t (On l ReportOn) ≡ t
unfolding next done act_done
report-leaves t l = split (is_accepted (answer t (On l ReportOn))) (λ e. rw e) (λ e. rw e)

pub further : (row : List Session) → length row ≡ 64 → (cs : List Call) → Further row cs
unfolding past_of table_after Kept
further row e cs =
    let w = play (begin row) cs in
    let G = good-play (begin row) cs (good-begin row e) in
    record {
      locked-twice = λ l u s o k b. twice-locked w.past G.right w.table G.in_step l u s o b k;
      not-locked = λ l u s o k b. unlocked-again w.past G.right w.table G.in_step l u s o b k;
      four-conditions = most-four w.past w.table G.in_step;
      lowest-place = opens-lowest w.past w.table G.in_step;
      place-again = closes-place w.past w.table G.in_step;
      other_key = λ l t m f g s o is n. kept-by-others l t m f g s is n row cs o;
      report-alters-nothing = report-leaves w.table;
    }
