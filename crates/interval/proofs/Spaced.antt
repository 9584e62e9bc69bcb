-- The run that keeps the account gives the spacing of the history, for every list of calls; and the accounts of parts combine.
-- Assumes nothing.
use Prim.Native.Nat.{ℕ}
use mathlib.Core.Path.{◌≡◌, refl, sym, ap, ◌∙◌, subst}
use mathlib.Core.Bool.{Bool, true, false, cond}
use mathlib.Core.Option.{Option, none, some, map}
use mathlib.Core.List.{List, [], ◌∷◌, ◌++◌}
use lib.ListN.{length}
use lib.IntN.{ℤ}
use Rattle.rules.specs.declared.Settings.{Settings}
use Rattle.rules.specs.Calls.{Call, Said, is_accepted}
use Rattle.rules.proofs.Bools.{split}
use Rattle.session.specs.declared.Session.{Session}
use Rattle.table.specs.Table.{Table, open_of, find, answer, next, emptied}
use Rattle.meaning.specs.Stories.{Story, settings_of}
use Rattle.meaning.specs.Histories.{History, start, after, clock_of, story}
use Rattle.meaning.specs.Answers.{says}
use Rattle.meaning.specs.Edges.{told-all}
use Rattle.meaning.proofs.Sim.{Fit}
use Rattle.meaning.proofs.Demand.{InStep, answered, in-step-next, in-step-start}
use Rattle.account.specs.declared.Account.{Account}
use Rattle.account.specs.Figures.{none as no_pair, error_of, exact}
use Rattle.account.specs.Accounts.{kept, account_of, combined, added, finished_of}
use Rattle.account.proofs.Joined.{one_more, parts-account, account-none, finished-account}
use Rattle.interval.specs.declared.Pace.{Pace}
use Rattle.interval.specs.Spacing.{Event, Nothing, Forgotten, Heard, call_event, last_by, errors_by, open_with, last_of, errors, spacing_of}
use Rattle.interval.specs.Pacing.{last_in, paced_by, settings_for, paced, Run, run_step, run_all, run_start, handed_over}

-- lists end in nothing, and are put together from either end
no_more : (ds : List ℤ) → ds ++ [] ≡ ds
no_more [] = refl
no_more (d ∷ ds) = ap (λ (es : List ℤ). d ∷ es) (no_more ds)

together : (ds es fs : List ℤ) → (ds ++ es) ++ fs ≡ ds ++ (es ++ fs)
together [] es fs = refl
together (d ∷ ds) es fs = ap (λ (gs : List ℤ). d ∷ gs) (together ds es fs)

-- ---- what is kept behind an event: the last heard CC and the account
module _ (p : Pace) where
  kept-last : (e : Event) → last_in (paced_by p e) ≡ last_by e (last_in p)
  kept-last Nothing = refl
  kept-last Forgotten = refl
  kept-last (Heard t period) = refl

  kept-account : (ds : List ℤ) → p.account ≡ account_of (exact ds) → (e : Event) → (paced_by p e).account ≡ account_of (exact (ds ++ errors_by e (last_in p)))
  kept-account ds a Nothing = a ∙ ap (λ (es : List ℤ). account_of (exact es)) (sym (no_more ds))
  kept-account ds a Forgotten = a ∙ ap (λ (es : List ℤ). account_of (exact es)) (sym (no_more ds))
  kept-account ds a (Heard t period) = go p.heard
    where
      go : (b : Bool) → cond b (added p.account (error_of t p.reading period)) p.account
          ≡ account_of (exact (ds ++ errors_by (Heard t period) (cond b (some p.reading) none)))
      go true = ap (λ (x : Account). added x (error_of t p.reading period)) a ∙ one_more ds (error_of t p.reading period)
      go false = a ∙ ap (λ (es : List ℤ). account_of (exact es)) (sym (no_more ds))

-- ---- the errors of a run, on any table and from any last heard CC
unfoldable errors_on : ℕ → Option ℕ → Table → Call → List ℤ
errors_on l last t c = cond (is_accepted (answer t c)) (errors_by (call_event l (settings_for l t) c) last) []

unfoldable last_on : ℕ → Option ℕ → Table → Call → Option ℕ
last_on l last t c = cond (is_accepted (answer t c)) (last_by (call_event l (settings_for l t) c) last) last

unfoldable errors_over : ℕ → Option ℕ → Table → List Call → List ℤ
errors_over l last t [] = []
errors_over l last t (c ∷ cs) = errors_on l last t c ++ errors_over l (last_on l last t c) (next t c) cs

module _ (l : ℕ) (p : Pace) (t : Table) (c : Call) where
  on-last : last_in (paced l p t c) ≡ last_on l (last_in p) t c
  unfolding paced last_on
  on-last = split (is_accepted (answer t c)) (λ e. rw e (kept-last p (call_event l (settings_for l t) c))) (λ e. rw e)

  on-account : (ds : List ℤ) → p.account ≡ account_of (exact ds) → (paced l p t c).account ≡ account_of (exact (ds ++ errors_on l (last_in p) t c))
  unfolding paced errors_on
  on-account ds a =
      split (is_accepted (answer t c)) (λ e. rw e (kept-account p ds a (call_event l (settings_for l t) c)))
      (λ e. rw e (a ∙ ap (λ (es : List ℤ). account_of (exact es)) (sym (no_more ds))))

-- a run adds the errors of its calls to those that its account has
run-account : (l : ℕ) (x : Run) (ds : List ℤ) → x.pace.account ≡ account_of (exact ds) → (cs : List Call)
    → (run_all l x cs).pace.account ≡ account_of (exact (ds ++ errors_over l (last_in x.pace) x.table cs))
unfolding run_all run_step errors_over
run-account l x ds a [] = a ∙ ap (λ (es : List ℤ). account_of (exact es)) (sym (no_more ds))
run-account l x ds a (c ∷ cs) =
    let p = paced l x.pace x.table c in
    let es = errors_on l (last_in x.pace) x.table c in
    run-account l (run_step l x c) (ds ++ es) (on-account l x.pace x.table c ds a) cs
    ∙ ap (λ (o : Option ℕ). account_of (exact ((ds ++ es) ++ errors_over l o (next x.table c) cs))) (on-last l x.pace x.table c)
    ∙ ap (λ (fs : List ℤ). account_of (exact fs)) (together ds es (errors_over l (last_on l (last_in x.pace) x.table c) (next x.table c) cs))

pub run-append : (l : ℕ) (x : Run) (cs ds : List Call) → run_all l x (cs ++ ds) ≡ run_all l (run_all l x cs) ds
unfolding run_all
run-append l x [] ds = refl
run-append l x (c ∷ cs) ds = run-append l (run_step l x c) cs ds

-- ---- parts: cut anywhere, on any table and from any last heard CC, the account of the whole is that of the first part combined with that of the second, which is begun
-- with table, clock and last heard CC as the first left them
pub parts-combine : (l : ℕ) (x : Run) → x.pace.account ≡ kept no_pair → (cs ds : List Call)
    → (run_all l x (cs ++ ds)).pace.account ≡ combined (run_all l x cs).pace.account (run_all l (handed_over (run_all l x cs)) ds).pace.account
unfolding handed_over
parts-combine l x a cs ds =
    let y = run_all l x cs in
    let es = errors_over l (last_in x.pace) x.table cs in
    let fs = errors_over l (last_in y.pace) y.table ds in
    let first : y.pace.account ≡ account_of (exact es) = run-account l x [] (a ∙ sym account-none) cs in
    let second : (run_all l (handed_over y) ds).pace.account ≡ account_of (exact fs) = run-account l (handed_over y) [] (sym account-none) ds in
    ap (λ (z : Run). z.pace.account) (run-append l x cs ds)
    ∙ run-account l y es first ds
    ∙ sym (parts-account es fs)
    ∙ sym (λ i. combined (first i) (second i))

-- ---- the history's
-- a table in step has a label open under the settings that the history tells
same-settings : (now : ℕ) (o : Option Session) (p : Option Story) → Fit now o p → map (λ (r : Session). r.settings) o ≡ map settings_of p
same-settings now none none f = refl
same-settings now none (some s) f = absurd f
same-settings now (some r) none f = absurd f
same-settings now (some r) (some s) f = ap some f.settings

-- the run is in step with the history, and has its last heard CC and its errors
pub record Follows (l : ℕ) (h : History) (x : Run) : Type 0 where
  pub in_step : InStep h x.table
  pub last : last_in x.pace ≡ last_of l h
  pub account : x.pace.account ≡ account_of (exact (errors l h))

by_answer : (b : Bool) (ds es : List ℤ) → ds ++ cond b es [] ≡ cond b (ds ++ es) ds
by_answer true ds es = refl
by_answer false ds es = no_more ds

same-errors : (l : ℕ) (h : History) (x : Run) (c : Call) (F : Follows l h x) → answer x.table c ≡ says h c → settings_for l x.table ≡ open_with l h
    → errors l h ++ errors_on l (last_in x.pace) x.table c
    ≡ cond (is_accepted (says h c)) (errors l h ++ errors_by (call_event l (open_with l h) c) (last_of l h)) (errors l h)
unfolding errors_on
same-errors l h x c F a s =
    (λ i. errors l h ++ cond (is_accepted (a i)) (errors_by (call_event l (s i) c) (F.last i)) [])
    ∙ by_answer (is_accepted (says h c)) (errors l h) (errors_by (call_event l (open_with l h) c) (last_of l h))

same-last : (l : ℕ) (h : History) (x : Run) (c : Call) (F : Follows l h x) → answer x.table c ≡ says h c → settings_for l x.table ≡ open_with l h
    → last_on l (last_in x.pace) x.table c ≡ cond (is_accepted (says h c)) (last_by (call_event l (open_with l h) c) (last_of l h)) (last_of l h)
unfolding last_on
same-last l h x c F a s i = cond (is_accepted (a i)) (last_by (call_event l (s i) c) (F.last i)) (F.last i)

follows-step : (l : ℕ) (h : History) (x : Run) (c : Call) → Follows l h x → Follows l (after h c (says h c)) (run_step l x c)
unfolding run_step last_of errors
follows-step l h x c F =
    let a : answer x.table c ≡ says h c = answered h x.table F.in_step c in
    let s : settings_for l x.table ≡ open_with l h = same-settings (clock_of h) (find l (open_of x.table)) (story l h) (F.in_step.fit l) in
    record {
      in_step = subst (λ (b : Said). InStep (after h c b) (next x.table c)) a (in-step-next h x.table F.in_step c);
      last = on-last l x.pace x.table c ∙ same-last l h x c F a s;
      account = on-account l x.pace x.table c (errors l h) F.account ∙ ap (λ (es : List ℤ). account_of (exact es)) (same-errors l h x c F a s);
    }

follows-all : (l : ℕ) (h : History) (x : Run) (cs : List Call) → Follows l h x → Follows l (told-all h cs) (run_all l x cs)
unfolding told-all run_all
follows-all l h x [] F = F
follows-all l h x (c ∷ cs) F = follows-all l (after h c (says h c)) (run_step l x c) cs (follows-step l h x c F)

follows-start : (l : ℕ) (row : List Session) → length row ≡ 64 → Follows l start (run_start row)
unfolding run_start last_of errors
follows-start l row e = record { in_step = in-step-start row e; last = refl; account = sym account-none }

-- Behind every list of calls from an empty table of 64 places: the finished account is the spacing of the history, 21 exactly if one of its numbers does not fit.
pub spacing-is : (l : ℕ) (row : List Session) → length row ≡ 64 → (cs : List Call)
    → finished_of (run_all l (run_start row) cs).pace.account ≡ spacing_of l (told-all start cs)
unfolding spacing_of
spacing-is l row e cs =
    let F = follows-all l start (run_start row) cs (follows-start l row e) in
    ap finished_of F.account ∙ finished-account (exact (errors l (told-all start cs)))
