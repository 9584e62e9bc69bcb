-- Demand 3, proved.
-- Assumes nothing.
use Prim.Native.Nat.{ℕ}
use native.Mathlib.Omega.{arith}
use mathlib.Core.Path.{◌≡◌, refl, sym, ap, ◌∙◌, subst}
use mathlib.Core.Bool.{Bool, true, cond, not}
use mathlib.Core.Option.{Option, none, some}
use mathlib.Core.List.{List, [], ◌∷◌, ◌++◌, Memᴰ}
use lib.ListN.{length}
use borrow.Author.Tests.{eq-eqb, not-true}
use Rattle.octets.proofs.Chain.{and_both}
use Rattle.rules.specs.declared.Settings.{Settings}
use Rattle.rules.specs.Parties.{party_of, own_discriminator}
use Rattle.rules.specs.Lists.{any, only, once}
use Rattle.rules.specs.Calls.{Call, On, ReportOn, Said, is_accepted, number_only, reporting}
use Rattle.rules.proofs.Bools.{split, no_way}
use Rattle.rules.proofs.Lists.{any_at, numbers-alike}
use Rattle.rules.proofs.TwoParties.{same-own}
use Rattle.session.specs.declared.Session.{Session}
use Rattle.session.specs.Soundness.{session_sound}
use Rattle.table.specs.Places.{opens}
use Rattle.table.specs.Table.{Table, open_of, same_label, same_discriminator, same_group, open_by, every, find, asked, answer, next, emptied}
use Rattle.table.proofs.Rows.{found-is}
use Rattle.table.proofs.Shares.{held_by}
use Rattle.meaning.specs.Stories.{Story, settings_of}
use Rattle.meaning.specs.Standing.{report}
use Rattle.meaning.specs.Histories.{History, start, after, clock_of, story, labels}
use Rattle.meaning.specs.Answers.{is_open, act_said, says_of, says}
use Rattle.meaning.specs.Worlds.{World, step, play, begin, past_of, table_after, Right, Never}
use Rattle.meaning.specs.Accounts.{Opening}
use Rattle.meaning.specs.Lives.{calls_from, asked_in}
use Rattle.meaning.specs.Demand.{Demand3}
use Rattle.meaning.proofs.Positions.{opening-told}
use Rattle.meaning.proofs.Sim.{Fit, Sim, sim-order, sim-asked, sim-done, sim-same, same_count, most-labels, fit-open, fit-record}
use Rattle.meaning.proofs.Accounted.{shown-crossing, shown-loss, shown-held-back, shown-conditions, condition-fresh}
use Rattle.meaning.proofs.Timer.{timer-agrees}
use Rattle.meaning.proofs.Numbers.{says-most}
use Rattle.meaning.proofs.Lives.{same-made, all-at, Told, told-start, told-next}
use Rattle.meaning.proofs.LatestLife.{Begun, begun-start, begun-next, latest-life}

-- the table in step with its history
abbrev pub InStep : History → Table → Type 0
InStep h t = Sim (clock_of h) (λ l. story l h) (labels h) t

-- what the table answers is what the paper says
pub answered : (h : History) (t : Table) → InStep h t → (c : Call) → answer t c ≡ says h c
unfolding answer says
answered h t S c = ap (λ (b : Bool). cond b (asked t c) (number_only c 26)) (sim-order S) ∙ sim-asked S c

pub was-asked : (h : History) (t : Table) → InStep h t → (c : Call) → answer t c ≡ asked t c
unfolding answer
was-asked h t S c = ap (λ (b : Bool). cond b (asked t c) (number_only c 26)) (sim-order S)

-- one call more
pub in-step-next : (h : History) (t : Table) → InStep h t → (c : Call) → InStep (after h c (answer t c)) (next t c)
unfolding next clock_of story labels
in-step-next h t S c =
    split (is_accepted (answer t c))
    (λ e. rw e (sim-same (λ m. refl) (sim-done S c (ap is_accepted (sym (was-asked h t S c)) ∙ e))))
    (λ e. rw e (sim-same (λ m. refl) S))

-- an empty set has no open record
pub opens-none : (row : List Session) → opens 0 row ≡ []
unfolding opens
opens-none [] = refl
opens-none (r ∷ rs) = opens-none rs

pub in-step-start : (row : List Session) → length row ≡ 64 → InStep start (emptied row)
unfolding emptied clock_of story labels once any only find
in-step-start row e =
    let none' = opens-none row in
    record {
      clock = refl;
      ordered = record {
        rows = e;
        sound = ap (every (λ r. session_sound r 0)) none';
        labels = ap (once same_label) none';
        discriminators = ap (once same_discriminator) none';
        each = λ p. let nothing : open_by p (emptied row) ≡ 0 = ap (λ (rs : List Session). length (only (held_by p) rs)) none' in omega (arith, nothing);
        groups = ap (once same_group) none';
      };
      fit = λ l. subst (λ (o : Option Session). Fit 0 o none) (sym (ap (find l) none')) tt;
      counted = λ p. ap (λ (rs : List Session). length (only (held_by p) rs)) none';
      listed = λ l. refl;
      once-each = refl;
    }

-- what holds of a table and its history after every list of calls
pub record Good (w : World) : Type 0 where
  pub in_step : InStep w.past w.table
  pub right : Right w.past
  pub never : Never 26 w.past
  pub lived : Told w.past
  pub begun : Begun w.past

good-step : (w : World) (c : Call) → Good w → Good (step w c)
unfolding step Right Never says
good-step w c G =
    let h = w.past in
    let a = answered h w.table G.in_step c in
    record {
      in_step = in-step-next h w.table G.in_step c;
      right = (G.right, a);
      never = (G.never, λ e. omega (arith, says-most (clock_of h) (λ l. story l h) (labels h) c, ap (λ (x : Said). x.number) a));
      lived = told-next h c (answer w.table c) a G.in_step.listed G.lived;
      begun = begun-next h c (answer w.table c) a G.in_step.listed G.begun;
    }

pub good-play : (w : World) (cs : List Call) → Good w → Good (play w cs)
unfolding play
good-play w [] G = G
good-play w (c ∷ cs) G = good-play (step w c) cs (good-step w c G)

-- one call more at the end of a list
pub play-last : (w : World) (cs : List Call) (c : Call) → play w (cs ++ c ∷ []) ≡ step (play w cs) c
unfolding play
play-last w [] c = refl
play-last w (d ∷ cs) c = play-last (step w d) cs c

pub good-begin : (row : List Session) → length row ≡ 64 → Good (begin row)
unfolding begin Right Never
good-begin row e = record { in_step = in-step-start row e; right = tt; never = tt; lived = told-start; begun = begun-start }

-- a report on an open label
report-of : (h : History) (l : ℕ) (s : Story) → story l h ≡ some s → says h (On l ReportOn) ≡ reporting (report (clock_of h) s)
unfolding says says_of act_said
report-of h l s e = rw e

-- an open label has a story
open-story : (o : Option Story) → is_open o ≡ true → (s : Story) × (o ≡ some s)
open-story none e = no_way e refl
open-story (some s) e = (s, refl)

-- two open records with one discriminator are one record
one_each : (same : Session → Session → Bool) → ((a b : Session) → same a b ≡ same b a) → (a b : Session) (rs : List Session) → once same rs ≡ true
    → Memᴰ a rs → Memᴰ b rs → same a b ≡ true → a ≡ b
unfolding once
one_each same back a b rs o (Memᴰ.head {x = x} {xs} e) (Memᴰ.head f) s = e ∙ sym f
one_each same back a b rs o (Memᴰ.head {x = x} {xs} e) (Memᴰ.tail n) s =
    no_way (any_at (same x) n (ap (λ (y : Session). same y b) (sym e) ∙ s)) (not-true _ (and_both (not (any (same x) xs)) (once same xs) o).0)
one_each same back a b rs o (Memᴰ.tail {x = x} {xs} m) (Memᴰ.head f) s =
    no_way (any_at (same x) m (back x a ∙ ap (same a) (sym f) ∙ s)) (not-true _ (and_both (not (any (same x) xs)) (once same xs) o).0)
one_each same back a b rs o (Memᴰ.tail {x = x} {xs} m) (Memᴰ.tail n) s =
    one_each same back a b xs (and_both (not (any (same x) xs)) (once same xs) o).1 m n s

-- so two open labels of one party with one discriminator are one label
no_shared : (h : History) (t : Table) → InStep h t → (l m : ℕ) (s u : Story) → story l h ≡ some s → story m h ≡ some u
    → party_of l ≡ party_of m → (settings_of s).discriminator ≡ (settings_of u).discriminator → l ≡ m
no_shared h t S l m s u p q party e =
    let a = fit-record (find l (open_of t)) (subst (λ (o : Option Story). Fit (clock_of h) (find l (open_of t)) o) p (S.fit l)) in
    let b = fit-record (find m (open_of t)) (subst (λ (o : Option Story). Fit (clock_of h) (find m (open_of t)) o) q (S.fit m)) in
    let x = found-is l (open_of t) a.0 a.1 in
    let y = found-is m (open_of t) b.0 b.1 in
    let same : a.0.settings.discriminator ≡ b.0.settings.discriminator =
    ap (λ (g : Settings). g.discriminator) a.2.settings ∙ e ∙ sym (ap (λ (g : Settings). g.discriminator) b.2.settings) in
    let one : a.0 ≡ b.0 =
    one_each same_discriminator (λ v w. numbers-alike.back (own_discriminator v.settings) (own_discriminator w.settings)) a.0 b.0 (open_of t) S.ordered.discriminators x.0 y.0
    (eq-eqb (own_discriminator a.0.settings) (own_discriminator b.0.settings)
    ((same-own a.0.settings b.0.settings).1 (ap party_of x.1 ∙ party ∙ sym (ap party_of y.1), same))) in
    sym x.1 ∙ ap (λ (r : Session). r.settings.label) one ∙ y.1

pub demand3 : (row : List Session) → length row ≡ 64 → (cs : List Call) → Demand3 row cs
unfolding past_of table_after
demand3 row e cs =
    record {
      answers = G.right;
      never-26 = G.never;
      reports = told-report;
      crossing = λ l o. let s = open-story (story l w.past) o in
          let e = ap (λ (x : Said). x.report.crossing) (told-report l s.0 s.1) in
          let a = shown-crossing w.past l s.0 s.1 (clock_of w.past) in
          (λ k. a.0 (sym e ∙ k), λ k. e ∙ a.1 k);
      loss = λ l o. let s = open-story (story l w.past) o in
          let e = ap (λ (x : Said). x.report.loss) (told-report l s.0 s.1) in
          let a = shown-loss w.past l s.0 s.1 (clock_of w.past) in
          (λ k. a.0 (sym e ∙ k), λ k. e ∙ a.1 k);
      held_back = λ l o. let s = open-story (story l w.past) o in
          let e = ap (λ (x : Said). x.report.loss) (told-report l s.0 s.1) in
          let f = ap (λ (x : Said). x.report.alarm) (told-report l s.0 s.1) in
          let a = shown-held-back w.past l s.0 s.1 (clock_of w.past) in
          (λ k. a.0 (sym e ∙ k.0, sym f ∙ k.1), λ k. let b = a.1 k in (e ∙ b.0, f ∙ b.1));
      conditions = λ l o. let s = open-story (story l w.past) o in
          let a = shown-conditions w.past l s.0 s.1 (clock_of w.past) in
          (a.0, a.1, ap (λ (x : Said). x.report.conditions) (told-report l s.0 s.1) ∙ a.2);
      fresh = λ l p held. condition-fresh w.past G.right l (clock_of w.past) p held.condition.0 held.condition.1;
      timer = timer-agrees w.past G.right;
      opening = λ l o. let s = open-story (story l w.past) o in
          let O = opening-told w.past l s.0 s.1 in (O.0, settings_of s.0, O.1, O.2);
      latest-life = λ l o g t O. latest-life w.past l o g t G.begun O;
      untouched = λ other f ds l x y p q k. same-made l x y (all-at l (G.lived.all l) p) (all-at l ((good-play (begin other) ds (good-begin other f)).lived.all l) q) k;
      once-each = G.in_step.once-each;
      unshared = no_shared w.past w.table G.in_step;
      at-most-32 = most-labels G.in_step;
      row_open = λ l. fit-open (clock_of w.past) (find l (open_of w.table)) (story l w.past) (G.in_step.fit l);
      row-labels = G.in_step.ordered.labels;
      row-discriminators = G.in_step.ordered.discriminators;
      row-at-most-32 = G.in_step.ordered.each;
      row_count = same_count G.in_step;
    }
  where
    w : World
    w = play (begin row) cs

    G : Good w
    G = good-play (begin row) cs (good-begin row e)

    told-report : (l : ℕ) (s : Story) → story l w.past ≡ some s → answer w.table (On l ReportOn) ≡ reporting (report (clock_of w.past) s)
    told-report l s o = answered w.past w.table G.in_step (On l ReportOn) ∙ report-of w.past l s o

-- by positions alone: where a label is open after two lists, and was asked the same from its opening on with the same clock before each
-- call, it was told the same
pub same-since-opening : (row other : List Session) → length row ≡ 64 → length other ≡ 64 → (cs ds : List Call) (l o p : ℕ) (g k : Settings) (t u : ℕ)
    → Opening (past_of row cs) l o g t → Opening (past_of other ds) l p k u
    → asked_in (calls_from l o (past_of row cs)) ≡ asked_in (calls_from l p (past_of other ds)) → calls_from l o (past_of row cs) ≡ calls_from l p (past_of other ds)
same-since-opening row other e f cs ds l o p g k t u O Q same =
    let D = demand3 row e cs in
    let x = D.latest-life l o g t O in
    let y = (demand3 other f ds).latest-life l p k u Q in
    D.untouched other f ds l _ _ (rw x.1 (Memᴰ.head refl)) (rw y.1 (Memᴰ.head refl)) same
