-- A call on a label that is not its party's: label 0 in its place, which is never open; and an accepted call is on a label of its own party.
-- Assumes nothing.
use Prim.Native.Nat.{ℕ, ◌+◌}
use native.Mathlib.Omega.{arith}
use mathlib.Core.Path.{◌≡◌, refl, sym, ap, ◌∙◌}
use mathlib.Core.Bool.{Bool, true, false}
use mathlib.Core.Option.{Option, none}
use mathlib.Core.List.{List}
use lib.Dec.{eqb}
use lib.ListN.{length}
use borrow.Author.Tests.{eqb-true, eq-eqb}
use Rattle.octets.specs.Choice.{bar}
use Rattle.rules.specs.declared.Settings.{Settings}
use Rattle.rules.specs.Times.{late}
use Rattle.rules.specs.Settings.{settings_fit}
use Rattle.rules.specs.Parties.{party_of, is_of, own_label}
use Rattle.rules.specs.Calls.{Act, Close, Lock, Unlock, Receive, ReportOn, WriteCc, WriteCv, Call, Tick, Open, On, Said, is_accepted, number_only}
use Rattle.rules.proofs.Bools.{split, no_way, refuted, true-false}
use Rattle.session.specs.declared.Session.{Session}
use Rattle.meaning.specs.Stories.{Story}
use Rattle.meaning.specs.Histories.{History, start, after, clock_of, act_told, told, story, labels}
use Rattle.meaning.specs.Answers.{open_number, act_said, says_of, says}
use Rattle.meaning.specs.Worlds.{World, play, begin, table_after, Right}
use Rattle.meaning.specs.Lives.{is_on}
use Rattle.meaning.specs.Parties.{Named, TickTo, OpenFor, OnFor, with_label, taken, names, act_refusal, Foreign}
use Rattle.meaning.proofs.Lives.{act-shut}
use Rattle.meaning.proofs.Demand.{answered, Good, good-play, good-begin}

-- 1. Label 0: no settings with it fit, so it is never open, and what is asked of it is refused.

unfit-zero : (g : Settings) → g.label ≡ 0 → settings_fit g ≡ false
unfolding settings_fit
unfit-zero g e = rw e

pub open-refused : (now : ℕ) (st : ℕ → Option Story) (ls : List ℕ) (g : Settings) (t : ℕ) → g.label ≡ 0 → open_number now st ls g t ≡ bar (late now t) 1 10
unfolding open_number
open-refused now st ls g t e = rw (unfit-zero g e)

act-refused : (now l : ℕ) (a : Act) → act_said now none l a ≡ number_only (On l a) (act_refusal now a)
unfolding act_said
act-refused now l (Close t) = refl
act-refused now l (Lock t) = refl
act-refused now l (Unlock t) = refl
act-refused now l (Receive m t) = refl
act-refused now l ReportOn = refl
act-refused now l (WriteCc b) = refl
act-refused now l (WriteCv b) = refl

not-0 : (b : Bool) (n : ℕ) → bar b 1 (2 + n) ≡ 0 → ⊥
not-0 true n e = omega arith
not-0 false n e = omega arith

act-not-0 : (now : ℕ) (a : Act) → act_refusal now a ≡ 0 → ⊥
act-not-0 now (Close t) e = not-0 (late now t) 0 e
act-not-0 now (Lock t) e = not-0 (late now t) 0 e
act-not-0 now (Unlock t) e = not-0 (late now t) 0 e
act-not-0 now (Receive m t) e = not-0 (late now t) 0 e
act-not-0 now ReportOn e = omega arith
act-not-0 now (WriteCc b) e = omega arith
act-not-0 now (WriteCv b) e = omega arith

-- it stays shut
pub zero-kept : (now : ℕ) (st : ℕ → Option Story) (ls : List ℕ) (c : Call) → is_accepted (says_of now st ls c) ≡ true → (o : Option Story) → o ≡ none → told 0 c o ≡ none
unfolding says_of
zero-kept now st ls (Tick t) y o e = e
zero-kept now st ls (Open g t) y o e =
    split (eqb g.label 0)
    (λ z. absurd (not-0 (late now t) 8 (sym (open-refused now st ls g t (eqb-true g.label 0 z)) ∙ eqb-true _ 0 y)))
    (λ z. rw z e)
zero-kept now st ls (On l a) y o e = split (eqb l 0) (λ z. rw z (ap (act_told a) e ∙ act-shut a)) (λ z. rw z e)

pub zero-shut : (h : History) → Right h → story 0 h ≡ none
unfolding Right story says
zero-shut start r = refl
zero-shut (after h c a) r =
    let before = zero-shut h r.0 in
    split (is_accepted a)
    (λ y. rw y (zero-kept (clock_of h) (λ l. story l h) (labels h) c (ap is_accepted (sym r.1) ∙ y) (story 0 h) before))
    (λ y. rw y before)

-- 2. The label that a call of a party means.

pub own_same : (p l : ℕ) → is_of p l ≡ true → own_label p l ≡ l
own_same p l e = rw e

pub own-zero : (p l : ℕ) → is_of p l ≡ false → own_label p l ≡ 0
own-zero p l e = rw e

pub foreign : (row : List Session) → length row ≡ 64 → (cs : List Call) → Foreign row cs
unfolding table_after says says_of
foreign row e cs =
    record {
      on-label = λ p l a f.
          answered w.past w.table G.in_step (taken (OnFor p l a))
          ∙ ap (λ (o : Option Story). act_said (clock_of w.past) o (own_label p l) a) (ap (λ (k : ℕ). story k w.past) (own-zero p l f) ∙ shut)
          ∙ act-refused (clock_of w.past) (own_label p l) a
          ∙ ap (λ (now : ℕ). number_only (taken (OnFor p l a)) (act_refusal now a)) (sym G.in_step.clock);
      on-open = λ p g t f.
          answered w.past w.table G.in_step (taken (OpenFor p g t))
          ∙ ap (number_only (taken (OpenFor p g t)))
          (open-refused (clock_of w.past) (λ l. story l w.past) (labels w.past) (with_label (own_label p g.label) g) t (own-zero p g.label f))
          ∙ ap (λ (now : ℕ). number_only (taken (OpenFor p g t)) (bar (late now t) 1 10)) (sym G.in_step.clock);
    }
  where
    w : World
    w = play (begin row) cs

    G : Good w
    G = good-play (begin row) cs (good-begin row e)

    shut : story 0 w.past ≡ none
    shut = zero-shut w.past G.right

-- an accepted call is on a label of the party that it names
pub own-accepted : (now : ℕ) (st : ℕ → Option Story) (ls : List ℕ) → st 0 ≡ none → (p : ℕ) (c : Named) → names p c ≡ true
    → is_accepted (says_of now st ls (taken c)) ≡ true → (l : ℕ) → is_on l (taken c) ≡ true → is_of p l ≡ true
unfolding says_of
own-accepted now st ls shut p (TickTo t) e y l o = no_way e refl
own-accepted now st ls shut p (OpenFor q g t) e y l o =
    let same : q ≡ p = eqb-true q p e in
    split (is_of q g.label)
    (λ z. ap (is_of p) (sym (eqb-true _ l o) ∙ own_same q g.label z) ∙ ap (λ (r : ℕ). is_of r g.label) (sym same) ∙ z)
    (λ z. absurd
    (not-0 (late now t) 8
    (sym (open-refused now st ls (with_label (own_label q g.label) g) t (own-zero q g.label z)) ∙ eqb-true _ 0 y)))
own-accepted now st ls shut p (OnFor q m a) e y l o =
    let same : q ≡ p = eqb-true q p e in
    split (is_of q m)
    (λ z. ap (is_of p) (sym (eqb-true _ l o) ∙ own_same q m z) ∙ ap (λ (r : ℕ). is_of r m) (sym same) ∙ z)
    (λ z. absurd
    (act-not-0 now a
    (sym
    (ap (λ (x : Said). x.number)
    (ap (λ (k : Option Story). act_said now k (own_label q m) a) (ap st (own-zero q m z) ∙ shut) ∙ act-refused now (own_label q m) a))
    ∙ eqb-true _ 0 y)))

-- so what names another is not on a label of the party
pub other-accepted : (now : ℕ) (st : ℕ → Option Story) (ls : List ℕ) → st 0 ≡ none → (p : ℕ) (c : Named) → names p c ≡ false
    → is_accepted (says_of now st ls (taken c)) ≡ true → (l : ℕ) → is_on l (taken c) ≡ true → is_of p l ≡ false
other-accepted now st ls shut p c e y l o =
    refuted (is_of p l) (λ z. go c e y o z)
  where
    clash : (q : ℕ) → is_of q l ≡ true → is_of p l ≡ true → eqb q p ≡ true
    clash q a b = eq-eqb q p (sym (eqb-true (party_of l) q a) ∙ eqb-true (party_of l) p b)

    go : (c : Named) → names p c ≡ false → is_accepted (says_of now st ls (taken c)) ≡ true → is_on l (taken c) ≡ true → is_of p l ≡ true → ⊥
    go (TickTo t) e y o z = true-false o refl
    go (OpenFor q g t) e y o z = true-false (clash q (own-accepted now st ls shut q (OpenFor q g t) (eq-eqb q q refl) y l o) z) e
    go (OnFor q m a) e y o z = true-false (clash q (own-accepted now st ls shut q (OnFor q m a) (eq-eqb q q refl) y l o) z) e
