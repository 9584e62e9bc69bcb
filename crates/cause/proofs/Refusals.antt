-- 2 exactly where the label is not open, 15 exactly where it is and no call accounts for the thing, and no other refusal.
-- Assumes nothing.
use Prim.Native.Nat.{ℕ}
use native.Mathlib.Omega.{arith}
use mathlib.Core.Path.{◌≡◌, refl, sym, ap, ◌∙◌}
use mathlib.Core.Bool.{Bool, true, false, cond}
use mathlib.Core.Option.{Option, none, some}
use mathlib.Core.Logic.{◌⊎◌, inl, inr, ◌↔◌}
use Rattle.octets.specs.Choice.{Answer, refused}
use Rattle.rules.proofs.Bools.{split, true-false}
use Rattle.meaning.specs.Stories.{Story}
use Rattle.meaning.specs.Histories.{History, clock_of, story}
use Rattle.meaning.proofs.Crossings.{crossing-accounted}
use Rattle.meaning.proofs.Conditions.{condition-accounted}
use Rattle.meaning.proofs.Losses.{loss-accounted}
use Rattle.cause.specs.Marks.{Mark, last_crossed, last_restart, last_of_key}
use Rattle.cause.specs.Causes.{Thing, Crossing, Loss, Condition, HeldBack, Cause, stands_at, last_holding, cause_by, cause_in, cause_told, cause_of, reason_told, reason_of}
use Rattle.cause.specs.Reasons.{Accounts}
use Rattle.cause.proofs.Lasts.{clash}
use Rattle.cause.proofs.Crossings.{crossing-marked}
use Rattle.cause.proofs.Conditions.{condition-marked}
use Rattle.cause.proofs.Losses.{loss-marked}
use Rattle.cause.proofs.HeldBack.{held_by_lem, is-held-back, held-marked}

-- an answer by a mark that is there is no refusal
not-refused : {A : Type 0} (now : ℕ) (end : Mark A → ℕ) (m : Option (Mark A)) (n : ℕ) → (m ≡ none → ⊥) → cause_by now end m ≡ refused n → ⊥
not-refused now end none n f e = f refl
not-refused now end (some k) n f e = clash (cc)

module _ (h : History) (l : ℕ) (s : Story) (e : story l h ≡ some s) where
  -- a thing stands exactly where a call accounts for it
  pub accounted : (thing : Thing) (now : ℕ) → (stands_at now s thing ≡ true) ↔ ((p : ℕ) × Accounts h l thing now p)
  accounted Crossing now = let w = crossing-accounted h l s e now in (w.0, λ x. w.1 x.0 x.1)
  accounted Loss now = let w = loss-accounted h l s e now in (w.0, λ x. w.1 x.0 x.1)
  accounted (Condition key) now = let w = condition-accounted h l s e key now in (w.0, λ x. w.1 x.0 x.1)
  accounted HeldBack now = (
    λ c.
        let k = held_by_lem now s c in
        let w = (condition-accounted h l s e k.1 now).0 k.2 in
        (w.0, record { loss = (loss-accounted h l s e now).0 k.0; condition = (k.1, w.1) }),
    λ x.
        let w = x.1 in
        is-held-back now s w.condition.0 ((loss-accounted h l s e now).1 w.loss.0 w.loss.1)
        ((condition-accounted h l s e w.condition.0 now).1 x.0 w.condition.1),
  )

  -- and then it has a cause
  never-refused : (thing : Thing) (n : ℕ) → stands_at (clock_of h) s thing ≡ true → cause_in h l s thing ≡ refused n → ⊥
  never-refused Crossing n c z = not-refused _ _ (last_crossed l h) n (crossing-marked h l s e (clock_of h) c) z
  never-refused Loss n c z = not-refused _ _ (last_restart l h) n (loss-marked h l s e) z
  never-refused (Condition key) n c z = not-refused _ _ (last_of_key l key h) n (condition-marked h l key s e (clock_of h) c) z
  never-refused HeldBack n c z = not-refused _ _ (last_holding h l s) n (held-marked h l s e (clock_of h) c) z

  -- so a refusal of an open label is 15, of a thing that does not stand
  refused-open : (thing : Thing) (n : ℕ) → cause_told h l thing (some s) ≡ refused n → (n ≡ 15) × (stands_at (clock_of h) s thing ≡ false)
  refused-open thing n z =
      split (stands_at (clock_of h) s thing)
      (λ y. absurd (never-refused thing n y (ap (λ (b : Bool). cond b (cause_in h l s thing) (refused 15)) (sym y) ∙ z)))
      (λ y. let w : ◌≡◌ {A = Answer Cause} (refused 15) (refused n) = ap (λ (b : Bool). cond b (cause_in h l s thing) (refused 15)) (sym y) ∙ z in let i : 15 ≡ n = cc in (sym i, y))

-- by the story of the label
module _ (h : History) (l : ℕ) (thing : Thing) where
  told-cases : {A : Type 0} → (story l h ≡ none → A) → ((s : Story) → story l h ≡ some s → A) → A
  told-cases {A} f g = go (story l h) refl
    where
      go : (o : Option Story) → story l h ≡ o → A
      go none e = f e
      go (some s) e = g s e

  told_none : story l h ≡ none → cause_of h l thing ≡ refused 2
  unfolding cause_of
  told_none e = rw e

  told-some : (s : Story) → story l h ≡ some s → cause_of h l thing ≡ cause_told h l thing (some s)
  unfolding cause_of
  told-some s e = rw e

  pub refused-2 : (cause_of h l thing ≡ refused 2) ↔ (story l h ≡ none)
  refused-2 = (
    λ z.
        told-cases (λ e. e)
        (λ s e. absurd (let w : 2 ≡ 15 = (refused-open h l s e thing 2 (sym (told-some s e) ∙ z)).0 in omega arith)),
    told_none,
  )

  pub refused-15 : (cause_of h l thing ≡ refused 15) ↔ ((s : Story) × (story l h ≡ some s) × ((p : ℕ) → Accounts h l thing (clock_of h) p → ⊥))
  refused-15 = (
    λ z.
        told-cases
        (λ e. absurd (let w : ◌≡◌ {A = Answer Cause} (refused 2) (refused 15) = sym (told_none e) ∙ z in let i : ◌≡◌ {A = ℕ} 2 15 = cc in omega arith))
        (λ s e.
        (s, e, λ p A. true-false ((accounted h l s e thing (clock_of h)).1 (p, A)) (refused-open h l s e thing 15 (sym (told-some s e) ∙ z)).1)),
    λ w.
        told-some w.0 w.1
        ∙ split (stands_at (clock_of h) w.0 thing)
        (λ y. absurd (let a = (accounted h l w.0 w.1 thing (clock_of h)).0 y in w.2 a.0 a.1))
        (λ y. rw y),
  )

  -- and there is no other
  pub refused-only : (n : ℕ) → cause_of h l thing ≡ refused n → (n ≡ 2) ⊎ (n ≡ 15)
  refused-only n z =
      told-cases
      (λ e. let w : ◌≡◌ {A = Answer Cause} (refused 2) (refused n) = sym (told_none e) ∙ z in let i : 2 ≡ n = cc in inl (sym i))
      (λ s e. inr (refused-open h l s e thing n (sym (told-some s e) ∙ z)).0)

  -- a refused question names no call
  pub refused-reason : (n : ℕ) → cause_of h l thing ≡ refused n → reason_of h l thing ≡ none
  unfolding reason_of
  refused-reason n z =
      told-cases
      (λ e. ap (reason_told h l thing) e)
      (λ s e. ap (reason_told h l thing) e ∙ rw (refused-open h l s e thing n (sym (told-some s e) ∙ z)).1)
