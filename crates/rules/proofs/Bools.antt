-- Laws of tests, as equations with true and false.
-- Assumes nothing.
use mathlib.Core.Path.{◌≡◌, refl, sym, ◌∙◌}
use mathlib.Core.Bool.{Bool, true, false, not, ◌&&◌, ◌||◌}
use mathlib.Core.Logic.{◌⊎◌, inl, inr}
use Prim.Native.Nat.{ℕ}
use native.Mathlib.Omega.{arith}

-- a test that is both
pub no_way : {A : Type 0} {b : Bool} → b ≡ true → b ≡ false → A
no_way p q = absurd (let z : true ≡ false = sym p ∙ q in let y : ◌≡◌ {A = ℕ} 0 1 = cc in omega arith)

-- by the two values of a test, with what it is
pub split : {A : Type 0} (b : Bool) → (b ≡ true → A) → (b ≡ false → A) → A
split true t f = t refl
split false t f = f refl

pub both_true : {a b : Bool} → a ≡ true → b ≡ true → a && b ≡ true
both_true p q = rw (p, q)

pub or_cases : (a b : Bool) → a || b ≡ true → (a ≡ true) ⊎ (b ≡ true)
or_cases true b e = inl refl
or_cases false b e = inr e

pub or_left : {a : Bool} (b : Bool) → a ≡ true → a || b ≡ true
or_left b p = rw p

pub or_right : (a : Bool) {b : Bool} → b ≡ true → a || b ≡ true
or_right true p = refl
or_right false p = p

-- two tests agree if each follows from the other
pub same_test : (a b : Bool) → (a ≡ true → b ≡ true) → (b ≡ true → a ≡ true) → a ≡ b
same_test true b to from = sym (to refl)
same_test false true to from = from refl
same_test false false to from = refl

-- a test that a true one would contradict
pub refuted : (b : Bool) → (b ≡ true → ⊥) → b ≡ false
refuted true h = absurd (h refl)
refuted false h = refl

-- and a test of which the false value would contradict
pub forced : (b : Bool) → (b ≡ false → ⊥) → b ≡ true
forced true h = refl
forced false h = absurd (h refl)

pub true-false : {b : Bool} → b ≡ true → b ≡ false → ⊥
true-false p q = no_way p q

-- an implication as a test: where its premise holds, its conclusion does
pub implied : {a b : Bool} → a ≡ true → not a || b ≡ true → b ≡ true
implied {a = true} {b} p e = e
implied {a = false} {b} p e = no_way p refl
