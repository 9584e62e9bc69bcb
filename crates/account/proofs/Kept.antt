-- A number that is kept only where it fits, by cases.
-- Assumes nothing.
use mathlib.Core.Path.{◌≡◌, refl, sym, ap, ◌∙◌}
use mathlib.Core.Bool.{Bool, true, false, cond, ◌&&◌}
use Prim.Native.Nat.{ℕ}
use lib.IntN.{ℤ, pos}
use Rattle.account.specs.declared.Account.{Account}
use Rattle.account.specs.Accounts.{Count}
use Rattle.account.specs.Accounts.{Signed}
use Rattle.account.specs.Figures.{fits}
use Rattle.account.specs.Accounts.{signed, counted, spent, made}

pub cond_yes : {A : Type 0} (x y : A) {b : Bool} → b ≡ true → cond b x y ≡ x
cond_yes x y e = ap (λ (b : Bool). cond b x y) e

pub cond_no : {A : Type 0} (x y : A) {b : Bool} → b ≡ false → cond b x y ≡ y
cond_no x y e = ap (λ (b : Bool). cond b x y) e

pub signed_yes : (z : ℤ) {v : ℤ} → fits z ≡ true → v ≡ z → ◌≡◌ {A = Signed} (record { value = v; fits = true }) (signed z)
signed_yes z f e i = record { value = (e ∙ sym (cond_yes z (pos 0) f)) i; fits = sym f i }

pub signed_no : (z : ℤ) → fits z ≡ false → ◌≡◌ {A = Signed} (record { value = pos 0; fits = false }) (signed z)
signed_no z f i = record { value = sym (cond_no z (pos 0) f) i; fits = sym f i }

pub counted-yes : (n : ℕ) → fits (pos n) ≡ true → ◌≡◌ {A = Count} (record { value = n; fits = true }) (counted n)
counted-yes n f i = record { value = sym (cond_yes n 0 f) i; fits = sym f i }

pub counted-no : (n : ℕ) → fits (pos n) ≡ false → ◌≡◌ {A = Count} (record { value = 0; fits = false }) (counted n)
counted-no n f i = record { value = sym (cond_no n 0 f) i; fits = sym f i }

-- an account made of its numbers, each with its mark
pub first-not : (p s z : Bool) → p ≡ false → p && (s && z) ≡ false
first-not p s z e = ap (λ (b : Bool). b && (s && z)) e

pub second-not : (p s z : Bool) → s ≡ false → p && (s && z) ≡ false
second-not false s z e = refl
second-not true s z e = ap (λ (b : Bool). b && z) e

pub third-not : (p s z : Bool) → z ≡ false → p && (s && z) ≡ false
third-not false s z e = refl
third-not true false z e = refl
third-not true true z e = e

pub all_three : (p s z : Bool) → p ≡ true → s ≡ true → z ≡ true → p && (s && z) ≡ true
all_three p s z e f g i = e i && (f i && g i)

module _ (pairs : Count) (least greatest : ℤ) (sum : Signed) (sizes : Count) where
  pub made-over : pairs.fits && (sum.fits && sizes.fits) ≡ false → spent ≡ made pairs least greatest sum sizes
  unfolding made
  made-over e = sym (cond_no _ spent e)

  pub made_all : {l g s : ℤ} → pairs.fits && (sum.fits && sizes.fits) ≡ true → l ≡ least → g ≡ greatest → s ≡ sum.value
      → ◌≡◌ {A = Account} (record { pairs = pairs.value; least = l; greatest = g; sum = s; sizes = sizes.value; over = false }) (made pairs least greatest sum sizes)
  unfolding made
  made_all e l g s =
      (λ i. record { pairs = pairs.value; least = l i; greatest = g i; sum = s i; sizes = sizes.value; over = false }) ∙ sym (cond_yes _ spent e)
