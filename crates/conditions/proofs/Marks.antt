-- Marks, and numbers that are there only where a mark is not 0.
-- Assumes nothing.
use Prim.Native.Nat.{ℕ, ◌<◌}
use mathlib.Core.Path.{◌≡◌, refl, sym, ap, ◌∙◌}
use mathlib.Core.Bool.{Bool, true, false, ◌&&◌}
use mathlib.Core.Logic.{◌⊎◌, inl, inr, ⊎_elim}
use native.Mathlib.Omega.{arith}
use lib.Dec.{eqb}
use borrow.Author.Tests.{eqb-true, eqb-false, eq-eqb, ne_eqb}
use Rattle.rules.proofs.Bools.{split}
use Rattle.conditions.specs.Digests.{marked_by}

-- a number behind a mark that is 0, and behind one that is 1
unmarked : (mark number : ℕ) → mark ≡ 0 → marked_by mark number ≡ 0
unfolding marked_by
unmarked mark number e = rw (eq-eqb mark 0 e)

marked : (mark number : ℕ) → (mark ≡ 0 → ⊥) → marked_by mark number ≡ number
unfolding marked_by
marked mark number n = rw (ne_eqb mark 0 n)

pub marked-below : (mark number top : ℕ) → number < top → marked_by mark number < top
marked-below mark number top h =
    split (eqb mark 0) (λ z. omega (arith, unmarked mark number (eqb-true _ _ z))) (λ z. omega (arith, marked mark number (eqb-false _ _ z)))

-- equal numbers behind equal marks: both marks are 0, or the numbers are equal
pub marked-says : (mark other m n : ℕ) → mark ≡ other → marked_by mark m ≡ marked_by other n → (mark ≡ 0) ⊎ (m ≡ n)
marked-says mark other m n e f =
    split (eqb mark 0) (λ z. inl (eqb-true _ _ z))
    (λ z. let h = eqb-false _ _ z in inr (sym (marked mark m h) ∙ f ∙ marked other n (λ w. h (e ∙ w))))

pub says-marked : (mark other m n : ℕ) → mark ≡ other → (mark ≡ 0) ⊎ (m ≡ n) → marked_by mark m ≡ marked_by other n
says-marked mark other m n e =
    ⊎_elim (λ z. unmarked mark m z ∙ sym (unmarked other n (sym e ∙ z))) (λ z. ap (λ (k : ℕ). marked_by k m) e ∙ ap (marked_by other) z)

-- a test in two parts, and its first part as one
pub parted : (k a b c x y z : Bool) → (k && a && b && c && x && y && z) ≡ (k && (a && b && c) && x && y && z)
parted true true true true x y z = refl
parted true true true false x y z = refl
parted true true false c x y z = refl
parted true false b c x y z = refl
parted false a b c x y z = refl
