-- The words of a signed number, by its size and whether it lies below 0.
-- Assumes nothing.
use Prim.Native.Nat.{ℕ}
use native.Mathlib.Omega.{arith}
use mathlib.Core.Path.{◌≡◌, refl, sym, ap, ◌∙◌}
use mathlib.Core.Bool.{Bool, true, false}
use mathlib.Core.List.{List, ◌++◌, append_assoc}
use lib.IntN.{ℤ, pos, negsuc, nat_abs}
use lib.Signed.{lt_z}
use mir.Syntax.{w64}
use mir.Val.{SFits, to_z, of_z}
use mir.ValLaws.{to_z-of_z}
use borrow.Author.Tests.{ltb-true}
use Rattle.rules.proofs.Bools.{no_way}
use Rattle.capture.specs.Lines.{decimal}
use Rattle.capture.specs.Typing.{Put, typed}
use Rattle.capture.proofs.Typing.{typed-join}
use Rattle.gauge.specs.Words.{w_minus, signed_words, bound_words, sum_words}

-- two texts, one behind the other
pub joined : (p : Put) (xs ys : List ℕ) → typed (typed p xs) ys ≡ typed p (xs ++ ys)
joined p xs ys = sym (typed-join xs ys p)

pub ruleset parts = (joined, append_assoc)

pub below-words : (z : ℤ) → lt_z z (pos 0) ≡ true → signed_words z ≡ w_minus ++ decimal (nat_abs z)
below-words (pos n) h = absurd (omega (arith, ltb-true n 0 h))
below-words (negsuc n) h = refl

pub above-words : (z : ℤ) → lt_z z (pos 0) ≡ false → signed_words z ≡ decimal (nat_abs z)
above-words (pos n) h = refl
above-words (negsuc n) h = no_way refl h

-- as the machine holds it
module _ (z : ℤ) (fits : SFits w64 z) (p q : Put) where
  pub as-signed : q ≡ typed p (signed_words (to_z w64 (of_z w64 z))) → q ≡ typed p (signed_words z)
  as-signed e = e ∙ ap (λ (y : ℤ). typed p (signed_words y)) (to_z-of_z w64 z fits)

  pub as-bound : (there : Bool) → q ≡ typed p (bound_words there (to_z w64 (of_z w64 z))) → q ≡ typed p (bound_words there z)
  as-bound there e = e ∙ ap (λ (y : ℤ). typed p (bound_words there y)) (to_z-of_z w64 z fits)

  pub as_sums : (sizes : ℕ) → q ≡ typed p (sum_words (to_z w64 (of_z w64 z)) sizes) → q ≡ typed p (sum_words z sizes)
  as_sums sizes e = e ∙ ap (λ (y : ℤ). typed p (sum_words y sizes)) (to_z-of_z w64 z fits)
