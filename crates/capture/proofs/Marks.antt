-- A mark at the front, octet by octet and as one run.
-- Assumes nothing.
use Prim.Native.Nat.{ℕ, ◌+◌, ◌*◌}
use native.Mathlib.Omega.{arith}
use mathlib.Core.Path.{◌≡◌, refl, sym}
use mathlib.Core.Bool.{Bool, ◌&&◌, and_assoc, and-true, and-false}
use mathlib.Core.List.{List, [], ◌∷◌}
use lib.Dec.{eqb, leb}
use lib.ListN.{length, get_or}
use borrow.Author.Tests.{eq-eqb, ne_eqb, eqb-true, le-leb}
use Rattle.octets.specs.Numbers.{number_at}
use Rattle.rules.proofs.Bools.{split, same_test, no_way}
use Rattle.capture.specs.Records.{is_marked, header_fits}

swapped : (a b : ℕ) → eqb a b ≡ eqb b a
swapped a b = same_test (eqb a b) (eqb b a) (λ e. eq-eqb b a (sym (eqb-true a b e))) (λ e. eq-eqb a b (sym (eqb-true b a e)))

-- the version's two octets
version : (d e : ℕ) (rest : Bool) → (eqb 0 d && (eqb 1 e && rest)) ≡ (eqb ((0 + d) * 256 + e) 1 && rest)
version d e rest =
    split (eqb 0 d)
    (λ p. let z : 0 ≡ d = eqb-true 0 d p in
    let same : (0 + d) * 256 + e ≡ e = omega arith in
    rw (p, same, swapped 1 e))
    (λ p. rw (p, ne_eqb ((0 + d) * 256 + e) 1 (λ one. let z : 0 ≡ d = omega arith in no_way (eq-eqb 0 d z) p)))

pub marked-fields : (letter : ℕ) (s : List ℕ)
    → is_marked letter s
    ≡ (leb 8 (length s) && (eqb (get_or s 0 0) 84 && eqb (get_or s 1 0) 80 && eqb (get_or s 2 0) letter && eqb (number_at 2 s 3) 1
    && eqb (get_or s 5 0) 0 && eqb (get_or s 6 0) 0 && eqb (get_or s 7 0) 0))
unfolding is_marked
marked-fields l (a ∷ b ∷ c ∷ d ∷ e ∷ f ∷ g ∷ h ∷ rest) =
    rw (swapped 84 a, swapped 80 b, swapped l c, swapped 0 f, swapped 0 g, swapped 0 h, le-leb 8 (length (a ∷ b ∷ c ∷ d ∷ e ∷ f ∷ g ∷ h ∷ rest)) (omega arith)) (simp (and_assoc, and-true, version))
marked-fields l [] = refl
marked-fields l (a ∷ []) = simp and-false
marked-fields l (a ∷ b ∷ []) = simp and-false
marked-fields l (a ∷ b ∷ c ∷ []) = simp and-false
marked-fields l (a ∷ b ∷ c ∷ d ∷ []) = simp and-false
marked-fields l (a ∷ b ∷ c ∷ d ∷ e ∷ []) = simp and-false
marked-fields l (a ∷ b ∷ c ∷ d ∷ e ∷ f ∷ []) = simp and-false
marked-fields l (a ∷ b ∷ c ∷ d ∷ e ∷ f ∷ g ∷ []) = simp and-false

-- a capture's header is the mark with the letter O
pub capture_mark : (s : List ℕ) → is_marked 79 s ≡ header_fits s
unfolding header_fits
capture_mark s = marked-fields 79 s
