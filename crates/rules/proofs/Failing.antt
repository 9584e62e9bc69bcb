-- How tests fail: a chain of tests fails where one of them does, and what a comparison says that fails.
-- Assumes nothing.
use Prim.Native.Nat.{ℕ, ◌≤◌, ◌<◌}
use native.Mathlib.Omega.{arith}
use mathlib.Core.Path.{◌≡◌, refl, ap}
use mathlib.Core.Bool.{Bool, true, false, not, ◌&&◌, ◌||◌}
use lib.Dec.{ltb, leb, eqb}
use borrow.Author.Tests.{ltb-false, leb-true, leb-false, eqb-true, not-false, le-ltb, eq-eqb}
use Rattle.rules.proofs.Bools.{no_way, split}

-- what follows where one of two tests fails, and where both do
pub one-fails : {P : Type 0} {a b : Bool} → (a ≡ false → P) → (b ≡ false → P) → a && b ≡ false → P
one-fails {a = true} {b} f g e = g e
one-fails {a = false} {b} f g e = f refl

pub both-fail : {P : Type 0} {a b : Bool} → (a ≡ false → b ≡ false → P) → a || b ≡ false → P
both-fail {a = true} {b} f e = no_way refl e
both-fail {a = false} {b} f e = f refl e

pub and_right : (a : Bool) {b : Bool} → b ≡ false → a && b ≡ false
and_right true e = e
and_right false e = refl

-- a chain with a test that fails, for `simp`
pub and-false : (a : Bool) → a && false ≡ false
and-false a = and_right a refl

-- a number that is not above another
pub at_most : (a b : ℕ) → (b < a → ⊥) → a ≤ b
at_most a b n = split (leb a b) (leb-true a b) (λ e. absurd (n (leb-false a b e)))

-- a mark is 0 or 1
pub no-mark : (a : ℕ) → ltb a 2 ≡ false → 1 < a
no-mark a e = omega (arith, ltb-false a 2 e)

pub mark-fails : (a : ℕ) → 1 < a → ltb a 2 ≡ false
mark-fails a h = le-ltb a 2 (omega arith)

-- a number is not 0
pub nought : (a : ℕ) → not (eqb a 0) ≡ false → a ≡ 0
nought a e = eqb-true a 0 (not-false _ e)

pub nought-fails : (a : ℕ) → a ≡ 0 → not (eqb a 0) ≡ false
nought-fails a e = ap not (eq-eqb a 0 e)
