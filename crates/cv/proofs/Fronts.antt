-- The first octets of a word, and a word with nought behind them.
-- Assumes nothing.
use mathlib.Core.Path.{◌≡◌, sym, ap}
use Prim.Native.Nat.{ℕ, ◌+◌, ◌-◌, ◌*◌, ◌/◌, ◌^◌, ◌≤◌, ◌<◌}
use native.Mathlib.Nat.{div-one, div-eq_of_lt, mul-div_cancel, eq_of_mul-eq-mul_right}
use native.Mathlib.Omega.{arith}
use Rattle.octets.proofs.Cuts.{power-some}
use Rattle.cv.specs.MepId.{front_of, kept}

-- no octet, and all of them
pub front-none : (n word : ℕ) → n ≡ 0 → word < 2 ^ 64 → 0 ≡ front_of n word
unfolding front_of
front-none n word e b = rw e (sym (div-eq_of_lt b))

pub front-all : (n word : ℕ) → 8 ≤ n → word ≡ front_of n word
unfolding front_of
front-all n word h =
    let e : 8 - n ≡ 0 = omega arith in
    rw e (sym (div-one word))

-- past 7 (each test by itself: eight of them are too many for `omega`)
pub past-seven : (n : ℕ) → (n ≡ 0 → ⊥) → (n ≡ 1 → ⊥) → (n ≡ 2 → ⊥) → (n ≡ 3 → ⊥) → (n ≡ 4 → ⊥) → (n ≡ 5 → ⊥) → (n ≡ 6 → ⊥) → (n ≡ 7 → ⊥) → 8 ≤ n
past-seven n a b c d e f g h =
    let four : 4 ≤ n = four-up n a b c d in
    next 7 n (next 6 n (next 5 n (next 4 n four e) f) g) h
  where
    next : (k n : ℕ) → k ≤ n → (n ≡ k → ⊥) → k + 1 ≤ n
    next k n h ne = omega arith

    four-up : (n : ℕ) → (n ≡ 0 → ⊥) → (n ≡ 1 → ⊥) → (n ≡ 2 → ⊥) → (n ≡ 3 → ⊥) → 4 ≤ n
    four-up n a b c d = omega arith

-- what is kept is what the first octets say
pub front_kept : (n word : ℕ) → front_of n (kept n word) ≡ front_of n word
unfolding front_of kept
front_kept n word = mul-div_cancel (word / 256 ^ (8 - n)) (power-some (8 - n))

pub kept-front : (n a b : ℕ) → front_of n a ≡ front_of n b → kept n a ≡ kept n b
unfolding kept
kept-front n a b e = ap (λ x. x * 256 ^ (8 - n)) e

pub kept_same : (n a b : ℕ) → kept n a ≡ kept n b → front_of n a ≡ front_of n b
unfolding kept
kept_same n a b e = eq_of_mul-eq-mul_right (256 ^ (8 - n)) (power-some (8 - n)) (front_of n a) (front_of n b) e
