-- Numbers in a list that is cut off: what is left of them, at any width and any place of the cut.
-- Assumes nothing.
use mathlib.Core.Path.{◌≡◌, refl, sym, ap, ◌∙◌}
use mathlib.Core.Bool.{Bool, true, false}
use mathlib.Core.List.{List, ◌∷◌, ◌++◌}
use Prim.Native.Nat.{ℕ, zero, suc, ◌+◌, ◌-◌, ◌*◌, ◌/◌, ◌%◌, ◌^◌, ◌≤◌, ◌<◌}
use native.Mathlib.Omega.{arith}
use native.Mathlib.Nat.{add-zero, add-suc, add_assoc, pow-suc, pow-succ', sub-zero, div-one, mul-one, zero-mul, div-div-eq-div-mul, div-lt_iff_lt-mul, div-eq_of_lt}
use lib.Pow.{pow-add}
use lib.ListN.{length, get_or, take, drop, length-take}
use lib.Dec.{leb}
use lib.Seq.{get_or-take, get_or-drop, take_all, take_at, take-append_seam}
use borrow.Author.Tests.{leb-true, leb-false}
use Rattle.octets.specs.Numbers.{number_at, octets_of}
use Rattle.octets.proofs.Numbers.{at-past, halves, read_of, run, run_take}

-- a number in the front of a list
pub at_front_lem : (k n : ℕ) (s : List ℕ) (at : ℕ) → at + k ≤ n → number_at k (take n s) at ≡ number_at k s at
at_front_lem zero n s at h = refl
at_front_lem (suc k) n s at h =
    let i : at + k < n = omega arith in
    rw (at_front_lem k n s at (omega arith), get_or-take n s (at + k) 0 i)

-- in the first of two lists
pub at_first : (k : ℕ) (s t : List ℕ) (at : ℕ) → at + k ≤ length s → number_at k (s ++ t) at ≡ number_at k s at
at_first k s t at h = sym (at_front_lem k (length s) (s ++ t) at h) ∙ ap (λ l. number_at k l at) (take-append_seam s t)

-- in what is left of a list
pub at_rest_lem : (k from : ℕ) (s : List ℕ) (at : ℕ) → number_at k (drop from s) at ≡ number_at k s (from + at)
at_rest_lem zero from s at = refl
at_rest_lem (suc k) from s at = rw (at_rest_lem k from s at, get_or-drop from s (at + k) 0, add_assoc from at k)

-- the octets of a number are those of its high part and those of its low part
pub of-split : (j i v : ℕ) (rest : List ℕ) → octets_of (j + i) v rest ≡ octets_of j (v / 256 ^ i) (octets_of i v rest)
of-split j zero v rest = rw (add-zero, div-one)
of-split j (suc i) v rest = rw (add-suc, of-split j i (v / 256) (v % 256 ∷ rest), div-div-eq-div-mul v 256 (256 ^ i), ← pow-succ' 256 i)

-- no power of 256 is 0
pub power-some : (i : ℕ) → 0 < 256 ^ i
power-some zero = omega arith
power-some (suc i) = omega (arith, pow-suc 256 i, power-some i)

-- a number v of w octets stands at a place of s
module _ (w v at : ℕ) (s rest : List ℕ) (is : drop at s ≡ octets_of w v rest) (b : v < 256 ^ w) where
  -- its first octets
  pub high : (j i : ℕ) → j + i ≡ w → number_at j s at ≡ v / 256 ^ i
  high j i e =
      let here : number_at j s at ≡ number_at j (drop at s) 0 = sym (at_rest_lem j at s 0 ∙ ap (number_at j s) (add-zero at)) in
      let octets : drop at s ≡ octets_of j (v / 256 ^ i) (octets_of i v rest) = is ∙ ap (λ k. octets_of k v rest) (sym e) ∙ of-split j i v rest in
      let most : v < 256 ^ j * 256 ^ i = rw (← pow-add 256 j i, e) b in
      let small : v / 256 ^ i < 256 ^ j = (div-lt_iff_lt-mul (power-some i)).1 most in
      here ∙ ap (λ l. number_at j l 0) octets ∙ read_of j (v / 256 ^ i) (octets_of i v rest) small

  -- where s is cut behind n octets, the octets of v behind the cut are nought
  pub cut : (n : ℕ) → number_at w (take n s) at ≡ v / 256 ^ (w - (n - at)) * 256 ^ (w - (n - at))
  cut n = go (leb (at + w) n) refl (leb at n) refl
    where
      short : length (take n s) ≤ n
      short = omega (arith, length-take n s)

      go : (x : Bool) → leb (at + w) n ≡ x → (y : Bool) → leb at n ≡ y
          → number_at w (take n s) at ≡ v / 256 ^ (w - (n - at)) * 256 ^ (w - (n - at))
      go true e y f =
          let h : at + w ≤ n = leb-true (at + w) n e in
          let z : w - (n - at) ≡ 0 = omega arith in
          rw z (at_front_lem w n s at h ∙ high w 0 (add-zero w) ∙ sym (mul-one (v / 1)))
      go false e true f =
          let h : n < at + w = leb-false (at + w) n e in
          let k : at ≤ n = leb-true at n f in
          let j = n - at in
          let i = w - (n - at) in
          let sum : j + i ≡ w = omega arith in
          let front : number_at j (take n s) at ≡ v / 256 ^ i = at_front_lem j n s at (omega arith) ∙ high j i sum in
          let back : number_at i (take n s) (at + j) ≡ 0 = at-past i (take n s) (at + j) (omega (arith, short)) in
          ap (λ k. number_at k (take n s) at) (sym sum) ∙ halves j i (take n s) at ∙ rw (front, back) (add-zero (v / 256 ^ i * 256 ^ i))
      go false e false f =
          let h : n < at = leb-false at n f in
          let z : n - at ≡ 0 = omega arith in
          let none : v / 256 ^ w ≡ 0 = div-eq_of_lt b in
          rw (z, sub-zero) (at-past w (take n s) at (omega (arith, short)) ∙ sym (ap (λ x. x * 256 ^ w) none ∙ zero-mul (256 ^ w)))

-- octets read one by one past the end of a list, cut at its end, are the list
pub front-run : (n j : ℕ) (s rest : List ℕ) → length s ≡ n → take n (run (n + j) s 0 rest) ≡ s
front-run n zero s rest e =
    rw (add-zero, run_take n s rest (omega arith), take_all n s (omega arith)) (take_at s rest n e)
front-run n (suc j) s rest e = rw add-suc (front-run n j s (get_or s (0 + (n + j)) 0 ∷ rest) e)
