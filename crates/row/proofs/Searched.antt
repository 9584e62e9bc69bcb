-- A search through a row, the set of occupied places halved at each record, over any test of a record: the place of the first hit, or the row's
-- length. What is left of the row goes on as the whole began.
--     hit-here, hit_later      at a record: it is the first hit, or the first hit is behind it
--     at-end                   where no place or no record is left there is none
--     no_more                  behind the last record there is no more to look at
-- Assumes nothing.
use mathlib.Core.Path.{◌≡◌, refl, sym, ap, ◌∙◌}
use mathlib.Core.Bool.{Bool, true, false, not, cond, ◌&&◌}
use Prim.Native.Nat.{ℕ, suc, ◌<◌, ◌≤◌, ◌+◌, ◌/◌}
use mathlib.Core.List.{List, [], ◌∷◌}
use native.Mathlib.Omega.{arith}
use native.Mathlib.Numerals.{add-one}
use lib.Dec.{eqb, ltb}
use lib.ListN.{length, get_or, drop, length-drop}
use lib.Seq.{drop-cons}
use borrow.Author.Tests.{eqb-true, ltb-true, ltb-false}

-- there is an occupied place from here on, and a record at this one
abbrev pub more_of : ℕ → ℕ → ℕ → Bool
more_of set i n = not (eqb set 0) && ltb i n

no_record : (a : Bool) → a && false ≡ false
no_record true = refl
no_record false = refl

both : (a b : Bool) → a && b ≡ true → b ≡ true
both true b e = e
both false b e = cc

pub within : (set i n : ℕ) → more_of set i n ≡ true → i < n
within set i n e = ltb-true i n (both (not (eqb set 0)) (ltb i n) e)

pub no_more : (set i n : ℕ) → ltb i n ≡ false → more_of set i n ≡ false
no_more set i n e = ap (λ (t : Bool). not (eqb set 0) && t) e ∙ no_record (not (eqb set 0))

-- one of the two has failed
by-test : {C : Type 0} (set i n : ℕ) (a : Bool) → a ≡ eqb set 0 → not a && ltb i n ≡ false → (set ≡ 0 → C) → (n ≤ i → C) → C
by-test set i n true f e j k = j (eqb-true set 0 (sym f))
by-test set i n false f e j k = k (ltb-false i n e)

pub none_more : {C : Type 0} (set i n : ℕ) → more_of set i n ≡ false → (set ≡ 0 → C) → (n ≤ i → C) → C
none_more set i n e j k = by-test set i n (eqb set 0) refl e j k

module _ {R : Type 0} (past : R) (hit : ℕ → R → Bool) (first : ℕ → List R → ℕ)
    (nil : (set : ℕ) → first set [] ≡ 0) (cons : (set : ℕ) (r : R) (rs : List R) → first set (r ∷ rs) ≡ cond (hit set r) 0 (suc (first (set / 2) rs)))
    (void : (r : R) → hit 0 r ≡ false) where
  -- no place is left: the answer is behind the records
  none_left : (rs : List R) → first 0 rs ≡ length rs
  none_left [] = nil 0
  none_left (r ∷ rs) = cons 0 r rs ∙ ap (λ (t : Bool). cond t 0 (suc (first 0 rs))) (void r) ∙ ap suc (none_left rs)

  none-there : (set : ℕ) (rs : List R) → length rs ≡ 0 → first set rs ≡ 0
  none-there set [] z = nil set
  none-there set (r ∷ rs) z = absurd (omega arith)

  module _ (ys : List R) (set i : ℕ) where
    -- from this record on
    from-here : i < length ys → first set (drop i ys) ≡ cond (hit set (get_or ys i past)) 0 (suc (first (set / 2) (drop (suc i) ys)))
    from-here k = ap (first set) (drop-cons ys i past k) ∙ cons set (get_or ys i past) (drop (suc i) ys)

    pub hit-here : i < length ys → hit set (get_or ys i past) ≡ true → i + first set (drop i ys) ≡ i
    hit-here k e = let f = from-here k ∙ ap (λ (t : Bool). cond t 0 (suc (first (set / 2) (drop (suc i) ys)))) e in omega (arith, f)

    pub hit_later : i < length ys → hit set (get_or ys i past) ≡ false → i + first set (drop i ys) ≡ (i + 1) + first (set / 2) (drop (i + 1) ys)
    hit_later k e =
        let f = from-here k ∙ ap (λ (t : Bool). cond t 0 (suc (first (set / 2) (drop (suc i) ys)))) e in
        let g = ap (λ (n : ℕ). first (set / 2) (drop n ys)) (add-one i) in
        omega (arith, f, g)

    pub at-end : i ≤ length ys → more_of set i (length ys) ≡ false → i + first set (drop i ys) ≡ length ys
    at-end k e =
        none_more set i (length ys) e
        (λ z. let f = ap (λ (s : ℕ). first s (drop i ys)) z ∙ none_left (drop i ys) in omega (arith, f, length-drop i ys, k))
        (λ z. let f = none-there set (drop i ys) (omega (arith, length-drop i ys, z)) in omega (arith, f, z, k))
