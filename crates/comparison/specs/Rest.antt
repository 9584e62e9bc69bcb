-- What is left of the first of two captures from its first record that differs.
-- Assumes nothing.
use Rattle.std.specs.Prelude.{ℕ, ◌+◌, Bool, cond, ◌||◌, List, [], ◌∷◌, eqb, length, drop}
use Rattle.capture.specs.Raws.{Raw}
use Rattle.comparison.specs.Differences.{fields_of, records_of, bad_capture}

-- no field differs
abbrev pub alike : Raw → Raw → Bool
alike a b = eqb (length (fields_of a b)) 0

-- the octets of the first one's records before the first that differs; an extra one differs
unfoldable pub agreeing : List Raw → List Raw → ℕ
agreeing [] ys = 0
agreeing (x ∷ xs) [] = 0
agreeing (x ∷ xs) (y ∷ ys) = cond (alike x y) (16 + x.size + agreeing xs ys) 0

-- where in the first that record begins, behind the header; its end, where there is none or one of the two captures is bad
unfoldable pub rest_place : List ℕ → List ℕ → ℕ
rest_place first second = cond (bad_capture first || bad_capture second) (length first) (8 + agreeing (records_of first) (records_of second))

unfoldable pub rest_of : List ℕ → List ℕ → List ℕ
rest_of first second = drop (rest_place first second) first
