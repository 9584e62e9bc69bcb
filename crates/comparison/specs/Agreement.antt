-- What the rest of the first capture is, for two captures that are not bad.
-- Assumes nothing.
use Rattle.std.specs.Prelude.{ℕ, suc, ◌+◌, ◌/◌, ◌%◌, ◌<◌, ◌≡◌, Bool, true, false, cond, ◌&&◌, List, [], ◌∷◌, ◌++◌, eqb, length, take, drop}
use Rattle.capture.specs.Raws.{Raw, raws_in}
use Rattle.comparison.specs.Differences.{records_of, bad_capture, list_of}
use Rattle.comparison.specs.Rest.{alike, rest_place, rest_of}

-- how many records agree before the first that differs, an extra one counting
unfoldable pub agreed : List Raw → List Raw → ℕ
agreed [] ys = 0
agreed (x ∷ xs) [] = 0
agreed (x ∷ xs) (y ∷ ys) = cond (alike x y) (suc (agreed xs ys)) 0

-- the record number of a list's first entry
abbrev pub first_number : List ℕ → ℕ
first_number [] = 0
first_number (e ∷ l) = e / 8

-- nothing is listed, or only records that the second has behind all of the first
abbrev pub only_second : List ℕ → Bool
only_second [] = true
only_second (e ∷ l) = eqb (e % 8) 6 && only_second l

abbrev pub count : List ℕ → List ℕ → ℕ
count first second = agreed (records_of first) (records_of second)

pub record RestIs (first second : List ℕ) : Type 0 where
  -- the part before the rest and the rest are the first capture
  pub octets : take (rest_place first second) first ++ rest_of first second ≡ first
  -- that part is a capture itself, of the header and the first records
  pub front-good : bad_capture (take (rest_place first second) first) ≡ false
  pub front : records_of (take (rest_place first second) first) ≡ take (count first second) (records_of first)
  -- which agree with those of the second in every field
  pub same : take (count first second) (records_of first) ≡ take (count first second) (records_of second)
  -- the rest has the others, and nothing is left behind them
  pub behind : raws_in 16 (rest_of first second) ≡ record { raws = drop (count first second) (records_of first); rest = [] }
  -- where there is a rest, it begins with the record of the first entry
  pub next : 0 < length (rest_of first second) → first_number (list_of first second) ≡ count first second + 1
  -- there is none exactly if nothing is listed, or only that the second is longer
  pub none : eqb (length (rest_of first second)) 0 ≡ only_second (list_of first second)
