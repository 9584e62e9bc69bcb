-- A search that halves the candidates. There are n, from the place `first` on, and the first is known to serve. Of n the one n / 2, rounded down, past the
-- first is looked at: where its clock is not later than `at` the search goes on from it, else before it. Where one is left, that is the one.
-- Assumes nothing.
use Rattle.std.specs.Prelude.{ℕ, zero, suc, ◌+◌, ◌-◌, ◌/◌, List, [], ◌∷◌, cond, get_or, ltb, leb}
use Rattle.halving.specs.declared.Found.{Found}

-- one entry more was looked at
abbrev pub looking : Found → Found
looking r = record { place = r.place; looked = r.looked + 1 }

-- at most k entries are looked at
unfoldable pub halving : ℕ → List ℕ → ℕ → ℕ → ℕ → Found
halving zero clocks at first n = record { place = first; looked = 0 }
halving (suc k) clocks at first n =
    cond (ltb n 2) (record { place = first; looked = 0 })
    (cond (leb (get_or clocks (first + n / 2) 0) at)
    (looking (halving k clocks at (first + n / 2) (n - n / 2)))
    (looking (halving k clocks at first (n / 2))))

-- n candidates are halved fewer than n times
unfoldable pub found : List ℕ → ℕ → ℕ → ℕ → Found
found clocks at first n = halving n clocks at first n

-- the places that are looked at, one behind the other
unfoldable pub looks_of : ℕ → List ℕ → ℕ → ℕ → ℕ → List ℕ
looks_of zero clocks at first n = []
looks_of (suc k) clocks at first n =
    cond (ltb n 2) []
    (cond (leb (get_or clocks (first + n / 2) 0) at)
    ((first + n / 2) ∷ looks_of k clocks at (first + n / 2) (n - n / 2))
    ((first + n / 2) ∷ looks_of k clocks at first (n / 2)))

unfoldable pub looks : List ℕ → ℕ → ℕ → ℕ → List ℕ
looks clocks at first n = looks_of n clocks at first n
