-- The entries judged on the way to the one that a search found.
-- Assumes nothing.
use Rattle.std.specs.Prelude.{ℕ, zero, suc, ◌+◌, ◌-◌, ◌/◌, Bool, false, cond, ltb, leb}

-- of n candidates those on the way to place p are judged, and the one there; at most k of them are halved
unfoldable pub judged_by : ℕ → (ℕ → Bool) → ℕ → ℕ → ℕ → Bool
judged_by zero fits p first n = fits first
judged_by (suc k) fits p first n =
    cond (ltb n 2) (fits first)
    (cond (fits (first + n / 2))
    (cond (leb (first + n / 2) p) (judged_by k fits p (first + n / 2) (n - n / 2)) (judged_by k fits p first (n / 2)))
    false)

unfoldable pub judged_of : (ℕ → Bool) → ℕ → ℕ → ℕ → Bool
judged_of fits p first n = judged_by n fits p first n
