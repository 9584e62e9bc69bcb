-- "Unknown entries are passed over whole": two lists that differ inside an entry that is passed over and nowhere else.
-- Assumes nothing.
use Rattle.std.specs.Prelude.{ℕ, suc, ◌+◌, ◌≤◌, ◌≡◌, List, ◌++◌, length}
use Rattle.octets.specs.Numbers.{number_at}
use Rattle.configuration.specs.Entries.{size_of, padded_size}

-- a type that is none of the four to its holder: unknown, or BFD Authentication, of which the length alone is looked at
pub record PassedOver (levels kind : ℕ) : Type 0 where
  pub functions : levels ≡ 3 → kind ≡ 16 → ⊥
  pub configuration : levels ≡ 2 → kind ≡ 1 → ⊥
  pub discriminator : levels ≡ 1 → kind ≡ 1 → ⊥
  pub timers : levels ≡ 1 → kind ≡ 2 → ⊥

-- two lists with so many levels left
pub data Changed : ℕ → List ℕ → List ℕ → Type 0 where
  -- behind type and length h of such an entry, octets v of its value and padding are changed to w; t stands behind them
  value : {l : ℕ} (h v w t : List ℕ) → length h ≡ 4 → PassedOver l (number_at 2 h 0) → 4 + length v ≤ padded_size (size_of h) → length w ≡ length v
      → Changed l (h ++ (v ++ t)) (h ++ (w ++ t))
  -- an entry x, whole, stands before the change
  behind : {l : ℕ} (x : List ℕ) {xs ys : List ℕ} → length x ≡ padded_size (size_of x) → Changed l xs ys → Changed l (x ++ xs) (x ++ ys)
  -- the change is in the list behind type, length and flags h of an entry; t stands behind the list
  inside : {l : ℕ} (h : List ℕ) {xs ys : List ℕ} (t : List ℕ) → length h ≡ 8 → size_of h ≡ 4 + length xs → length ys ≡ length xs → Changed l xs ys
      → Changed (suc l) (h ++ (xs ++ t)) (h ++ (ys ++ t))
