-- Tests over lists.
-- Assumes nothing.
use Rattle.std.specs.Prelude.{Bool, true, false, cond, not, ◌&&◌, ◌||◌, List, [], ◌∷◌}

module _ {A : Type 0} where
  -- some element passes the test
  unfoldable pub any : (A → Bool) → List A → Bool
  any p [] = false
  any p (x ∷ xs) = p x || any p xs

  -- the elements that pass the test
  unfoldable pub only : (A → Bool) → List A → List A
  only p [] = []
  only p (x ∷ xs) = cond (p x) (x ∷ only p xs) (only p xs)

  -- no two elements are the same
  unfoldable pub once : (A → A → Bool) → List A → Bool
  once same [] = true
  once same (x ∷ xs) = not (any (same x) xs) && once same xs

  -- the list without its first element that is the same as k
  unfoldable pub without : (A → A → Bool) → A → List A → List A
  without same k [] = []
  without same k (x ∷ xs) = cond (same k x) xs (x ∷ without same k xs)
