-- Octets put one behind the other into a lent buffer. This is what the code is proved to do.
-- Assumes nothing.
use Rattle.std.specs.Prelude.{ℕ, ◌+◌, cond, List, [], ◌∷◌, ltb, length, set}

-- a buffer, and the place behind what was put into it
pub record Put : Type 0 where
  pub buffer : List ℕ
  pub at : ℕ

-- one octet more; at the buffer's end nothing is put
unfoldable pub pushed : Put → ℕ → Put
pushed p b = cond (ltb p.at (length p.buffer)) (record { buffer = set p.buffer p.at b; at = p.at + 1 }) p

unfoldable pub typed : Put → List ℕ → Put
typed p [] = p
typed p (b ∷ bs) = typed (pushed p b) bs
