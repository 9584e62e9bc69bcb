-- The part of a log that is at hand: from a place on, as many octets as 256 records can take.
-- Assumes nothing.
use Rattle.std.specs.Prelude.{ℕ, List, take, drop}

-- 256 records of 18 + 2,048 octets
abbrev pub window_size : ℕ
window_size = 528896

abbrev pub window_of : List ℕ → ℕ → List ℕ
window_of log place = take window_size (drop place log)
