-- Clock readings and how long things stand, in microseconds ("How long each thing stands").
-- Assumes nothing.
use Rattle.std.specs.Prelude.{ℕ, ◌+◌, ◌*◌, Bool, ◌||◌, ltb}

-- the greatest reading
abbrev pub latest : ℕ
latest = 9223372036854775807

-- refusal 1: a reading below the clock, or above the greatest
unfoldable pub late : ℕ → ℕ → Bool
late clock reading = ltb reading clock || ltb latest reading

-- more than `span` has gone since `at`: what a loss needs
unfoldable pub past : ℕ → ℕ → ℕ → Bool
past at span now = ltb (at + span) now

-- less than `span` has gone since `at`: what a crossing and a condition need
unfoldable pub within : ℕ → ℕ → ℕ → Bool
within at span now = ltb now (at + span)

-- detection time: period times multiplier
abbrev pub detection_time : ℕ → ℕ → ℕ
detection_time period multiplier = period * multiplier

-- how long a crossing stands
abbrev pub crossing_time : ℕ
crossing_time = 3500000

-- how long a condition stands: 3,500,000 times its refresh, which is in seconds
abbrev pub lifetime : ℕ → ℕ
lifetime refresh = 3500000 * refresh
