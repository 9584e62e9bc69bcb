-- The four places for fault conditions in a session's record, and which of them stand.
-- Assumes nothing.
use Rattle.std.specs.Prelude.{ℕ, ◌+◌, Bool, not, ◌&&◌, ◌||◌, eqb}
use Rattle.octets.specs.Choice.{bit_of}
use Rattle.rules.specs.declared.Settings.{Settings}
use Rattle.rules.specs.Times.{within, lifetime}
use Rattle.rules.specs.Conditions.{follows_with}
use Rattle.conditions.specs.declared.Condition.{Condition}
use Rattle.conditions.specs.declared.Conditions.{Conditions}

-- a place holds a condition unless its key has type 0
abbrev pub filled : Condition → Bool
filled c = not (eqb c.key.kind 0)

-- its last message came less than 3,500,000 times its refresh before now
unfoldable pub fresh : Condition → ℕ → Bool
fresh c now = within c.at (lifetime c.refresh) now

unfoldable pub place_stands : Condition → ℕ → Bool
place_stands c now = filled c && fresh c now

-- the number of conditions that stand
unfoldable pub count_at : Conditions → ℕ → ℕ
count_at cs now =
    bit_of (place_stands cs.first now) + bit_of (place_stands cs.second now) + bit_of (place_stands cs.third now) + bit_of (place_stands cs.fourth now)

-- a condition that stands and that a session with these two marks follows (for AIS, its latest message had L)
unfoldable pub followed_with : ℕ → ℕ → Condition → ℕ → Bool
followed_with link lock c now = place_stands c now && follows_with link lock c.key.kind (eqb c.linkdown 1)

unfoldable pub any_followed_with : ℕ → ℕ → Conditions → ℕ → Bool
any_followed_with link lock cs now =
    followed_with link lock cs.first now || followed_with link lock cs.second now || followed_with link lock cs.third now || followed_with link lock cs.fourth now

-- by the settings of a session
abbrev pub followed_at : Settings → Condition → ℕ → Bool
followed_at s c now = followed_with s.followlink s.followlock c now

abbrev pub any_followed : Settings → Conditions → ℕ → Bool
any_followed s cs now = any_followed_with s.followlink s.followlock cs now

-- the code's own first question: a place is filled with what is followed, whatever its date
abbrev pub marked_with : ℕ → ℕ → Condition → Bool
marked_with link lock c = filled c && follows_with link lock c.key.kind (eqb c.linkdown 1)

unfoldable pub any_marked_with : ℕ → ℕ → Conditions → Bool
any_marked_with link lock cs =
    marked_with link lock cs.first || marked_with link lock cs.second || marked_with link lock cs.third || marked_with link lock cs.fourth
