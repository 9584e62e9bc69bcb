-- What 26 says of the four places for conditions, in the words of the rules paper: a field out of its range or dated above the clock, and
-- two standing conditions of one key. A place of type 0 holds no condition, and nothing is asked of it.
-- Assumes nothing.
use Rattle.std.specs.Prelude.{ℕ, zero, suc, ◌+◌, ◌*◌, ◌<◌, ◌≡◌}
use Rattle.rules.specs.OneKey.{OneKey}
use Rattle.conditions.specs.declared.Condition.{Condition}
use Rattle.conditions.specs.declared.Conditions.{Conditions}

-- the i-th of the four places, counted from 0
abbrev pub place_at : Conditions → ℕ → Condition
place_at cs zero = cs.first
place_at cs (suc zero) = cs.second
place_at cs (suc (suc zero)) = cs.third
place_at cs (suc (suc (suc i))) = cs.fourth

-- type 1 or 2, the marks for an IF_ID, for a Global_ID and for L 0 or 1, refresh 1 to 20, dated no later than the clock
pub data OutOfRange (c : Condition) (clock : ℕ) : Type 0 where
  kind_above : 2 < c.key.kind → OutOfRange c clock
  present_mark : 1 < c.key.present → OutOfRange c clock
  carrier_mark : 1 < c.key.carrier → OutOfRange c clock
  link_flag : 1 < c.linkdown → OutOfRange c clock
  no_refresh : c.refresh ≡ 0 → OutOfRange c clock
  refresh_above : 20 < c.refresh → OutOfRange c clock
  dated_above : clock < c.at → OutOfRange c clock

-- a place that holds a condition with such a field, whether the condition stands or has lapsed
pub record UnsoundPlace (c : Condition) (clock : ℕ) : Type 0 where
  pub held : c.key.kind ≡ 0 → ⊥
  pub wrong : OutOfRange c clock

-- a place whose condition stands: its last message came less than 3,500,000 times its refresh before the clock
pub record StandsAt (c : Condition) (clock : ℕ) : Type 0 where
  pub held : c.key.kind ≡ 0 → ⊥
  pub young : clock < c.at + 3500000 * c.refresh

pub record TwoOfOneKey (a b : Condition) (clock : ℕ) : Type 0 where
  pub one : StandsAt a clock
  pub other : StandsAt b clock
  pub key : OneKey a.key b.key

pub data UnsoundConditions (cs : Conditions) (clock : ℕ) : Type 0 where
  place_wrong : (i : ℕ) → i < 4 → UnsoundPlace (place_at cs i) clock → UnsoundConditions cs clock
  key_twice : (i j : ℕ) → i < j → j < 4 → TwoOfOneKey (place_at cs i) (place_at cs j) clock → UnsoundConditions cs clock
