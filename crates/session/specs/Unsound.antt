-- What 26 says of one open record at a clock, in the words of the rules paper: a field out of its range or dated above the clock, two
-- standing conditions of one key, INIT or UP with no remote discriminator; a group with labels equal or of two parties.
-- Assumes nothing.
use Rattle.std.specs.Prelude.{ℕ, ◌<◌, ◌≡◌, ◌⊎◌}
use Rattle.rules.specs.Unfit.{Unfit}
use Rattle.homing.specs.Unfit.{UnfitGroup}
use Rattle.conditions.specs.Unsound.{UnsoundConditions}
use Rattle.session.specs.declared.Session.{Session}

-- the state is 0 to 3 as the paper has them, 2 INIT and 3 UP, and 4 for DOWN by a received state; a crossing has a date where its mark
-- is set, and no remote discriminator is 0
pub data UnsoundSession (r : Session) (clock : ℕ) : Type 0 where
  settings_unfit : Unfit r.settings → UnsoundSession r clock
  state_above : 4 < r.state → UnsoundSession r clock
  no_multiplier : r.peer.multiplier ≡ 0 → UnsoundSession r clock
  diagnostic_above : 31 < r.peer.diagnostic → UnsoundSession r clock
  owed_mark : 1 < r.peer.owed → UnsoundSession r clock
  crossing_mark : 1 < r.crossing → UnsoundSession r clock
  timed_above : clock < r.timed → UnsoundSession r clock
  crossed_above : (r.crossing ≡ 0 → ⊥) → clock < r.crossed → UnsoundSession r clock
  conditions_unsound : UnsoundConditions r.conditions clock → UnsoundSession r clock
  no_remote : (r.state ≡ 2) ⊎ (r.state ≡ 3) → r.peer.remote ≡ 0 → UnsoundSession r clock
  group_unfit : UnfitGroup r.settings.label r.group → UnsoundSession r clock
