-- 26 for one record at a clock, as the code tests it. What 26 means is said in Unsound, and the test is proved to fail exactly there.
-- Assumes nothing.
use Rattle.std.specs.Prelude.{ℕ, ◌^◌, ◌<◌, Bool, not, ◌&&◌, ◌||◌, leb, eqb}
use Rattle.cv.specs.MepId.{MepSized}
use Rattle.rules.specs.States.{is_coming_up, state_of}
use Rattle.rules.specs.Settings.{settings_fit}
use Rattle.homing.specs.Fitting.{group_fits}
use Rattle.conditions.specs.Soundness.{conditions_sound}
use Rattle.session.specs.declared.Session.{Session}

-- each number in its range
abbrev pub numbers_fit : ℕ → ℕ → ℕ → ℕ → ℕ → Bool
numbers_fit state multiplier diagnostic owed crossing =
    leb state 4 && leb 1 multiplier && leb diagnostic 31 && leb owed 1 && leb crossing 1

-- no date above the clock; there is no crossing's date where the mark is not set
abbrev pub dates_fit : ℕ → ℕ → ℕ → ℕ → Bool
dates_fit timed crossing crossed clock = leb timed clock && (eqb crossing 0 || leb crossed clock)

-- INIT and UP need a remote discriminator
abbrev pub remote_fits : ℕ → ℕ → Bool
remote_fits state remote = not (is_coming_up (state_of state)) || not (eqb remote 0)

-- what the record holds besides settings and conditions
unfoldable pub own_fits : Session → ℕ → Bool
own_fits s clock =
    numbers_fit s.state s.peer.multiplier s.peer.diagnostic s.peer.owed s.crossing
    && dates_fit s.timed s.crossing s.crossed clock
    && remote_fits s.state s.peer.remote

-- all that is asked of a record but of its group
unfoldable pub ungrouped_sound : Session → ℕ → Bool
ungrouped_sound s clock = settings_fit s.settings && own_fits s clock && conditions_sound s.conditions clock

unfoldable pub session_sound : Session → ℕ → Bool
session_sound s clock = ungrouped_sound s clock && group_fits s.settings.label s.group

-- the same in the order of the code: what every record is asked, and what a crossing is asked besides
abbrev pub plain_fit : ℕ → ℕ → ℕ → ℕ → Bool
plain_fit state multiplier diagnostic owed = leb state 4 && leb 1 multiplier && leb diagnostic 31 && leb owed 1

abbrev pub crossing_fits : ℕ → ℕ → ℕ → Bool
crossing_fits crossing crossed clock = leb crossing 1 && (eqb crossing 0 || leb crossed clock)

-- no crossing, no group and no condition
abbrev pub calm : ℕ → ℕ → ℕ → ℕ → ℕ → ℕ → Bool
calm crossing group first second third fourth =
    eqb crossing 0 && (eqb group 0 && (eqb first 0 && eqb second 0 && eqb third 0 && eqb fourth 0))

unfoldable pub own_plain : Session → ℕ → Bool
own_plain s clock =
    plain_fit s.state s.peer.multiplier s.peer.diagnostic s.peer.owed
    && leb s.timed clock
    && remote_fits s.state s.peer.remote

-- the numbers that go out in messages are those that the code's types hold
pub record Held (s : Session) : Type 0 where
  pub discriminator : s.settings.discriminator < 256 ^ 4
  pub remote : s.peer.remote < 256 ^ 4
  pub own : MepSized s.settings.own
