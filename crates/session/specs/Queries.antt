-- What a session's record shows at a clock.
-- Assumes nothing.
use Rattle.std.specs.Prelude.{ℕ, Bool, false, cond, not, ◌&&◌, ◌||◌, List, eqb}
use Rattle.bfd.specs.declared.Packet.{Packet}
use Rattle.bfd.specs.Octets.{cc_octets}
use Rattle.cv.specs.declared.CvOctets.{CvOctets}
use Rattle.cv.specs.Cv.{cv_octets, cv_size, cv_whole}
use Rattle.rules.specs.declared.State.{State}
use Rattle.rules.specs.declared.Input.TheVariants.{Timer}
use Rattle.rules.specs.Times.{past, within, detection_time, crossing_time}
use Rattle.rules.specs.States.{is_locked, down_by_neighbor, state_of}
use Rattle.rules.specs.Modes.{mode_in, moved_in, is_source_up, is_coordinated, required_interval}
use Rattle.rules.specs.Diagnostics.{remote_defect, diagnostic_of, report_of, packet_out}
use Rattle.homing.specs.declared.Group.{Group}
use Rattle.homing.specs.Groups.{fallen}
use Rattle.conditions.specs.Standing.{count_at, any_followed}
use Rattle.session.specs.declared.Session.{Session}
use Rattle.rules.specs.declared.Report.{Report}

abbrev pub locked_in : Session → Bool
locked_in s = is_locked (state_of s.state)

-- a source in UP
abbrev pub source_up_in : Session → Bool
source_up_in s = is_source_up (mode_in s.settings) (state_of s.state)

-- loss: not locked, no source in UP, and more than period times multiplier since the date that the session is timed from
unfoldable pub loss_at : Session → ℕ → Bool
loss_at s now = not (locked_in s) && (not (source_up_in s) && past s.timed (detection_time s.settings.period s.peer.multiplier) now)

-- crossing: a crossed message less than 3,500,000 before now
unfoldable pub crossing_at : Session → ℕ → Bool
crossing_at s now = eqb s.crossing 1 && within s.crossed crossing_time now

-- a crossing stands, or a condition that the session follows
unfoldable pub defect_at : Session → ℕ → Bool
defect_at s now = crossing_at s now || any_followed s.settings s.conditions now

-- held down: a coordinated session while one of these stands
unfoldable pub held_at : Session → ℕ → Bool
held_at s now = is_coordinated (mode_in s.settings) && defect_at s now

-- the state after TIMER, which a session with a loss has been given at the latest now
unfoldable pub state_at : Session → ℕ → State
state_at s now = cond (loss_at s now) (moved_in (mode_in s.settings) (state_of s.state) Timer) (state_of s.state)

-- the group after that: at a loss a working PE has made its PW standby
unfoldable pub group_at : Session → ℕ → Group
group_at s now = fallen (loss_at s now) s.group

-- the report at a clock
unfoldable pub report_at : Session → ℕ → Report
report_at s now =
    report_of (state_at s now) (crossing_at s now) (loss_at s now) (remote_defect (locked_in s) (loss_at s now) s.peer.diagnostic) (count_at s.conditions now)

-- the diagnostic to write
unfoldable pub diagnostic_at : Session → ℕ → ℕ
diagnostic_at s now =
    diagnostic_of (locked_in s) (crossing_at s now) (any_followed s.settings s.conditions now) (loss_at s now) (down_by_neighbor (state_at s now))

-- the packet to write
unfoldable pub packet_at : Session → ℕ → Bool → Packet
packet_at s now fin =
    packet_out (diagnostic_at s now) (state_at s now) fin s.settings.discriminator s.peer.remote s.settings.period
    (required_interval (mode_in s.settings) s.settings.period)

-- a CC carries F when a reply is owed; a CV never does, and carries the session's own MEP-ID
unfoldable pub cc_octets_at : Session → ℕ → List ℕ
cc_octets_at s now = cc_octets (packet_at s now (eqb s.peer.owed 1))

unfoldable pub cv_octets_at : Session → ℕ → List ℕ
cv_octets_at s now = cv_octets (packet_at s now false) s.settings.own

-- how many octets its CV has, by its own MEP-ID: 44, or 46 to 78
abbrev pub cv_size_of : Session → ℕ
cv_size_of s = cv_size s.settings.own

-- the CV as the code holds it
unfoldable pub cv_whole_at : Session → ℕ → CvOctets
cv_whole_at s now = cv_whole (packet_at s now false) s.settings.own
