-- What the mode of a session decides: coordinated, or of two independent sessions the source or the sink (RFC 6428, 3.7.5, Figures 8 and 9).
-- Assumes nothing.
use Rattle.std.specs.Prelude.{ℕ, Bool, true, false, cond, not, ◌&&◌, eqb, ltb}
use Rattle.rules.specs.declared.Mode.{Mode}
use Rattle.rules.specs.declared.Mode.TheVariants.{Coordinated, Source, Sink}
use Rattle.rules.specs.declared.State.{State}
use Rattle.rules.specs.declared.State.TheVariants.{AdminDown, Down, NeighborDown, Init, Up}
use Rattle.rules.specs.declared.Input.{Input}
use Rattle.rules.specs.declared.Input.TheVariants.{GotAdminDown, GotDown, GotInit, GotUp, Timer, LinkDown, LockReport, Crossed}
use Rattle.rules.specs.declared.Settings.{Settings}
use Rattle.rules.specs.States.{moved, is_locked, state_of}

-- the mode's number in the settings: 0 coordinated, 1 source, 2 sink; any other does not fit
abbrev pub mode_fits : ℕ → Bool
mode_fits mode = ltb mode 3

abbrev pub mode_of : ℕ → Mode
mode_of mode = cond (eqb mode 0) Coordinated (cond (eqb mode 1) Source Sink)

abbrev pub mode_in : Settings → Mode
mode_in g = mode_of g.mode

-- a source in UP takes every input but a received ADMIN DOWN for a received UP, which leaves it there
abbrev pub source_up_input : Input → Input
source_up_input GotAdminDown = GotAdminDown
source_up_input GotDown = GotUp
source_up_input GotInit = GotUp
source_up_input GotUp = GotUp
source_up_input Timer = GotUp
source_up_input LinkDown = GotUp
source_up_input LockReport = GotUp
source_up_input Crossed = GotUp

-- elsewhere it takes each for what it is
abbrev pub source_input : State → Input → Input
source_input AdminDown input = input
source_input Down input = input
source_input NeighborDown input = input
source_input Init input = input
source_input Up input = source_up_input input

-- a sink takes a received UP for a received INIT: either leads it from DOWN to UP
abbrev pub sink_input : Input → Input
sink_input GotAdminDown = GotAdminDown
sink_input GotDown = GotDown
sink_input GotInit = GotInit
sink_input GotUp = GotInit
sink_input Timer = Timer
sink_input LinkDown = LinkDown
sink_input LockReport = LockReport
sink_input Crossed = Crossed

-- what an input is to a session of the mode
abbrev pub input_in : Mode → State → Input → Input
input_in Coordinated from input = input
input_in Source from input = source_input from input
input_in Sink from input = sink_input input

-- the moving table of each mode is the coordinated one over these inputs. That it is the figure of the mode as drawn is proved
abbrev pub moved_in : Mode → State → Input → State
moved_in mode from input = moved from (input_in mode from input)

-- a source in UP, which has no loss
abbrev pub is_source_up : Mode → State → Bool
is_source_up Coordinated state = false
is_source_up Source AdminDown = false
is_source_up Source Down = false
is_source_up Source NeighborDown = false
is_source_up Source Init = false
is_source_up Source Up = true
is_source_up Sink state = false

-- what a loss needs beside its dates, of the numbers in a record: not locked, and no source in UP
abbrev pub exposed : ℕ → ℕ → Bool
exposed mode state = not (is_locked (state_of state)) && not (is_source_up (mode_of mode) (state_of state))

-- a crossing or a followed condition holds a coordinated session down, and no other
abbrev pub is_coordinated : Mode → Bool
is_coordinated Coordinated = true
is_coordinated Source = false
is_coordinated Sink = false

-- the required receive interval that is written: a source asks for no messages, the others for one a period
abbrev pub required_interval : Mode → ℕ → ℕ
required_interval Coordinated period = period
required_interval Source period = 0
required_interval Sink period = period
