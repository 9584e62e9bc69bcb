-- How a coordinated session moves (RFC 6428, Figure 7): one table over state and input; and what a state is in numbers. How a source and a sink
-- differ from it is in `Modes`.
-- Assumes nothing.
use Rattle.std.specs.Prelude.{ℕ, Bool, true, false, cond, eqb}
use Rattle.rules.specs.declared.State.{State}
use Rattle.rules.specs.declared.State.TheVariants.{AdminDown, Down, NeighborDown, Init, Up}
use Rattle.rules.specs.declared.Input.{Input}
use Rattle.rules.specs.declared.Input.TheVariants.{GotAdminDown, GotDown, GotInit, GotUp, Timer, LinkDown, LockReport, Crossed}

-- from DOWN, a line for each input
abbrev pub from_down : Input → State
from_down GotDown = Init
from_down GotInit = Up
from_down GotUp = Down
from_down GotAdminDown = Down
from_down Timer = Down
from_down LinkDown = Down
from_down LockReport = Down
from_down Crossed = Down

-- from DOWN by a received state: as from DOWN, and until the session leaves DOWN that is remembered (diagnostic 3)
abbrev pub from_neighbor_down : Input → State
from_neighbor_down GotDown = Init
from_neighbor_down GotInit = Up
from_neighbor_down GotUp = NeighborDown
from_neighbor_down GotAdminDown = NeighborDown
from_neighbor_down Timer = NeighborDown
from_neighbor_down LinkDown = NeighborDown
from_neighbor_down LockReport = NeighborDown
from_neighbor_down Crossed = NeighborDown

abbrev pub from_init : Input → State
from_init GotDown = Init
from_init GotInit = Up
from_init GotUp = Up
from_init GotAdminDown = NeighborDown
from_init Timer = Down
from_init LinkDown = Down
from_init LockReport = Down
from_init Crossed = Down

abbrev pub from_up : Input → State
from_up GotDown = NeighborDown
from_up GotInit = Up
from_up GotUp = Up
from_up GotAdminDown = NeighborDown
from_up Timer = Down
from_up LinkDown = Down
from_up LockReport = Down
from_up Crossed = Down

-- the moving table of a coordinated session; nothing moves a locked session
abbrev pub moved : State → Input → State
moved AdminDown input = AdminDown
moved Down input = from_down input
moved NeighborDown input = from_neighbor_down input
moved Init input = from_init input
moved Up input = from_up input

-- the state of a heard CC, as an input
abbrev pub received : ℕ → Input
received state = cond (eqb state 0) GotAdminDown (cond (eqb state 1) GotDown (cond (eqb state 2) GotInit GotUp))

-- the state of a heard CC as the session takes it: where a crossing or a followed condition holds the session down, TIMER in its place
abbrev pub heard_input : Bool → ℕ → Input
heard_input held state = cond held Timer (received state)

-- the paper's number of a state, in reports and in messages
abbrev pub reported : State → ℕ
reported AdminDown = 0
reported Down = 1
reported NeighborDown = 1
reported Init = 2
reported Up = 3

abbrev pub is_locked : State → Bool
is_locked AdminDown = true
is_locked Down = false
is_locked NeighborDown = false
is_locked Init = false
is_locked Up = false

-- DOWN by a received state, and not left since
abbrev pub down_by_neighbor : State → Bool
down_by_neighbor AdminDown = false
down_by_neighbor Down = false
down_by_neighbor NeighborDown = true
down_by_neighbor Init = false
down_by_neighbor Up = false

-- INIT or UP
abbrev pub is_coming_up : State → Bool
is_coming_up AdminDown = false
is_coming_up Down = false
is_coming_up NeighborDown = false
is_coming_up Init = true
is_coming_up Up = true

-- a state in a stored record: 0 to 3 as the paper has them, 4 for DOWN by a received state
abbrev pub stored : State → ℕ
stored AdminDown = 0
stored Down = 1
stored Init = 2
stored Up = 3
stored NeighborDown = 4

abbrev pub state_of : ℕ → State
state_of n = cond (eqb n 0) AdminDown (cond (eqb n 1) Down (cond (eqb n 2) Init (cond (eqb n 3) Up NeighborDown)))
