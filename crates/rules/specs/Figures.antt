-- Figures 7, 8 and 9 of RFC 6428 as they are drawn: of each three boxes, eight arrows, and the inputs that stand at each; and the one arrow
-- that the rules add to all three. It says again what the moving tables of `States` and `Modes` say, from the drawings and in the paper's
-- states alone; that the two agree is proved.
-- Assumes nothing.
use Rattle.std.specs.Prelude.{ℕ, Bool, cond, ◌&&◌, List, [], ◌∷◌, eqb}
use Rattle.rules.specs.Lists.{any}
use Rattle.rules.specs.States.{received}
use Rattle.rules.specs.declared.Mode.{Mode}
use Rattle.rules.specs.declared.Mode.TheVariants.{Coordinated, Source, Sink}
use Rattle.rules.specs.declared.Input.{Input}
use Rattle.rules.specs.declared.Input.TheVariants.{GotAdminDown, GotDown, GotInit, GotUp, Timer, LinkDown, LockReport, Crossed}

-- an arrow: the box that it leaves, the inputs that stand at it, the box that it leads to
pub data Arrow : Type 0 where
  Leads : (box : ℕ) (inputs : List Input) (to : ℕ) → Arrow

-- DOWN is 1, INIT 2, UP 3, as a box and as a state that is received; ADMIN DOWN, 0, is received and has no box. LDI is `LinkDown`, LKR
-- `LockReport`, MIS-CONNECTIVITY `Crossed`, which the rules paper gives for a crossed CC as for a crossed CV.
-- Figure 7 is that of coordinated sessions, Figure 8 the source's, Figure 9 the sink's.
abbrev pub drawn : Mode → List Arrow
drawn Coordinated =
    Leads 1 (received 3 ∷ received 0 ∷ Timer ∷ LinkDown ∷ LockReport ∷ []) 1
    ∷ Leads 1 (received 1 ∷ []) 2
    ∷ Leads 1 (received 2 ∷ []) 3
    ∷ Leads 2 (received 0 ∷ Timer ∷ LinkDown ∷ LockReport ∷ []) 1
    ∷ Leads 2 (received 1 ∷ []) 2
    ∷ Leads 2 (received 2 ∷ received 3 ∷ []) 3
    ∷ Leads 3 (Crossed ∷ received 0 ∷ received 1 ∷ Timer ∷ LinkDown ∷ LockReport ∷ []) 1
    ∷ Leads 3 (received 2 ∷ received 3 ∷ []) 3
    ∷ []
drawn Source =
    Leads 1 (received 3 ∷ received 0 ∷ Timer ∷ LinkDown ∷ LockReport ∷ []) 1
    ∷ Leads 1 (received 1 ∷ []) 2
    ∷ Leads 1 (received 2 ∷ []) 3
    ∷ Leads 2 (received 0 ∷ Timer ∷ LinkDown ∷ LockReport ∷ []) 1
    ∷ Leads 2 (received 1 ∷ []) 2
    ∷ Leads 2 (received 2 ∷ received 3 ∷ []) 3
    ∷ Leads 3 (received 0 ∷ []) 1
    ∷ Leads 3 (received 2 ∷ received 3 ∷ received 1 ∷ LinkDown ∷ LockReport ∷ []) 3
    ∷ []
drawn Sink =
    Leads 1 (received 0 ∷ Timer ∷ LinkDown ∷ LockReport ∷ []) 1
    ∷ Leads 1 (received 1 ∷ []) 2
    ∷ Leads 1 (received 2 ∷ received 3 ∷ []) 3
    ∷ Leads 2 (received 0 ∷ Timer ∷ LinkDown ∷ LockReport ∷ []) 1
    ∷ Leads 2 (received 1 ∷ []) 2
    ∷ Leads 2 (received 2 ∷ received 3 ∷ []) 3
    ∷ Leads 3 (Crossed ∷ received 0 ∷ Timer ∷ received 1 ∷ LinkDown ∷ LockReport ∷ []) 1
    ∷ Leads 3 (received 2 ∷ received 3 ∷ []) 3
    ∷ []

-- not in the drawings: a crossed message takes INIT to DOWN too, in every mode
abbrev pub crossed_init : Arrow
crossed_init = Leads 2 (Crossed ∷ []) 1

-- inputs told apart by a number for each
abbrev pub input_number : Input → ℕ
input_number GotAdminDown = 0
input_number GotDown = 1
input_number GotInit = 2
input_number GotUp = 3
input_number Timer = 4
input_number LinkDown = 5
input_number LockReport = 6
input_number Crossed = 7

abbrev pub is_among : Input → List Input → Bool
is_among input inputs = any (λ (i : Input). eqb (input_number i) (input_number input)) inputs

-- the end of the arrow at which the input stands; an input that is not drawn leaves the state
abbrev pub led_by : ℕ → Input → List Arrow → ℕ
led_by state input [] = state
led_by state input (Leads box inputs to ∷ rest) = cond (eqb box state && is_among input inputs) to (led_by state input rest)

-- by the figure of the mode alone
abbrev pub by_figure : Mode → ℕ → Input → ℕ
by_figure mode state input = led_by state input (drawn mode)

-- by the figure and the arrow that the rules add
abbrev pub by_rules : Mode → ℕ → Input → ℕ
by_rules mode state input = led_by state input (crossed_init ∷ drawn mode)

-- diagnostic 3 is for DOWN by a received state: afterwards the session is DOWN, and either it was DOWN before and by a received state, or
-- the input that led it there is a received state
abbrev pub remembered : Mode → Bool → ℕ → Input → Bool
remembered mode before state input =
    eqb (by_rules mode state input) 1
    && cond (eqb state 1) before (is_among input (received 0 ∷ received 1 ∷ received 2 ∷ received 3 ∷ []))
