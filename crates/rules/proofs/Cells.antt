-- What holds of every mode, state and input: a test that is computed over all of them holds of each.
-- Assumes nothing.
use mathlib.Core.Path.{◌≡◌}
use mathlib.Core.Bool.{Bool, true, ◌&&◌}
use Rattle.octets.proofs.Chain.{and_both}
use Rattle.rules.specs.declared.Mode.{Mode}
use Rattle.rules.specs.declared.Mode.TheVariants.{Coordinated, Source, Sink}
use Rattle.rules.specs.declared.State.{State}
use Rattle.rules.specs.declared.State.TheVariants.{AdminDown, Down, NeighborDown, Init, Up}
use Rattle.rules.specs.declared.Input.{Input}
use Rattle.rules.specs.declared.Input.TheVariants.{GotAdminDown, GotDown, GotInit, GotUp, Timer, LinkDown, LockReport, Crossed}

-- four tests
abbrev four : Bool → Bool → Bool → Bool → Bool
four a b c d = (a && b) && (c && d)

of_four : (a b c d : Bool) → four a b c d ≡ true → (a ≡ true) × (b ≡ true) × (c ≡ true) × (d ≡ true)
of_four a b c d e =
    let l = and_both a b (and_both (a && b) (c && d) e).0 in
    let r = and_both c d (and_both (a && b) (c && d) e).1 in
    (l.0, l.1, r.0, r.1)

module _ (p : Mode → Bool) where
  abbrev in_every_mode : Bool
  in_every_mode = p Coordinated && (p Source && p Sink)

  in-mode : in_every_mode ≡ true → (m : Mode) → p m ≡ true
  in-mode e Coordinated = (and_both (p Coordinated) (p Source && p Sink) e).0
  in-mode e Source = (and_both (p Source) (p Sink) (and_both (p Coordinated) (p Source && p Sink) e).1).0
  in-mode e Sink = (and_both (p Source) (p Sink) (and_both (p Coordinated) (p Source && p Sink) e).1).1

module _ (p : State → Bool) where
  abbrev unlocked : Bool
  unlocked = four (p Down) (p NeighborDown) (p Init) (p Up)

  abbrev in_every_state : Bool
  in_every_state = p AdminDown && unlocked

  of-unlocked : in_every_state ≡ true → (p Down ≡ true) × (p NeighborDown ≡ true) × (p Init ≡ true) × (p Up ≡ true)
  of-unlocked e = of_four (p Down) (p NeighborDown) (p Init) (p Up) (and_both (p AdminDown) unlocked e).1

  in-state : in_every_state ≡ true → (s : State) → p s ≡ true
  in-state e AdminDown = (and_both (p AdminDown) unlocked e).0
  in-state e Down = (of-unlocked e).0
  in-state e NeighborDown = (of-unlocked e).1
  in-state e Init = (of-unlocked e).2
  in-state e Up = (of-unlocked e).3

module _ (p : Input → Bool) where
  abbrev at_received : Bool
  at_received = four (p GotAdminDown) (p GotDown) (p GotInit) (p GotUp)

  abbrev at_others : Bool
  at_others = four (p Timer) (p LinkDown) (p LockReport) (p Crossed)

  abbrev at_every_input : Bool
  at_every_input = at_received && at_others

  of-received : at_every_input ≡ true → (p GotAdminDown ≡ true) × (p GotDown ≡ true) × (p GotInit ≡ true) × (p GotUp ≡ true)
  of-received e = of_four (p GotAdminDown) (p GotDown) (p GotInit) (p GotUp) (and_both at_received at_others e).0

  of_others : at_every_input ≡ true → (p Timer ≡ true) × (p LinkDown ≡ true) × (p LockReport ≡ true) × (p Crossed ≡ true)
  of_others e = of_four (p Timer) (p LinkDown) (p LockReport) (p Crossed) (and_both at_received at_others e).1

  at-input : at_every_input ≡ true → (i : Input) → p i ≡ true
  at-input e GotAdminDown = (of-received e).0
  at-input e GotDown = (of-received e).1
  at-input e GotInit = (of-received e).2
  at-input e GotUp = (of-received e).3
  at-input e Timer = (of_others e).0
  at-input e LinkDown = (of_others e).1
  at-input e LockReport = (of_others e).2
  at-input e Crossed = (of_others e).3

-- the test over all 120 cells
abbrev pub in_every_cell : (Mode → State → Input → Bool) → Bool
in_every_cell p = in_every_mode (λ (m : Mode). in_every_state (λ (s : State). at_every_input (p m s)))

pub every-cell : (p : Mode → State → Input → Bool) → in_every_cell p ≡ true → (m : Mode) (s : State) (i : Input) → p m s i ≡ true
every-cell p e m s i =
    at-input (p m s)
    (in-state (λ (t : State). at_every_input (p m t)) (in-mode (λ (n : Mode). in_every_state (λ (t : State). at_every_input (p n t))) e m) s)
    i
