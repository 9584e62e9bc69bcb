-- States as they are stored, and what each input can do to them, in every mode.
-- Assumes nothing.
use mathlib.Core.Path.{◌≡◌, refl, sym, ap, ◌∙◌}
use mathlib.Core.Bool.{Bool, true, false, not, ◌||◌}
use mathlib.Core.Logic.{◌⊎◌, inl, inr}
use Prim.Native.Nat.{ℕ, ◌≤◌}
use native.Mathlib.Omega.{arith}
use lib.Dec.{eqb}
use borrow.Author.Tests.{eqb-true, not-true}
use Rattle.octets.specs.Choice.{bit_of}
use Rattle.rules.specs.declared.Mode.{Mode}
use Rattle.rules.specs.declared.Mode.TheVariants.{Source}
use Rattle.rules.specs.declared.State.{State}
use Rattle.rules.specs.declared.State.TheVariants.{AdminDown, Down, NeighborDown, Init, Up}
use Rattle.rules.specs.declared.Input.{Input}
use Rattle.rules.specs.declared.Input.TheVariants.{GotAdminDown, GotDown, GotInit, GotUp, Timer, LinkDown, LockReport, Crossed}
use Rattle.rules.specs.States.{received, heard_input, reported, is_locked, down_by_neighbor, is_coming_up, stored, state_of}
use Rattle.rules.specs.Modes.{moved_in, is_source_up, is_coordinated}
use Rattle.rules.proofs.Bools.{implied}
use Rattle.rules.proofs.Cells.{in_every_cell, every-cell}

pub state-stored : (s : State) → state_of (stored s) ≡ s
state-stored AdminDown = refl
state-stored Down = refl
state-stored NeighborDown = refl
state-stored Init = refl
state-stored Up = refl

pub stored-fits : (s : State) → stored s ≤ 4
stored-fits AdminDown = omega arith
stored-fits Down = omega arith
stored-fits NeighborDown = omega arith
stored-fits Init = omega arith
stored-fits Up = omega arith

pub reported-fits : (s : State) → reported s ≤ 3
reported-fits AdminDown = omega arith
reported-fits Down = omega arith
reported-fits NeighborDown = omega arith
reported-fits Init = omega arith
reported-fits Up = omega arith

-- the inputs that bring no session up
pub data Lowering : Input → Type 0 where
  by_timer : Lowering Timer
  by_link_down : Lowering LinkDown
  by_lock_report : Lowering LockReport
  by_crossed : Lowering Crossed

abbrev is_lowering : Input → Bool
is_lowering GotAdminDown = false
is_lowering GotDown = false
is_lowering GotInit = false
is_lowering GotUp = false
is_lowering Timer = true
is_lowering LinkDown = true
is_lowering LockReport = true
is_lowering Crossed = true

is-lowering : {i : Input} → Lowering i → is_lowering i ≡ true
is-lowering by_timer = refl
is-lowering by_link_down = refl
is-lowering by_lock_report = refl
is-lowering by_crossed = refl

-- two states, and two tests, are the same if their numbers are
same-stored : (s t : State) → eqb (stored s) (stored t) ≡ true → s ≡ t
same-stored s t e = sym (state-stored s) ∙ ap state_of (eqb-true (stored s) (stored t) e) ∙ state-stored t

pub bit-same : (a b : Bool) → eqb (bit_of a) (bit_of b) ≡ true → a ≡ b
bit-same true true e = refl
bit-same true false e = absurd (let z : ◌≡◌ {A = ℕ} 0 1 = cc in omega arith)
bit-same false true e = absurd (let z : ◌≡◌ {A = ℕ} 0 1 = cc in omega arith)
bit-same false false e = refl

-- a law of the inputs that bring no session up, by a test over all cells
lowering-cell : (p : Mode → State → Input → Bool) → in_every_cell (λ m s i. not (is_lowering i) || p m s i) ≡ true
    → (m : Mode) (s : State) {i : Input} → Lowering i → p m s i ≡ true
lowering-cell p e m s {i} w = implied (is-lowering w) (every-cell (λ n t j. not (is_lowering j) || p n t j) e m s i)

-- one that is coming up behind such an input was coming up before
pub no-rise : (m : Mode) (s : State) {i : Input} → Lowering i → is_coming_up (moved_in m s i) ≡ true → is_coming_up s ≡ true
no-rise m s {i} w up = implied up (lowering-cell (λ n t j. not (is_coming_up (moved_in n t j)) || is_coming_up t) refl m s w)

-- a coordinated session is not coming up behind it at all
pub lowered : (m : Mode) (s : State) {i : Input} → is_coordinated m ≡ true → Lowering i → is_coming_up (moved_in m s i) ≡ false
lowered m s {i} c w =
    not-true (is_coming_up (moved_in m s i))
    (implied c (lowering-cell (λ n t j. not (is_coordinated n) || not (is_coming_up (moved_in n t j))) refl m s w))

-- and a source in UP stays there, one that is not in UP does not come there
pub source-still : (m : Mode) (s : State) {i : Input} → Lowering i → is_source_up m (moved_in m s i) ≡ is_source_up m s
source-still m s {i} w =
    bit-same (is_source_up m (moved_in m s i)) (is_source_up m s)
    (lowering-cell (λ n t j. eqb (bit_of (is_source_up n (moved_in n t j))) (bit_of (is_source_up n t))) refl m s w)

-- of all inputs a received ADMIN DOWN alone takes a source from UP
pub source-leaves : (i : Input) → (moved_in Source Up i ≡ Up) ⊎ (i ≡ GotAdminDown)
source-leaves GotAdminDown = inr refl
source-leaves GotDown = inl refl
source-leaves GotInit = inl refl
source-leaves GotUp = inl refl
source-leaves Timer = inl refl
source-leaves LinkDown = inl refl
source-leaves LockReport = inl refl
source-leaves Crossed = inl refl

-- a held session takes every received state for TIMER, one that is not held takes each for what it is
pub held-timer : (state : ℕ) → heard_input true state ≡ Timer
held-timer state = refl

pub unheld-received : (state : ℕ) → heard_input false state ≡ received state
unheld-received state = refl

-- so no received state brings a held session up, and none gives or ends DOWN by a received state
pub held-lowered : (m : Mode) (s : State) (state : ℕ) → is_coordinated m ≡ true → is_coming_up (moved_in m s (heard_input true state)) ≡ false
held-lowered m s state c = lowered m s c by_timer

pub held-neighbor : (m : Mode) (s : State) (state : ℕ) → down_by_neighbor (moved_in m s (heard_input true state)) ≡ down_by_neighbor s
held-neighbor m s state =
    bit-same (down_by_neighbor (moved_in m s Timer)) (down_by_neighbor s)
    (every-cell (λ n t j. eqb (bit_of (down_by_neighbor (moved_in n t Timer))) (bit_of (down_by_neighbor t))) refl m s Timer)

-- no input locks or unlocks
pub moved-locked : (m : Mode) (s : State) (i : Input) → is_locked (moved_in m s i) ≡ is_locked s
moved-locked m s i =
    bit-same (is_locked (moved_in m s i)) (is_locked s) (every-cell (λ n t j. eqb (bit_of (is_locked (moved_in n t j))) (bit_of (is_locked t))) refl m s i)

-- TIMER twice is TIMER once, also where an input that brings no session up comes between
pub timer-twice : (m : Mode) (s : State) → moved_in m (moved_in m s Timer) Timer ≡ moved_in m s Timer
timer-twice m s =
    same-stored (moved_in m (moved_in m s Timer) Timer) (moved_in m s Timer)
    (every-cell (λ n t j. eqb (stored (moved_in n (moved_in n t Timer) Timer)) (stored (moved_in n t Timer))) refl m s Timer)

pub timer-around : (m : Mode) (s : State) {i : Input} → Lowering i
    → moved_in m (moved_in m (moved_in m s Timer) i) Timer ≡ moved_in m (moved_in m s Timer) i
timer-around m s {i} w =
    same-stored (moved_in m (moved_in m (moved_in m s Timer) i) Timer) (moved_in m (moved_in m s Timer) i)
    (lowering-cell (λ n t j. eqb (stored (moved_in n (moved_in n (moved_in n t Timer) j) Timer)) (stored (moved_in n (moved_in n t Timer) j))) refl m s w)

-- a reported state of INIT or UP is a session that is coming up
pub reported-up : (s : State) → is_coming_up s ≡ false → reported s ≤ 1
reported-up AdminDown e = omega arith
reported-up Down e = omega arith
reported-up NeighborDown e = omega arith
reported-up Init e = absurd (let z : ◌≡◌ {A = ℕ} 0 1 = cc in omega arith)
reported-up Up e = absurd (let z : ◌≡◌ {A = ℕ} 0 1 = cc in omega arith)
