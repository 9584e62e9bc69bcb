-- Which sessions can have a loss, by the numbers in a record; and which are held down.
-- Assumes nothing.
use Prim.Native.Nat.{ℕ}
use native.Mathlib.Omega.{arith}
use mathlib.Core.Path.{◌≡◌, refl}
use mathlib.Core.Bool.{Bool, true, false, not}
use lib.Dec.{eqb}
use borrow.Author.Tests.{eqb-true, eq-eqb, ne_eqb}
use Rattle.rules.specs.declared.Mode.{Mode}
use Rattle.rules.specs.declared.Mode.TheVariants.{Coordinated, Source, Sink}
use Rattle.rules.specs.declared.State.{State}
use Rattle.rules.specs.declared.State.TheVariants.{AdminDown, Down, NeighborDown, Init, Up}
use Rattle.rules.specs.declared.Input.TheVariants.{Timer}
use Rattle.rules.specs.States.{moved, is_coming_up, state_of}
use Rattle.rules.specs.Modes.{mode_of, moved_in, is_source_up, exposed, is_coordinated}
use Rattle.rules.proofs.Bools.{split, no_way}

-- in a state that is not UP no session is a source in UP
not-up : (m : Mode) → (is_source_up m Down ≡ false) × (is_source_up m NeighborDown ≡ false) × (is_source_up m Init ≡ false)
not-up Coordinated = (refl, refl, refl)
not-up Source = (refl, refl, refl)
not-up Sink = (refl, refl, refl)

pub exposed-locked : (mode state : ℕ) → state ≡ 0 → exposed mode state ≡ false
exposed-locked mode state e = rw (eq-eqb state 0 e)

pub exposed-below : (mode state : ℕ) → (state ≡ 0 → ⊥) → (state ≡ 3 → ⊥) → exposed mode state ≡ true
exposed-below mode state z u =
    let n = not-up (mode_of mode) in
    rw (ne_eqb state 0 z, ne_eqb state 3 u)
    (split (eqb state 1) (λ a. rw (a, n.0)) (λ a. split (eqb state 2) (λ b. rw (a, b, n.2)) (λ b. rw (a, b, n.1))))

pub exposed-up : (mode state : ℕ) → state ≡ 3 → exposed mode state ≡ not (eqb mode 1)
exposed-up mode state e =
    rw e
    (split (eqb mode 0)
    (λ a. let z : mode ≡ 0 = eqb-true mode 0 a in rw z)
    (λ a. split (eqb mode 1) (λ b. rw (a, b)) (λ b. rw (a, b))))

-- a number other than 0 is that of an independent session
pub not-coordinated : (mode : ℕ) → (mode ≡ 0 → ⊥) → is_coordinated (mode_of mode) ≡ false
not-coordinated mode n = rw (ne_eqb mode 0 n) (split (eqb mode 1) (λ b. rw b) (λ b. rw b))

-- TIMER moves all alike but a source in UP
pub timer-alike : (m : Mode) (s : State) → is_source_up m s ≡ false → moved_in m s Timer ≡ moved s Timer
timer-alike Coordinated s e = refl
timer-alike Source AdminDown e = refl
timer-alike Source Down e = refl
timer-alike Source NeighborDown e = refl
timer-alike Source Init e = refl
timer-alike Source Up e = no_way refl e
timer-alike Sink s e = refl
