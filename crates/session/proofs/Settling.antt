-- A loss, once come, stays; settling twice is settling at the later reading.
-- Assumes nothing.
use mathlib.Core.Path.{◌≡◌, refl, sym, ap, ◌∙◌}
use mathlib.Core.Bool.{Bool, true, false, cond, not, ◌&&◌}
use Prim.Native.Nat.{ℕ, ◌≤◌}
use Rattle.octets.proofs.Chain.{and_both}
use Rattle.rules.specs.declared.State.{State}
use Rattle.rules.specs.declared.Input.TheVariants.{Timer}
use Rattle.rules.specs.Times.{past, detection_time}
use Rattle.rules.specs.States.{moved, is_locked, is_coming_up, stored, state_of}
use Rattle.rules.specs.Modes.{mode_in, is_source_up, exposed}
use Rattle.rules.proofs.Ages.{past-later}
use borrow.Author.Tests.{not-true}
use Rattle.rules.proofs.Bools.{split, both_true}
use Rattle.rules.proofs.Exposed.{timer-alike}
use Rattle.rules.proofs.States.{state-stored, moved-locked, timer-twice, by_timer, no-rise, source-still}
use Rattle.homing.specs.Groups.{fallen}
use Rattle.homing.proofs.Orders.{looked-later}
use Rattle.session.specs.declared.Session.{Session}
use Rattle.session.specs.Queries.{locked_in, source_up_in, loss_at, state_at, group_at}
use Rattle.session.specs.Steps.{settled}

-- a loss at one clock is a loss at every later one
pub loss-later : (s : Session) (now later : ℕ) → now ≤ later → loss_at s now ≡ true → loss_at s later ≡ true
unfolding loss_at
loss-later s now later h e =
    let span = detection_time s.settings.period s.peer.multiplier in
    let a = and_both (not (locked_in s)) (not (source_up_in s) && past s.timed span now) e in
    let b = and_both (not (source_up_in s)) (past s.timed span now) a.1 in
    both_true a.0 (both_true b.0 (past-later s.timed span now later h b.1))

-- the loss as the code asks for it: the dates first, and where they are past whether the session can have one
past-last : (a b : Bool) → a && b ≡ a && (b && true)
past-last true true = refl
past-last true false = refl
past-last false b = refl

not-past : (a b : Bool) → false ≡ a && (b && false)
not-past true true = refl
not-past true false = refl
not-past false b = refl

pub overdue-loss : (s : Session) (now : ℕ) → past s.timed (detection_time s.settings.period s.peer.multiplier) now ≡ true
    → exposed s.settings.mode s.state ≡ loss_at s now
unfolding loss_at
overdue-loss s now e = rw e (past-last (not (locked_in s)) (not (source_up_in s)))

pub in-time-loss : (s : Session) (now : ℕ) → past s.timed (detection_time s.settings.period s.peer.multiplier) now ≡ false → false ≡ loss_at s now
unfolding loss_at
in-time-loss s now e = rw e (not-past (not (locked_in s)) (not (source_up_in s)))

-- TIMER as the code gives it: a session with a loss is no source in UP, and all others move alike
pub timer-given : (s : Session) (now : ℕ) → cond (loss_at s now) (moved (state_of s.state) Timer) (state_of s.state) ≡ state_at s now
unfolding loss_at state_at
timer-given s now =
    split (loss_at s now)
    (λ e.
    let span = detection_time s.settings.period s.peer.multiplier in
    let a = and_both (not (locked_in s)) (not (source_up_in s) && past s.timed span now) e in
    let b = and_both (not (source_up_in s)) (past s.timed span now) a.1 in
    rw e (sym (timer-alike (mode_in s.settings) (state_of s.state) (not-true (source_up_in s) b.0))))
    (λ e. rw e)

-- settling neither locks nor unlocks
settled-locked : (s : Session) (now : ℕ) → locked_in (settled s now) ≡ locked_in s
unfolding settled state_at
settled-locked s now =
    ap is_locked (state-stored (state_at s now))
    ∙ split (loss_at s now) (λ e. rw e (moved-locked (mode_in s.settings) (state_of s.state) Timer)) (λ e. rw e)

-- nor does it make a source UP or take it from there
settled-source : (s : Session) (now : ℕ) → source_up_in (settled s now) ≡ source_up_in s
unfolding settled state_at
settled-source s now =
    let mode = mode_in s.settings in
    ap (is_source_up mode) (state-stored (state_at s now))
    ∙ split (loss_at s now) (λ e. rw e (source-still mode (state_of s.state) by_timer)) (λ e. rw e)

-- so the loss of a settled record is that of the record
pub settled-loss : (s : Session) (now later : ℕ) → loss_at (settled s now) later ≡ loss_at s later
unfolding loss_at settled
settled-loss s now later =
    λ i. not (settled-locked s now i) && (not (settled-source s now i) && past s.timed (detection_time s.settings.period s.peer.multiplier) later)

-- it starts from the state at that clock
settled-start : (s : Session) (now : ℕ) → state_of (settled s now).state ≡ state_at s now
unfolding settled
settled-start s now = state-stored (state_at s now)

-- and its state at a later clock is the record's
pub settled-state : (s : Session) (now later : ℕ) → now ≤ later → state_at (settled s now) later ≡ state_at s later
unfolding state_at settled
settled-state s now later h =
    let from = state_of s.state in
    rw (settled-loss s now later, settled-start s now)
    (split (loss_at s now) (λ a. rw (a, loss-later s now later h a) (timer-twice (mode_in s.settings) from)) (λ a. rw a))

-- its group at a later clock too
pub settled-group : (s : Session) (now later : ℕ) → now ≤ later → group_at (settled s now) later ≡ group_at s later
unfolding group_at settled
settled-group s now later h =
    ap (λ (loss : Bool). fallen loss (fallen (loss_at s now) s.group)) (settled-loss s now later)
    ∙ looked-later (loss_at s now) (loss_at s later) (loss-later s now later h) s.group

-- settling twice is settling at the later
pub settled-twice : (s : Session) (now later : ℕ) → now ≤ later → settled (settled s now) later ≡ settled s later
unfolding settled
settled-twice s now later h =
    λ i. record {
      timed = s.timed;
      crossed = s.crossed;
      conditions = s.conditions;
      settings = s.settings;
      peer = s.peer;
      state = stored (settled-state s now later h i);
      crossing = s.crossing;
      group = settled-group s now later h i;
    }

-- a session that is coming up at a clock was coming up before
pub coming-up-before : (s : Session) (now : ℕ) → is_coming_up (state_at s now) ≡ true → is_coming_up (state_of s.state) ≡ true
unfolding state_at
coming-up-before s now e =
    split (loss_at s now)
    (λ a. no-rise (mode_in s.settings) (state_of s.state) by_timer (rw a at e))
    (λ a. rw a at e)
