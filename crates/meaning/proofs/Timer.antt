-- TIMER given eagerly, at every accepted call, is TIMER as a story has it.
-- Assumes nothing.
use Prim.Native.Nat.{ℕ, ◌+◌, ◌≤◌}
use native.Mathlib.Omega.{arith}
use mathlib.Core.Path.{◌≡◌, refl, sym, ap, ◌∙◌}
use mathlib.Core.Bool.{Bool, true, false, cond, not, ◌&&◌}
use mathlib.Core.Option.{Option, none, some}
use mathlib.Core.Logic.{◌⊎◌, inl, inr, ⊎_elim}
use lib.Dec.{eqb}
use borrow.Author.Tests.{le-ltb, eqb-true}
use Rattle.octets.specs.Choice.{need, bar}
use Rattle.octets.proofs.Chain.{and_both, bar-passed}
use Rattle.message.specs.declared.Message.{Message}
use Rattle.message.specs.Message.{message_of}
use Rattle.rules.specs.declared.Settings.{Settings}
use Rattle.rules.specs.declared.State.{State}
use Rattle.rules.specs.declared.State.TheVariants.{AdminDown, Down}
use Rattle.rules.specs.declared.Mode.{Mode}
use Rattle.rules.specs.declared.Input.TheVariants.{Timer}
use Rattle.rules.specs.declared.Received.{Received}
use Rattle.rules.specs.declared.Received.TheVariants.{CrossedMessage, HeardCc, HeardCv, FaultMessage}
use Rattle.rules.specs.Times.{past, detection_time, late}
use Rattle.rules.specs.Modes.{mode_in, moved_in, is_source_up}
use Rattle.rules.specs.Conditions.{acts_on, fault_state}
use Rattle.rules.specs.Settings.{settings_fit}
use Rattle.rules.specs.Calls.{Act, Close, Lock, Unlock, Receive, ReportOn, WriteCc, WriteCv, Call, Tick, Open, On, Said, is_accepted}
use Rattle.rules.proofs.Bools.{split, both_true, no_way}
use Rattle.rules.proofs.Failing.{and-false}
use Rattle.rules.proofs.Ages.{not_late, past-later}
use Rattle.rules.proofs.States.{by_timer, by_link_down, by_lock_report, by_crossed, source-still, timer-twice, timer-around}
use Rattle.meaning.specs.Stories.{Story, opened, lock, unlock, got, wrote_cc, settings_of, was_to, is_heard}
use Rattle.meaning.specs.Standing.{mode, locked, timed_from, multiplier_of, multiplier_by, loss_in, loss, held, state, after_timer, state_by, state_at}
use Rattle.meaning.specs.Histories.{History, start, after, act_reading, reading, act_told, told, clock_of, story, labels}
use Rattle.meaning.specs.Answers.{is_open, rival, full, open_number, receive_number, act_said, says_of, says}
use Rattle.meaning.specs.Timer.{timed, acted, after_call, eager_state, shown}
use Rattle.meaning.specs.Worlds.{Right}

-- nothing is past at the reading that it is timed from
past-none : (u span : ℕ) → past u span u ≡ false
unfolding past
past-none u span = le-ltb (u + span) u (omega arith)

and_no : (a : Bool) {b : Bool} → b ≡ false → a && b ≡ false
and_no true e = e
and_no false e = refl

loss-after : (s : Story) (now later : ℕ) → now ≤ later → loss now s ≡ true → loss later s ≡ true
unfolding loss_in
loss-after s now later h e =
    let span = detection_time (settings_of s).period (multiplier_of s) in
    let up = is_source_up (mode s) (state s) in
    let a = and_both (not (locked s)) (not up && past (timed_from s) span now) e in
    let b = and_both (not up) (past (timed_from s) span now) a.1 in
    both_true a.0 (both_true b.0 (past-later (timed_from s) span now later h b.1))

-- the clock goes on
pub state-later : (s : Story) (now later : ℕ) → now ≤ later → timed later s (state_at now s) ≡ state_at later s
unfolding state_at
state-later s now later h =
    split (loss now s) (λ a. rw (a, loss-after s now later h a) (timer-twice (mode s) (state s))) (λ a. rw a)

-- a session that was given TIMER keeps its state for TIMER after LDI and LKR too
fault-again : (m : Mode) (acts : Bool) (kind : ℕ) (x : State)
    → moved_in m (fault_state m acts (moved_in m x Timer) kind) Timer ≡ fault_state m acts (moved_in m x Timer) kind
fault-again m true kind x = split (eqb kind 1) (λ e. rw e (timer-around m x by_link_down)) (λ e. rw e (timer-around m x by_lock_report))
fault-again m false kind x = timer-twice m x

-- neither TIMER nor a message that is not heard makes a source UP or takes it from there
pub timer-source : (b : Bool) (m : Mode) (x : State) → is_source_up m (cond b (moved_in m x Timer) x) ≡ is_source_up m x
timer-source true m x = source-still m x by_timer
timer-source false m x = refl

-- TIMER to a session that is overdue, no source in UP
abbrev pub overdue : Mode → Bool → State → State
overdue m late x = cond (not (is_source_up m x) && late) (moved_in m x Timer) x

-- whether it is such a source is seen as well behind TIMER as before it
pub overdue-later : (m : Mode) (late later : Bool) (x : State)
    → overdue m later (overdue m late x) ≡ cond (not (is_source_up m x) && later) (moved_in m (overdue m late x) Timer) (overdue m late x)
overdue-later m late later x =
    ap (λ (b : Bool). cond (not b && later) (moved_in m (overdue m late x) Timer) (overdue m late x)) (timer-source (not (is_source_up m x) && late) m x)

overdue-twice : (m : Mode) (late : Bool) (x : State) → overdue m late (overdue m late x) ≡ overdue m late x
overdue-twice m late x =
    overdue-later m late late x ∙ split (not (is_source_up m x) && late) (λ a. rw a (timer-twice m x)) (λ a. rw a)

unheard-source : (hold : Bool) (g : Settings) (x : Received) (from : State) → is_heard x ≡ false
    → is_source_up (mode_in g) (state_by hold g x from) ≡ is_source_up (mode_in g) from
unheard-source hold g CrossedMessage from h = source-still (mode_in g) from by_crossed
unheard-source hold g (HeardCc p) from h = no_way refl h
unheard-source hold g HeardCv from h = no_way refl h
unheard-source hold g (FaultMessage f) from h =
    split (acts_on g f)
    (λ a. rw a (split (eqb f.kind 1) (λ k. rw k (source-still (mode_in g) from by_link_down)) (λ k. rw k (source-still (mode_in g) from by_lock_report))))
    (λ a. rw a)

-- the state at the reading of each event is what the event leaves
opened-state : (g : Settings) (t : ℕ) → state_at t (opened g t) ≡ Down
unfolding state_at loss_in timed_from state
opened-state g t =
    ap (λ (b : Bool). cond b (moved_in (mode (opened g t)) Down Timer) Down)
    (and_no (not (locked (opened g t)))
    (and_no (not (is_source_up (mode (opened g t)) Down)) (past-none t (detection_time (settings_of (opened g t)).period (multiplier_of (opened g t))))))

locked-state : (s : Story) (u : ℕ) → state_at u (lock s u) ≡ AdminDown
unfolding state_at loss_in locked state
locked-state s u = refl

unlocked-state : (s : Story) (u : ℕ) → state_at u (unlock s u) ≡ cond (locked s) Down (timed u s (state s))
unfolding state_at loss_in locked timed_from multiplier_of settings_of state
unlocked-state s u =
    split (locked s)
    (λ e. rw (e, past-none u (detection_time (settings_of s).period 3), and-false (not (is_source_up (mode s) Down))))
    (λ e. rw e (overdue-twice (mode s) (past (timed_from s) (detection_time (settings_of s).period (multiplier_of s)) u) (state s)))

got-source : (s : Story) (m : Message) (u : ℕ) (x : Received) → was_to s m ≡ x → is_heard x ≡ false → is_source_up (mode s) (state (got s m u)) ≡ is_source_up (mode s) (state s)
unfolding state
got-source s m u x e h =
    ap (λ (y : Received). is_source_up (mode s) (state_by (held u s) (settings_of s) y (after_timer u s (state s)))) e
    ∙ unheard-source (held u s) (settings_of s) x (after_timer u s (state s)) h
    ∙ timer-source (loss u s) (mode s) (state s)

-- a message that does not restart the detection time leaves the loss as it was
got-loss : (s : Story) (m : Message) (u : ℕ) (x : Received) → was_to s m ≡ x → is_heard x ≡ false → loss u (got s m u) ≡ loss u s
unfolding loss_in locked timed_from multiplier_of settings_of
got-loss s m u CrossedMessage e h =
    λ i. not (locked s) && (not (got-source s m u CrossedMessage e h i) && past (cond (is_heard (e i)) u (timed_from s)) (detection_time (settings_of s).period (multiplier_by (e i) (multiplier_of s))) u)
got-loss s m u (HeardCc p) e h = no_way refl h
got-loss s m u HeardCv e h = no_way refl h
got-loss s m u (FaultMessage f) e h =
    λ i. not (locked s) && (not (got-source s m u (FaultMessage f) e h i) && past (cond (is_heard (e i)) u (timed_from s)) (detection_time (settings_of s).period (multiplier_by (e i) (multiplier_of s))) u)

heard-loss : (s : Story) (m : Message) (u : ℕ) → is_heard (was_to s m) ≡ true → loss u (got s m u) ≡ false
unfolding loss_in timed_from
heard-loss s m u e =
    and_no (not (locked (got s m u)))
    (and_no (not (is_source_up (mode (got s m u)) (state (got s m u)))) (rw e (past-none u (detection_time (settings_of (got s m u)).period (multiplier_of (got s m u))))))

got-state : (s : Story) (m : Message) (u : ℕ) (x : Received) → was_to s m ≡ x → state_at u (got s m u) ≡ state_by (held u s) (settings_of s) x (timed u s (state s))
unfolding state_at state settings_of
got-state s m u CrossedMessage e =
    ap (λ (b : Bool). cond b (moved_in (mode s) (state_by (held u s) (settings_of s) (was_to s m) (timed u s (state s))) Timer) (state_by (held u s) (settings_of s) (was_to s m) (timed u s (state s)))) (got-loss s m u CrossedMessage e refl)
    ∙ rw e (split (loss u s) (λ a. rw a (timer-around (mode s) (state s) by_crossed)) (λ a. rw a))
got-state s m u (HeardCc p) e =
    ap (λ (b : Bool). cond b (moved_in (mode s) (state_by (held u s) (settings_of s) (was_to s m) (timed u s (state s))) Timer) (state_by (held u s) (settings_of s) (was_to s m) (timed u s (state s))))
    (heard-loss s m u (ap is_heard e)) ∙ ap (λ (y : Received). state_by (held u s) (settings_of s) y (timed u s (state s))) e
got-state s m u HeardCv e =
    ap (λ (b : Bool). cond b (moved_in (mode s) (state_by (held u s) (settings_of s) (was_to s m) (timed u s (state s))) Timer) (state_by (held u s) (settings_of s) (was_to s m) (timed u s (state s))))
    (heard-loss s m u (ap is_heard e)) ∙ ap (λ (y : Received). state_by (held u s) (settings_of s) y (timed u s (state s))) e
got-state s m u (FaultMessage f) e =
    ap (λ (b : Bool). cond b (moved_in (mode s) (state_by (held u s) (settings_of s) (was_to s m) (timed u s (state s))) Timer) (state_by (held u s) (settings_of s) (was_to s m) (timed u s (state s)))) (got-loss s m u (FaultMessage f) e refl)
    ∙ rw e (split (loss u s) (λ a. rw a (fault-again (mode s) (acts_on (settings_of s) f) f.kind (state s))) (λ a. rw a))

wrote-state : (s : Story) (u : ℕ) → state_at u (wrote_cc s) ≡ state_at u s
unfolding state_at loss_in locked timed_from multiplier_of settings_of state
wrote-state s u = refl

state_at-timed : (s : Story) (u : ℕ) → state_at u s ≡ timed u s (state s)
unfolding state_at
state_at-timed s u = refl

-- a call on the label itself
act-agrees : (now : ℕ) (a : Act) (s : Story) → now ≤ act_reading a now
    → acted a s (timed (act_reading a now) s (state_at now s)) ≡ shown (act_reading a now) (act_told a (some s))
act-agrees now (Close t) s h = refl
act-agrees now (Lock t) s h = ap some (sym (locked-state s t))
act-agrees now (Unlock t) s h =
    ap some (ap (cond (locked s) Down) (state-later s now t h ∙ state_at-timed s t) ∙ sym (unlocked-state s t))
act-agrees now (Receive m t) s h =
    ap some
    (ap (state_by (held t s) (settings_of s) (was_to s (message_of m))) (state-later s now t h ∙ state_at-timed s t) ∙ sym (got-state s (message_of m) t (was_to s (message_of m)) refl))
act-agrees now ReportOn s h = ap some (state-later s now now h)
act-agrees now (WriteCc b) s h = ap some (state-later s now now h ∙ sym (wrote-state s now))
act-agrees now (WriteCv b) s h = ap some (state-later s now now h)

act-none : (a : Act) → act_told a none ≡ none
act-none (Close t) = refl
act-none (Lock t) = refl
act-none (Unlock t) = refl
act-none (Receive m t) = refl
act-none ReportOn = refl
act-none (WriteCc b) = refl
act-none (WriteCv b) = refl

-- any accepted call
call-agrees : (l now : ℕ) (c : Call) (o : Option Story) → now ≤ reading c now → after_call l (reading c now) c o (shown now o) ≡ shown (reading c now) (told l c o)
call-agrees l now (Tick t) none h = refl
call-agrees l now (Tick t) (some s) h = ap some (state-later s now t h)
call-agrees l now (Open g t) none h =
    split (eqb g.label l) (λ e. rw e (ap some (sym (opened-state g t)))) (λ e. rw e)
call-agrees l now (Open g t) (some s) h =
    split (eqb g.label l) (λ e. rw e (ap some (sym (opened-state g t)))) (λ e. rw e (ap some (state-later s now t h)))
call-agrees l now (On m a) none h = split (eqb m l) (λ e. rw e (ap (shown (act_reading a now)) (sym (act-none a)))) (λ e. rw e)
call-agrees l now (On m a) (some s) h =
    split (eqb m l) (λ e. rw e (act-agrees now a s h)) (λ e. rw e (ap some (state-later s now (act_reading a now) h)))

-- an accepted call brings a reading that is not late, or none
act-brings : (now : ℕ) (o : Option Story) (l : ℕ) (a : Act) → is_accepted (act_said now o l a) ≡ true
    → (late now (act_reading a now) ≡ false) ⊎ (act_reading a now ≡ now)
unfolding act_said
act-brings now o l (Close t) e = inl (bar-passed (late now t) 0 (need (is_open o) 2 0) (eqb-true _ 0 e)).0
act-brings now o l (Lock t) e = inl (bar-passed (late now t) 0 (need (is_open o) 2 0) (eqb-true _ 0 e)).0
act-brings now o l (Unlock t) e = inl (bar-passed (late now t) 0 (need (is_open o) 2 0) (eqb-true _ 0 e)).0
act-brings now o l (Receive m t) e = inl (bar-passed (late now t) 0 (receive_number o m t) (eqb-true _ 0 e)).0
act-brings now o l ReportOn e = inr refl
act-brings now o l (WriteCc b) e = inr refl
act-brings now o l (WriteCv b) e = inr refl

pub brings : (h : History) (c : Call) → is_accepted (says h c) ≡ true
    → (late (clock_of h) (reading c (clock_of h)) ≡ false) ⊎ (reading c (clock_of h) ≡ clock_of h)
unfolding says says_of open_number
brings h (Tick t) e = inl (bar-passed (late (clock_of h) t) 0 0 (eqb-true _ 0 e)).0
brings h (Open g t) e =
    inl
    (bar-passed (late (clock_of h) t) 0 (need (settings_fit g) 10 (bar (rival (λ l. story l h) (labels h) g) 11 (bar (full g.label (labels h)) 12 0))) (eqb-true _ 0 e)).0
brings h (On l a) e = act-brings (clock_of h) (story l h) l a e

-- so none below the clock
pub in-time : (h : History) (c : Call) → is_accepted (says h c) ≡ true → clock_of h ≤ reading c (clock_of h)
in-time h c e = ⊎_elim (λ z. not_late (clock_of h) (reading c (clock_of h)) z) (λ z. omega arith) (brings h c e)

-- the eager recursion is the story's state at the clock, for every history whose answers are the paper's
pub timer-agrees : (h : History) → Right h → (l : ℕ) → eager_state l h ≡ shown (clock_of h) (story l h)
unfolding Right eager_state clock_of story
timer-agrees start r l = refl
timer-agrees (after h c a) r l =
    split (is_accepted a)
    (λ e. rw e
    (ap (after_call l (reading c (clock_of h)) c (story l h)) (timer-agrees h r.0 l)
    ∙ call-agrees l (clock_of h) c (story l h) (in-time h c (ap is_accepted (sym r.1) ∙ e))))
    (λ e. rw e (timer-agrees h r.0 l))
