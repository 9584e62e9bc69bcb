-- TIMER as the paper has it: before a call acts, its reading is taken and TIMER is given to every unlocked session with a loss at that
-- reading, on whatever label the call is. `state_at` of a story gives a session's state without looking at other labels' calls; demand 3
-- says that the two agree.
-- Assumes nothing.
use Rattle.std.specs.Prelude.{ℕ, Bool, true, false, cond, eqb}
use Rattle.std.proofs.Math.Option.{Option, none, some}
use Rattle.message.specs.Message.{message_of}
use Rattle.rules.specs.declared.State.{State}
use Rattle.rules.specs.declared.State.TheVariants.{AdminDown, Down}
use Rattle.rules.specs.declared.Input.TheVariants.{Timer}
use Rattle.rules.specs.Modes.{moved_in}
use Rattle.rules.specs.Calls.{Act, Close, Lock, Unlock, Receive, ReportOn, WriteCc, WriteCv, Call, Tick, Open, On, is_accepted}
use Rattle.meaning.specs.Stories.{Story, settings_of, was_to}
use Rattle.meaning.specs.Standing.{mode, locked, loss, held, state_by, state_at}
use Rattle.meaning.specs.Histories.{History, start, after, reading, clock_of, story}

-- TIMER at a reading, to a session whose story is known
abbrev pub timed : ℕ → Story → State → State
timed u s from = cond (loss u s) (moved_in (mode s) from Timer) from

-- what the call itself does to the state of its own label, TIMER given
abbrev pub acted : Act → Story → State → Option State
acted (Close t) s from = none
acted (Lock t) s from = some AdminDown
acted (Unlock t) s from = some (cond (locked s) Down from)
acted (Receive m t) s from = some (state_by (held t s) (settings_of s) (was_to s (message_of m)) from)
acted ReportOn s from = some from
acted (WriteCc b) s from = some from
acted (WriteCv b) s from = some from

-- an accepted call: TIMER at the clock that it leaves, then the call where it is on the label
abbrev pub after_call : ℕ → ℕ → Call → Option Story → Option State → Option State
after_call l u (Tick t) (some s) (some from) = some (timed u s from)
after_call l u (Open g t) (some s) (some from) = cond (eqb g.label l) (some Down) (some (timed u s from))
after_call l u (On m a) (some s) (some from) = cond (eqb m l) (acted a s (timed u s from)) (some (timed u s from))
after_call l u (Tick t) (some s) none = none
after_call l u (Open g t) (some s) none = cond (eqb g.label l) (some Down) none
after_call l u (On m a) (some s) none = none
after_call l u (Tick t) none o = none
after_call l u (Open g t) none o = cond (eqb g.label l) (some Down) none
after_call l u (On m a) none o = none

-- the state of the session of a label, call by call over the whole history
unfoldable pub eager_state : ℕ → History → Option State
eager_state l start = none
eager_state l (after h c a) = cond (is_accepted a) (after_call l (reading c (clock_of h)) c (story l h) (eager_state l h)) (eager_state l h)

-- the state that a story shows at a clock
abbrev pub shown : ℕ → Option Story → Option State
shown now none = none
shown now (some s) = some (state_at now s)
