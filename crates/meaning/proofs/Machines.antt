-- Each step of a story is its figure's.
-- Assumes nothing.
use Prim.Native.Nat.{ℕ}
use mathlib.Core.Path.{◌≡◌, refl, sym, ap, ◌∙◌}
use mathlib.Core.Bool.{Bool, true, false, cond}
use lib.Dec.{eqb}
use Rattle.message.specs.declared.Message.{Message}
use Rattle.rules.specs.declared.State.{State}
use Rattle.rules.specs.declared.Input.{Input}
use Rattle.rules.specs.declared.Input.TheVariants.{Timer, Crossed}
use Rattle.rules.specs.declared.Settings.{Settings}
use Rattle.rules.specs.declared.Received.{Received}
use Rattle.rules.specs.declared.Received.TheVariants.{CrossedMessage, HeardCc, HeardCv, FaultMessage}
use Rattle.rules.specs.States.{heard_input, reported}
use Rattle.rules.specs.Conditions.{fault_input, acts_on}
use Rattle.rules.specs.Modes.{mode_in}
use Rattle.rules.specs.Figures.{input_number, by_figure, by_rules}
use Rattle.rules.proofs.Bools.{split, no_way, true-false}
use Rattle.rules.proofs.Figures.{as-drawn, as-ruled}
use Rattle.meaning.specs.Stories.{Story, got, settings_of, was_to, is_crossed}
use Rattle.meaning.specs.Standing.{mode, loss, held, state, state_by, state_at}
use Rattle.meaning.specs.Machines.{input_of, figure_step, ByFigure}

-- inputs that are no crossed message, by their numbers
not-crossed : (i : Input) → eqb (input_number i) 7 ≡ false → i ≡ Crossed → ⊥
not-crossed i n e = true-false (ap (λ (j : Input). eqb (input_number j) 7) e) n

heard-number : (hold : Bool) (n : ℕ) → eqb (input_number (heard_input hold n)) 7 ≡ false
heard-number true n = refl
heard-number false n =
    split (eqb n 0) (λ a. rw a) (λ a. split (eqb n 1) (λ b. rw (a, b)) (λ b. split (eqb n 2) (λ c. rw (a, b, c)) (λ c. rw (a, b, c))))

fault-number : (kind : ℕ) → eqb (input_number (fault_input kind)) 7 ≡ false
fault-number kind = split (eqb kind 1) (λ a. rw a) (λ a. rw a)

-- what a message does to a state, by what it was
message-step : (hold : Bool) (g : Settings) (x : Received) (from : State) → is_crossed x ≡ false
    → reported (state_by hold g x from) ≡ figure_step (mode_in g) (reported from) (input_of hold g x)
message-step hold g CrossedMessage from e = no_way refl e
message-step hold g (HeardCc p) from e =
    as-drawn (mode_in g) from (heard_input hold p.state) (not-crossed (heard_input hold p.state) (heard-number hold p.state))
message-step hold g HeardCv from e = refl
message-step hold g (FaultMessage f) from e =
    split (acts_on g f)
    (λ a. rw a (as-drawn (mode_in g) from (fault_input f.kind) (not-crossed (fault_input f.kind) (fault-number f.kind))))
    (λ a. rw a)

crossed-step : (hold : Bool) (g : Settings) (x : Received) (from : State) → is_crossed x ≡ true
    → reported (state_by hold g x from) ≡ by_rules (mode_in g) (reported from) Crossed
crossed-step hold g CrossedMessage from e = as-ruled (mode_in g) from Crossed
crossed-step hold g (HeardCc p) from e = no_way e refl
crossed-step hold g HeardCv from e = no_way e refl
crossed-step hold g (FaultMessage f) from e = no_way e refl

pub by-figure : (s : Story) → ByFigure s
unfolding state state_at
by-figure s =
    record {
      timer = λ now e. rw e (as-drawn (mode s) (state s) Timer (not-crossed Timer refl));
      no-timer = λ now e. rw e;
      message = λ m t e. message-step (held t s) (settings_of s) (was_to s m) (state_at t s) e;
      crossed = λ m t e. crossed-step (held t s) (settings_of s) (was_to s m) (state_at t s) e;
    }
