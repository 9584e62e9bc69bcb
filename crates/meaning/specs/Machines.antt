-- The three machines of a session: each step is its figure's; and a source in UP, of a story and after every list of calls, refused ones
-- included, from any row of 64 made empty.
-- Assumes nothing.
use Rattle.std.specs.Prelude.{ℕ, ◌≡◌, Bool, true, false, cond, List, [], ◌∷◌, ◌++◌, ◌⊎◌}
use Rattle.std.proofs.Math.Option.{Option, none, some}
use Rattle.bfd.specs.declared.Packet.{Packet}
use Rattle.message.specs.declared.Message.{Message}
use Rattle.message.specs.Message.{message_of}
use Rattle.rules.specs.declared.Mode.{Mode}
use Rattle.rules.specs.declared.Mode.TheVariants.{Source}
use Rattle.rules.specs.declared.State.TheVariants.{Up}
use Rattle.rules.specs.declared.Input.{Input}
use Rattle.rules.specs.declared.Input.TheVariants.{Timer, Crossed}
use Rattle.rules.specs.declared.Settings.{Settings}
use Rattle.rules.specs.declared.Received.{Received}
use Rattle.rules.specs.declared.Received.TheVariants.{CrossedMessage, HeardCc, HeardCv, FaultMessage}
use Rattle.rules.specs.States.{heard_input, reported}
use Rattle.rules.specs.Conditions.{fault_input, acts_on}
use Rattle.rules.specs.Figures.{by_figure, by_rules}
use Rattle.rules.specs.Calls.{Lock, Receive, Call, On}
use Rattle.session.specs.declared.Session.{Session}
use Rattle.meaning.specs.Stories.{Story, got, settings_of, was_to, is_crossed}
use Rattle.meaning.specs.Standing.{mode, loss, held, state, state_at}
use Rattle.meaning.specs.Histories.{story}
use Rattle.meaning.specs.Answers.{is_open}
use Rattle.meaning.specs.Worlds.{past_of, table_after}
use Rattle.meaning.specs.Demand.{report_on}

-- the input that a message brings: the state of a heard CC, or TIMER in its place where the session is held down; LDI or LKR where the
-- session follows it; a crossed message. A CV and any other fault message bring none
abbrev pub input_of : Bool → Settings → Received → Option Input
input_of hold g CrossedMessage = some Crossed
input_of hold g (HeardCc p) = some (heard_input hold p.state)
input_of hold g HeardCv = none
input_of hold g (FaultMessage f) = cond (acts_on g f) (some (fault_input f.kind)) none

-- by the figure of the mode; an input that is not drawn there, and none, leave the state
abbrev pub figure_step : Mode → ℕ → Option Input → ℕ
figure_step m state none = state
figure_step m state (some i) = by_figure m state i

-- every step of a story is its figure's, in the paper's numbers of states
pub record ByFigure (s : Story) : Type 0 where
  -- TIMER is given where there is a loss, and nowhere else
  pub timer : (now : ℕ) → loss now s ≡ true → reported (state_at now s) ≡ by_figure (mode s) (reported (state s)) Timer
  pub no-timer : (now : ℕ) → loss now s ≡ false → state_at now s ≡ state s
  -- a message, behind TIMER; the hold chooses its input
  pub message : (m : Message) (t : ℕ) → is_crossed (was_to s m) ≡ false
      → reported (state (got s m t)) ≡ figure_step (mode s) (reported (state_at t s)) (input_of (held t s) (settings_of s) (was_to s m))
  -- a crossed message, by the figure and the one arrow that the rules add to it
  pub crossed : (m : Message) (t : ℕ) → is_crossed (was_to s m) ≡ true → reported (state (got s m t)) ≡ by_rules (mode s) (reported (state_at t s)) Crossed

-- a source that its calls left in UP has no loss and stays in UP, at every clock
pub record UpForGood (s : Story) : Type 0 where
  pub no-loss : (now : ℕ) → loss now s ≡ false
  pub up : (now : ℕ) → state_at now s ≡ Up

-- what takes the source of a label from UP: a lock, or a heard CC of ADMIN DOWN
pub data TakesDown (l : ℕ) (s : Story) : Call → Type 0 where
  by_lock : (t : ℕ) → TakesDown l s (On l (Lock t))
  by_admin_down : (octets : List ℕ) (t : ℕ) (p : Packet) → was_to s (message_of octets) ≡ HeardCc p → p.state ≡ 0 → TakesDown l s (On l (Receive octets t))

-- after a list of calls, of a label whose open session is a source and in UP (3)
pub record SourceUp (row : List Session) (cs : List Call) (l : ℕ) (s : Story) : Type 0 where
  pub for-good : UpForGood s
  -- no report shows a loss, an alarm or, as that needs a loss, one held back
  pub no-loss : (report_on (table_after row cs) l).loss ≡ 0
  pub no-alarm : (report_on (table_after row cs) l).alarm ≡ 0
  -- whatever is called next and however it is answered, it is still in UP, or the call takes it down, or the label is not open any more
  pub stays : (c : Call) → is_open (story l (past_of row (cs ++ c ∷ []))) ≡ true
      → ((report_on (table_after row (cs ++ c ∷ [])) l).state ≡ 3) ⊎ TakesDown l s c

abbrev pub SourcesUp : List Session → List Call → Type 0
SourcesUp row cs =
    (l : ℕ) (s : Story) → story l (past_of row cs) ≡ some s → mode s ≡ Source → (report_on (table_after row cs) l).state ≡ 3 → SourceUp row cs l s
