-- What each call says, from three views of the history before it: the clock, the story of each label, the open labels.
-- Assumes nothing.
use Rattle.std.specs.Prelude.{ℕ, Bool, true, false, cond, not, ◌&&◌, ◌||◌, List, length, ltb, eqb}
use Rattle.std.proofs.Math.Option.{Option, none, some}
use Rattle.octets.specs.Choice.{need, bar, or_else}
use Rattle.octets.specs.Writing.{writing}
use Rattle.fault.specs.declared.Fault.{Fault}
use Rattle.message.specs.Message.{message_refusal, message_of}
use Rattle.rules.specs.declared.Settings.{Settings}
use Rattle.rules.specs.declared.Received.{Received}
use Rattle.rules.specs.declared.Received.TheVariants.{CrossedMessage, HeardCc, HeardCv, FaultMessage}
use Rattle.rules.specs.Times.{late}
use Rattle.rules.specs.Settings.{settings_fit}
use Rattle.rules.specs.Parties.{party_of, is_of, own_most}
use Rattle.rules.specs.Conditions.{key_of}
use Rattle.rules.specs.Calls.{Act, Close, Lock, Unlock, Receive, ReportOn, WriteCc, WriteCv, Call, Tick, Open, On, Said, number_only, reporting, writes}
use Rattle.rules.specs.Lists.{any, only}
use Rattle.meaning.specs.Stories.{Story, settings_of, was_to}
use Rattle.meaning.specs.Standing.{locked, stands, conditions, report, cc_written, cv_written}
use Rattle.meaning.specs.Histories.{History, clock_of, story, labels}

abbrev pub is_open : Option Story → Bool
is_open none = false
is_open (some s) = true

abbrev pub has_discriminator : ℕ → Option Story → Bool
has_discriminator d none = false
has_discriminator d (some s) = eqb (settings_of s).discriminator d

-- an open label is the one that is to be opened, or is of its party and has its local discriminator
abbrev pub claims : (ℕ → Option Story) → Settings → ℕ → Bool
claims st g l = eqb l g.label || (is_of (party_of g.label) l && has_discriminator g.discriminator (st l))

-- 11: label already open, or local discriminator already open in one's own party
unfoldable pub rival : (ℕ → Option Story) → List ℕ → Settings → Bool
rival st ls g = any (claims st g) ls

-- 12: one's own 32 are open
abbrev pub full : ℕ → List ℕ → Bool
full l ls = eqb (length (only (is_of (party_of l)) ls)) own_most

-- open: 1, 10, 11, 12
unfoldable pub open_number : ℕ → (ℕ → Option Story) → List ℕ → Settings → ℕ → ℕ
open_number now st ls g t = bar (late now t) 1 (need (settings_fit g) 10 (bar (rival st ls g) 11 (bar (full g.label ls) 12 0)))

-- 9: a new condition, and 4 already stand at the reading
abbrev pub crowded : Story → Fault → ℕ → Bool
crowded s f t = not f.removed && not (stands t s (key_of f)) && ltb 3 (conditions t s)

-- 14 for a BFD message to a locked session, 9 for a fault message
abbrev pub received_number : Story → ℕ → Received → ℕ
received_number s t CrossedMessage = cond (locked s) 14 0
received_number s t (HeardCc p) = cond (locked s) 14 0
received_number s t HeardCv = cond (locked s) 14 0
received_number s t (FaultMessage f) = cond (crowded s f t) 9 0

-- receive, behind 1: 2, then the message's own refusals, then 14 or 9
abbrev pub receive_number : Option Story → List ℕ → ℕ → ℕ
receive_number none m t = 2
receive_number (some s) m t = or_else (message_refusal m) (received_number s t (was_to s (message_of m)))

abbrev pub report_said : Call → ℕ → Option Story → Said
report_said c now none = number_only c 2
report_said c now (some s) = reporting (report now s)

-- write: 2, 13
abbrev pub write_said : Call → (Story → List ℕ) → List ℕ → Option Story → Said
write_said c octets buffer none = number_only c 2
write_said c octets buffer (some s) = writes (writing 0 (octets s) buffer)

-- on a label; close, lock and unlock: 1, 2
unfoldable pub act_said : ℕ → Option Story → ℕ → Act → Said
act_said now o l (Close t) = number_only (On l (Close t)) (bar (late now t) 1 (need (is_open o) 2 0))
act_said now o l (Lock t) = number_only (On l (Lock t)) (bar (late now t) 1 (need (is_open o) 2 0))
act_said now o l (Unlock t) = number_only (On l (Unlock t)) (bar (late now t) 1 (need (is_open o) 2 0))
act_said now o l (Receive m t) = number_only (On l (Receive m t)) (bar (late now t) 1 (receive_number o m t))
act_said now o l ReportOn = report_said (On l ReportOn) now o
act_said now o l (WriteCc b) = write_said (On l (WriteCc b)) (cc_written now) b o
act_said now o l (WriteCv b) = write_said (On l (WriteCv b)) (cv_written now) b o

-- from the three views; tick: 1
unfoldable pub says_of : ℕ → (ℕ → Option Story) → List ℕ → Call → Said
says_of now st ls (Tick t) = number_only (Tick t) (bar (late now t) 1 0)
says_of now st ls (Open g t) = number_only (Open g t) (open_number now st ls g t)
says_of now st ls (On l a) = act_said now (st l) l a

-- what a call says after a history
unfoldable pub says : History → Call → Said
says h c = says_of (clock_of h) (λ l. story l h) (labels h) c
