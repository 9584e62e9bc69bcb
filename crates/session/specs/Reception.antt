-- A message that was read, received by the session of its label: the answer, and the effect where that is 0.
-- Assumes nothing.
use Rattle.std.specs.Prelude.{ℕ, cond}
use Rattle.rules.specs.declared.Received.{Received}
use Rattle.rules.specs.declared.Received.TheVariants.{CrossedMessage, HeardCc, HeardCv, FaultMessage}
use Rattle.conditions.specs.Taking.{fault_answer}
use Rattle.session.specs.declared.Session.{Session}
use Rattle.session.specs.Queries.{locked_in}
use Rattle.session.specs.Steps.{heard_cc, heard_cv, crossed_at, fault_taken}

-- refusal 14: a BFD message for a locked session, crossed or not
abbrev pub bfd_answer : Session → ℕ
bfd_answer s = cond (locked_in s) 14 0

abbrev pub received_answer : Session → ℕ → Received → ℕ
received_answer s reading CrossedMessage = bfd_answer s
received_answer s reading (HeardCc p) = bfd_answer s
received_answer s reading HeardCv = bfd_answer s
received_answer s reading (FaultMessage f) = fault_answer s.conditions f reading

abbrev pub received_by : Session → ℕ → Received → Session
received_by s reading CrossedMessage = crossed_at s reading
received_by s reading (HeardCc p) = heard_cc s reading p
received_by s reading HeardCv = heard_cv s reading
received_by s reading (FaultMessage f) = fault_taken s reading f
