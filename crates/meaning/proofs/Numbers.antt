-- No call is answered above 25 by the paper, so that none is answered 26.
-- Assumes nothing.
use Prim.Native.Nat.{ℕ, ◌≤◌}
use native.Mathlib.Omega.{arith}
use mathlib.Core.Option.{Option, none, some}
use mathlib.Core.List.{List}
use lib.Dec.{eqb}
use Rattle.octets.proofs.Chain.{need-most, bar-most}
use Rattle.message.specs.Message.{message_refusal, message_of}
use Rattle.message.proofs.Bounds.{message-most}
use Rattle.rules.specs.declared.Received.{Received}
use Rattle.rules.specs.declared.Received.TheVariants.{CrossedMessage, HeardCc, HeardCv, FaultMessage}
use Rattle.rules.specs.Times.{late}
use Rattle.rules.specs.Settings.{settings_fit}
use Rattle.rules.specs.Calls.{Act, Close, Lock, Unlock, Receive, ReportOn, WriteCc, WriteCv, Call, Tick, Open, On}
use Rattle.table.proofs.Numbers.{found-most, write-most}
use Rattle.meaning.specs.Stories.{Story, was_to}
use Rattle.meaning.specs.Standing.{locked, cc_written, cv_written}
use Rattle.meaning.specs.Answers.{is_open, rival, full, open_number, crowded, received_number, receive_number, act_said, says_of}

received-most : (s : Story) (t : ℕ) (x : Received) → received_number s t x ≤ 14
received-most s t CrossedMessage = bar-most 14 (locked s) (omega arith) (omega arith)
received-most s t (HeardCc p) = bar-most 14 (locked s) (omega arith) (omega arith)
received-most s t HeardCv = bar-most 14 (locked s) (omega arith) (omega arith)
received-most s t (FaultMessage f) = bar-most 14 (crowded s f t) (omega arith) (omega arith)

receive-most : (o : Option Story) (m : List ℕ) (t : ℕ) → receive_number o m t ≤ 25
receive-most none m t = omega arith
receive-most (some s) m t =
    need-most 25 (eqb (message_refusal m) 0) (message-most m) (omega (arith, received-most s t (was_to s (message_of m))))

act-most : (now : ℕ) (o : Option Story) (l : ℕ) (a : Act) → (act_said now o l a).number ≤ 25
unfolding act_said
act-most now o l (Close t) = found-most now t (is_open o)
act-most now o l (Lock t) = found-most now t (is_open o)
act-most now o l (Unlock t) = found-most now t (is_open o)
act-most now o l (Receive m t) = bar-most 25 (late now t) (omega arith) (receive-most o m t)
act-most now none l ReportOn = omega arith
act-most now (some s) l ReportOn = omega arith
act-most now none l (WriteCc b) = omega arith
act-most now (some s) l (WriteCc b) = write-most (cc_written now s) b
act-most now none l (WriteCv b) = omega arith
act-most now (some s) l (WriteCv b) = write-most (cv_written now s) b

-- what the paper says is never above 25
pub says-most : (now : ℕ) (st : ℕ → Option Story) (ls : List ℕ) (c : Call) → (says_of now st ls c).number ≤ 25
unfolding says_of open_number
says-most now st ls (Tick t) = bar-most 25 (late now t) (omega arith) (omega arith)
says-most now st ls (Open g t) =
    bar-most 25 (late now t) (omega arith)
    (need-most 25 (settings_fit g) (omega arith) (bar-most 25 (rival st ls g) (omega arith) (bar-most 25 (full g.label ls) (omega arith) (omega arith))))
says-most now st ls (On l a) = act-most now (st l) l a
