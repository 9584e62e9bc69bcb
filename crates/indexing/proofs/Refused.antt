-- No refusal has the number 0.
-- Assumes nothing.
use native.Mathlib.Omega.{arith}
use mathlib.Core.Path.{◌≡◌}
use Rattle.octets.specs.declared.refusals.Refusal.{Refusal}
use Rattle.octets.specs.declared.refusals.Refusal.TheVariants.{Late, NotOpen, TooShort, Header, Channel, ControlPacket, MepId, FaultMessage, NoPlace, OutOfRange, Taken, Full, NoRoom, Locked, NotStanding, PastHolder, WrongLength, NotOnce, BadLog, BadIndex, NoFit, FirstCapture, SecondCapture, NoGroup, DhcTlvs, Unsound}
use Rattle.octets.specs.Refusals.{number_of}

pub some_number : (r : Refusal) → number_of r ≡ 0 → ⊥
some_number Late e = absurd (omega arith)
some_number NotOpen e = absurd (omega arith)
some_number TooShort e = absurd (omega arith)
some_number Header e = absurd (omega arith)
some_number Channel e = absurd (omega arith)
some_number ControlPacket e = absurd (omega arith)
some_number MepId e = absurd (omega arith)
some_number FaultMessage e = absurd (omega arith)
some_number NoPlace e = absurd (omega arith)
some_number OutOfRange e = absurd (omega arith)
some_number Taken e = absurd (omega arith)
some_number Full e = absurd (omega arith)
some_number NoRoom e = absurd (omega arith)
some_number Locked e = absurd (omega arith)
some_number NotStanding e = absurd (omega arith)
some_number PastHolder e = absurd (omega arith)
some_number WrongLength e = absurd (omega arith)
some_number NotOnce e = absurd (omega arith)
some_number BadLog e = absurd (omega arith)
some_number BadIndex e = absurd (omega arith)
some_number NoFit e = absurd (omega arith)
some_number FirstCapture e = absurd (omega arith)
some_number SecondCapture e = absurd (omega arith)
some_number NoGroup e = absurd (omega arith)
some_number DhcTlvs e = absurd (omega arith)
some_number Unsound e = absurd (omega arith)
