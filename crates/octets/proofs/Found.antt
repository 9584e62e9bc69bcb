-- What a chain of refusals, and an answer, come to behind one that was found.
-- Assumes nothing.
use Rattle.std.specs.Prelude.{◌≡◌, ℕ, Result, Ok, Err}
use Rattle.std.specs.Result.{result_and}
use Rattle.std.proofs.Common.{refl, sym}
use native.Mathlib.Omega.{arith}
use borrow.Author.Tests.{ne_eqb}
use Rattle.octets.specs.Choice.{or_else, answer, refused}
use Rattle.octets.specs.Refusals.{number_of, refusal_in}
use Rattle.octets.specs.declared.refusals.Refusal.{Refusal}
use Rattle.octets.specs.declared.refusals.Refusal.TheVariants.{Late, NotOpen, TooShort, Header, Channel, ControlPacket, MepId, FaultMessage, NoPlace, OutOfRange, Taken, Full, NoRoom, Locked, NotStanding, PastHolder, WrongLength, NotOnce, BadLog, BadIndex, NoFit, FirstCapture, SecondCapture, NoGroup, DhcTlvs, Unsound}
use Rattle.octets.proofs.Chain.{or_else-first}

-- no refusal has the number 0
pub number_found : (r : Refusal) → number_of r ≡ 0 → ⊥
number_found Late e = absurd (omega arith)
number_found NotOpen e = absurd (omega arith)
number_found TooShort e = absurd (omega arith)
number_found Header e = absurd (omega arith)
number_found Channel e = absurd (omega arith)
number_found ControlPacket e = absurd (omega arith)
number_found MepId e = absurd (omega arith)
number_found FaultMessage e = absurd (omega arith)
number_found NoPlace e = absurd (omega arith)
number_found OutOfRange e = absurd (omega arith)
number_found Taken e = absurd (omega arith)
number_found Full e = absurd (omega arith)
number_found NoRoom e = absurd (omega arith)
number_found Locked e = absurd (omega arith)
number_found NotStanding e = absurd (omega arith)
number_found PastHolder e = absurd (omega arith)
number_found WrongLength e = absurd (omega arith)
number_found NotOnce e = absurd (omega arith)
number_found BadLog e = absurd (omega arith)
number_found BadIndex e = absurd (omega arith)
number_found NoFit e = absurd (omega arith)
number_found FirstCapture e = absurd (omega arith)
number_found SecondCapture e = absurd (omega arith)
number_found NoGroup e = absurd (omega arith)
number_found DhcTlvs e = absurd (omega arith)
number_found Unsound e = absurd (omega arith)

pub found_first : (r : Refusal) (rest : ℕ) → or_else (number_of r) rest ≡ number_of r
found_first r rest = or_else-first (number_of r) rest (number_found r)

pub found_answer : {A : Type 0} (r : Refusal) (a : A) → answer (number_of r) a ≡ refused (number_of r)
found_answer r a = rw (ne_eqb (number_of r) 0 (number_found r))

-- two in a chain
pub chained : {A : Type 0} (a : Result (Unit {0}) Refusal) (b : Result A Refusal) → refusal_in (result_and a b) ≡ or_else (refusal_in a) (refusal_in b)
chained (Ok u) b = refl
chained (Err r) b = sym (found_first r (refusal_in b))
