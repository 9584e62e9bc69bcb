-- The numbers that the rules paper gives to refusals, and what a reader that may refuse says.
-- Assumes nothing.
use Rattle.std.specs.Prelude.{ℕ, Result, Ok, Err}
use Rattle.octets.specs.Choice.{Answer, accepted, refused, Placed}
use Rattle.octets.specs.declared.refusals.Misread.{Misread}
use Rattle.octets.specs.declared.refusals.Refusal.{Refusal}
use Rattle.octets.specs.declared.refusals.Refusal.TheVariants.{Late, NotOpen, TooShort, Header, Channel, ControlPacket, MepId, FaultMessage, NoPlace, OutOfRange, Taken, Full, NoRoom, Locked, NotStanding, PastHolder, WrongLength, NotOnce, BadLog, BadIndex, NoFit, FirstCapture, SecondCapture, NoGroup, DhcTlvs, Unsound}

abbrev pub number_of : Refusal → ℕ
number_of Late = 1
number_of NotOpen = 2
number_of TooShort = 3
number_of Header = 4
number_of Channel = 5
number_of ControlPacket = 6
number_of MepId = 7
number_of FaultMessage = 8
number_of NoPlace = 9
number_of OutOfRange = 10
number_of Taken = 11
number_of Full = 12
number_of NoRoom = 13
number_of Locked = 14
number_of NotStanding = 15
number_of PastHolder = 16
number_of WrongLength = 17
number_of NotOnce = 18
number_of BadLog = 19
number_of BadIndex = 20
number_of NoFit = 21
number_of FirstCapture = 22
number_of SecondCapture = 23
number_of NoGroup = 24
number_of DhcTlvs = 25
number_of Unsound = 26

-- a refusal's number, 0 where there is none
abbrev pub refusal_in : {A : Type 0} → Result A Refusal → ℕ
refusal_in (Ok a) = 0
refusal_in (Err r) = number_of r

-- the values under answer 0, or a refusal's number alone
abbrev pub answer_in : {A : Type 0} → Result A Refusal → Answer A
answer_in (Ok a) = accepted a
answer_in (Err r) = refused (number_of r)

-- what a reader says, and where: behind the values the octets used, behind a refusal the place at which the message went wrong
abbrev pub placed_in : {A : Type 0} → Result (A × ℕ) Misread → Placed A
placed_in (Ok x) = record { answer = accepted x.0; place = x.1 }
placed_in (Err e) = record { answer = refused (number_of e.refusal); place = e.place }
