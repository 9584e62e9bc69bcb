-- The layout of what is lent and returned: size, alignment and the place of each field, as `include/korvezul.h` holds them against a C compiler's.
-- Assumes nothing.
use Prim.Native.Nat.{ℕ, zero, suc}
use mathlib.Core.Path.{◌≡◌, refl}
use mathlib.Core.List.{List, [], ◌∷◌}
use mathlib.Core.Option.{Option, none, some}
use mir.Syntax.{Ty}
use prog.Memory.{size, align, field_of}
use Rattle.cv.proofs.Agi.TheLaws.{mir as agi}
use Rattle.cv.proofs.MepId.TheLaws.{mir as mep-id}
use Rattle.rules.proofs.Settings.TheLaws.{mir as settings}
use Rattle.rules.proofs.Key.TheLaws.{mir as key}
use Rattle.rules.proofs.Circuit.TheLaws.{mir as circuit}
use Rattle.conditions.proofs.Condition.TheLaws.{mir as condition}
use Rattle.conditions.proofs.Conditions.TheLaws.{mir as conditions}
use Rattle.homing.proofs.Group.TheLaws.{mir as group}
use Rattle.homing.proofs.GroupSettings.TheLaws.{mir as group-settings}
use Rattle.homing.proofs.GroupReport.TheLaws.{mir as group-report}
use Rattle.session.proofs.Peer.TheLaws.{mir as peer}
use Rattle.session.proofs.Session.TheLaws.{mir as session}
use Rattle.table.proofs.Head.TheLaws.{mir as head}
use Rattle.live.proofs.LiveQuestion.TheLaws.{mir as question}
use Rattle.live.proofs.LiveCause.TheLaws.{mir as cause}
use Rattle.korvezul.proofs.OpeningFor.TheLaws.{mir as opening}
use Rattle.korvezul.proofs.ReportAnswer.TheLaws.{mir as report}
use Rattle.korvezul.proofs.groups.GroupFor.TheLaws.{mir as grouping}
use Rattle.korvezul.proofs.groups.GroupName.TheLaws.{mir as group-name}
use Rattle.korvezul.proofs.groups.AcOf.TheLaws.{mir as ac-of}
use Rattle.korvezul.proofs.groups.GroupAnswer.TheLaws.{mir as group-answer}
use Rattle.fields.proofs.fields.PacketFields.TheLaws.{mir as packet}
use Rattle.fields.proofs.fields.FaultFields.TheLaws.{mir as fault}
use Rattle.fields.proofs.readers.CcRead.TheLaws.{mir as cc-read}
use Rattle.fields.proofs.readers.CvRead.TheLaws.{mir as cv-read}
use Rattle.fields.proofs.readers.MepIdRead.TheLaws.{mir as mep-id-read}
use Rattle.fields.proofs.readers.FaultRead.TheLaws.{mir as fault-read}
use Rattle.logging.proofs.Logged.TheLaws.{mir as logged}
use Rattle.coordination.proofs.numbers.StatusNumbers.TheLaws.{mir as dhc-status}
use Rattle.coordination.proofs.numbers.SwitchingNumbers.TheLaws.{mir as dhc-switching}
use Rattle.coordination.proofs.numbers.DhcNumbers.TheLaws.{mir as dhc}
use Rattle.coordination.proofs.numbers.DhcRead.TheLaws.{mir as dhc-read}
use Rattle.korvezul.proofs.provisioning.ConfigurationRead.TheLaws.{mir as configuration-read}

-- a field that begins there
abbrev begins : Option (Ty × ℕ) → ℕ → Type 0
begins none p = ⊥
begins (some f) p = f.1 ≡ p

-- the fields from the k-th on stand at these places, and there is none behind
abbrev stand : Ty → ℕ → List ℕ → Type 0
stand τ k [] = field_of τ k ≡ none
stand τ k (p ∷ ps) = begins (field_of τ k) p × stand τ (suc k) ps

-- size, alignment, and where each field stands
pub record Laid (τ : Ty) (n k : ℕ) (places : List ℕ) : Type 0 where
  pub octets : size τ ≡ n
  pub aligned : align τ ≡ k
  pub fields : stand τ zero places

pub agi-laid : Laid agi 32 8 (0 ∷ 8 ∷ 16 ∷ 24 ∷ [])
agi-laid = record { octets = refl; aligned = refl; fields = (refl, (refl, (refl, (refl, refl)))) }

pub mep-id-laid : Laid mep-id 48 8 (0 ∷ 32 ∷ 36 ∷ 40 ∷ 44 ∷ 46 ∷ 47 ∷ [])
mep-id-laid = record { octets = refl; aligned = refl; fields = (refl, (refl, (refl, (refl, (refl, (refl, (refl, refl))))))) }

pub settings-laid : Laid settings 112 8 (0 ∷ 48 ∷ 96 ∷ 100 ∷ 104 ∷ 108 ∷ 109 ∷ 110 ∷ [])
settings-laid = record { octets = refl; aligned = refl; fields = (refl, (refl, (refl, (refl, (refl, (refl, (refl, (refl, refl)))))))) }

pub circuit-laid : Laid circuit 8 4 (0 ∷ 4 ∷ [])
circuit-laid = record { octets = refl; aligned = refl; fields = (refl, (refl, refl)) }

pub opening-laid : Laid opening 120 8 (0 ∷ 112 ∷ [])
opening-laid = record { octets = refl; aligned = refl; fields = (refl, (refl, refl)) }

pub group-settings-laid : Laid group-settings 20 4 (0 ∷ 4 ∷ 8 ∷ 12 ∷ 16 ∷ [])
group-settings-laid = record { octets = refl; aligned = refl; fields = (refl, (refl, (refl, (refl, (refl, refl))))) }

pub grouping-laid : Laid grouping 24 4 (0 ∷ 20 ∷ [])
grouping-laid = record { octets = refl; aligned = refl; fields = (refl, (refl, refl)) }

pub group-name-laid : Laid group-name 8 4 (0 ∷ 4 ∷ [])
group-name-laid = record { octets = refl; aligned = refl; fields = (refl, (refl, refl)) }

pub ac-of-laid : Laid ac-of 12 4 (0 ∷ 8 ∷ [])
ac-of-laid = record { octets = refl; aligned = refl; fields = (refl, (refl, refl)) }

pub key-laid : Laid key 16 4 (0 ∷ 4 ∷ 8 ∷ 12 ∷ 13 ∷ 14 ∷ [])
key-laid = record { octets = refl; aligned = refl; fields = (refl, (refl, (refl, (refl, (refl, (refl, refl)))))) }

pub condition-laid : Laid condition 32 8 (0 ∷ 8 ∷ 24 ∷ 25 ∷ [])
condition-laid = record { octets = refl; aligned = refl; fields = (refl, (refl, (refl, (refl, refl)))) }

pub conditions-laid : Laid conditions 128 8 (0 ∷ 32 ∷ 64 ∷ 96 ∷ [])
conditions-laid = record { octets = refl; aligned = refl; fields = (refl, (refl, (refl, (refl, refl)))) }

pub peer-laid : Laid peer 8 4 (0 ∷ 4 ∷ 5 ∷ 6 ∷ [])
peer-laid = record { octets = refl; aligned = refl; fields = (refl, (refl, (refl, (refl, refl)))) }

pub group-laid : Laid group 16 4 (0 ∷ 4 ∷ 8 ∷ 12 ∷ 13 ∷ 14 ∷ 15 ∷ [])
group-laid = record { octets = refl; aligned = refl; fields = (refl, (refl, (refl, (refl, (refl, (refl, (refl, refl))))))) }

pub session-laid : Laid session 288 8 (0 ∷ 8 ∷ 16 ∷ 144 ∷ 256 ∷ 264 ∷ 265 ∷ 268 ∷ [])
session-laid = record { octets = refl; aligned = refl; fields = (refl, (refl, (refl, (refl, (refl, (refl, (refl, (refl, refl)))))))) }

pub head-laid : Laid head 16 8 (0 ∷ 8 ∷ [])
head-laid = record { octets = refl; aligned = refl; fields = (refl, (refl, refl)) }

pub report-laid : Laid report 12 4 (0 ∷ 4 ∷ 5 ∷ 6 ∷ 7 ∷ 8 ∷ 9 ∷ 10 ∷ [])
report-laid = record { octets = refl; aligned = refl; fields = (refl, (refl, (refl, (refl, (refl, (refl, (refl, (refl, refl)))))))) }

pub group-report-laid : Laid group-report 3 1 (0 ∷ 1 ∷ 2 ∷ [])
group-report-laid = record { octets = refl; aligned = refl; fields = (refl, (refl, (refl, refl))) }

pub group-answer-laid : Laid group-answer 8 4 (0 ∷ 4 ∷ [])
group-answer-laid = record { octets = refl; aligned = refl; fields = (refl, (refl, refl)) }

pub question-laid : Laid question 28 4 (0 ∷ 8 ∷ 24 ∷ [])
question-laid = record { octets = refl; aligned = refl; fields = (refl, (refl, (refl, refl))) }

pub cause-laid : Laid cause 48 8 (0 ∷ 16 ∷ 24 ∷ 32 ∷ 40 ∷ [])
cause-laid = record { octets = refl; aligned = refl; fields = (refl, (refl, (refl, (refl, (refl, refl))))) }

pub packet-laid : Laid packet 28 4 (0 ∷ 4 ∷ 8 ∷ 12 ∷ 16 ∷ 20 ∷ 21 ∷ 22 ∷ 23 ∷ 24 ∷ 25 ∷ 26 ∷ [])
packet-laid = record { octets = refl; aligned = refl; fields = (refl, (refl, (refl, (refl, (refl, (refl, (refl, (refl, (refl, (refl, (refl, (refl, refl)))))))))))) }

pub fault-laid : Laid fault 20 4 (0 ∷ 4 ∷ 8 ∷ 12 ∷ 13 ∷ 14 ∷ 15 ∷ 16 ∷ 17 ∷ [])
fault-laid = record { octets = refl; aligned = refl; fields = (refl, (refl, (refl, (refl, (refl, (refl, (refl, (refl, (refl, refl))))))))) }

pub cc-read-laid : Laid cc-read 40 8 (0 ∷ 8 ∷ 12 ∷ [])
cc-read-laid = record { octets = refl; aligned = refl; fields = (refl, (refl, (refl, refl))) }

pub cv-read-laid : Laid cv-read 96 8 (0 ∷ 8 ∷ 12 ∷ 16 ∷ 20 ∷ 48 ∷ [])
cv-read-laid = record { octets = refl; aligned = refl; fields = (refl, (refl, (refl, (refl, (refl, (refl, refl)))))) }

pub mep-id-read-laid : Laid mep-id-read 56 8 (0 ∷ 8 ∷ [])
mep-id-read-laid = record { octets = refl; aligned = refl; fields = (refl, (refl, refl)) }

pub fault-read-laid : Laid fault-read 32 8 (0 ∷ 8 ∷ 12 ∷ [])
fault-read-laid = record { octets = refl; aligned = refl; fields = (refl, (refl, (refl, refl))) }

pub configuration-read-laid : Laid configuration-read 12 4 (0 ∷ 4 ∷ 8 ∷ [])
configuration-read-laid = record { octets = refl; aligned = refl; fields = (refl, (refl, (refl, refl))) }

pub logged-laid : Laid logged 16 8 (0 ∷ 8 ∷ 12 ∷ 14 ∷ [])
logged-laid = record { octets = refl; aligned = refl; fields = (refl, (refl, (refl, (refl, refl)))) }

pub dhc-status-laid : Laid dhc-status 16 4 (0 ∷ 4 ∷ 8 ∷ 12 ∷ 13 ∷ 14 ∷ 15 ∷ [])
dhc-status-laid = record { octets = refl; aligned = refl; fields = (refl, (refl, (refl, (refl, (refl, (refl, (refl, refl))))))) }

pub dhc-switching-laid : Laid dhc-switching 16 4 (0 ∷ 4 ∷ 8 ∷ 12 ∷ 13 ∷ 14 ∷ [])
dhc-switching-laid = record { octets = refl; aligned = refl; fields = (refl, (refl, (refl, (refl, (refl, (refl, refl)))))) }

pub dhc-laid : Laid dhc 36 4 (0 ∷ 4 ∷ 20 ∷ [])
dhc-laid = record { octets = refl; aligned = refl; fields = (refl, (refl, (refl, refl))) }

pub dhc-read-laid : Laid dhc-read 40 4 (0 ∷ 4 ∷ [])
dhc-read-laid = record { octets = refl; aligned = refl; fields = (refl, (refl, refl)) }
