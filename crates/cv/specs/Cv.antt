-- The connectivity verification message: a BFD control packet, and right after Length octets the source MEP-ID.
-- Assumes nothing.
use Rattle.std.specs.Prelude.{cond, ◌≡◌, ℕ, ◌+◌, ◌<◌, List, [], length, get_or, ltb, eqb}
use Rattle.octets.specs.Numbers.{number_at}
use Rattle.octets.specs.Choice.{need, bar, or_else, Answer, answer, Placed}
use Rattle.gach.specs.Header.{cv_channel, channel_place}
use Rattle.bfd.specs.declared.Packet.{Packet}
use Rattle.bfd.specs.Packet.{length_of, packet_of}
use Rattle.bfd.specs.Reception.{body_refusal, control_refusal, body_place}
use Rattle.bfd.specs.Octets.{packet_octets, field_refusal}
use Rattle.cv.specs.declared.MepId.{MepId}
use Rattle.cv.specs.declared.Verification.{Verification}
use Rattle.cv.specs.declared.CvOctets.{CvOctets}
use Rattle.cv.specs.Forms.{value_length, mep_refusal, mep_fits, form_place, value_place}
use Rattle.cv.specs.MepId.{mep_id_at, stretch_at, mep_octets, whole_octets}

-- where the MEP-ID starts, and its type, length and AGI length there
abbrev pub mep_at : List ℕ → ℕ
mep_at m = 4 + length_of m

abbrev pub kind_at : List ℕ → ℕ
kind_at m = number_at 2 m (mep_at m)

abbrev pub len_at : List ℕ → ℕ
len_at m = number_at 2 m (mep_at m + 2)

abbrev pub agi_length_at : List ℕ → ℕ
agi_length_at m = get_or m (mep_at m + 17) 0

-- the order for a CV: the packet's refusals on its first 28 octets, then those of its MEP-ID
unfoldable pub cv_refusal : List ℕ → ℕ
cv_refusal m = or_else (control_refusal cv_channel m) (mep_refusal m (mep_at m))

-- what a message whose header is a CV's is refused for
unfoldable pub cv_body_refusal : List ℕ → ℕ
cv_body_refusal m = or_else (body_refusal m) (mep_refusal m (mep_at m))

-- the MEP-ID, read from its own octets and none behind them
abbrev pub source_of : List ℕ → MepId
source_of m = mep_id_at (stretch_at m (mep_at m)) 0

abbrev pub verification_of : List ℕ → Verification
verification_of m = record { packet = packet_of m; mep = source_of m }

-- what reading a CV says
unfoldable pub read_cv : List ℕ → Answer Verification
read_cv m = answer (cv_refusal m) (verification_of m)

-- the octets that a CV uses: its packet, and the MEP-ID's type, length and value
abbrev pub cv_end : List ℕ → ℕ
cv_end m = mep_at m + 4 + len_at m

-- behind the packet, along the refusals of the MEP-ID: the message's length where it is too short, else the field that is refused; else
-- the octets used
unfoldable pub source_place : List ℕ → ℕ
source_place m =
    bar (ltb (length m) (mep_at m + 4)) (length m)
    (form_place (mep_at m) (kind_at m) (len_at m)
    (value_place (length m) (mep_at m) (kind_at m) (len_at m) (agi_length_at m)))

-- where a CV goes wrong; of an accepted one the octets used
unfoldable pub cv_place : List ℕ → ℕ
cv_place m = channel_place cv_channel m (body_place m (source_place m))

-- what the reader of CVs says, and where
abbrev pub cv_reading : List ℕ → Placed Verification
cv_reading m = record { answer = read_cv m; place = cv_place m }

-- the stretch that is handed back: the MEP-ID of an accepted message, type to end; of a refused one the empty part
unfoldable pub mep_part : List ℕ → List ℕ
mep_part m = cond (eqb (cv_refusal m) 0) (stretch_at m (mep_at m)) []

-- where it lies in the message: at the MEP-ID; the empty part lies at the message's start
unfoldable pub part_at : List ℕ → ℕ
part_at m = cond (eqb (cv_refusal m) 0) (mep_at m) 0

-- the octets of a plain CV
abbrev pub cv_octets : Packet → MepId → List ℕ
cv_octets p id = packet_octets cv_channel p (mep_octets id)

-- how many they are: 32 and the length of the value
abbrev pub cv_size : MepId → ℕ
cv_size id = 28 + (4 + value_length id.kind id.size)

-- as the code holds them: 78 octets, and how many of them are the message
abbrev pub cv_whole : Packet → MepId → CvOctets
cv_whole p id = record { octets = packet_octets cv_channel p (whole_octets id); count = cv_size id }

-- refusal 10: a field out of its range, or one that the reader would refuse; Your 0 in INIT or UP is no fault of a CV
unfoldable pub cv_field_refusal : Packet → MepId → ℕ
cv_field_refusal p id = or_else (field_refusal p) (need (mep_fits id.kind id.size) 10 0)

-- a plain CV: no padding, the octet that is not looked at 0, Length 24
pub record Plain (m : List ℕ) : Type 0 where
  pub octets : (i : ℕ) → get_or m i 0 < 256
  pub size : length m ≡ cv_end m
  pub unread : get_or m 1 0 ≡ 0
  pub len : length_of m ≡ 24
