-- What the exported readers and writers of messages answer: one record of numbers, and the lent buffer afterwards.
-- Assumes nothing.
use Rattle.std.specs.Prelude.{ℕ, ◌+◌, List}
use Rattle.octets.specs.Choice.{Answer, accepted, refused, Placed, or_else}
use Rattle.bfd.specs.declared.Packet.{Packet}
use Rattle.bfd.specs.Octets.{cc_field_refusal}
use Rattle.cv.specs.declared.MepId.{MepId}
use Rattle.cv.specs.MepId.{no_agi}
use Rattle.cv.specs.declared.Verification.{Verification}
use Rattle.cv.specs.Cv.{mep_at, len_at, cv_reading, cv_field_refusal}
use Rattle.fault.specs.declared.Fault.{Fault}
use Rattle.fault.specs.Octets.{field_refusal}
use Rattle.fields.specs.declared.fields.PacketFields.{PacketFields}
use Rattle.fields.specs.declared.fields.FaultFields.{FaultFields}
use Rattle.fields.specs.declared.readers.CcRead.{CcRead}
use Rattle.fields.specs.declared.readers.CvRead.{CvRead}
use Rattle.fields.specs.declared.readers.MepIdRead.{MepIdRead}
use Rattle.fields.specs.declared.readers.FaultRead.{FaultRead}
use Rattle.fields.specs.Fields.{packet_fields, packet_from, packet_marks, fault_fields, fault_from, fault_marks}

-- the noughts beside a refusal
abbrev pub no_packet : PacketFields
no_packet =
    record { my = 0; your = 0; transmit = 0; receive = 0; echo = 0; diagnostic = 0; state = 0; multiplier = 0; poll = 0; fin = 0; independent = 0; demand = 0 }

abbrev pub no_mep : MepId
no_mep = record { agi = no_agi; global = 0; node = 0; local = 0; kind = 0; group = 0; size = 0 }

abbrev pub no_fault : FaultFields
no_fault =
    record { node = 0; interface = 0; global = 0; kind = 0; linkdown = 0; removed = 0; refresh = 0; ifid = 0; globalid = 0 }

-- what the reader of a CC says: the place, and 0 and the fields, or the refusal's number and noughts
abbrev pub cc_by : ℕ → Answer Packet → CcRead
cc_by place (accepted p) = record { place = place; answer = 0; packet = packet_fields p }
cc_by place (refused n) = record { place = place; answer = n; packet = no_packet }

abbrev pub cc_read : Placed Packet → CcRead
cc_read r = cc_by r.place r.answer

-- the same for a CV, with the place in the message from which its MEP-ID part stands, type to end, and how many octets the part has
abbrev pub cv_by : ℕ → ℕ → ℕ → Answer Verification → CvRead
cv_by part octets place (accepted v) = record { place = place; answer = 0; part = part; octets = octets; packet = packet_fields v.packet; mep = v.mep }
cv_by part octets place (refused n) = record { place = place; answer = n; part = 0; octets = 0; packet = no_packet; mep = no_mep }

abbrev pub cv_read : ℕ → ℕ → Placed Verification → CvRead
cv_read part octets r = cv_by part octets r.place r.answer

-- the part begins at the MEP-ID, and has the octets of type, length and value
abbrev pub cv_read_of : List ℕ → CvRead
cv_read_of m = cv_read (mep_at m) (4 + len_at m) (cv_reading m)

-- and for a MEP-ID alone, without a place
abbrev pub mep_read : Answer MepId → MepIdRead
mep_read (accepted id) = record { answer = 0; mep = id }
mep_read (refused n) = record { answer = n; mep = no_mep }

abbrev pub fault_by : ℕ → Answer Fault → FaultRead
fault_by place (accepted f) = record { place = place; answer = 0; fault = fault_fields f }
fault_by place (refused n) = record { place = place; answer = n; fault = no_fault }

abbrev pub fault_read : Placed Fault → FaultRead
fault_read r = fault_by r.place r.answer

-- refusal 10 of fields in numbers: a mark above 1, or what the writer of the message refuses
abbrev pub cc_write_refusal : PacketFields → ℕ
cc_write_refusal f = or_else (packet_marks f) (cc_field_refusal (packet_from f))

abbrev pub cv_write_refusal : PacketFields → MepId → ℕ
cv_write_refusal f id = or_else (packet_marks f) (cv_field_refusal (packet_from f) id)

abbrev pub fault_write_refusal : FaultFields → ℕ
fault_write_refusal f = or_else (fault_marks f) (field_refusal (fault_from f))
