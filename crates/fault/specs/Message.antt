-- The fault message (RFC 6427), read: the channel header, five octets, and TLVs. Octets behind the TLVs are not looked at.
-- Assumes nothing.
use Rattle.std.specs.Prelude.{ℕ, ◌+◌, ◌/◌, ◌%◌, List, Bool, cond, length, get_or, ltb, leb, eqb}
use Rattle.octets.specs.Choice.{need, bar, or_else, Answer, answer, Placed}
use Rattle.gach.specs.Header.{fault_channel, channel_refusal, channel_place}
use Rattle.fault.specs.declared.Fault.{Fault}
use Rattle.fault.specs.Identifiers.{OptionalIfId}
use Rattle.fault.specs.Identifiers.{NoIfId, AnIfId}
use Rattle.fault.specs.Identifiers.{OptionalGlobalId}
use Rattle.fault.specs.Identifiers.{NoGlobalId, AGlobalId}
use Rattle.fault.specs.declared.tlv.Tlvs.{Tlvs}
use Rattle.fault.specs.Tlvs.{tlvs_of}

-- the refusal n unless the type is 1 (AIS) or 2 (LKR) and the refresh time 1 to 20 seconds
unfoldable pub range_refusal : ℕ → ℕ → ℕ → ℕ
range_refusal n kind refresh =
    need (leb 1 kind) n
    (need (leb kind 2) n
    (need (leb 1 refresh) n
    (need (leb refresh 20) n 0)))

-- octets 4 to 7: version 1 in the high 4 bits (the low 4 are not looked at), then type and refresh time
unfoldable pub head_refusal : List ℕ → ℕ
head_refusal m = need (eqb (get_or m 4 0 / 16) 1) 8 (range_refusal 8 (get_or m 5 0) (get_or m 7 0))

-- where the TLVs end: octet 8 is their total length
abbrev pub tlvs_end : List ℕ → ℕ
tlvs_end m = 9 + get_or m 8 0

abbrev pub tlvs_in : List ℕ → Tlvs
tlvs_in m = tlvs_of m (tlvs_end m)

-- the header's refusals 3, 4 and 5; 3 under 9 octets; 8 for octets 4 to 7; 3 for TLVs past the end of the message; then the rest
abbrev pub front_then : List ℕ → ℕ → ℕ
front_then m rest =
    or_else (channel_refusal fault_channel m)
    (bar (ltb (length m) 9) 3
    (or_else (head_refusal m)
    (bar (ltb (length m) (tlvs_end m)) 3 rest)))

-- before the TLVs
unfoldable pub front_refusal : List ℕ → ℕ
front_refusal m = front_then m 0

-- and with 8 where an octet of a TLV is wrong
abbrev pub tlvs_refusal : Tlvs → ℕ
tlvs_refusal t = need (eqb t.bad 0) 8 0

unfoldable pub refusal_with : List ℕ → Tlvs → ℕ
refusal_with m t = front_then m (tlvs_refusal t)

unfoldable pub fault_refusal : List ℕ → ℕ
fault_refusal m = refusal_with m (tlvs_in m)

-- an IF_ID and a Global_ID, present or absent
abbrev pub if_id_of : Bool → ℕ → ℕ → OptionalIfId
if_id_of present node interface = cond present (AnIfId node interface) NoIfId

abbrev pub global_id_of : Bool → ℕ → OptionalGlobalId
global_id_of present global = cond present (AGlobalId global) NoGlobalId

-- octet 5 the type, octet 6 the flags (value 2 is L, value 1 is R, the others are not looked at), octet 7 the refresh time
unfoldable pub fields_with : List ℕ → Tlvs → Fault
fields_with m t =
    record {
      kind = get_or m 5 0;
      linkdown = eqb (get_or m 6 0 / 2 % 2) 1;
      removed = eqb (get_or m 6 0 % 2) 1;
      refresh = get_or m 7 0;
      interface = if_id_of t.ifid t.node t.interface;
      global = global_id_of t.globalid t.global;
    }

-- the fields, whether or not the message is refused
unfoldable pub fault_of : List ℕ → Fault
fault_of m = fields_with m (tlvs_in m)

unfoldable pub read_fault : List ℕ → Answer Fault
read_fault m = answer (fault_refusal m) (fault_of m)

-- the octet `at`, whose number is not 1 to `most`; else what follows
abbrev pub range_place : ℕ → ℕ → ℕ → ℕ → ℕ
range_place number most at rest = need (leb 1 number) at (need (leb number most) at rest)

-- where the head goes wrong: version 4, type 5, refresh time 7; else what follows
unfoldable pub head_place : List ℕ → ℕ → ℕ
head_place m rest =
    need (eqb (get_or m 4 0 / 16) 1) 4
    (range_place (get_or m 5 0) 2 5
    (range_place (get_or m 7 0) 20 7 rest))

-- 3 is told with the length of the message
abbrev pub cut_place : List ℕ → ℕ → ℕ → ℕ
cut_place m end rest = bar (ltb (length m) end) (length m) rest

-- before the TLVs, in the order of the refusals
unfoldable pub front_place : List ℕ → ℕ → ℕ
front_place m rest =
    channel_place fault_channel m
    (cut_place m 9
    (head_place m
    (cut_place m (tlvs_end m) rest)))

-- then at the wrong octet of a TLV, and else the octets used
unfoldable pub place_with : List ℕ → Tlvs → ℕ
place_with m t = front_place m (or_else t.bad (tlvs_end m))

-- where a fault message goes wrong; of an accepted one the octets used
unfoldable pub fault_place : List ℕ → ℕ
fault_place m = place_with m (tlvs_in m)

-- what the reader of fault messages says, and where
abbrev pub fault_reading : List ℕ → Placed Fault
fault_reading m = record { answer = read_fault m; place = fault_place m }
