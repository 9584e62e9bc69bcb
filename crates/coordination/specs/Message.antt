-- The DHC message (RFC 8185, 4.1), read: the channel header, Dual-Homing Group ID, total length of the TLVs, two octets that are not looked at, and TLVs.
-- Octets behind the TLVs are not looked at.
-- Assumes nothing.
use Rattle.std.specs.Prelude.{ℕ, ◌+◌, ◌/◌, ◌%◌, List, Bool, cond, ◌&&◌, length, ltb, eqb}
use Rattle.octets.specs.Numbers.{number_at}
use Rattle.octets.specs.Choice.{bar, or_else, Answer, accepted, refused, answer}
use Rattle.gach.specs.Header.{channel_refusal}
use Rattle.coordination.specs.declared.Dhc.{Dhc}
use Rattle.coordination.specs.Carried.{OptionalStatus}
use Rattle.coordination.specs.Carried.{NoStatus, AStatus}
use Rattle.coordination.specs.Carried.{OptionalSwitching}
use Rattle.coordination.specs.Carried.{NoSwitching, ASwitching}
use Rattle.coordination.specs.declared.tlv.Tlvs.{Tlvs}
use Rattle.coordination.specs.Tlvs.{tlvs_of}

-- the channel type of a DHC message
abbrev pub dhc_channel : ℕ
dhc_channel = 0x0009

-- where the TLVs end: octets 8 and 9 are their total length
abbrev pub tlvs_end : List ℕ → ℕ
tlvs_end m = 12 + number_at 2 m 8

abbrev pub tlvs_in : List ℕ → Tlvs
tlvs_in m = tlvs_of m (tlvs_end m)

-- the header's refusals 3, 4 and 5; 3 under 12 octets and for TLVs past the end of the message; then the rest
abbrev pub front_then : List ℕ → ℕ → ℕ
front_then m rest =
    or_else (channel_refusal dhc_channel m)
    (bar (ltb (length m) 12) 3
    (bar (ltb (length m) (tlvs_end m)) 3 rest))

-- before the TLVs
unfoldable pub front_refusal : List ℕ → ℕ
front_refusal m = front_then m 0

-- neither PW Status nor Dual-Node Switching
abbrev pub neither : Tlvs → Bool
neither t = eqb t.status 0 && eqb t.switching 0

-- 25 for a wrong TLV, and where neither is there
unfoldable pub tlvs_refusal : Tlvs → ℕ
tlvs_refusal t = bar t.bad 25 (bar (neither t) 25 0)

unfoldable pub refusal_with : List ℕ → Tlvs → ℕ
refusal_with m t = front_then m (tlvs_refusal t)

unfoldable pub dhc_refusal : List ℕ → ℕ
dhc_refusal m = refusal_with m (tlvs_in m)

-- a bit of value 1 and one of value 2; the others are not looked at
abbrev pub low_bit : ℕ → Bool
low_bit n = eqb (n % 2) 1

abbrev pub next_bit : ℕ → Bool
next_bit n = eqb (n / 2 % 2) 1

-- the PW Status TLV at a place: Destination, Source and DNI-PW ID, P in the flags, D and F in the Service PW Status; place 0 is none
unfoldable pub status_at : List ℕ → ℕ → OptionalStatus
status_at m place =
    cond (eqb place 0) NoStatus
    (AStatus (number_at 4 m (place + 4)) (number_at 4 m (place + 8)) (number_at 4 m (place + 12))
    (low_bit (number_at 4 m (place + 16))) (next_bit (number_at 4 m (place + 20))) (low_bit (number_at 4 m (place + 20))))

-- the Dual-Node Switching TLV at a place: Destination, Source and DNI-PW ID, S and P in the flags; place 0 is none
unfoldable pub switching_at : List ℕ → ℕ → OptionalSwitching
switching_at m place =
    cond (eqb place 0) NoSwitching
    (ASwitching (number_at 4 m (place + 4)) (number_at 4 m (place + 8)) (number_at 4 m (place + 12))
    (next_bit (number_at 4 m (place + 16))) (low_bit (number_at 4 m (place + 16))))

abbrev pub fields_with : List ℕ → Tlvs → Dhc
fields_with m t = record { id = number_at 4 m 4; status = status_at m t.status; switching = switching_at m t.switching }

-- the fields, whether or not the message is refused
unfoldable pub dhc_of : List ℕ → Dhc
dhc_of m = fields_with m (tlvs_in m)

-- what the reader of DHC messages says
unfoldable pub read_dhc : List ℕ → Answer Dhc
read_dhc m = answer (dhc_refusal m) (dhc_of m)
