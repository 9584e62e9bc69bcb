-- The DHC message as it is written: reserved octets and other bits 0, PW Status first, then Dual-Node Switching, one or both.
-- Assumes nothing.
use Rattle.std.specs.Prelude.{ℕ, ◌+◌, ◌-◌, ◌*◌, List, [], ◌++◌, length, replicate}
use Rattle.std.proofs.lemmas.List.Edits.{sets}
use Rattle.octets.specs.Numbers.{octets_of}
use Rattle.octets.specs.Choice.{bit_of}
use Rattle.gach.specs.Header.{header_octets}
use Rattle.coordination.specs.declared.Dhc.{Dhc}
use Rattle.std.specs.Prelude.{Some}
use Rattle.coordination.specs.Carried.{OptionalStatus}
use Rattle.coordination.specs.Carried.{NoStatus, AStatus}
use Rattle.coordination.specs.Carried.{OptionalSwitching}
use Rattle.coordination.specs.Carried.{NoSwitching, ASwitching}
use Rattle.coordination.specs.Message.{dhc_channel}

-- refusal 10: neither TLV
abbrev pub tlvs_needed : OptionalStatus → OptionalSwitching → ℕ
tlvs_needed NoStatus NoSwitching = 10
tlvs_needed NoStatus (Some sw) = 0
tlvs_needed (Some st) switching = 0

abbrev pub field_refusal : Dhc → ℕ
field_refusal d = tlvs_needed d.status d.switching

-- PW Status: type 1, length 20, the three numbers, flags with P, Service PW Status with D and F
abbrev pub status_tlv : OptionalStatus → List ℕ
status_tlv NoStatus = []
status_tlv (Some st) =
    octets_of 2 1 (octets_of 2 20 (octets_of 4 st.destination (octets_of 4 st.source (octets_of 4 st.pw
    (octets_of 4 (bit_of st.protection) (octets_of 4 (bit_of st.degrade * 2 + bit_of st.fail) []))))))

-- Dual-Node Switching: type 2, length 16, the three numbers, flags with S and P
abbrev pub switching_tlv : OptionalSwitching → List ℕ
switching_tlv NoSwitching = []
switching_tlv (Some sw) =
    octets_of 2 2 (octets_of 2 16 (octets_of 4 sw.destination (octets_of 4 sw.source (octets_of 4 sw.pw
    (octets_of 4 (bit_of sw.switch * 2 + bit_of sw.protection) [])))))

-- the total length of the TLVs
abbrev pub total_of : Dhc → ℕ
total_of d = length (status_tlv d.status) + length (switching_tlv d.switching)

-- the twelve octets before the TLVs: the channel header, Dual-Homing Group ID, total length, two octets 0
abbrev pub head_octets : Dhc → List ℕ → List ℕ
head_octets d tlvs = header_octets dhc_channel (octets_of 4 d.id (octets_of 2 (total_of d) (octets_of 2 0 tlvs)))

-- the octets of a plain DHC message
unfoldable pub dhc_octets : Dhc → List ℕ
dhc_octets d = head_octets d (status_tlv d.status ++ switching_tlv d.switching)

-- octets filled up with 0 to n of them
abbrev pub filled : ℕ → List ℕ → List ℕ
filled n octets = octets ++ replicate (n - length octets) 0

-- the octets of a plain DHC message filled up to 56: Dual-Node Switching stands behind PW Status, or in its place
unfoldable pub all_octets : Dhc → List ℕ
all_octets d =
    sets (sets (sets (replicate 56 0) 0 (head_octets d [])) 12 (filled 24 (status_tlv d.status)))
    (12 + length (status_tlv d.status)) (filled 20 (switching_tlv d.switching))
