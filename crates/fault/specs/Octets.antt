-- The fault message as it is written: reserved bits and other flags 0, IF_ID first, then Global_ID, each present or absent.
-- Assumes nothing.
use Rattle.std.specs.Prelude.{ℕ, ◌+◌, ◌-◌, ◌*◌, List, [], ◌∷◌, ◌++◌, length, replicate}
use Rattle.std.proofs.lemmas.List.Edits.{sets}
use Rattle.octets.specs.Numbers.{octets_of}
use Rattle.octets.specs.Choice.{bit_of}
use Rattle.gach.specs.Header.{fault_channel, header_octets}
use Rattle.fault.specs.declared.Fault.{Fault}
use Rattle.fault.specs.Identifiers.{OptionalIfId}
use Rattle.fault.specs.Identifiers.{NoIfId}
use Rattle.std.specs.Prelude.{Some}
use Rattle.fault.specs.Identifiers.{OptionalGlobalId}
use Rattle.fault.specs.Identifiers.{NoGlobalId, AGlobalId}
use Rattle.fault.specs.Message.{range_refusal}

-- refusal 10: a type other than 1 and 2, a refresh time other than 1 to 20
abbrev pub field_refusal : Fault → ℕ
field_refusal f = range_refusal 10 f.kind f.refresh

-- IF_ID: type 1, length 8, Node and Interface
abbrev pub if_tlv : OptionalIfId → List ℕ
if_tlv NoIfId = []
if_tlv (Some i) = 1 ∷ 8 ∷ octets_of 4 i.node (octets_of 4 i.interface [])

-- Global_ID: type 2, length 4, the identifier
abbrev pub global_tlv : OptionalGlobalId → List ℕ
global_tlv NoGlobalId = []
global_tlv (AGlobalId global) = 2 ∷ 4 ∷ octets_of 4 global []

-- the total length of the TLVs
abbrev pub total_of : Fault → ℕ
total_of f = length (if_tlv f.interface) + length (global_tlv f.global)

-- the nine octets before the TLVs: the channel header, version 1, type, flags (2 is L, 1 is R), refresh time, total length
abbrev pub head_octets : Fault → List ℕ → List ℕ
head_octets f tlvs =
    header_octets fault_channel
    (0x10 ∷ f.kind ∷ (bit_of f.linkdown * 2 + bit_of f.removed) ∷ f.refresh ∷ total_of f ∷ tlvs)

-- the octets of a plain fault message
unfoldable pub fault_octets : Fault → List ℕ
fault_octets f = head_octets f (if_tlv f.interface ++ global_tlv f.global)

-- octets filled up with 0 to n of them
abbrev pub filled : ℕ → List ℕ → List ℕ
filled n octets = octets ++ replicate (n - length octets) 0

-- the octets of a plain fault message filled up to 25: a Global_ID stands behind the IF_ID, or in its place
unfoldable pub all_octets : Fault → List ℕ
all_octets f =
    sets (sets (sets (replicate 25 0) 0 (head_octets f [])) 9 (filled 10 (if_tlv f.interface)))
    (9 + length (if_tlv f.interface)) (filled 6 (global_tlv f.global))
