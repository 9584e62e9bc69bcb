-- Refusals and places at the edges, computed: the order 3, 7, 3, 7, the lengths of a type, and the AGI length.
-- Assumes nothing.
use mathlib.Core.Path.{◌≡◌, refl}
use mathlib.Core.Bool.{false}
use mathlib.Core.List.{List, [], ◌∷◌, ◌++◌}
use Prim.Native.Nat.{ℕ}
use lib.ListN.{length, take, drop}
use Rattle.octets.specs.Numbers.{octets_of}
use Rattle.gach.specs.Header.{cv_channel, header_refusal, channel_refusal, header_place, channel_place}
use Rattle.bfd.specs.declared.Packet.{Packet}
use Rattle.bfd.specs.Octets.{packet_octets, field_refusal}
use Rattle.bfd.specs.Reception.{rule_refusal, control_refusal, rule_place, body_place}
use Rattle.cv.specs.declared.MepId.{MepId}
use Rattle.cv.specs.Forms.{value_length, length_fits, agi_fits, form_refusal, agi_refusal, mep_refusal, form_place, value_place, mep_fits}
use Rattle.cv.specs.MepId.{head_octets, agi_octets, mep_octets}
use Rattle.cv.specs.Cv.{cv_refusal, source_place, cv_place, cv_octets, cv_field_refusal}

abbrev pub packet : Packet
packet = record { diagnostic = 0; state = 1; poll = false; fin = false; independent = false; demand = false; multiplier = 3; my = 17; your = 0; transmit = 1000000; receive = 1000000; echo = 0 }

-- a MEP-ID of a type, a length, 14 octets with the AGI length last, and an AGI of 32 octets
abbrev pub source : ℕ → ℕ → ℕ → List ℕ
source kind len agi =
    octets_of 2 kind (octets_of 2 len (octets_of 4 5 (octets_of 4 6 (octets_of 4 7 (1 ∷ agi ∷ octets_of 8 1 (octets_of 8 2 (octets_of 8 3 (octets_of 8 4 []))))))))

-- a CV with it
abbrev pub sent : ℕ → ℕ → ℕ → List ℕ
sent kind len agi = packet_octets cv_channel packet (source kind len agi)

-- a CV of Length 30, with six octets more in its packet
abbrev pub grown : ℕ → ℕ → ℕ → List ℕ
grown kind len agi =
    take 7 (packet_octets cv_channel packet []) ++ 30 ∷ drop 8 (packet_octets cv_channel packet (octets_of 6 0 (source kind len agi)))

-- refused, and where; of an accepted one 0 and the octets used
abbrev pub told : List ℕ → List ℕ
told m = cv_refusal m ∷ cv_place m ∷ []

-- what `sent` is told, cut to n octets
abbrev pub cut : ℕ → ℕ → ℕ → ℕ → List ℕ
cut n kind len agi = told (take n (sent kind len agi))

abbrev pub end_point : ℕ → ℕ → MepId
end_point kind size = record { agi = record { first = 0x0001020304050607; second = 0; third = 0; fourth = 0 }; global = 5; node = 6; local = 7; kind = kind; group = 1; size = size }

pub order : (cut 31 3 12 0 ∷ cut 32 3 12 0 ∷ cut 33 3 12 0 ∷ cut 43 1 12 0 ∷ cut 44 1 12 0 ∷ cut 78 1 12 9 ∷ cut 45 2 14 0 ∷ cut 46 2 14 0 ∷ cut 49 2 18 4 ∷ cut 50 2 18 4 ∷ cut 78 2 46 32 ∷ [])
    ≡ (3 ∷ 31 ∷ []) ∷ (7 ∷ 28 ∷ []) ∷ (7 ∷ 28 ∷ []) ∷ (3 ∷ 43 ∷ []) ∷ (0 ∷ 44 ∷ []) ∷ (0 ∷ 44 ∷ []) ∷ (3 ∷ 45 ∷ []) ∷ (0 ∷ 46 ∷ []) ∷ (3 ∷ 49 ∷ []) ∷ (0 ∷ 50 ∷ []) ∷ (0 ∷ 78 ∷ []) ∷ []
unfolding cv_refusal mep_refusal control_refusal rule_refusal channel_refusal header_refusal form_refusal length_fits agi_fits agi_refusal cv_place source_place form_place value_place body_place rule_place channel_place header_place packet_octets
order = refl

-- a length that the type does not allow, whole or cut; an AGI length at odds with it, in a packet of Length 24 and of Length 30
pub at-odds : (cut 78 0 14 0 ∷ cut 33 2 12 0 ∷ cut 78 2 12 0 ∷ cut 78 2 13 0 ∷ cut 78 2 47 33 ∷ cut 50 2 18 3 ∷ cut 50 2 18 5 ∷ told (grown 2 18 3) ∷ told (grown 2 19 5) ∷ told (grown 3 12 0) ∷ [])
    ≡ (7 ∷ 30 ∷ []) ∷ (7 ∷ 30 ∷ []) ∷ (7 ∷ 30 ∷ []) ∷ (7 ∷ 30 ∷ []) ∷ (7 ∷ 30 ∷ []) ∷ (7 ∷ 45 ∷ []) ∷ (7 ∷ 45 ∷ []) ∷ (7 ∷ 51 ∷ []) ∷ (0 ∷ 57 ∷ []) ∷ (7 ∷ 34 ∷ []) ∷ []
unfolding cv_refusal mep_refusal control_refusal rule_refusal channel_refusal header_refusal form_refusal length_fits agi_fits agi_refusal cv_place source_place form_place value_place body_place rule_place channel_place header_place packet_octets
at-odds = refl

-- what is written: 49 octets for an AGI of 3; 10 for an AGI length of 33 or a type 3, and never for what a type does not use
pub written : (length (cv_octets packet (end_point 2 3)) ∷ length (cv_octets packet (end_point 1 200)) ∷ cv_field_refusal packet (end_point 2 33)
    ∷ cv_field_refusal packet (end_point 2 32) ∷ cv_field_refusal packet (end_point 1 200) ∷ cv_field_refusal packet (end_point 3 0) ∷ [])
    ≡ 49 ∷ 44 ∷ 10 ∷ 0 ∷ 0 ∷ 10 ∷ []
unfolding cv_field_refusal field_refusal mep_fits mep_octets head_octets agi_octets value_length packet_octets
written = refl
