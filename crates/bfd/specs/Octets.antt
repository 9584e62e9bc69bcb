-- A BFD control packet as it is written: plain, Length 24, A and M clear, nothing behind it but what the kind adds.
-- Assumes nothing.
use Rattle.std.specs.Prelude.{◌≡◌, ℕ, ◌+◌, ◌*◌, ◌%◌, ◌<◌, List, [], ◌∷◌, length, get_or, ltb, eqb}
use Rattle.octets.specs.Numbers.{octets_of}
use Rattle.octets.specs.Choice.{need, bar, or_else, bit_of}
use Rattle.gach.specs.Header.{cc_channel, header_octets}
use Rattle.bfd.specs.declared.Packet.{Packet}
use Rattle.bfd.specs.Packet.{length_of}
use Rattle.bfd.specs.Reception.{your_refusal}

-- state and flags in one octet
abbrev pub flags_of : Packet → ℕ
flags_of p = p.state % 4 * 64 + bit_of p.poll * 32 + bit_of p.fin * 16 + bit_of p.independent * 8 + bit_of p.demand * 2

-- the 28 octets of a packet on a channel, before the octets of rest
unfoldable pub packet_octets : ℕ → Packet → List ℕ → List ℕ
packet_octets channel p rest =
    header_octets channel
    ((32 + p.diagnostic % 32) ∷ flags_of p ∷ p.multiplier ∷ 24
    ∷ octets_of 4 p.my (octets_of 4 p.your (octets_of 4 p.transmit (octets_of 4 p.receive (octets_of 4 p.echo rest)))))

abbrev pub cc_octets : Packet → List ℕ
cc_octets p = packet_octets cc_channel p []

-- refusal 10 for either kind: a field out of its range (diagnostic 5 bits, state 2), or one that the reader would refuse
unfoldable pub field_refusal : Packet → ℕ
field_refusal p =
    need (ltb p.diagnostic 32) 10
    (need (ltb p.state 4) 10
    (bar (eqb p.multiplier 0) 10
    (bar (eqb p.my 0) 10 0)))

-- refusal 10 for a CC: also a Your Discriminator that its reader would refuse
unfoldable pub cc_field_refusal : Packet → ℕ
cc_field_refusal p = or_else (field_refusal p) (need (eqb (your_refusal p.state p.your) 0) 10 0)

-- a plain CC: no padding, the octet that is not looked at 0, Length 24 (A and M are clear in every accepted message)
pub record Plain (m : List ℕ) : Type 0 where
  pub octets : (i : ℕ) → get_or m i 0 < 256
  pub size : length m ≡ 28
  pub unread : get_or m 1 0 ≡ 0
  pub len : length_of m ≡ 24
