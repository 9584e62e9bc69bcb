-- The associated channel header (RFC 6428, 3.3): 0001, version 0, an octet that is not looked at, a 16-bit channel type.
-- Assumes nothing.
use Rattle.std.specs.Prelude.{ℕ, ◌/◌, ◌%◌, List, [], ◌∷◌, length, get_or, ltb, eqb}
use Rattle.octets.specs.Numbers.{number_at, octets_of}
use Rattle.octets.specs.Choice.{need, bar, or_else}

-- the channel types of a continuity check, a connectivity verification and a fault message
abbrev pub cc_channel : ℕ
cc_channel = 0x0022

abbrev pub cv_channel : ℕ
cv_channel = 0x0023

abbrev pub fault_channel : ℕ
fault_channel = 0x0058

-- the channel type of a message
abbrev pub channel_of : List ℕ → ℕ
channel_of m = number_at 2 m 2

-- refusals 3 (under 4 octets) and 4 (first nibble not 1, or version not 0)
unfoldable pub header_refusal : List ℕ → ℕ
header_refusal m =
    bar (ltb (length m) 4) 3
    (need (eqb (get_or m 0 0 / 16) 1) 4
    (need (eqb (get_or m 0 0 % 16) 0) 4 0))

-- for a reader of one kind of message: then 5 (a channel that is not its own)
unfoldable pub channel_refusal : ℕ → List ℕ → ℕ
channel_refusal channel m = or_else (header_refusal m) (need (eqb (channel_of m) channel) 5 0)

-- where the header goes wrong: 3 is told with the length of the message, 4 at octet 0; else what follows
unfoldable pub header_place : List ℕ → ℕ → ℕ
header_place m rest =
    bar (ltb (length m) 4) (length m)
    (need (eqb (get_or m 0 0 / 16) 1) 0
    (need (eqb (get_or m 0 0 % 16) 0) 0 rest))

-- and 5 at the channel type
unfoldable pub channel_place : ℕ → List ℕ → ℕ → ℕ
channel_place channel m rest = header_place m (need (eqb (channel_of m) channel) 2 rest)

-- the header as it is written, before the octets of rest
abbrev pub header_octets : ℕ → List ℕ → List ℕ
header_octets channel rest = 0x10 ∷ 0 ∷ octets_of 2 channel rest
