-- What is refused in a BFD message, in the paper's order: 3 (under 4), 4, 5, 3 (under 28), 6, 3 (Length past the end).
-- Assumes nothing.
use Rattle.std.specs.Prelude.{ℕ, ◌+◌, ◌/◌, ◌%◌, min, List, length, get_or, ltb, eqb}
use Rattle.octets.specs.Numbers.{number_at}
use Rattle.octets.specs.Choice.{need, bar, or_else, Answer, answer, Placed}
use Rattle.gach.specs.Header.{cc_channel, channel_refusal, channel_place}
use Rattle.bfd.specs.declared.Packet.{Packet}
use Rattle.bfd.specs.Packet.{version_octet, flag_octet, length_of, packet_of}

-- refusal 6 in CC and CV, in the order of octets: version not 1, A or M set, multiplier 0, Length below 24, My Discriminator 0
unfoldable pub rule_refusal : ℕ → ℕ → ℕ → ℕ → ℕ → ℕ
rule_refusal version flags multiplier len my =
    need (eqb (version / 32) 1) 6
    (need (eqb (flags / 4 % 2) 0) 6
    (need (eqb (flags % 2) 0) 6
    (bar (eqb multiplier 0) 6
    (bar (ltb len 24) 6
    (bar (eqb my 0) 6 0)))))

-- refusal 6 in CC only: Your Discriminator 0 with state INIT (2) or UP (3)
unfoldable pub your_refusal : ℕ → ℕ → ℕ
your_refusal state your = need (eqb your 0) 0 (need (ltb state 2) 6 0)

-- behind the header, on either BFD channel: 3 (under 28), 6
abbrev pub body_refusal : List ℕ → ℕ
body_refusal m =
    bar (ltb (length m) 28) 3
    (rule_refusal (version_octet m) (flag_octet m) (get_or m 6 0) (length_of m) (number_at 4 m 8))

-- what a message on either BFD channel is refused for on its first 28 octets
unfoldable pub control_refusal : ℕ → List ℕ → ℕ
control_refusal channel m = or_else (channel_refusal channel m) (body_refusal m)

-- behind that, for a CC alone: 6 by its Your Discriminator, 3 (Length past the end)
abbrev pub end_refusal : List ℕ → ℕ
end_refusal m = or_else (your_refusal (flag_octet m / 64) (number_at 4 m 12)) (bar (ltb (length m) (4 + length_of m)) 3 0)

unfoldable pub cc_refusal : List ℕ → ℕ
cc_refusal m = or_else (control_refusal cc_channel m) (end_refusal m)

-- what a message whose header is a CC's is refused for
unfoldable pub cc_body_refusal : List ℕ → ℕ
cc_body_refusal m = or_else (body_refusal m) (end_refusal m)

-- what reading a CC says; octets behind Length are padding
unfoldable pub read_cc : List ℕ → Answer Packet
read_cc m = answer (cc_refusal m) (packet_of m)

-- where refusal 6 stands in CC and CV: each rule at its field, version 4, A and M 5, multiplier 6, Length 7, My Discriminator 8; else what follows
unfoldable pub rule_place : ℕ → ℕ → ℕ → ℕ → ℕ → ℕ → ℕ
rule_place version flags multiplier len my rest =
    need (eqb (version / 32) 1) 4
    (need (eqb (flags / 4 % 2) 0) 5
    (need (eqb (flags % 2) 0) 5
    (bar (eqb multiplier 0) 6
    (bar (ltb len 24) 7
    (bar (eqb my 0) 8 rest)))))

-- a Your Discriminator of 0 is told at itself, 12, and not at the state that forbids it
unfoldable pub your_place : ℕ → ℕ → ℕ → ℕ
your_place state your rest = need (eqb your 0) rest (need (ltb state 2) 12 rest)

-- behind the header, on either BFD channel
unfoldable pub body_place : List ℕ → ℕ → ℕ
body_place m rest =
    bar (ltb (length m) 28) (length m)
    (rule_place (version_octet m) (flag_octet m) (get_or m 6 0) (length_of m) (number_at 4 m 8) rest)

-- the octets that a CC uses: the header's 4 and Length
abbrev pub cc_end : List ℕ → ℕ
cc_end m = 4 + length_of m

-- where a CC goes wrong: at a field, or on 3 the length of the message; of an accepted one the octets used. Behind the rules it is the lesser of the two
unfoldable pub cc_place : List ℕ → ℕ
cc_place m =
    channel_place cc_channel m
    (body_place m
    (your_place (flag_octet m / 64) (number_at 4 m 12)
    (min (length m) (cc_end m))))

-- what the reader of CCs says, and where
abbrev pub cc_reading : List ℕ → Placed Packet
cc_reading m = record { answer = read_cc m; place = cc_place m }
