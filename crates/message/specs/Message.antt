-- A message of any of the three kinds that a session takes, read. A message of the fourth kind, DHC, is taken by no session, and refused.
-- Assumes nothing.
use Rattle.std.specs.Prelude.{cond, ℕ, List, length, eqb}
use Rattle.octets.specs.Choice.{or_else}
use Rattle.gach.specs.Header.{cc_channel, cv_channel, channel_of, header_refusal, header_place}
use Rattle.gach.specs.Kinds.{kind_refusal}
use Rattle.bfd.specs.Packet.{packet_of}
use Rattle.bfd.specs.Reception.{cc_refusal, cc_place}
use Rattle.cv.specs.MepId.{mep_id_at}
use Rattle.cv.specs.Cv.{cv_refusal, mep_part, cv_place}
use Rattle.fault.specs.Message.{fault_refusal, fault_of, fault_place}
use Rattle.coordination.specs.Message.{dhc_channel, dhc_refusal}
use Rattle.message.specs.declared.Message.{Message}
use Rattle.message.specs.declared.Message.TheVariants.{ContinuityCheck, ConnectivityVerification, FaultManagement}

-- by the channel type: for a CC, for a CV, else
abbrev pub by_channel : {A : Type 0} → ℕ → A → A → A → A
by_channel channel cc cv fault = cond (eqb channel cc_channel) cc (cond (eqb channel cv_channel) cv fault)

-- as one of the three: 3 (under 4 octets), 4, 5 for a channel that is none of the three; then the order of the message's own kind
abbrev pub three_refusal : List ℕ → ℕ
three_refusal m =
    or_else (kind_refusal (header_refusal m) (channel_of m))
    (by_channel (channel_of m) (cc_refusal m) (cv_refusal m) (fault_refusal m))

-- a DHC message, which no session takes: what its reader refuses it for, else 24, no group of its ID
unfoldable pub unheard_dhc : List ℕ → ℕ
unheard_dhc m = or_else (dhc_refusal m) 24

-- by the channel type: for a DHC message, else; so 5 is for a channel that is none of the four
unfoldable pub message_refusal : List ℕ → ℕ
message_refusal m = cond (eqb (channel_of m) dhc_channel) (unheard_dhc m) (three_refusal m)

-- what is read; the MEP-ID of a CV is taken from its part of the message
unfoldable pub message_of : List ℕ → Message
message_of m =
    by_channel (channel_of m)
    (ContinuityCheck (packet_of m))
    (ConnectivityVerification (packet_of m) (mep_id_at (mep_part m) 0))
    (FaultManagement (fault_of m))

-- where a message of any kind goes wrong, or the octets that it uses: as the reader of its kind has it. Of a channel that is none of the four, and of a message
-- too short to have one, each reader says the same. A DHC message has the header's place, and behind it its length: 3 goes with the length, 4 with octet 0
unfoldable pub message_place : List ℕ → ℕ
message_place m =
    cond (eqb (channel_of m) dhc_channel) (header_place m (length m))
    (by_channel (channel_of m) (cc_place m) (cv_place m) (fault_place m))
