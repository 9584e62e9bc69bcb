-- What a received message does to a session's record, as a small result: what a BFD message can change, what a fault message can, and the
-- answer. It is proved that this is what the readers, the classes and the steps say together.
-- Assumes nothing.
use Rattle.std.specs.Prelude.{ℕ, Bool, cond, ◌&&◌, List, eqb}
use Rattle.octets.specs.Choice.{or_else}
use Rattle.gach.specs.Header.{fault_channel, channel_of, header_refusal}
use Rattle.bfd.specs.Packet.{packet_of}
use Rattle.bfd.specs.Reception.{cc_body_refusal}
use Rattle.cv.specs.Cv.{cv_body_refusal, source_of}
use Rattle.fault.specs.declared.Fault.{Fault}
use Rattle.fault.specs.Message.{fault_refusal, fault_of}
use Rattle.coordination.specs.Message.{dhc_channel}
use Rattle.message.specs.declared.Message.TheVariants.{ContinuityCheck, ConnectivityVerification}
use Rattle.message.specs.Message.{by_channel, unheard_dhc, message_refusal, message_of}
use Rattle.rules.specs.declared.Received.{Received}
use Rattle.rules.specs.Received.{received_as}
use Rattle.homing.specs.Groups.{with_pw}
use Rattle.conditions.specs.Taking.{fault_answer}
use Rattle.session.specs.declared.Session.{Session}
use Rattle.session.specs.declared.acts.Live.{Live}
use Rattle.session.specs.declared.acts.Acted.{Acted}
use Rattle.session.specs.declared.acts.Faulted.{Faulted}
use Rattle.session.specs.Steps.{fault_taken}
use Rattle.session.specs.Reception.{received_answer, received_by}

-- the record behind the answer n: as it was, where n is a refusal
abbrev pub behind : ℕ → Session → Session → Session
behind n s next = cond (eqb n 0) next s

-- the number that a received message is answered with
unfoldable pub received_number : Session → List ℕ → ℕ → ℕ
received_number s m reading = or_else (message_refusal m) (received_answer s reading (received_as s.settings (message_of m)))

-- the record behind that number
unfoldable pub received_record : Session → List ℕ → ℕ → Session
received_record s m reading = behind (received_number s m reading) s (received_by s reading (received_as s.settings (message_of m)))

-- a fault message, by its header
unfoldable pub is_fault : List ℕ → Bool
is_fault m = eqb (header_refusal m) 0 && eqb (channel_of m) fault_channel

-- what a BFD message can change of a record: of its group, the PW alone
abbrev pub live_of : Session → Live
live_of s = record { timed = s.timed; crossed = s.crossed; peer = s.peer; state = s.state; crossing = s.crossing; pw = s.group.pw }

-- a record with that put into it
abbrev pub put_live : Session → Live → Session
put_live s live =
    record {
      timed = live.timed;
      crossed = live.crossed;
      conditions = s.conditions;
      settings = s.settings;
      peer = live.peer;
      state = live.state;
      crossing = live.crossing;
      group = with_pw live.pw s.group;
    }

-- the record with what a BFD message changed
abbrev pub with_live : Session → Acted → Session
with_live s a = put_live s a.live

-- what a BFD message can change, as it is in a record, with an answer
abbrev pub acted_of : Session → ℕ → Acted
acted_of s n = record { live = live_of s; answer = n }

-- the same, as it is in the record behind the answer n
abbrev pub acted_under : ℕ → Session → Session → Acted
acted_under n s next = acted_of (behind n s next) n

-- a BFD message whose octets behind the header have the refusal n, and which is r to the session
abbrev pub acted_by : Session → ℕ → ℕ → Received → Acted
acted_by s reading n r = acted_under (or_else n (received_answer s reading r)) s (received_by s reading r)

-- a message whose header is a CC's
unfoldable pub cc_acted : Session → List ℕ → ℕ → Acted
cc_acted s m reading = acted_by s reading (cc_body_refusal m) (received_as s.settings (ContinuityCheck (packet_of m)))

-- a message whose header is a CV's
unfoldable pub cv_acted : Session → List ℕ → ℕ → Acted
cv_acted s m reading =
    acted_by s reading (cv_body_refusal m) (received_as s.settings (ConnectivityVerification (packet_of m) (source_of m)))

-- a message that is no CC, no CV and no fault message: a DHC message, which no session takes, by its own refusals, and 5 for any other
abbrev pub other_refusal : List ℕ → ℕ
other_refusal m = cond (eqb (channel_of m) dhc_channel) (unheard_dhc m) 5

-- a CC or CV: its header first, then by its channel; any other message is refused
unfoldable pub bfd_acted : Session → List ℕ → ℕ → Acted
bfd_acted s m reading =
    cond (eqb (header_refusal m) 0)
    (by_channel (channel_of m) (cc_acted s m reading) (cv_acted s m reading) (acted_of s (other_refusal m)))
    (acted_of s (header_refusal m))

-- the record with what a fault message changed
abbrev pub with_fault : Session → Faulted → Session
with_fault s f =
    record {
      timed = s.timed;
      crossed = s.crossed;
      conditions = f.places;
      settings = s.settings;
      peer = s.peer;
      state = f.state;
      crossing = s.crossing;
      group = with_pw f.pw s.group;
    }

-- what a fault message can change, of the group the PW alone, as it is in a record, with an answer
abbrev pub faulted_of : Session → ℕ → Faulted
faulted_of s n = record { places = s.conditions; answer = n; state = s.state; pw = s.group.pw }

-- the same, as it is in the record behind the answer n
abbrev pub faulted_under : ℕ → Session → Session → Faulted
faulted_under n s next = faulted_of (behind n s next) n

-- a fault message f whose octets have the refusal n
abbrev pub faulted_by : Session → ℕ → ℕ → Fault → Faulted
faulted_by s reading n f = faulted_under (or_else n (fault_answer s.conditions f reading)) s (fault_taken s reading f)

-- a fault message; any other message is refused by its header
unfoldable pub fault_acted : Session → List ℕ → ℕ → Faulted
fault_acted s m reading = faulted_by s reading (fault_refusal m) (fault_of m)
