-- The fields of a message in numbers alone: a mark is 0 or 1.
-- Assumes nothing.
use Rattle.std.specs.Prelude.{ℕ, cond, eqb, leb}
use Rattle.octets.specs.Choice.{need, bar, or_else, bit_of}
use Rattle.bfd.specs.declared.Packet.{Packet}
use Rattle.fault.specs.declared.Fault.{Fault}
use Rattle.fault.specs.Identifiers.{OptionalIfId}
use Rattle.fault.specs.Identifiers.{NoIfId, AnIfId}
use Rattle.fault.specs.Identifiers.{OptionalGlobalId}
use Rattle.fault.specs.Identifiers.{NoGlobalId, AGlobalId}
use Rattle.rules.specs.Conditions.{key_of}
use Rattle.fields.specs.declared.fields.PacketFields.{PacketFields}
use Rattle.fields.specs.declared.fields.FaultFields.{FaultFields}

abbrev pub packet_fields : Packet → PacketFields
packet_fields p =
    record {
      my = p.my;
      your = p.your;
      transmit = p.transmit;
      receive = p.receive;
      echo = p.echo;
      diagnostic = p.diagnostic;
      state = p.state;
      multiplier = p.multiplier;
      poll = bit_of p.poll;
      fin = bit_of p.fin;
      independent = bit_of p.independent;
      demand = bit_of p.demand;
    }

abbrev pub packet_from : PacketFields → Packet
packet_from f =
    record {
      diagnostic = f.diagnostic;
      state = f.state;
      poll = eqb f.poll 1;
      fin = eqb f.fin 1;
      independent = eqb f.independent 1;
      demand = eqb f.demand 1;
      multiplier = f.multiplier;
      my = f.my;
      your = f.your;
      transmit = f.transmit;
      receive = f.receive;
      echo = f.echo;
    }

-- refusal 10 for a mark above 1: P, F, C, D
unfoldable pub packet_marks : PacketFields → ℕ
packet_marks f =
    need (leb f.poll 1) 10
    (need (leb f.fin 1) 10
    (need (leb f.independent 1) 10
    (need (leb f.demand 1) 10 0)))

-- IF_ID and Global_ID with their marks are those of the condition's key; what is absent is 0
abbrev pub fault_fields : Fault → FaultFields
fault_fields f =
    record {
      node = (key_of f).node;
      interface = (key_of f).interface;
      global = (key_of f).global;
      kind = f.kind;
      linkdown = bit_of f.linkdown;
      removed = bit_of f.removed;
      refresh = f.refresh;
      ifid = (key_of f).present;
      globalid = (key_of f).carrier;
    }

abbrev pub if_id_from : ℕ → ℕ → ℕ → OptionalIfId
if_id_from present node interface = cond (eqb present 1) (AnIfId node interface) NoIfId

abbrev pub global_id_from : ℕ → ℕ → OptionalGlobalId
global_id_from present global = cond (eqb present 1) (AGlobalId global) NoGlobalId

abbrev pub fault_from : FaultFields → Fault
fault_from f =
    record {
      kind = f.kind;
      linkdown = eqb f.linkdown 1;
      removed = eqb f.removed 1;
      refresh = f.refresh;
      interface = if_id_from f.ifid f.node f.interface;
      global = global_id_from f.globalid f.global;
    }

-- refusal 10 for a mark above 1, and for a number that is not 0 behind a mark of 0: the message would lose it
unfoldable pub marked_refusal : ℕ → ℕ → ℕ
marked_refusal mark number = need (leb mark 1) 10 (bar (eqb mark 1) 0 (need (eqb number 0) 10 0))

-- L and R; IF_ID with Node and Interface; Global_ID with its number
unfoldable pub fault_marks : FaultFields → ℕ
fault_marks f =
    need (leb f.linkdown 1) 10
    (need (leb f.removed 1) 10
    (or_else (or_else (marked_refusal f.ifid f.node) (marked_refusal f.ifid f.interface))
    (marked_refusal f.globalid f.global)))
