-- Remote defect and loss alarm, the report, and what is written.
-- Assumes nothing.
use Rattle.std.specs.Prelude.{ℕ, Bool, false, not, ◌&&◌, ◌||◌, cond, eqb}
use Rattle.octets.specs.Choice.{bit_of}
use Rattle.bfd.specs.declared.Packet.{Packet}
use Rattle.rules.specs.declared.State.{State}
use Rattle.rules.specs.declared.Report.{Report}
use Rattle.rules.specs.States.{reported}

-- the diagnostics by which the far end says that it has a defect
abbrev pub says_defect : ℕ → Bool
says_defect diagnostic = eqb diagnostic 1 || eqb diagnostic 5 || eqb diagnostic 9

-- RDI: not locked, no loss, and the last heard CC said so
abbrev pub remote_defect : Bool → Bool → ℕ → Bool
remote_defect locked loss diagnostic = not locked && not loss && says_defect diagnostic

-- loss alarm: a loss with no condition standing
abbrev pub loss_alarm : Bool → ℕ → Bool
loss_alarm loss conditions = loss && eqb conditions 0

-- the diagnostic written: 7 locked; else 9 crossing; else 5 a followed condition; else 1 loss; else 3 down by a received state; else 0
abbrev pub diagnostic_of : Bool → Bool → Bool → Bool → Bool → ℕ
diagnostic_of locked crossing followed loss neighbor =
    cond locked 7 (cond crossing 9 (cond followed 5 (cond loss 1 (cond neighbor 3 0))))

-- the seven numbers of a report; a held-back alarm shows as loss 1 and alarm 0, and traffic is blocked exactly while a crossing stands
abbrev pub report_of : State → Bool → Bool → Bool → ℕ → Report
report_of state crossing loss rdi conditions =
    record {
      state = reported state;
      crossing = bit_of crossing;
      loss = bit_of loss;
      alarm = bit_of (loss_alarm loss conditions);
      rdi = bit_of rdi;
      blocked = bit_of crossing;
      conditions = conditions;
    }

-- the packet that a session writes: multiplier 3, the period as transmit interval, the required receive interval by its mode, echo 0, all
-- flags 0 but F where a reply is owed
abbrev pub packet_out : ℕ → State → Bool → ℕ → ℕ → ℕ → ℕ → Packet
packet_out diagnostic state fin my your period required =
    record {
      diagnostic = diagnostic;
      state = reported state;
      poll = false;
      fin = fin;
      independent = false;
      demand = false;
      multiplier = 3;
      my = my;
      your = your;
      transmit = period;
      receive = required;
      echo = 0;
    }
