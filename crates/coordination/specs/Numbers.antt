-- The fields of a DHC message in numbers alone, as a host hands them in: a mark for each TLV that says whether it is there, and bits that are 0 or 1.
-- Assumes nothing.
use Rattle.std.specs.Prelude.{ℕ, cond, leb, eqb}
use Rattle.octets.specs.Choice.{need, bar, or_else, bit_of, Answer, accepted, refused}
use Rattle.coordination.specs.declared.Dhc.{Dhc}
use Rattle.std.specs.Prelude.{Some}
use Rattle.coordination.specs.Carried.{OptionalStatus}
use Rattle.coordination.specs.Carried.{NoStatus, AStatus}
use Rattle.coordination.specs.Carried.{OptionalSwitching}
use Rattle.coordination.specs.Carried.{NoSwitching, ASwitching}
use Rattle.coordination.specs.declared.numbers.StatusNumbers.{StatusNumbers}
use Rattle.coordination.specs.declared.numbers.SwitchingNumbers.{SwitchingNumbers}
use Rattle.coordination.specs.declared.numbers.DhcNumbers.{DhcNumbers}
use Rattle.coordination.specs.declared.numbers.DhcRead.{DhcRead}
use Rattle.coordination.specs.Octets.{field_refusal}

-- what is absent is 0
abbrev pub status_numbers : OptionalStatus → StatusNumbers
status_numbers NoStatus = record { destination = 0; source = 0; pw = 0; present = 0; protection = 0; degrade = 0; fail = 0 }
status_numbers (Some st) =
    record {
      destination = st.destination;
      source = st.source;
      pw = st.pw;
      present = 1;
      protection = bit_of st.protection;
      degrade = bit_of st.degrade;
      fail = bit_of st.fail;
    }

abbrev pub switching_numbers : OptionalSwitching → SwitchingNumbers
switching_numbers NoSwitching = record { destination = 0; source = 0; pw = 0; present = 0; switch = 0; protection = 0 }
switching_numbers (Some sw) =
    record { destination = sw.destination; source = sw.source; pw = sw.pw; present = 1; switch = bit_of sw.switch; protection = bit_of sw.protection }

abbrev pub dhc_numbers : Dhc → DhcNumbers
dhc_numbers d = record { id = d.id; status = status_numbers d.status; switching = switching_numbers d.switching }

-- the noughts beside a refusal
abbrev pub no_numbers : DhcNumbers
no_numbers = record { id = 0; status = status_numbers NoStatus; switching = switching_numbers NoSwitching }

abbrev pub status_from : StatusNumbers → OptionalStatus
status_from n =
    cond (eqb n.present 1)
    (AStatus n.destination n.source n.pw (eqb n.protection 1) (eqb n.degrade 1) (eqb n.fail 1)) NoStatus

abbrev pub switching_from : SwitchingNumbers → OptionalSwitching
switching_from n =
    cond (eqb n.present 1)
    (ASwitching n.destination n.source n.pw (eqb n.switch 1) (eqb n.protection 1)) NoSwitching

abbrev pub dhc_from : DhcNumbers → Dhc
dhc_from n = record { id = n.id; status = status_from n.status; switching = switching_from n.switching }

-- refusal 10 for a number that is not 0 behind a mark of 0: the message would lose it
unfoldable pub lost_numbers : ℕ → ℕ → ℕ → ℕ → ℕ
lost_numbers present a b c = bar (eqb present 1) 0 (need (eqb a 0) 10 (need (eqb b 0) 10 (need (eqb c 0) 10 0)))

-- refusal 10 for a mark above 1 and for a bit above 1, or above 0 behind a mark of 0: no bit is above its mark
unfoldable pub status_marks : StatusNumbers → ℕ
status_marks n =
    need (leb n.present 1) 10
    (need (leb n.protection n.present) 10
    (need (leb n.degrade n.present) 10
    (need (leb n.fail n.present) 10 (lost_numbers n.present n.destination n.source n.pw))))

unfoldable pub switching_marks : SwitchingNumbers → ℕ
switching_marks n =
    need (leb n.present 1) 10
    (need (leb n.switch n.present) 10
    (need (leb n.protection n.present) 10 (lost_numbers n.present n.destination n.source n.pw)))

unfoldable pub dhc_marks : DhcNumbers → ℕ
dhc_marks n = or_else (status_marks n.status) (switching_marks n.switching)

-- refusal 10 of fields in numbers: that, or what the writer of the message refuses
abbrev pub numbers_refusal : DhcNumbers → ℕ
numbers_refusal n = or_else (dhc_marks n) (field_refusal (dhc_from n))

-- what the reader says: 0 and the fields, or the refusal's number and noughts
abbrev pub numbers_by : Answer Dhc → DhcRead
numbers_by (accepted d) = record { answer = 0; dhc = dhc_numbers d }
numbers_by (refused n) = record { answer = n; dhc = no_numbers }
