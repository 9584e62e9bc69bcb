-- What each public call is proved to do: what it says, and the table afterwards, is the step of the table that the theorem folds over a list of calls.
-- Assumes nothing.
use Rattle.std.specs.Prelude.{ℕ, cond, List, [], eqb, length}
use Rattle.octets.specs.Choice.{need}
use Rattle.rules.specs.declared.Circuit.{Circuit}
use Rattle.rules.specs.declared.Settings.{Settings}
use Rattle.rules.specs.Parties.{own_label}
use Rattle.rules.specs.Calls.{Call, Said, no_report}
use Rattle.rules.specs.declared.Report.{Report}
use Rattle.session.specs.declared.Session.{Session}
use Rattle.table.specs.declared.Head.{Head}
use Rattle.table.specs.Table.{Table, answer, next, emptied}
use Rattle.scan.specs.declared.Summary.{Summary}
use Rattle.scan.specs.Passing.{summary_of}
use Rattle.step.specs.declared.Request.{Request}
use Rattle.step.specs.declared.Opening.{Opening}
use Rattle.step.specs.declared.Outcome.{Outcome}
use Rattle.step.specs.declared.Arrival.{Arrival}
use Rattle.step.specs.Requests.{aimed_at, target_of}
use Rattle.step.specs.Arriving.{receive_at}
use Rattle.step.specs.Stepping.{table_of, opening_target, Obeyed, obey_at, open_at}
use Rattle.meaning.specs.Parties.{with_label}
use Rattle.korvezul.specs.declared.OpeningFor.{OpeningFor}
use Rattle.korvezul.specs.declared.ReportAnswer.{ReportAnswer}
use Rattle.korvezul.specs.declared.Begun.{Begun}

-- what is said, and row, clock and set afterwards
pub record Called : Type 0 where
  pub said : Said
  pub table : Table

-- one step of the fold
abbrev pub called : Table → Call → Called
called t c = record { said = answer t c; table = next t c }

-- the label that a circuit means: none where it is another party's
abbrev pub meant_by : Circuit → ℕ
meant_by c = own_label c.party c.label

-- the same in settings to open with
abbrev pub own_settings : OpeningFor → Settings
own_settings g = with_label (own_label g.party g.settings.label) g.settings

-- what comes of a call on a lent row, which is scanned first
abbrev pub obey_lent : List Session → Head → Request → Obeyed
obey_lent row head q = obey_at row head (summary_of row head (target_of q)) q

abbrev pub open_lent : List Session → Head → Opening → Obeyed
open_lent row head g = open_at row head (summary_of row head (opening_target g)) g

-- a message that arrives: all the octets that are lent
abbrev pub arrival_of : Head → Summary → ℕ → ℕ → Arrival
arrival_of head seen size reading = record { head = head; reading = reading; place = seen.place; from = 0; size = size; sound = seen.sound }

abbrev pub receive_lent : List Session → Head → ℕ → List ℕ → ℕ → Obeyed
receive_lent row head label message reading = receive_at row (arrival_of head (summary_of row head (aimed_at label)) (length message) reading) message

-- the number and the seven numbers of a report's answer
abbrev pub said_in : ReportAnswer → Said
said_in r =
    record {
      number = r.answer;
      report = record { state = r.state; crossing = r.crossing; loss = r.loss; alarm = r.alarm; rdi = r.rdi; blocked = r.blocked; conditions = r.conditions };
      buffer = [];
    }

-- a number with the seven numbers beside it
abbrev pub answered_with : ℕ → Report → ReportAnswer
answered_with n r =
    record { answer = n; state = r.state; crossing = r.crossing; loss = r.loss; alarm = r.alarm; rdi = r.rdi; blocked = r.blocked; conditions = r.conditions }

-- the answer to a report, from the outcome of its request: a refusal is its number alone, with seven noughts
abbrev pub report_of : Outcome → ReportAnswer
report_of o = cond (eqb o.answer 0) (answered_with 0 o.told.report) (answered_with o.answer no_report)

-- an empty table: 26 for a row that is not of 64 records; else clock 0 and no place occupied, whatever the records are
abbrev pub begun_of : ℕ → Head → Begun
begun_of records head =
    record {
      head = cond (eqb records 64) (record { clock = 0; occupied = 0 }) head;
      answer = need (eqb records 64) 26 0;
    }

pub record Emptied : Type 0 where
  pub number : ℕ
  pub table : Table

abbrev pub emptying : List Session → Head → Emptied
emptying row head =
    record {
      number = need (eqb (length row) 64) 26 0;
      table = cond (eqb (length row) 64) (emptied row) (table_of row head);
    }
