-- A run over calls that keeps the marks of one label, and the answer at its end: what the code computes, call by call.
-- Assumes nothing.
use Rattle.std.specs.Prelude.{ℕ, suc, List, [], ◌∷◌}
use Rattle.octets.specs.Choice.{Answer}
use Rattle.rules.specs.Calls.{Call}
use Rattle.session.specs.declared.Session.{Session}
use Rattle.table.specs.Table.{Table, open_of, find, next, emptied}
use Rattle.cause.specs.declared.Cause.{Cause}
use Rattle.cause.specs.declared.Thing.{Thing}
use Rattle.cause.specs.declared.Marks.{Marks}
use Rattle.cause.specs.Noting.{anew, noted, kept_after}
use Rattle.cause.specs.FromMarks.{why_from}

-- the table, the marks of the label, what is kept of its last crossed message, the number of the last record
pub record Trace : Type 0 where
  pub table : Table
  pub marks : Marks
  pub kept : List ℕ
  pub number : ℕ

-- one record more
unfoldable pub trace_step : ℕ → Trace → Call → Trace
trace_step l x c =
    record {
      table = next x.table c;
      marks = noted l x.marks (suc x.number) x.table c;
      kept = kept_after l x.kept x.table c;
      number = suc x.number;
    }

unfoldable pub trace_all : ℕ → Trace → List Call → Trace
trace_all l x [] = x
trace_all l x (c ∷ cs) = trace_all l (trace_step l x c) cs

-- an empty table, no record yet
unfoldable pub trace_start : List Session → List ℕ → Trace
trace_start row kept = record { table = emptied row; marks = anew 0; kept = kept; number = 0 }

unfoldable pub why_after : Trace → ℕ → Thing → Answer Cause
why_after x l thing = why_from x.marks (find l (open_of x.table)) x.table.clock thing
