-- A piece of a capture read for one label: as many whole records as there are, and no more than are asked for. Each record is one call on the table, which notes what
-- it is to the label's session.
-- Assumes nothing.
use Rattle.std.specs.Prelude.{ℕ, zero, suc, ◌+◌, Bool, cond, ◌&&◌, List, ltb, length, drop}
use Rattle.session.specs.declared.Session.{Session}
use Rattle.table.specs.Table.{next}
use Rattle.step.specs.Stepping.{table_of}
use Rattle.capture.specs.Records.{next_in, is_whole, size_of}
use Rattle.capture.specs.Lines.{numbered}
use Rattle.feed.specs.Feeding.{head_of, call_next}
use Rattle.cause.specs.Noting.{noted, kept_after}
use Rattle.trace.specs.declared.Tracing.{Tracing}

-- a whole record stands next, and it is asked for
unfoldable pub more_of : Tracing → List ℕ → Bool
more_of x input = ltb x.fed.number x.upto && is_whole (next_in (drop x.fed.used input))

-- the row, how far it is fed with what was noted, and what is kept of the last crossed message
pub record Trail : Type 0 where
  pub row : List Session
  pub tracing : Tracing
  pub kept : List ℕ

-- one record more: the table's step, and what it notes
unfoldable pub turn_of : List ℕ → Trail → Trail
turn_of input x =
    let f = x.tracing.fed in
    let t = table_of x.row f.head in
    let c = call_next input f in
    let l = x.tracing.label in
    record {
      row = (next t c).row;
      tracing =
          record {
            fed = record { head = head_of (next t c); number = numbered f.number; used = f.used + size_of (next_in (drop f.used input)); written = f.written };
            upto = x.tracing.upto;
            marks = noted l x.tracing.marks (numbered f.number) t c;
            label = l;
          };
      kept = kept_after l x.kept t c;
    }

-- at most n records more. Each takes octets of the input, so its length is enough for n
unfoldable pub go_on : List ℕ → ℕ → Trail → Trail
go_on input zero x = x
go_on input (suc n) x = cond (more_of x.tracing input) (go_on input n (turn_of input x)) x

unfoldable pub trace_of : List Session → Tracing → List ℕ → List ℕ → Trail
trace_of row from input kept = go_on input (length input) (record { row = row; tracing = from; kept = kept })
