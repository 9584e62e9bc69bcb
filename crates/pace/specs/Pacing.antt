-- A piece of a capture read for the spacing of one label's heard CCs: as many whole records as there are. Each is one call on the table, and what it is to the label is
-- counted.
-- Assumes nothing.
use Rattle.std.specs.Prelude.{ℕ, zero, suc, ◌+◌, Bool, cond, List, length, drop}
use Rattle.session.specs.declared.Session.{Session}
use Rattle.table.specs.Table.{next}
use Rattle.step.specs.Stepping.{table_of}
use Rattle.capture.specs.Records.{next_in, is_whole, size_of}
use Rattle.capture.specs.Lines.{numbered}
use Rattle.feed.specs.Feeding.{head_of, call_next}
use Rattle.interval.specs.Pacing.{paced}
use Rattle.pace.specs.declared.Pacing.{Pacing}

-- a whole record stands next
unfoldable pub more_of : Pacing → List ℕ → Bool
more_of x input = is_whole (next_in (drop x.fed.used input))

-- the row, and how far it is fed with what is kept of the label
pub record Trail : Type 0 where
  pub row : List Session
  pub pacing : Pacing

-- one record more: the table's step, and what it is to the label
unfoldable pub turn_of : List ℕ → Trail → Trail
turn_of input x =
    let f = x.pacing.fed in
    let t = table_of x.row f.head in
    let c = call_next input f in
    let l = x.pacing.label in
    record {
      row = (next t c).row;
      pacing =
          record {
            fed = record { head = head_of (next t c); number = numbered f.number; used = f.used + size_of (next_in (drop f.used input)); written = f.written };
            pace = paced l x.pacing.pace t c;
            label = l;
          };
    }

-- at most n records more. Each takes octets of the input, so its length is enough for n
unfoldable pub go_on : List ℕ → ℕ → Trail → Trail
go_on input zero x = x
go_on input (suc n) x = cond (more_of x.pacing input) (go_on input n (turn_of input x)) x

unfoldable pub pace_of : List Session → Pacing → List ℕ → Trail
pace_of row from input = go_on input (length input) (record { row = row; pacing = from })
