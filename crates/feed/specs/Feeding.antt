-- A piece of a capture fed to a table: as many whole records as there are and lines as fit. Each record is one call, and its line tells what the table says to it.
-- Assumes nothing.
use Rattle.std.specs.Prelude.{ℕ, zero, suc, ◌+◌, ◌-◌, Bool, cond, ◌&&◌, List, leb, length, drop}
use Rattle.rules.specs.Calls.{Call}
use Rattle.session.specs.declared.Session.{Session}
use Rattle.table.specs.declared.Head.{Head}
use Rattle.table.specs.Table.{Table, answer, next}
use Rattle.step.specs.Stepping.{table_of}
use Rattle.capture.specs.Records.{next_in, is_whole, size_of, call_in}
use Rattle.capture.specs.Lines.{line, numbered}
use Rattle.capture.specs.Typing.{typed}
use Rattle.feed.specs.declared.Fed.{Fed}

-- no line is longer
abbrev pub longest : ℕ
longest = 160

-- a whole record stands next, and there is room for its line
unfoldable pub more_of : Fed → List ℕ → ℕ → Bool
more_of f input room = is_whole (next_in (drop f.used input)) && leb longest (room - f.written)

-- clock and set of a table
abbrev pub head_of : Table → Head
head_of t = record { clock = t.clock; occupied = t.occupied }

-- the row, how far it is fed, and the output
pub record Flow : Type 0 where
  pub row : List Session
  pub fed : Fed
  pub out : List ℕ

-- the call of the record that stands next
abbrev pub call_next : List ℕ → Fed → Call
call_next input f = call_in (drop f.used input)

-- one record more: the table's step, and the line of what it says
unfoldable pub turn_of : List ℕ → Flow → Flow
turn_of input x =
    let f = x.fed in
    let t = table_of x.row f.head in
    let c = call_next input f in
    let p = typed (record { buffer = x.out; at = f.written }) (line (numbered f.number) c (answer t c)) in
    record {
      row = (next t c).row;
      fed = record { head = head_of (next t c); number = numbered f.number; used = f.used + size_of (next_in (drop f.used input)); written = p.at };
      out = p.buffer;
    }

-- at most n records more. Each takes octets of the input, so its length is enough for n
unfoldable pub go_on : List ℕ → ℕ → Flow → Flow
go_on input zero x = x
go_on input (suc n) x = cond (more_of x.fed input (length x.out)) (go_on input n (turn_of input x)) x

unfoldable pub feed_of : List Session → Fed → List ℕ → List ℕ → Flow
feed_of row f input out = go_on input (length input) (record { row = row; fed = f; out = out })
