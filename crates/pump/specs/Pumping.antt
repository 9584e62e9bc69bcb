-- The core of `watch`: what it holds between two system calls, and what it does with what they answer. This is what the code is proved to do.
-- Assumes nothing.
use Rattle.std.specs.Prelude.{ℕ, ◌+◌, ◌-◌, ◌≤◌, min, ◌≡◌, Bool, true, false, not, cond, ◌&&◌, ◌||◌, List, eqb, ltb, length, take, drop}
use Rattle.std.proofs.lemmas.List.Edits.{sets}
use Rattle.capture.specs.declared.Next.{Next}
use Rattle.capture.specs.declared.Next.TheVariants.{Whole, Broken, Short, End}
use Rattle.capture.specs.Records.{header_fits, next_in}
use Rattle.owner.specs.declared.Feeding.{Feeding}
use Rattle.feed.specs.Feeding.{Flow, feed_of}
use Rattle.text.specs.Text.{bad_header, ending}
use Rattle.text.specs.Putting.{empty_table}
use Rattle.pump.specs.declared.Pump.{Pump}
use Rattle.pump.specs.declared.Wanted.{Wanted}
use Rattle.pump.specs.declared.Wanted.TheVariants.{Read, Write, Nothing}

-- the core, the buffer for input and the buffer for output
pub record Pumped : Type 0 where
  pub pump : Pump
  pub buf : List ℕ
  pub out : List ℕ

-- a table made empty, and nothing read or written
unfoldable pub starting : Pump
starting = record { table = empty_table 0; have = 0; from = 0; to = 0; begun = false; closed = false; over = false }

-- ---- what is wanted
-- the octets of output that are still to be written
abbrev pub pending_in : Pump → List ℕ → List ℕ
pending_in p out = take (p.to - p.from) (drop p.from out)

-- output goes first, then more input, until the text is over
unfoldable pub wants_of : Pump → Wanted
wants_of p = cond (ltb p.from p.to) Write (cond p.over Nothing Read)

-- ---- what was answered
-- so many octets were read behind those that are there, into a buffer of that length; none is the end of the input
unfoldable pub got_of : Pump → ℕ → ℕ → Pump
got_of p n room =
    record {
      table = p.table;
      have = min (p.have + n) room;
      from = p.from;
      to = p.to;
      begun = p.begun;
      closed = p.closed || eqb n 0;
      over = p.over;
    }

-- so many of the octets to be written were taken
unfoldable pub took_of : Pump → ℕ → Pump
took_of p n =
    record {
      table = p.table;
      have = p.have;
      from = min (p.from + n) p.to;
      to = p.to;
      begun = p.begun;
      closed = p.closed;
      over = p.over;
    }

-- ---- places in a buffer
-- r is how many of the buffer's first n octets there are
pub record Within (n : ℕ) (buf : List ℕ) (r : ℕ) : Type 0 where
  pub fits : r ≤ length buf
  pub count : r ≡ length (take r buf)
  pub same-part : take r buf ≡ take n buf

-- the octets from a place to another stand at the buffer's front, and r is how many they are
pub record Shifted (buf : List ℕ) (from to r : ℕ) (after : List ℕ) : Type 0 where
  pub count : r ≡ length (drop from (take to buf))
  pub moved : after ≡ sets buf 0 (drop from (take to buf))

-- ---- one turn
-- the octets of input that are there
abbrev pub input_in : Pump → List ℕ → List ℕ
input_in p buf = take p.have buf

-- nothing changes
abbrev pub same : Pump → List ℕ → List ℕ → Pumped
same p buf out = record { pump = p; buf = buf; out = out }

-- the last words of the text: nothing is to be read behind them
abbrev pub last_words : Pump → ℕ → Pump
last_words p octets =
    record { table = p.table; have = p.have; from = 0; to = octets; begun = p.begun; closed = p.closed; over = true }

unfoldable pub finished_of : Pump → List ℕ → List ℕ → List ℕ → Pumped
finished_of p buf out words = record { pump = last_words p (length words); buf = buf; out = sets out 0 words }

-- the octets from a place on are moved to the buffer's front, and no others are there
abbrev pub moved_to : List ℕ → List ℕ → ℕ → List ℕ
moved_to buf input used = sets buf 0 (drop used input)

-- the table, before the first octet of the input and of the output
unfoldable pub at_front : Feeding → Feeding
at_front t = record { row = t.row; fed = record { head = t.fed.head; number = t.fed.number; used = 0; written = 0 } }

-- lines were put: the table as they leave it, and the input behind their records
abbrev pub lines_put : Pump → Flow → ℕ → Pump
lines_put p y have =
    record {
      table = record { row = y.row; fed = y.fed };
      have = have;
      from = 0;
      to = y.fed.written;
      begun = true;
      closed = p.closed;
      over = false;
    }

-- a record that no octet to come can mend
abbrev pub cannot_mend : Next → Bool
cannot_mend (Whole r) = false
cannot_mend Broken = true
cannot_mend Short = false
cannot_mend End = false

-- nothing that may come changes how the text ends
abbrev pub is_over : Bool → Next → Bool
is_over closed next = closed || cannot_mend next

-- where nothing is fed, how the text ends is put once that is known
abbrev pub unfed_to : Pump → List ℕ → List ℕ → Pumped
unfed_to p buf out =
    let input = input_in p buf in
    cond (is_over p.closed (next_in input)) (finished_of p buf out (ending input)) (same p buf out)

-- a feed that took records left their lines
unfoldable pub fed_to : Pump → List ℕ → Flow → Pumped
fed_to p buf y =
    let input = input_in p buf in
    cond (ltb 0 y.fed.used)
    (record { pump = lines_put p y (length (drop y.fed.used input)); buf = moved_to buf input y.fed.used; out = y.out })
    (unfed_to p buf y.out)

-- behind the header: as many records as are there and as many lines as fit
unfoldable pub fed_on : Pump → List ℕ → List ℕ → Pumped
fed_on p buf out = fed_to p buf (feed_of p.table.row (at_front p.table).fed (input_in p buf) out)

-- the header is read
abbrev pub header_read : Pump → ℕ → Pump
header_read p have =
    record { table = p.table; have = have; from = p.from; to = p.to; begun = true; closed = p.closed; over = p.over }

-- the header is not there yet, and may come
abbrev pub is_waiting : Bool → ℕ → Bool
is_waiting closed octets = not closed && ltb octets 8

unfoldable pub headed : Pump → List ℕ → List ℕ → Pumped
headed p buf out =
    let input = input_in p buf in
    cond (is_waiting p.closed (length input)) (same p buf out)
    (cond (header_fits input) (record { pump = header_read p (length (drop 8 input)); buf = moved_to buf input 8; out = out })
    (finished_of p buf out bad_header))

unfoldable pub begun_on : Pump → List ℕ → List ℕ → Pumped
begun_on p buf out = cond p.begun (same p buf out) (headed p buf out)

-- the header is read, and the text is not over
abbrev pub is_ready : Bool → Bool → Bool
is_ready begun over = begun && not over

unfoldable pub fed_behind : Pumped → Pumped
fed_behind x = cond (is_ready x.pump.begun x.pump.over) (fed_on x.pump x.buf x.out) x

-- as long as there is something to be written, nothing else is done; then the header, then records
unfoldable pub turn_of : Pump → List ℕ → List ℕ → Pumped
turn_of p buf out =
    cond (ltb p.from p.to) (same p buf out) (cond p.over (same p buf out) (fed_behind (begun_on p buf out)))
