-- A capture read for the spacing of one label, in whatever pieces it comes: what is held between two reads, and what a read makes of it. This is what the code is proved to do.
-- Assumes nothing.
use Rattle.std.specs.Prelude.{ℕ, ◌+◌, min, true, false, cond, List, ltb, length, take, drop, replicate}
use Rattle.std.proofs.lemmas.List.Edits.{sets}
use Rattle.capture.specs.Records.{header_fits, next_in}
use Rattle.table.specs.Table.{absent}
use Rattle.account.specs.Accounts.{finished_of}
use Rattle.interval.specs.Pacing.{at_rest}
use Rattle.pace.specs.declared.Pacing.{Pacing}
use Rattle.pace.specs.Pacing.{Trail, pace_of}
use Rattle.pump.specs.Pumping.{cannot_mend}
use Rattle.gauge.specs.declared.input.Gauge.{Gauge}
use Rattle.gauge.specs.Words.{spacing_line}

-- what is held, and the buffer for input
pub record Gauged : Type 0 where
  pub gauge : Gauge
  pub buf : List ℕ

abbrev pub same : Gauge → List ℕ → Gauged
same g buf = record { gauge = g; buf = buf }

-- a table made empty, nothing read
unfoldable pub start_of : ℕ → Gauge
start_of l =
    record {
      asked =
          record {
            row = replicate 64 absent;
            pacing = record { fed = record { head = record { clock = 0; occupied = 0 }; number = 0; used = 0; written = 0 }; pace = at_rest; label = l };
          };
      have = 0;
      begun = false;
      over = false;
    }

-- the octets of input that are there
abbrev pub input_in : Gauge → List ℕ → List ℕ
input_in g buf = take g.have buf

-- so many octets are there
abbrev pub holding : Gauge → ℕ → Gauge
holding g have = record { asked = g.asked; have = have; begun = g.begun; over = g.over }

-- nothing that may come changes the numbers
abbrev pub settled : Gauge → Gauge
settled g = record { asked = g.asked; have = g.have; begun = g.begun; over = true }

-- the header is read
abbrev pub header_read : Gauge → ℕ → Gauge
header_read g have = record { asked = g.asked; have = have; begun = true; over = g.over }

-- the header, once its octets are there
unfoldable pub headed : Gauge → List ℕ → Gauged
headed g buf =
    let input = input_in g buf in
    cond (ltb (length input) 8) (same g buf)
    (cond (header_fits input) (same (header_read g (length (drop 8 input))) (sets buf 0 (drop 8 input))) (same (settled g) buf))

unfoldable pub begun_on : Gauge → List ℕ → Gauged
begun_on g buf = cond g.begun (same g buf) (headed g buf)

-- before the first octet of the input
unfoldable pub at_front : Pacing → Pacing
at_front x = record { fed = record { head = x.fed.head; number = x.fed.number; used = 0; written = 0 }; pace = x.pace; label = x.label }

-- the whole records are paced, and the octets behind them moved to the buffer's front. A record that no octet to come can mend is the end
abbrev pub paced_to : List ℕ → Trail → List ℕ → Gauged
paced_to buf y rest =
    record {
      gauge = record { asked = record { row = y.row; pacing = y.pacing }; have = length rest; begun = true; over = cannot_mend (next_in rest) };
      buf = sets buf 0 rest;
    }

unfoldable pub paced_on : Gauge → List ℕ → Gauged
paced_on g buf =
    let y = pace_of g.asked.row (at_front g.asked.pacing) (input_in g buf) in
    paced_to buf y (drop y.pacing.fed.used (input_in g buf))

-- behind the header, where it is read
unfoldable pub gauged_on : Gauged → Gauged
gauged_on x = cond x.gauge.begun (paced_on x.gauge x.buf) x

-- so many octets were read behind those that are there
unfoldable pub got_of : Gauge → ℕ → List ℕ → Gauged
got_of g n buf = cond g.over (same g buf) (gauged_on (begun_on (holding g (min (g.have + n) (length buf))) buf))

-- the line
unfoldable pub text_of : Gauge → List ℕ
text_of g = spacing_line (finished_of g.asked.pacing.pace.account)
