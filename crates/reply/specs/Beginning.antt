-- A table by value that is asked about a label: empty, before the first record of a capture.
-- Assumes nothing.
use Rattle.std.specs.Prelude.{ℕ, replicate}
use Rattle.table.specs.Table.{absent}
use Rattle.cause.specs.Noting.{anew}
use Rattle.trace.specs.declared.asked.Asked.{Asked}

-- the first record lies behind the 8 octets of the header
unfoldable pub beginning : ℕ → ℕ → Asked
beginning label upto =
    record {
      row = replicate 64 absent;
      tracing =
          record {
            fed = record { head = record { clock = 0; occupied = 0 }; number = 0; used = 8; written = 0 };
            upto = upto;
            marks = anew 0;
            label = label;
          };
    }
