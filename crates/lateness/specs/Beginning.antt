-- A table by value that is asked about the spacing of a label: empty, before the first record of a capture.
-- Assumes nothing.
use Rattle.std.specs.Prelude.{ℕ, replicate}
use Rattle.table.specs.Table.{absent}
use Rattle.interval.specs.Pacing.{at_rest}
use Rattle.pace.specs.declared.asked.Asked.{Asked}

-- the first record lies behind the 8 octets of the header
unfoldable pub beginning : ℕ → Asked
beginning label =
    record {
      row = replicate 64 absent;
      pacing =
          record {
            fed = record { head = record { clock = 0; occupied = 0 }; number = 0; used = 8; written = 0 };
            pace = at_rest;
            label = label;
          };
    }
