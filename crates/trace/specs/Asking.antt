-- A table by value that is asked about one label: the record of that label in its row, if it is open.
-- Assumes nothing.
use Rattle.std.specs.Prelude.{ℕ, cond, ltb, get_or}
use Rattle.std.proofs.Math.Option.{Option, none, some}
use Rattle.session.specs.declared.Session.{Session}
use Rattle.table.specs.Places.{first_hit}
use Rattle.table.specs.Table.{absent}
use Rattle.trace.specs.declared.asked.Asked.{Asked}
use Rattle.trace.specs.declared.asked.Found.{Found}

-- the first open record with the label; no session has discriminator 0
abbrev pub place_asked : Asked → ℕ
place_asked t = first_hit t.tracing.label 0 t.tracing.fed.head.occupied t.row

-- what is read at a place, and whether that is one of the row's 64
abbrev pub found_at : Session → ℕ → Found
found_at s place = record { session = s; there = ltb place 64 }

unfoldable pub found_by : Asked → Found
found_by t = found_at (get_or t.row (place_asked t) absent) (place_asked t)

abbrev pub found_in : Found → Option Session
found_in f = cond f.there (some f.session) none
