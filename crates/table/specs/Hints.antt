-- The place of a label by a hint: one octet for each label modulo 256 has the place where it was found last. Nothing is believed of the hints; a
-- place is taken from them only where its record has the label.
-- Assumes nothing.
use Rattle.std.specs.Prelude.{ℕ, ◌%◌, min, Bool, cond, ◌&&◌, List, ltb, length, get_or, set}
use Rattle.session.specs.declared.Session.{Session}
use Rattle.table.specs.Places.{occupied_at, has_label, first_hit}
use Rattle.table.specs.Table.{absent}

-- this place is in the row and occupied, and its record has the label
abbrev pub holds : ℕ → ℕ → List Session → ℕ → Bool
holds l on row i = ltb i (length row) && occupied_at on i && has_label l (get_or row i absent)

-- the hint for a label; 0 where the hints end before it
unfoldable pub hint_of : List ℕ → ℕ → ℕ
hint_of hints l = get_or hints (l % 256) 0

-- a place kept as the hint for a label, in one octet
unfoldable pub hint_kept : List ℕ → ℕ → ℕ → List ℕ
hint_kept hints l place = set hints (l % 256) (min place 255)

-- a place, and the hints afterwards
pub record Placed : Type 0 where
  pub place : ℕ
  pub hints : List ℕ

-- the place that a search finds, kept as a hint
abbrev pub searched : List ℕ → ℕ → ℕ → Placed
searched hints l place = record { place = place; hints = hint_kept hints l place }

-- the place of a label: the hint where it holds the label, else by a search
unfoldable pub placed_by : List Session → List ℕ → ℕ → ℕ → Placed
placed_by row hints on l =
    cond (holds l on row (hint_of hints l)) (record { place = hint_of hints l; hints = hints }) (searched hints l (first_hit l 0 on row))
