-- The lines of a text.
-- Assumes nothing.
use Rattle.std.specs.Prelude.{ℕ, Bool, List, [], ◌∷◌, ◌==◌, cond, count_by}
use Rattle.std.specs.List.{list_any}

abbrev pub ends_line : ℕ → Bool
ends_line octet = octet == 10

-- How many octets of a text end a line.
abbrev pub line_count : List ℕ → ℕ
line_count text = count_by ends_line text

-- A text up to the end of its last line. What has no end is no line.
unfoldable pub whole_lines : List ℕ → List ℕ
whole_lines [] = []
whole_lines (octet ∷ rest) = cond (list_any ends_line (octet ∷ rest)) (octet ∷ whole_lines rest) []
