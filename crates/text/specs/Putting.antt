-- The text put part by part into a lent buffer. This is what the code is proved to do.
-- Assumes nothing.
use Rattle.std.specs.Prelude.{ℕ, ◌+◌, cond, List, leb, length, replicate}
use Rattle.std.proofs.lemmas.List.Edits.{sets}
use Rattle.table.specs.Table.{absent}
use Rattle.owner.specs.declared.Feeding.{Feeding}
use Rattle.text.specs.declared.Count.{Count}

-- whether so many octets fit into so much room, and how many they are
abbrev pub counted : ℕ → ℕ → Count
counted room octets = record { fits = leb octets room; octets = cond (leb octets room) octets 0 }

pub record Putting : Type 0 where
  pub count : Count
  pub out : List ℕ

-- a part of the text put at a place; what lies past the buffer's end is dropped
unfoldable pub putting : List ℕ → ℕ → ℕ → List ℕ → Putting
putting out at room part = record { count = counted room (at + length part); out = sets out at part }

-- a table of its own, made empty, before the record at a place
unfoldable pub empty_table : ℕ → Feeding
empty_table used = record { row = replicate 64 absent; fed = record { head = record { clock = 0; occupied = 0 }; number = 0; used = used; written = 0 } }

-- the same table, with an output in which nothing is written
unfoldable pub rewound : Feeding → Feeding
rewound t = record { row = t.row; fed = record { head = t.fed.head; number = t.fed.number; used = t.fed.used; written = 0 } }
