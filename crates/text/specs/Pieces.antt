-- A capture fed in pieces, as its octets come: each feed is lent what the last one left with the new octets behind it, and a buffer of any length.
-- Assumes nothing.
use Rattle.std.specs.Prelude.{ℕ, List, [], ◌∷◌, ◌++◌, take, drop}
use Rattle.session.specs.declared.Session.{Session}
use Rattle.table.specs.declared.Head.{Head}
use Rattle.feed.specs.Feeding.{feed_of}

-- new octets, and the buffer lent for what is written of them
pub record Piece : Type 0 where
  pub octets : List ℕ
  pub buffer : List ℕ

-- the table and the number of the last record, the octets left, and all that was written
pub record Stage : Type 0 where
  pub row : List Session
  pub head : Head
  pub number : ℕ
  pub left : List ℕ
  pub text : List ℕ

-- a row made empty, and nothing come
abbrev pub beginning : List Session → Stage
beginning row = record { row = row; head = record { clock = 0; occupied = 0 }; number = 0; left = []; text = [] }

-- one piece more: row, clock, set and record number are carried on, and so are the octets that were not used
unfoldable pub fed_piece : Stage → Piece → Stage
fed_piece x p =
    let input = x.left ++ p.octets in
    let y = feed_of x.row (record { head = x.head; number = x.number; used = 0; written = 0 }) input p.buffer in
    record { row = y.row; head = y.fed.head; number = y.fed.number; left = drop y.fed.used input; text = x.text ++ take y.fed.written y.out }

unfoldable pub fed_pieces : Stage → List Piece → Stage
fed_pieces x [] = x
fed_pieces x (p ∷ ps) = fed_pieces (fed_piece x p) ps

-- all octets that came
unfoldable pub joined : List Piece → List ℕ
joined [] = []
joined (p ∷ ps) = p.octets ++ joined ps
