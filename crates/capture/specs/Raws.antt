-- The records of a capture as values, every field as it stands, also where no call reads it. `head` is the octets before a record's body: 16 in a capture.
-- Assumes nothing.
use Rattle.std.specs.Prelude.{ℕ, zero, suc, ◌+◌, Bool, not, cond, ◌&&◌, List, [], ◌∷◌, leb, length, take, drop}
use Rattle.capture.specs.Records.{record_in, is_broken}

pub record Raw : Type 0 where
  pub time : ℕ
  pub label : ℕ
  pub kind : ℕ
  pub size : ℕ
  pub body : List ℕ

-- the record at the front of the octets
unfoldable pub raw_in : ℕ → List ℕ → Raw
raw_in head s =
    record {
      time = (record_in s).time;
      label = (record_in s).label;
      kind = (record_in s).kind;
      size = (record_in s).size;
      body = take (record_in s).size (drop head s);
    }

-- how many octets it has
abbrev pub raw_size : ℕ → List ℕ → ℕ
raw_size head s = head + (record_in s).size

-- a whole one stands there: kind and length are known ones, and all its octets are there
unfoldable pub stands_in : ℕ → List ℕ → Bool
stands_in head s = not (is_broken (record_in s).kind (record_in s).size) && leb (raw_size head s) (length s)

-- the whole records, one behind the other, and the octets left behind the last
pub record Raws : Type 0 where
  pub raws : List Raw
  pub rest : List ℕ

-- of at most n records
unfoldable pub raws_by : ℕ → ℕ → List ℕ → Raws
raws_by head zero s = record { raws = []; rest = s }
raws_by head (suc n) s =
    let p = raws_by head n (drop (raw_size head s) s) in
    cond (stands_in head s) (record { raws = raw_in head s ∷ p.raws; rest = p.rest }) (record { raws = []; rest = s })

-- each takes octets, so their number is enough for n
unfoldable pub raws_in : ℕ → List ℕ → Raws
raws_in head s = raws_by head (length s) s
