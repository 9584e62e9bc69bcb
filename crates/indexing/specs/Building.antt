-- An index that is built: its head, and every element of the three lent slices afterwards. Beside a refusal the head is noughts and nothing is written.
-- Assumes nothing.
use Rattle.std.specs.Prelude.{ℕ, cond, List, Result, Ok, Err, length, eqb}
use Rattle.octets.specs.declared.refusals.Refusal.{Refusal}
use Rattle.octets.specs.Refusals.{number_of}
use Rattle.session.specs.declared.Session.{Session}
use Rattle.indexing.specs.declared.IndexHead.{IndexHead}
use Rattle.indexing.specs.Filling.{begun_of, note_all, fill_all}
use Rattle.indexing.specs.Asking.{room_of}

-- what building says: 0, 19 or 13, and the head, which is noughts beside a refusal
pub record Built : Type 0 where
  pub head : IndexHead
  pub answer : ℕ

-- as the code says it
abbrev pub built_in : Result IndexHead Refusal → Built
built_in (Ok h) = record { head = h; answer = 0 }
built_in (Err r) = record { head = record { length = 0; label = 0; count = 0 }; answer = number_of r }

pub record Index : Type 0 where
  pub built : Built
  pub clocks : List ℕ
  pub places : List ℕ
  pub records : List Session

-- the head: the octets of the log, the label, and the number of entries
abbrev pub head_by : ℕ → ℕ → ℕ → ℕ → IndexHead
head_by answer size label count = cond (eqb answer 0) (record { length = size; label = label; count = count }) (record { length = 0; label = 0; count = 0 })

-- 19 for a bad header, a cut record or too many records, then 13 where the least of the three lengths is less than the entries
unfoldable pub build_of : List ℕ → ℕ → List ℕ → List ℕ → List Session → Index
build_of log l clocks places records =
    let b = begun_of log l (room_of (length clocks) (length places) (length records)) in
    record {
      built = record { head = head_by b.answer (length log) l b.filling.count; answer = b.answer };
      clocks = (note_all clocks places b.filling log).clocks;
      places = (note_all clocks places b.filling log).places;
      records = (fill_all records b.filling log).row;
    }
