-- The records of an index filled in, entry by entry: what the code does.
-- Assumes nothing.
use Rattle.std.specs.Prelude.{ℕ, zero, suc, ◌+◌, ◌-◌, ◌/◌, Bool, cond, List, Result, Ok, Err, length, drop, set, eqb, ltb}
use Rattle.octets.specs.declared.refusals.Refusal.{Refusal}
use Rattle.octets.specs.Choice.{bar, or_else}
use Rattle.octets.specs.Refusals.{number_of}
use Rattle.session.specs.declared.Session.{Session}
use Rattle.table.specs.Table.{absent}
use Rattle.call_log.specs.declared.Ended.{Ended}
use Rattle.call_log.specs.Reading.{read_to, never, at_start, count_of}
use Rattle.walks.specs.AtPlace.{Afterwards, at_place}
use Rattle.indexing.specs.declared.Filling.{Filling}

-- the entry that is to be filled in, and whether there is one
abbrev pub entry_at : Filling → ℕ
entry_at x = x.at

abbrev pub unfilled : Filling → Bool
unfilled x = ltb x.at x.count

-- there is no room for it: nothing more is filled in
abbrev pub stopped : Filling → Filling
stopped x = record { point = x.point; place = x.place; at = x.at; count = x.at; label = x.label }

-- before the first entry no record is read, before another 256
abbrev pub reads_for : Filling → ℕ
reads_for x = cond (eqb x.at 0) 0 256

abbrev pub read_for : Filling → List ℕ → Ended
read_for x log = read_to (reads_for x) x.label never (drop x.place log) x.point

-- the next entry
abbrev pub onward : Filling → ℕ
onward x = cond (unfilled x) (x.at + 1) x.at

-- what stands at the entry, and the next one
abbrev pub filled_by : Filling → List ℕ → Filling
filled_by x log =
    record { point = (read_for x log).point; place = length log - (read_for x log).left; at = onward x; count = x.count; label = x.label }

-- one entry: the record that stands there is stored
abbrev pub fill_one : List Session → Filling → List ℕ → Afterwards Filling Session
fill_one row x log = at_place entry_at stopped (λ s y octets. filled_by y octets) (λ s d. d.point.session) (λ y d. d) absent row x log

-- entry by entry, n at most
unfoldable pub fills_of : ℕ → List ℕ → Afterwards Filling Session → Afterwards Filling Session
fills_of zero log a = a
fills_of (suc n) log a = cond (unfilled a.outcome) (fills_of n log (fill_one a.row a.outcome log)) a

-- all that are left
abbrev pub fill_all : List Session → Filling → List ℕ → Afterwards Filling Session
fill_all row x log = fills_of (x.count - x.at) log (record { outcome = x; row = row })

-- the entries of so many records
abbrev pub entries_of : ℕ → ℕ
entries_of records = records / 256 + 1

-- building: 19, then 13 where the room is less than the entries
abbrev pub build_answer : List ℕ → ℕ → ℕ
build_answer log room = or_else (count_of log).answer (bar (ltb room (entries_of (count_of log).count)) 13 0)

-- before the first entry; of a log that is refused there is none
abbrev pub filling_from : ℕ → ℕ → Filling
filling_from label count = record { point = at_start; place = 8; at = 0; count = count; label = label }

-- what building answers, 0, 19 or 13, and where it begins: beside a refusal there is no entry
pub record Begun : Type 0 where
  pub filling : Filling
  pub answer : ℕ

-- as the code says it of a label
abbrev pub begun_in : ℕ → Result Filling Refusal → Begun
begun_in label (Ok x) = record { filling = x; answer = 0 }
begun_in label (Err r) = record { filling = filling_from label 0; answer = number_of r }

unfoldable pub begun_of : List ℕ → ℕ → ℕ → Begun
begun_of log label room =
    record {
      filling = filling_from label (cond (eqb (build_answer log room) 0) (entries_of (count_of log).count) 0);
      answer = build_answer log room;
    }

-- beside the records two lists of numbers: the clock of each entry, and the place of the next record there
pub record Noted : Type 0 where
  pub filling : Filling
  pub clocks : List ℕ
  pub places : List ℕ

abbrev pub note_one : Noted → List ℕ → Noted
note_one a log =
    record {
      filling = filled_by a.filling log;
      clocks = set a.clocks a.filling.at (filled_by a.filling log).point.clock;
      places = set a.places a.filling.at (filled_by a.filling log).place;
    }

unfoldable pub notes_of : ℕ → List ℕ → Noted → Noted
notes_of zero log a = a
notes_of (suc n) log a = cond (unfilled a.filling) (notes_of n log (note_one a log)) a

abbrev pub note_all : List ℕ → List ℕ → Filling → List ℕ → Noted
note_all clocks places x log = notes_of (x.count - x.at) log (record { filling = x; clocks = clocks; places = places })
