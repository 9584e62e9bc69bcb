-- An index that is asked: what it is refused for, and the answer from the entry that is used.
-- Assumes nothing.
use Rattle.std.specs.Prelude.{ℕ, min, Bool, true, not, cond, ◌&&◌, List, [], ◌∷◌, length, get_or, drop, eqb, ltb, leb}
use Rattle.octets.specs.Choice.{need, bar}
use Rattle.rules.specs.Times.{latest}
use Rattle.session.specs.declared.Session.{Session}
use Rattle.table.specs.Table.{absent}
use Rattle.halving.specs.Search.{found, looks}
use Rattle.call_log.specs.Records.{header_fits}
use Rattle.call_log.specs.Reading.{Answer, read_to, answer_from, entry_fits, refused_with}
use Rattle.indexing.specs.declared.IndexHead.{IndexHead}

-- an index of this label and of a log of so many octets, with 1 to 256 entries, all of them in the room that is lent
abbrev pub head_fits : IndexHead → ℕ → ℕ → ℕ → Bool
head_fits h l size room = eqb h.label l && eqb h.length size && not (eqb h.count 0) && leb h.count 256 && leb h.count room

-- 1 for a reading above the greatest, 19 for a bad header, 20
unfoldable pub ask_refusal : List ℕ → IndexHead → ℕ → ℕ → ℕ → ℕ
ask_refusal log h l u room = bar (ltb latest u) 1 (need (header_fits log) 19 (need (head_fits h l (length log) room) 20 0))

-- from the entry that is used: at most 256 records, then the report at the reading
unfoldable pub answer_at : List ℕ → ℕ → Session → ℕ → ℕ → ℕ → ℕ → Answer
answer_at log place s clock l u looked = answer_from (read_to 256 l u (drop place log) (record { session = s; clock = clock })) u looked

-- the room: the least length of the three slices
abbrev pub room_of : ℕ → ℕ → ℕ → ℕ
room_of clocks places records = min clocks (min places records)

-- whether the entry at a place is in range, and whether those at all of these places are
abbrev pub fits_at : ℕ → List ℕ → List ℕ → List Session → ℕ → ℕ → Bool
fits_at size clocks places records l i = entry_fits (get_or records i absent) (get_or clocks i 0) (get_or places i 0) l size

unfoldable pub all_fit : (ℕ → Bool) → List ℕ → Bool
all_fit fits [] = true
all_fit fits (i ∷ is) = fits i && all_fit fits is

-- the answer from entry k
abbrev pub answer_of : List ℕ → List ℕ → List ℕ → List Session → ℕ → ℕ → ℕ → ℕ → Answer
answer_of log clocks places records l u k looked = answer_at log (get_or places k 0) (get_or records k absent) (get_or clocks k 0) l u looked

-- of n entries those that are looked at and the one that is found are judged, and no other: 20, then 19, 2, or the report and the number of entries looked at
abbrev pub searched : List ℕ → List ℕ → List ℕ → List Session → ℕ → ℕ → ℕ → Answer
searched log clocks places records l u n =
    cond (all_fit (fits_at (length log) clocks places records l) (looks clocks u 0 n) && fits_at (length log) clocks places records l (found clocks u 0 n).place)
    (answer_of log clocks places records l u (found clocks u 0 n).place (found clocks u 0 n).looked)
    (refused_with 20)

-- 1, 19, 20, 19, 2, or the report and the number of entries looked at
unfoldable pub ask_of : List ℕ → IndexHead → List ℕ → List ℕ → List Session → ℕ → ℕ → Answer
ask_of log h clocks places records l u =
    let refusal = ask_refusal log h l u (room_of (length clocks) (length places) (length records)) in
    cond (eqb refusal 0) (searched log clocks places records l u h.count) (refused_with refusal)
