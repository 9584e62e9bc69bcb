-- The two programs together: asked by the file that is built of a log whose answers are our run's, the answer is the report of our run.
-- Assumes nothing.
use Prim.Native.Nat.{ℕ, min, ◌+◌, ◌*◌, ◌/◌, ◌^◌, ◌≤◌, ◌<◌}
use native.Mathlib.Omega.{arith}
use native.Mathlib.Nat.{min-eq_left}
use mathlib.Core.Path.{◌≡◌, refl, sym, ap, ◌∙◌}
use mathlib.Core.Bool.{true, false}
use mathlib.Core.List.{List, [], ◌++◌}
use lib.ListN.{length, take, drop, take-append-drop}
use lib.Seq.{sets, length-sets, length-take-le}
use lib.Dec.{eqb, leb}
use borrow.Author.Tests.{eq-eqb, ne_eqb, le-ltb, le-leb}
use Rattle.octets.specs.Numbers.{number_at}
use Rattle.rules.specs.Times.{latest}
use Rattle.session.specs.declared.Session.{Session}
use Rattle.own.proofs.Ungrouped.{absent-ungrouped}
use Rattle.call_log.specs.Records.{header_fits}
use Rattle.call_log.specs.Reading.{Answer, never, at_start, count_of}
use Rattle.call_log.specs.Entries.{entry_point, entry_place}
use Rattle.call_log.proofs.Turns.{read-ungrouped}
use Rattle.call_log.proofs.Runs.{reported}
use Rattle.call_log.proofs.Asking.{OurLog, front_of}
use Rattle.indexing.specs.declared.IndexHead.{IndexHead}
use Rattle.indexing.specs.Asking.{ask_refusal, room_of}
use Rattle.indexing.specs.Filling.{entries_of}
use Rattle.indexing.proofs.Asks.{ask-head}
use Rattle.indexing.proofs.Builds.{records-few}
use Rattle.indexing.proofs.Counts.{header-size}
use Rattle.index_file.specs.declared.Entry.{Entry}
use Rattle.index_file.specs.Octets.{head_octets, entry_octets, head_in, entry_in}
use Rattle.index_file.specs.Files.{place_of, mark_of, file_fits, head_of, entry_at, clocks_in, places_in, records_in}
use Rattle.index_file.specs.Seeking.{seek_refusal, sought_in, asked_from}
use Rattle.index_file.specs.Windows.{window_of}
use Rattle.index_file.specs.Blocks.{start_of, entry_for, Building, blocks_of, finished_of}
use Rattle.index_file.proofs.Back.{EntryInRange, HeadInRange, entry-back, head-back}
use Rattle.index_file.proofs.Asked.{clock-at, place_at_lem, record-at, refusal_is, asked-file}
use Rattle.index_file.proofs.Entire.{entry_before, put_from, ended_after, streamed, entry-ours}
use Rattle.index_file.proofs.Stretches.{stretch, drop-sets, stretch-sets, stretch-take, put-length, put-there}

-- the octets that are written
abbrev pub written : Building → List ℕ
written b = take (finished_of b.out b.indexing).size (finished_of b.out b.indexing).out

module _ (log : List ℕ) (l c : ℕ) (out : List ℕ) (few : c ≤ 256) (room : 64536 ≤ length out) where
  abbrev head : IndexHead
  head = record { length = length log; label = l; count = c }

  abbrev put : List ℕ
  put = put_from log l c 0 out

  -- the file of c entries
  abbrev pub file_of : List ℕ
  file_of = take (place_of c) (sets put 0 (head_octets head []))

  size_is : place_of c ≡ 24 + 252 * c
  size_is = ap (λ (n : ℕ). 24 + 252 * n) (min-eq_left few)

  put-size : length (sets put 0 (head_octets head [])) ≡ length out
  put-size = length-sets put 0 (head_octets head []) ∙ put-length log l c 0 out

  file-size : length file_of ≡ 24 + 252 * c
  file-size = length-take-le (place_of c) (sets put 0 (head_octets head [])) (omega (arith, size_is, put-size, room)) ∙ size_is

  -- the head reads back
  module _ (ranges : HeadInRange head) where
    front : file_of ≡ head_octets head (drop 24 file_of)
    front =
        let e : stretch 24 0 file_of ≡ head_octets head [] =
        stretch-take 24 0 (place_of c) (sets put 0 (head_octets head [])) (omega (arith, size_is))
        ∙ stretch-sets (head_octets head []) put 0 24 refl (omega (arith, put-length log l c 0 out, room)) in
        sym (take-append-drop 24 file_of) ∙ ap (λ (x : List ℕ). x ++ drop 24 file_of) e

    read_head : head_in file_of ≡ head
    read_head = ap head_in front ∙ head-back head (drop 24 file_of) ranges

    pub head-built : head_of file_of ≡ head
    unfolding head_of file_fits
    head-built =
        let mark : number_at 8 file_of 0 ≡ mark_of = ap (λ (x : List ℕ). number_at 8 x 0) front in
        let size : length file_of ≡ 24 + 252 * (head_in file_of).count = file-size ∙ ap (λ (h : IndexHead). 24 + 252 * h.count) (sym read_head) in
        rw (eq-eqb (number_at 8 file_of 0) mark_of mark, eq-eqb (length file_of) (24 + 252 * (head_in file_of).count) size) read_head

  -- each entry reads back
  pub entry-built : (k : ℕ) → k < c → EntryInRange (entry_for (entry_before log l k)) → entry_at file_of k ≡ entry_for (entry_before log l k)
  entry-built k h ranges =
      let p : place_of k ≡ 24 + 252 * k = ap (λ (n : ℕ). 24 + 252 * n) (min-eq_left (omega arith)) in
      let q = 24 + 252 * k in
      let e : stretch 252 q file_of ≡ entry_octets (entry_for (entry_before log l k)) [] =
      stretch-take 252 q (place_of c) (sets put 0 (head_octets head [])) (omega (arith, size_is))
      ∙ ap (take 252) (drop-sets (head_octets head []) put 0 q (omega arith)) ∙ put-there log l c 0 k out (omega arith) (omega arith) (omega arith) room in
      let s = drop q file_of in
      let all : s ≡ entry_octets (entry_for (entry_before log l k)) (drop 252 s) = sym (take-append-drop 252 s) ∙ ap (λ (x : List ℕ). x ++ drop 252 s) e in
      let none = read-ungrouped l never (256 * k) (drop 8 log) at_start absent-ungrouped in
      ap (λ (n : ℕ). entry_in (drop n file_of)) p ∙ ap entry_in all ∙ entry-back (entry_for (entry_before log l k)) (drop 252 s) ranges none

-- it is what the blocks and the head leave of a log that is counted with 0
pub file-written : (log : List ℕ) (l w : ℕ) (out : List ℕ) → 8 ≤ w → length log ≤ 18446744073709551615 → (count_of log).answer ≡ 0
    → (few : entries_of (count_of log).count ≤ 256) (room : 64536 ≤ length out)
    → written (blocks_of 256 log (record { indexing = start_of (take w log) l; out = out })) ≡ file_of log l (entries_of (count_of log).count) out few room
file-written log l w out h small e few room =
    let n = (count_of log).count in
    let count : min (n / 256) 255 + 1 ≡ entries_of n = omega (arith, records-few log) in
    let told : min (min (n / 256) 255 + 1) 256 ≡ entries_of n = omega (arith, records-few log) in
    let put = put_from log l (entries_of n) 0 out in
    let left : written (record { indexing = ended_after log l (n / 256); out = put })
    ≡ take (place_of (min (n / 256) 255 + 1)) (sets put 0 (head_octets (record { length = length log; label = l; count = min (min (n / 256) 255 + 1) 256 }) [])) =
    unfold finished_of in refl in
    ap written (streamed log l w out h small e) ∙ left
    ∙ (λ i. take (place_of (count i)) (sets put 0 (head_octets (record { length = length log; label = l; count = told i }) [])))

-- asked by the file that is built
module _ (row : List Session) (log : List ℕ) (n : ℕ) (our : OurLog row log n) (l u : ℕ) (top : u ≤ latest) (good : header_fits log ≡ true)
    (small : length log ≤ 18446744073709551615) (label : l < 256 ^ 4) (out : List ℕ) (room : 64536 ≤ length out)
    (ranges : (k : ℕ) → 256 * k ≤ n → EntryInRange (entry_for (entry_before log l k))) where
  abbrev count : ℕ
  count = n / 256 + 1

  pub few-entries : count ≤ 256
  few-entries = omega (arith, our.few)

  abbrev file : List ℕ
  file = file_of log l count out few-entries room

  own : head_of file ≡ record { length = length log; label = l; count = count }
  own = head-built log l count out few-entries room (record { length = omega arith; label = label; count = omega (arith, few-entries) })

  entry-there : (k : ℕ) → k < count → entry_at file k ≡ record { clock = (entry_point l log k).clock; place = entry_place log k; session = (entry_point l log k).session }
  entry-there k h =
      let m : 256 * k ≤ n = omega arith in
      entry-built log l count out few-entries room k h (ranges k m) ∙ entry-ours row log n our l small (header-size log good) k m

  passed : ask_refusal log (head_of file) l u (room_of (length (clocks_in file)) (length (places_in file)) (length (records_in file))) ≡ 0
  passed =
      let some : eqb count 0 ≡ false = ne_eqb count 0 (λ z. omega arith) in
      let few : leb count 256 ≡ true = le-leb count 256 few-entries in
      refusal_is log file l u ∙ ap (λ (h : IndexHead). seek_refusal h (header_fits log) (length log) l u) own
      ∙ rw (le-ltb latest u top, good, eq-eqb l l refl, eq-eqb (length log) (length log) refl, some, few) refl

  -- the answer of the two programs is the report of our run at that reading
  abbrev pub answered : Answer
  answered = asked_from (sought_in file (header_fits log) (length log) l u) (window_of log (sought_in file (header_fits log) (length log) l u).entry.place) l u

  pub ask-index : (answered.answer ≡ (reported (front_of row log u) u l).number) × (answered.report ≡ (reported (front_of row log u) u l).report)
  ask-index =
      let same = asked-file log file l u in
      let w = ask-head row log n our l (clocks_in file) (places_in file) (records_in file) count refl (header-size log good)
      (λ i h. clock-at log file l u i (omega (arith, few-entries)) ∙ ap (λ (e : Entry). e.clock) (entry-there i h))
      (λ i h. place_at_lem log file l u i (omega (arith, few-entries)) ∙ ap (λ (e : Entry). e.place) (entry-there i h))
      (λ i h. record-at log file l u i (omega (arith, few-entries)) ∙ ap (λ (e : Entry). e.session) (entry-there i h))
      u top (head_of file) (ap (λ (h : IndexHead). h.count) own) passed in
      (ap (λ (a : Answer). a.answer) same ∙ w.0, ap (λ (a : Answer). a.report) same ∙ w.1)
