-- Asked from the index that is built of a log whose answers are our run's: every entry is in range, and the answer is the report of our run.
-- Assumes nothing.
use Prim.Native.Nat.{ℕ, zero, suc, min, ◌+◌, ◌*◌, ◌-◌, ◌/◌, ◌≤◌, ◌<◌}
use native.Mathlib.Omega.{arith}
use native.Mathlib.Nat.{min-le_left, min-le_right}
use mathlib.Core.Path.{◌≡◌, refl, sym, ap, ◌∙◌}
use mathlib.Core.Bool.{Bool, true, false, not, ◌&&◌, ◌||◌}
use mathlib.Core.Option.{some}
use mathlib.Core.List.{List, Memᴰ}
use lib.Dec.{eqb, ltb, leb}
use lib.ListN.{length, get_or, drop, length-drop, length-set}
use borrow.Author.Tests.{eqb-true, eqb-false, eq-eqb, ne_eqb, ltb-false, lt-ltb, le-ltb, le-leb}
use Rattle.octets.proofs.Chain.{or_else-passed, bar-passed}
use Rattle.rules.specs.Times.{latest}
use Rattle.rules.proofs.Bools.{split, no_way, both_true}
use Rattle.rules.proofs.Lists.{any_at}
use Rattle.session.specs.declared.Session.{Session}
use Rattle.session.specs.Soundness.{session_sound}
use Rattle.table.specs.Table.{Table, open_of, in_order, every, emptied, absent}
use Rattle.table.proofs.Order.{order-says}
use Rattle.table.proofs.Rows.{found-is}
use Rattle.walks.specs.AtPlace.{Afterwards, at_place}
use Rattle.halving.specs.Search.{found, looks_of, looks}
use Rattle.halving.proofs.Halves.{found_inside, looks-eight, looked-is}
use Rattle.own.specs.Records.{held_in}
use Rattle.call_log.specs.declared.Point.{Point}
use Rattle.call_log.specs.Records.{logged_by}
use Rattle.call_log.specs.Reading.{Answer, read_to, answer_from, entry_fits, count_of}
use Rattle.call_log.specs.Runs.{Ours, behind_all}
use Rattle.call_log.specs.Entries.{entry_point, entry_place}
use Rattle.call_log.proofs.Runs.{Agrees, order-behind, reported}
use Rattle.call_log.proofs.Asking.{OurLog, start-order, index-holds, front_of}
use Rattle.indexing.specs.declared.Filling.{Filling}
use Rattle.indexing.specs.declared.IndexHead.{IndexHead}
use Rattle.indexing.specs.Filling.{unfilled, fill_one, fills_of, fill_all, filling_from, entries_of, build_answer, begun_of, Noted, note_one, notes_of, note_all}
use Rattle.indexing.specs.Asking.{ask_refusal, answer_at, room_of, fits_at, all_fit, searched, ask_of}
use Rattle.indexing.specs.Building.{Index, build_of}
use Rattle.indexing.proofs.Fills.{stays, goes_on_lem, notes-stay, notes-go}
use Rattle.indexing.proofs.Counts.{Whole, count-whole, header-size}
use Rattle.indexing.proofs.Looks.{head_passed, ask-passed}
use Rattle.indexing.proofs.Filled.{shorter, records-built, numbers-built, asked_at, ask-built}

-- one of those that all pass passes
every_in : (p : Session → Bool) {r : Session} {rs : List Session} → every p rs ≡ true → Memᴰ r rs → p r ≡ true
every_in p {r} {rs} e m = split (p r) (λ h. h) (λ h. no_way e (ap not (any_at (λ x. not (p x)) m (ap not h))))

-- a record that a table in order agrees with is none, or the label's and sound at the clock
agreed-fits : (t : Table) (l : ℕ) (p : Point) → in_order t ≡ true → Agrees l t p → eqb p.session.settings.label 0 || eqb p.session.settings.label l && session_sound p.session p.clock ≡ true
agreed-fits t l p o a =
    let s = p.session in
    split (eqb s.settings.label 0)
    (λ h. rw h refl)
    (λ h.
    let held : held_in s ≡ some s = rw h refl in
    let there = found-is l (open_of t) s (a.own ∙ held) in
    let sound : session_sound s p.clock ≡ true = ap (session_sound s) (sym a.clock) ∙ every_in (λ r. session_sound r t.clock) (order-says t o).sound there.0 in
    rw (h, eq-eqb s.settings.label l there.1, sound) refl)

-- the looks are among the candidates
looks-fit : (fits : ℕ → Bool) (k : ℕ) (clocks : List ℕ) (u first n : ℕ) → ((i : ℕ) → first ≤ i → i < first + n → fits i ≡ true) → all_fit fits (looks_of k clocks u first n) ≡ true
unfolding looks_of all_fit
looks-fit fits zero clocks u first n are = refl
looks-fit fits (suc k) clocks u first n are =
    split (ltb n 2)
    (λ e. rw e refl)
    (λ e.
    let two : 2 ≤ n = ltb-false n 2 e in
    let here = are (first + n / 2) (omega arith) (omega arith) in
    split (leb (get_or clocks (first + n / 2) 0) u)
    (λ g. rw (e, g, here) (looks-fit fits k clocks u (first + n / 2) (n - n / 2) (λ i a b. are i (omega arith) (omega arith))))
    (λ g. rw (e, g, here) (looks-fit fits k clocks u first (n / 2) (λ i a b. are i (omega arith) (omega arith)))))

-- building leaves the lengths
one-length : (rs : List Session) (x : Filling) (log : List ℕ) → length (fill_one rs x log).row ≡ length rs
unfolding at_place
one-length rs x log = split (ltb x.at (length rs)) (λ h. rw h (length-set rs x.at _)) (λ h. rw h refl)

fills-length : (j : ℕ) (log : List ℕ) (a : Afterwards Filling Session) → length (fills_of j log a).row ≡ length a.row
fills-length zero log a = unfold fills_of in refl
fills-length (suc j) log a =
    let fewer : suc j - 1 ≡ j = omega arith in
    split (unfilled a.outcome)
    (λ e. ap (λ (w : Afterwards Filling Session). length w.row) (goes_on_lem (suc j) log a e (omega arith) ∙ ap (λ (k : ℕ). fills_of k log (fill_one a.row a.outcome log)) fewer)
    ∙ fills-length j log (fill_one a.row a.outcome log) ∙ one-length a.row a.outcome log)
    (λ e. ap (λ (w : Afterwards Filling Session). length w.row) (stays (suc j) log a e))

notes-length : (j : ℕ) (log : List ℕ) (a : Noted) → (length (notes_of j log a).clocks ≡ length a.clocks) × (length (notes_of j log a).places ≡ length a.places)
notes-length zero log a = unfold notes_of in (refl, refl)
notes-length (suc j) log a =
    let fewer : suc j - 1 ≡ j = omega arith in
    split (unfilled a.filling)
    (λ e.
    let step = notes-go (suc j) log a e (omega arith) ∙ ap (λ (k : ℕ). notes_of k log (note_one a log)) fewer in
    let w = notes-length j log (note_one a log) in
    (ap (λ (x : Noted). length x.clocks) step ∙ w.0 ∙ length-set a.clocks a.filling.at _, ap (λ (x : Noted). length x.places) step ∙ w.1 ∙ length-set a.places a.filling.at _))
    (λ e. let same = notes-stay (suc j) log a e in (ap (λ (x : Noted). length x.clocks) same, ap (λ (x : Noted). length x.places) same))

module _ (row : List Session) (log : List ℕ) (n : ℕ) (our : OurLog row log n) (l : ℕ) where
  -- every entry of the index is in range
  pub entry-fits : (k : ℕ) → 8 ≤ length log → 256 * k ≤ n → entry_fits (entry_point l log k).session (entry_point l log k).clock (entry_place log k) l (length log) ≡ true
  unfolding entry_fits
  entry-fits k h m =
      let rest = shorter (256 * k) (drop 8 log) in
      both_true (both_true (le-leb 8 (entry_place log k) (omega (arith, rest, length-drop 8 log))) (le-leb (entry_place log k) (length log) (omega arith)))
      (agreed-fits (behind_all (emptied row) (logged_by (256 * k) (drop 8 log))) l (entry_point l log k) (order-behind (emptied row) (logged_by (256 * k) (drop 8 log)) (start-order row our.rows)) (index-holds row log n our l k m))

  -- asked of an index whose entries are these, no entry is refused
  module _ (clocks places : List ℕ) (records : List Session) (count : ℕ) (counted : count ≡ n / 256 + 1) (h : 8 ≤ length log)
      (cs : (i : ℕ) → i < count → get_or clocks i 0 ≡ (entry_point l log i).clock) (ps : (i : ℕ) → i < count → get_or places i 0 ≡ entry_place log i)
      (rs : (i : ℕ) → i < count → get_or records i absent ≡ (entry_point l log i).session) where
    fits-there : (i : ℕ) → i < count → fits_at (length log) clocks places records l i ≡ true
    fits-there i m = (λ j. entry_fits (rs i m j) (cs i m j) (ps i m j) l (length log)) ∙ entry-fits i h (omega arith)

    searched-is : (u : ℕ) → searched log clocks places records l u count ≡ asked_at row log n our l clocks places records absent u count
    unfolding looks
    searched-is u =
        let fits = fits_at (length log) clocks places records l in
        let all : all_fit fits (looks clocks u 0 count) ≡ true = looks-fit fits count clocks u 0 count (λ i a b. fits-there i (omega arith)) in
        let one = fits-there (found clocks u 0 count).place (omega (arith, (found_inside clocks u 0 count (omega arith)).1)) in
        rw (all, one) refl

    pub ask-head : (u : ℕ) → u ≤ latest → (head : IndexHead) → head.count ≡ count → ask_refusal log head l u (room_of (length clocks) (length places) (length records)) ≡ 0
        → ((ask_of log head clocks places records l u).answer ≡ (reported (front_of row log u) u l).number) × ((ask_of log head clocks places records l u).report ≡ (reported (front_of row log u) u l).report)
    unfolding ask_of
    ask-head u top head same passed =
        let all : searched log clocks places records l u head.count ≡ asked_at row log n our l clocks places records absent u count = ap (searched log clocks places records l u) same ∙ searched-is u in
        let w = ask-built row log n our l u top clocks places records absent count counted h cs ps rs in
        rw passed (ap (λ (x : Answer). x.answer) all ∙ w.0, ap (λ (x : Answer). x.report) all ∙ w.1)

-- ---- the index that is built
-- where building answers 0, there are the entries of the records counted
module _ (log : List ℕ) (l : ℕ) (cs ps : List ℕ) (rs : List Session) where
  abbrev room : ℕ
  room = room_of (length cs) (length ps) (length rs)

  abbrev entries : ℕ
  entries = entries_of (count_of log).count

  abbrev from : Filling
  from = filling_from l entries

  abbrev head : IndexHead
  head = record { length = length log; label = l; count = entries }

  abbrev whole : Index
  whole = record { built = record { head = head; answer = build_answer log room }; clocks = (note_all cs ps from log).clocks; places = (note_all cs ps from log).places; records = (fill_all rs from log).row }

  pub built-is : (build_of log l cs ps rs).built.answer ≡ 0 → build_of log l cs ps rs ≡ whole
  unfolding build_of begun_of
  built-is e = rw (eq-eqb (build_answer log room) 0 e)

  built-answer : (build_of log l cs ps rs).built.answer ≡ 0 → build_answer log room ≡ 0
  unfolding build_of begun_of
  built-answer e = e

  -- what was counted, and that there is room
  built-counted : build_answer log room ≡ 0 → ((count_of log).answer ≡ 0) × (entries ≤ room)
  built-counted e = let a = or_else-passed (count_of log).answer _ e in (a.0, ltb-false room entries (bar-passed (ltb room entries) 12 0 a.1).0)

  lengths : (length whole.clocks ≡ length cs) × ((length whole.places ≡ length ps) × (length whole.records ≡ length rs))
  lengths =
      let w = notes-length (entries - 0) log (record { filling = from; clocks = cs; places = ps }) in
      (w.0, (w.1, fills-length (entries - 0) log (record { outcome = from; row = rs })))

  module _ (row : List Session) (sized : length row ≡ 64) (ours : Ours (emptied row) (logged_by (count_of log).count (drop 8 log))) (u : ℕ) (top : u ≤ latest) (e : (build_of log l cs ps rs).built.answer ≡ 0) where
    abbrev n : ℕ
    n = (count_of log).count

    is-whole : Whole log
    is-whole = count-whole log (built-counted (built-answer e)).0

    our : OurLog row log n
    our = record { rows = sized; few = is-whole.few; whole = is-whole.ends.whole; all = is-whole.ends.all; ours = ours }

    enough : (entries ≤ length cs) × ((entries ≤ length ps) × (entries ≤ length rs))
    enough =
        let h = (built-counted (built-answer e)).1 in
        let a = min-le_left (length cs) (min (length ps) (length rs)) in
        let b = min-le_right (length cs) (min (length ps) (length rs)) in
        (omega (arith, h, a), (omega (arith, h, b, min-le_left (length ps) (length rs)), omega (arith, h, b, min-le_right (length ps) (length rs))))

    passed : ask_refusal log head l u (room_of (length whole.clocks) (length whole.places) (length whole.records)) ≡ 0
    unfolding ask_refusal
    passed =
        let some : eqb entries 0 ≡ false = ne_eqb entries 0 (λ z. omega arith) in
        let few : leb entries 256 ≡ true = le-leb entries 256 (omega (arith, is-whole.few)) in
        let same : room_of (length whole.clocks) (length whole.places) (length whole.records) ≡ room = λ i. room_of (lengths.0 i) (lengths.1.0 i) (lengths.1.1 i) in
        let fits : leb entries room ≡ true = le-leb entries room (built-counted (built-answer e)).1 in
        rw (le-ltb latest u top, is-whole.header, eq-eqb l l refl, eq-eqb (length log) (length log) refl, some, few, same, fits) refl

    asked-whole : ((ask_of log head whole.clocks whole.places whole.records l u).answer ≡ (reported (front_of row log u) u l).number) × ((ask_of log head whole.clocks whole.places whole.records l u).report ≡ (reported (front_of row log u) u l).report)
    asked-whole =
        let h = header-size log is-whole.header in
        let m = enough in
        ask-head row log n our l whole.clocks whole.places whole.records entries refl h
        (λ i k. (numbers-built row log n our l entries i cs ps refl h m.0 m.1.0).0 ∙ rw (lt-ltb i entries k))
        (λ i k. (numbers-built row log n our l entries i cs ps refl h m.0 m.1.0).1 ∙ rw (lt-ltb i entries k))
        (λ i k. records-built row log n our l entries i rs absent refl h m.1.1 ∙ rw (lt-ltb i entries k))
        u top head refl passed

    -- of a log whose answers are our run's, the index that is built, asked at any reading, gives the report of our run
    pub ask-run : ((ask_of log (build_of log l cs ps rs).built.head (build_of log l cs ps rs).clocks (build_of log l cs ps rs).places (build_of log l cs ps rs).records l u).answer ≡ (reported (front_of row log u) u l).number)
        × ((ask_of log (build_of log l cs ps rs).built.head (build_of log l cs ps rs).clocks (build_of log l cs ps rs).places (build_of log l cs ps rs).records l u).report ≡ (reported (front_of row log u) u l).report)
    ask-run =
        let b = built-is e in
        (ap (λ (x : Index). (ask_of log x.built.head x.clocks x.places x.records l u).answer) b ∙ asked-whole.0, ap (λ (x : Index). (ask_of log x.built.head x.clocks x.places x.records l u).report) b ∙ asked-whole.1)

-- ---- the number of looks, of any index
answer-looks : (log : List ℕ) (place : ℕ) (s : Session) (clock l u looked : ℕ) → looked ≤ 8 → (answer_at log place s clock l u looked).looked ≤ 8
unfolding answer_at answer_from
answer-looks log place s clock l u looked h =
    let e = read_to 256 l u (drop place log) (record { session = s; clock = clock }) in
    split e.cut (λ c. rw c (omega arith))
    (λ c. split (eqb e.point.session.settings.label 0) (λ z. rw (c, z) (omega arith)) (λ z. rw (c, z) h))

-- at most 8 entries are looked at, whatever is asked of whatever is lent
pub asked-eight : (log : List ℕ) (h : IndexHead) (clocks places : List ℕ) (records : List Session) (l u : ℕ) → (ask_of log h clocks places records l u).looked ≤ 8
unfolding ask_of
asked-eight log h clocks places records l u =
    let refusal = ask_refusal log h l u (room_of (length clocks) (length places) (length records)) in
    let k = (found clocks u 0 h.count).place in
    let fits = fits_at (length log) clocks places records l in
    split (eqb refusal 0)
    (λ e.
    let counted = head_passed h l (length log) _ (ask-passed log h l u _ (eqb-true refusal 0 e)).1.1 in
    split (all_fit fits (looks clocks u 0 h.count) && fits k)
    (λ f. rw (e, f) (answer-looks log (get_or places k 0) (get_or records k absent) (get_or clocks k 0) l u (found clocks u 0 h.count).looked (looks-eight clocks u 0 h.count counted.1.0)))
    (λ f. rw (e, f) (omega arith)))
    (λ e. rw e (omega arith))

-- the number told beside 0 is that of the list of looks
answer-counts : (log : List ℕ) (place : ℕ) (s : Session) (clock l u looked : ℕ) → (answer_at log place s clock l u looked).answer ≡ 0 → (answer_at log place s clock l u looked).looked ≡ looked
unfolding answer_at answer_from
answer-counts log place s clock l u looked h =
    let e = read_to 256 l u (drop place log) (record { session = s; clock = clock }) in
    split e.cut (λ c. absurd (let z : ◌≡◌ {A = ℕ} 19 0 = rw c at h in omega arith))
    (λ c. split (eqb e.point.session.settings.label 0) (λ z. absurd (let y : ◌≡◌ {A = ℕ} 2 0 = rw (c, z) at h in omega arith)) (λ z. rw (c, z) refl))

pub asked-looks : (log : List ℕ) (h : IndexHead) (clocks places : List ℕ) (records : List Session) (l u : ℕ) → (ask_of log h clocks places records l u).answer ≡ 0
    → (ask_of log h clocks places records l u).looked ≡ length (looks clocks u 0 h.count)
unfolding ask_of
asked-looks log h clocks places records l u said =
    let refusal = ask_refusal log h l u (room_of (length clocks) (length places) (length records)) in
    let k = (found clocks u 0 h.count).place in
    let fits = fits_at (length log) clocks places records l in
    split (eqb refusal 0)
    (λ e.
    split (all_fit fits (looks clocks u 0 h.count) && fits k)
    (λ f. rw (e, f) (answer-counts log (get_or places k 0) (get_or records k absent) (get_or clocks k 0) l u (found clocks u 0 h.count).looked (rw (e, f) at said) ∙ looked-is clocks u 0 h.count))
    (λ f. absurd (let z : ◌≡◌ {A = ℕ} 20 0 = rw (e, f) at said in omega arith)))
    (λ e. absurd (eqb-false refusal 0 e (rw e at said)))
