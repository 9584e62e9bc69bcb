-- Asked from the index that is built of a log whose answers are our run's, the answer is the report of a table made empty after the calls up to the first accepted one that
-- moves the clock past the reading, and a tick to the reading.
-- Assumes nothing.
use Prim.Native.Nat.{ℕ, zero, suc, ◌+◌, ◌*◌, ◌/◌, ◌≤◌, ◌<◌}
use native.Mathlib.Omega.{arith}
use mathlib.Core.Path.{◌≡◌, refl, sym, ap, ◌∙◌}
use mathlib.Core.Bool.{Bool, true, false, not, ◌&&◌}
use mathlib.Core.Option.{none}
use mathlib.Core.List.{List, [], ◌∷◌}
use lib.Dec.{eqb, ltb}
use lib.ListN.{length, get_or, drop}
use borrow.Author.Tests.{eqb-true, eqb-false, eq-eqb, ltb-true, le-ltb}
use Rattle.octets.proofs.Chain.{bar-passed}
use Rattle.rules.specs.Times.{late, latest}
use Rattle.rules.specs.Lists.{any, only, once}
use Rattle.rules.specs.Calls.{is_accepted}
use Rattle.rules.proofs.Bools.{split, no_way}
use Rattle.rules.proofs.Ages.{not_late}
use Rattle.session.specs.declared.Session.{Session}
use Rattle.session.specs.Steps.{new_session}
use Rattle.table.specs.Places.{opens}
use Rattle.table.specs.Table.{Table, open_of, in_order, find, receive_answer, act_answer, asked, answer, next, emptied, absent}
use Rattle.table.proofs.Accepted.{open-passed, found_passed}
use Rattle.table.proofs.Order.{order-kept}
use Rattle.table.proofs.Refusals.{refused-table}
use Rattle.capture.specs.declared.Record.{Record}
use Rattle.capture.specs.Records.{record_in, act_of, call_of, settings_in}
use Rattle.own.specs.Records.{held_in}
use Rattle.halving.specs.Search.{found}
use Rattle.halving.proofs.Halves.{Rising, found-last}
use Rattle.call_log.specs.declared.Point.{Point}
use Rattle.call_log.specs.Records.{logged_in, logged_by, answer_in, body_in, is_whole, is_cut, behind}
use Rattle.call_log.specs.Reading.{followed, more_of, read_to, at_start, Answer, answer_from}
use Rattle.call_log.specs.Runs.{Ours, behind_all, gone_through}
use Rattle.call_log.specs.Entries.{rest_after, point_after, clock_by, Rises, entry_point, entry_rest}
use Rattle.call_log.proofs.Turns.{more-whole, more-not-later}
use Rattle.call_log.proofs.Runs.{Agrees, next-clock, agrees-next, agrees-read, order-behind, reported, answer-reports}
use Rattle.call_log.proofs.Entries.{kept-clock, not-past, nothing-whole, entries-rise, from-entry}

-- an accepted act of kinds 2 to 5 brings a reading that is not below the clock
act-in-time : (t : Table) (l kind : ℕ) (body : List ℕ) (u : ℕ) → ltb kind 6 ≡ true → eqb kind 0 ≡ false → eqb kind 1 ≡ false
    → is_accepted (act_answer t.clock (find l (open_of t)) l (act_of kind body u)) ≡ true → t.clock ≤ u
unfolding act_answer
act-in-time t l kind body u moving nought one a =
    let o = find l (open_of t) in
    split (eqb kind 2)
    (λ e. (found_passed t.clock u o (eqb-true _ 0 (rw e at a))).0)
    (λ two. split (eqb kind 3)
    (λ e. (found_passed t.clock u o (eqb-true _ 0 (rw (two, e) at a))).0)
    (λ three. split (eqb kind 4)
    (λ e. (found_passed t.clock u o (eqb-true _ 0 (rw (two, three, e) at a))).0)
    (λ four. split (eqb kind 5)
    (λ e. not_late t.clock u (bar-passed (late t.clock u) 0 (receive_answer o body u) (eqb-true _ 0 (rw (two, three, four, e) at a))).0)
    (λ five.
    absurd (omega (arith, ltb-true kind 6 moving, eqb-false kind 0 nought, eqb-false kind 1 one, eqb-false kind 2 two, eqb-false kind 3 three, eqb-false kind 4 four, eqb-false kind 5 five))))))

in-time : (t : Table) (r : Record) (body : List ℕ) → in_order t ≡ true → ltb r.kind 6 ≡ true → is_accepted (answer t (call_of r body)) ≡ true → t.clock ≤ r.time
unfolding answer asked call_of
in-time t r body o moving a =
    split (eqb r.kind 0)
    (λ e. not_late t.clock r.time (bar-passed (late t.clock r.time) 0 0 (eqb-true _ 0 (rw (o, e) at a))).0)
    (λ other. split (eqb r.kind 1)
    (λ e. (open-passed t (settings_in r.label body) r.time (eqb-true _ 0 (rw (o, other, e) at a))).in-time)
    (λ one. act-in-time t r.label r.kind body r.time moving other one (rw (o, other, one) at a)))

-- n whole records
unfoldable pub Wholes : ℕ → List ℕ → Type 0
Wholes zero s = Unit {0}
Wholes (suc n) s = (is_whole s ≡ true) × Wholes n (behind s)

-- the clock behind a record whose answer is the table's, and that it does not go back
ours-clock : (t : Table) (s : List ℕ) → answer_in s ≡ (answer t (logged_in s).call).number → (next t (logged_in s).call).clock ≡ clock_by s t.clock
ours-clock t s said =
    let r = record_in s in
    let body = body_in s r.size in
    let number : is_accepted (answer t (call_of r body)) ≡ eqb (answer_in s) 0 = ap (λ (n : ℕ). eqb n 0) (sym said) in
    split (eqb (answer_in s) 0)
    (λ e. rw e (next-clock t r body (number ∙ e)))
    (λ e. rw e (ap (λ (x : Table). x.clock) (refused-table t (call_of r body) (number ∙ e))))

ours-up : (t : Table) (s : List ℕ) → in_order t ≡ true → answer_in s ≡ (answer t (logged_in s).call).number → t.clock ≤ clock_by s t.clock
ours-up t s o said =
    let r = record_in s in
    let body = body_in s r.size in
    let number : is_accepted (answer t (call_of r body)) ≡ eqb (answer_in s) 0 = ap (λ (n : ℕ). eqb n 0) (sym said) in
    split (eqb (answer_in s) 0)
    (λ e. split (ltb r.kind 6) (λ k. rw (e, k) (in-time t r body o k (number ∙ e))) (λ k. rw (e, k) (omega arith)))
    (λ e. rw e (omega arith))

-- the accepted calls of a log that is our run's never go back in time
rises-ours : (n : ℕ) (t : Table) (s : List ℕ) → in_order t ≡ true → Wholes n s → Ours t (logged_by n s) → Rises n t.clock s
unfolding Wholes logged_by Ours Rises
rises-ours zero t s o w ours = tt
rises-ours (suc n) t s o w ours =
    let v = rw w.0 at ours in
    let c = (logged_in s).call in
    (w.0, ours-up t s o v.0, rw (← ours-clock t s v.0) (rises-ours n (next t c) (behind s) (order-kept t c o) w.1 v.1))

-- the records gone through are the first of all
ours-front : (n m u : ℕ) (t : Table) (s : List ℕ) → length (rest_after n s) ≡ 0 → Ours t (logged_by n s) → Ours t (gone_through m u s)
unfolding logged_by gone_through Ours rest_after
ours-front n zero u t s e ours = tt
ours-front zero (suc m) u t s e ours =
    split (more_of u (suc m) s) (λ k. no_way (more-whole u (suc m) s k) (nothing-whole s e)) (λ k. rw k tt)
ours-front (suc n) (suc m) u t s e ours =
    split (more_of u (suc m) s)
    (λ k. let v = rw (more-whole u (suc m) s k) at ours in rw k (v.0, ours-front n m u (next t (logged_in s).call) (behind s) e v.1))
    (λ k. rw k tt)

both_false : (b : Bool) → b && false ≡ false
both_false true = refl
both_false false = refl

none-cut : (s : List ℕ) → length s ≡ 0 → is_cut s ≡ false
unfolding is_cut
none-cut s e = rw (eq-eqb (length s) 0 e)

whole-uncut : (s : List ℕ) → is_whole s ≡ true → is_cut s ≡ false
unfolding is_cut
whole-uncut s e = rw e (both_false (not (eqb (length s) 0)))

-- no record of a log of whole records is cut
not-cut : (n m l u : ℕ) (s : List ℕ) (p : Point) → Wholes n s → length (rest_after n s) ≡ 0 → (read_to m l u s p).cut ≡ false
unfolding Wholes read_to rest_after
not-cut n zero l u s p w e = refl
not-cut zero (suc m) l u s p w e =
    split (more_of u (suc m) s)
    (λ k. no_way (more-whole u (suc m) s k) (nothing-whole s e))
    (λ k. rw (k, none-cut s e) (both_false (ltb 0 (suc m))))
not-cut (suc n) (suc m) l u s p w e =
    split (more_of u (suc m) s)
    (λ k. rw k (not-cut n m l u (behind s) (followed l s p) w.1 e))
    (λ k. rw (k, whole-uncut s w.0) (both_false (ltb 0 (suc m))))

-- reading goes past no reading that it is to stop at
read-clock : (m l u : ℕ) (s : List ℕ) (p : Point) → p.clock ≤ u → (read_to m l u s p).point.clock ≤ u
unfolding read_to
read-clock zero l u s p h = h
read-clock (suc m) l u s p h =
    split (more_of u (suc m) s)
    (λ k. rw k (read-clock m l u (behind s) (followed l s p) (rw (kept-clock l s p) (not-past u p.clock s h (more-not-later u (suc m) s k)))))
    (λ k. rw k h)

-- a reading up to the greatest that is not below the clock is taken
not-late-at : (clock u : ℕ) → clock ≤ u → u ≤ latest → late clock u ≡ false
unfolding late
not-late-at clock u h k = rw (le-ltb u clock h, le-ltb latest u k)

-- nothing is open in an empty table
opens-none : (row : List Session) → opens 0 row ≡ []
unfolding opens
opens-none [] = refl
opens-none (r ∷ rs) = opens-none rs

absent_none : none ≡ held_in absent
unfolding new_session
absent_none = refl

start-agrees : (l : ℕ) (row : List Session) → Agrees l (emptied row) at_start
unfolding emptied find
start-agrees l row = record { own = ap (find l) (opens-none row) ∙ absent_none; clock = refl }

pub start-order : (row : List Session) → length row ≡ 64 → in_order (emptied row) ≡ true
unfolding emptied in_order any only once
start-order row e = rw (opens-none row, eq-eqb (length row) 64 e)

pub rises-start : (row : List Session) (n : ℕ) (s : List ℕ) → in_order (emptied row) ≡ true → Wholes n s → Ours (emptied row) (logged_by n s) → Rises n 0 s
rises-start row n s o w ours = unfold emptied in rises-ours n (emptied row) s o w ours

pub entry-start : (l : ℕ) (log : List ℕ) → (entry_point l log 0).clock ≡ 0
unfolding point_after
entry-start l log = refl

-- numbers that are those of a function that rises, up to a place
rises-listed : (clocks : List ℕ) (m : ℕ) (f : ℕ → ℕ) → ((i : ℕ) → i < m → get_or clocks i 0 ≡ f i) → ((i j : ℕ) → i ≤ j → j < m → f i ≤ f j) → Rising clocks m
unfolding Rising
rises-listed clocks m f are up i j h k = omega (arith, are i (omega arith), are j k, up i j h k)

-- a log of n whole records whose answers are those of a table made empty, asked of a label at a reading up to the greatest
pub record OurLog (row : List Session) (log : List ℕ) (n : ℕ) : Type 0 where
  pub rows : length row ≡ 64
  pub few : n < 65536
  pub whole : Wholes n (drop 8 log)
  pub all : length (rest_after n (drop 8 log)) ≡ 0
  pub ours : Ours (emptied row) (logged_by n (drop 8 log))

-- the table after the calls up to the first accepted one that moves the clock past the reading
abbrev pub front_of : List Session → List ℕ → ℕ → Table
front_of row log u = behind_all (emptied row) (gone_through 65536 u (drop 8 log))

module _ (row : List Session) (log : List ℕ) (n : ℕ) (our : OurLog row log n) (l u : ℕ) (top : u ≤ latest) where
  abbrev s : List ℕ
  s = drop 8 log

  -- reading all of the log
  pub read_all : (looked : ℕ)
      → ((answer_from (read_to 65536 l u s at_start) u looked).answer ≡ (reported (front_of row log u) u l).number)
      × ((answer_from (read_to 65536 l u s at_start) u looked).report ≡ (reported (front_of row log u) u l).report)
  read_all looked =
      let o = start-order row our.rows in
      let e = read_to 65536 l u s at_start in
      let a : Agrees l (front_of row log u) e.point =
      agrees-read l 65536 u (emptied row) s at_start o (start-agrees l row) (ours-front n 65536 u (emptied row) s our.all our.ours) in
      let h : e.point.clock ≤ u = read-clock 65536 l u s at_start (omega arith) in
      let in_reach : late (front_of row log u).clock u ≡ false = not-late-at (front_of row log u).clock u (omega (arith, a.clock, h)) top in
      answer-reports (front_of row log u) u l e looked (order-behind (emptied row) (gone_through 65536 u s) o) a in_reach (not-cut n 65536 l u s at_start our.whole our.all)

  -- asking from the entry that the search finds among the clocks of the index
  pub ask-all : (clocks : List ℕ) (count : ℕ) → count ≡ n / 256 + 1 → ((i : ℕ) → i < count → get_or clocks i 0 ≡ (entry_point l log i).clock)
      → ((answer_from (read_to 256 l u (entry_rest log (found clocks u 0 count).place) (entry_point l log (found clocks u 0 count).place)) u (found clocks u 0 count).looked).answer ≡ (reported (front_of row log u) u l).number)
      × ((answer_from (read_to 256 l u (entry_rest log (found clocks u 0 count).place) (entry_point l log (found clocks u 0 count).place)) u (found clocks u 0 count).looked).report ≡ (reported (front_of row log u) u l).report)
  ask-all clocks count counted are =
      let rises = rises-start row n s (start-order row our.rows) our.whole our.ours in
      let up : Rising clocks (0 + count) =
      rises-listed clocks (0 + count) (λ i. (entry_point l log i).clock) (λ i h. are i (omega arith))
      (λ i j h k. entries-rise l log n rises our.all i j h (omega arith)) in
      let last = found-last clocks u 0 count (omega arith) up (omega (arith, are 0 (omega arith), entry-start l log)) in
      let k = (found clocks u 0 count).place in
      let near : k < count = omega (arith, last.within) in
      let looked = (found clocks u 0 count).looked in
      let same = from-entry l log n rises our.all k u 65536 looked (omega arith) (omega (arith, our.few)) (omega (arith, last.serves, are k near))
      (λ h. omega (arith, last.later (k + 1) (omega arith) (omega arith), are (k + 1) (omega arith))) in
      let all = read_all looked in
      (ap (λ (x : Answer). x.answer) same ∙ all.0, ap (λ (x : Answer). x.report) same ∙ all.1)

-- the first of whole records, and of our run's
pub wholes-front : (m n : ℕ) (s : List ℕ) → m ≤ n → Wholes n s → Wholes m s
unfolding Wholes
wholes-front zero n s h w = tt
wholes-front (suc m) zero s h w = absurd (omega arith)
wholes-front (suc m) (suc n) s h w = (w.0, wholes-front m n (behind s) (omega arith) w.1)

ours-first : (m n : ℕ) (t : Table) (s : List ℕ) → m ≤ n → Wholes n s → Ours t (logged_by n s) → Ours t (logged_by m s)
unfolding Wholes logged_by Ours
ours-first zero n t s h w o = tt
ours-first (suc m) zero t s h w o = absurd (omega arith)
ours-first (suc m) (suc n) t s h w o =
    let v = rw w.0 at o in
    rw w.0 (v.0, ours-first m n (next t (logged_in s).call) (behind s) (omega arith) w.1 v.1)

-- behind n records
agrees_after : (n l : ℕ) (t : Table) (s : List ℕ) (p : Point) → in_order t ≡ true → Agrees l t p → Wholes n s → Ours t (logged_by n s)
    → Agrees l (behind_all t (logged_by n s)) (point_after n l s p)
unfolding Wholes logged_by Ours behind_all point_after
agrees_after zero l t s p o a w ours = a
agrees_after (suc n) l t s p o a w ours =
    let v = rw w.0 at ours in
    let c = (logged_in s).call in
    rw w.0 (agrees_after n l (next t c) (behind s) (followed l s p) (order-kept t c o) (agrees-next l t s p o a v.0) w.1 v.1)

-- entry k has the record of the label and the clock of the table after the first 256 k calls
pub index-holds : (row : List Session) (log : List ℕ) (n : ℕ) → OurLog row log n → (l k : ℕ) → 256 * k ≤ n
    → Agrees l (behind_all (emptied row) (logged_by (256 * k) (drop 8 log))) (entry_point l log k)
index-holds row log n our l k h =
    let s = drop 8 log in
    agrees_after (256 * k) l (emptied row) s at_start (start-order row our.rows) (start-agrees l row) (wholes-front (256 * k) n s h our.whole)
    (ours-first (256 * k) n (emptied row) s h our.whole our.ours)
