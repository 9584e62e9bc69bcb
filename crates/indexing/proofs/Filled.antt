-- What is built of a log whose answers are our run's: each entry's place, record and clock are those after its 256 k records.
-- Assumes nothing.
use Prim.Native.Nat.{ℕ, zero, suc, ◌+◌, ◌*◌, ◌-◌, ◌/◌, ◌≤◌, ◌<◌}
use native.Mathlib.Omega.{arith}
use mathlib.Core.Path.{◌≡◌, refl, sym, ap, ◌∙◌}
use mathlib.Core.Bool.{true, false, cond, ◌&&◌}
use mathlib.Core.List.{List, [], ◌∷◌}
use lib.Dec.{eqb, ltb, leb}
use lib.ListN.{length, get_or, set, drop, length-drop, length-set}
use lib.Seq.{drop-drop, get_or-set_same, get_or-set_other}
use borrow.Author.Tests.{eqb-true, eqb-false, ne_eqb, ltb-true, ltb-false, lt-ltb, le-ltb, le-leb, lt-leb, leb-true}
use Rattle.octets.proofs.Chain.{bar-passed}
use Rattle.rules.specs.Times.{late, latest}
use Rattle.rules.specs.Calls.{Act, Close, Lock, Unlock, Receive, ReportOn, WriteCc, WriteCv, Call, Tick, Open, On, is_accepted}
use Rattle.rules.proofs.Bools.{split, no_way, or_right}
use Rattle.session.specs.declared.Session.{Session}
use Rattle.table.specs.Table.{Table, open_of, in_order, find, receive_answer, open_answer, act_answer, asked, answer, altered, added, closed, act_done, done, next, emptied}
use Rattle.table.proofs.Order.{order-kept}
use Rattle.walks.specs.AtPlace.{at_place}
use Rattle.indexing.specs.declared.Filling.{Filling}
use Rattle.indexing.specs.Filling.{onward, reads_for, read_for, filled_by, fill_one, fills_of, fill_all, filling_from, Noted, note_one, notes_of, note_all}
use Rattle.indexing.proofs.Fills.{notes-go}
use Rattle.indexing.specs.Asking.{answer_at}
use Rattle.halving.specs.Search.{found}
use Rattle.halving.proofs.Halves.{found_inside}
use Rattle.call_log.specs.declared.Point.{Point}
use Rattle.call_log.specs.Records.{Logged, size_in, behind, logged_by}
use Rattle.call_log.specs.Reading.{Answer, read_to, ended_at, never, at_start, answer_from}
use Rattle.call_log.specs.Runs.{behind_all}
use Rattle.call_log.specs.Entries.{rest_after, point_after, entry_point, entry_rest, entry_place}
use Rattle.call_log.proofs.Turns.{whole-size}
use Rattle.call_log.proofs.Runs.{reported}
use Rattle.call_log.proofs.Entries.{skips, rest-joined, point-joined, rises-front, rises-rest}
use Rattle.call_log.proofs.Asking.{Wholes, OurLog, wholes-front, rises-start, start-order, index-holds, front_of, ask-all}

-- what is left behind whole records is the end of the octets
pub shorter : (m : ℕ) (s : List ℕ) → length (rest_after m s) ≤ length s
unfolding rest_after behind
shorter zero s = omega arith
shorter (suc m) s = omega (arith, shorter m (drop (size_in s) s), length-drop (size_in s) s)

rest-drops : (m : ℕ) (s : List ℕ) → Wholes m s → drop (length s - length (rest_after m s)) s ≡ rest_after m s
unfolding rest_after behind Wholes
rest-drops zero s w = let e : length s - length s ≡ 0 = omega arith in ap (λ (k : ℕ). drop k s) e
rest-drops (suc m) s w =
    let b = drop (size_in s) s in
    let e : length s - length (rest_after m b) ≡ size_in s + (length b - length (rest_after m b)) = omega (arith, whole-size s w.0, shorter m b, length-drop (size_in s) s) in
    ap (λ (k : ℕ). drop k s) e ∙ sym (drop-drop (length b - length (rest_after m b)) (size_in s) s) ∙ rest-drops m b w.1

-- no clock of a run is past the greatest reading
not-above : (clock u : ℕ) → late clock u ≡ false → u ≤ latest
unfolding late
not-above clock u e = split (ltb latest u) (λ f. no_way (or_right (ltb u clock) f) e) (λ f. ltb-false latest u f)

act-low : (t : Table) (l : ℕ) (a : Act) → t.clock ≤ latest → is_accepted (act_answer t.clock (find l (open_of t)) l a) ≡ true → (act_done t l a).clock ≤ latest
unfolding act_answer act_done altered closed
act-low t l (Close u) h e = not-above t.clock u (bar-passed (late t.clock u) 0 _ (eqb-true _ 0 e)).0
act-low t l (Lock u) h e = not-above t.clock u (bar-passed (late t.clock u) 0 _ (eqb-true _ 0 e)).0
act-low t l (Unlock u) h e = not-above t.clock u (bar-passed (late t.clock u) 0 _ (eqb-true _ 0 e)).0
act-low t l (Receive m u) h e = not-above t.clock u (bar-passed (late t.clock u) 0 (receive_answer (find l (open_of t)) m u) (eqb-true _ 0 e)).0
act-low t l ReportOn h e = h
act-low t l (WriteCc b) h e = h
act-low t l (WriteCv b) h e = h

done-low : (t : Table) (c : Call) → t.clock ≤ latest → is_accepted (asked t c) ≡ true → (done t c).clock ≤ latest
unfolding asked done added open_answer
done-low t (Tick u) h e = not-above t.clock u (bar-passed (late t.clock u) 0 0 (eqb-true _ 0 e)).0
done-low t (Open g u) h e = not-above t.clock u (bar-passed (late t.clock u) 0 _ (eqb-true _ 0 e)).0
done-low t (On l a) h e = act-low t l a h e

next_low : (t : Table) (c : Call) → in_order t ≡ true → t.clock ≤ latest → (next t c).clock ≤ latest
unfolding next answer
next_low t c o h = rw o (split (is_accepted (asked t c)) (λ e. rw e (done-low t c h e)) (λ e. rw e h))

behind-low : (t : Table) (gs : List Logged) → in_order t ≡ true → t.clock ≤ latest → (behind_all t gs).clock ≤ latest
unfolding behind_all
behind-low t [] o h = h
behind-low t (g ∷ gs) o h = behind-low (next t g.call) gs (order-kept t g.call o) (next_low t g.call o h)

-- one element put beside those behind it
one_more : {A : Type 0} (f : ℕ → A) (k count i : ℕ) (xs : List A) (d : A) → k < count → k < length xs
    → cond (leb (suc k) i && ltb i count) (f i) (get_or (set xs k (f k)) i d) ≡ cond (leb k i && ltb i count) (f i) (get_or xs i d)
one_more f k count i xs d less room =
    split (eqb i k)
    (λ q.
    let e = eqb-true i k q in
    rw (lt-leb (suc k) i (omega arith), le-leb k i (omega arith), lt-ltb i count (omega arith))
    (ap (λ j. get_or (set xs k (f k)) j d) e ∙ get_or-set_same xs k (f k) d room ∙ ap f (sym e)))
    (λ q.
    let apart = eqb-false i k q in
    let o : get_or (set xs k (f k)) i d ≡ get_or xs i d = get_or-set_other xs k i (f k) d apart in
    let same : leb (suc k) i ≡ leb k i =
    split (ltb k i) (λ g. rw (le-leb (suc k) i (omega (arith, ltb-true k i g)), le-leb k i (omega (arith, ltb-true k i g))))
    (λ g. rw (lt-leb (suc k) i (omega (arith, ltb-false k i g)), lt-leb k i (omega (arith, eqb-false i k q, ltb-false k i g)))) in
    (λ j. cond (same j && ltb i count) (f i) (o j)))

read_none : (l u : ℕ) (s : List ℕ) (p : Point) → read_to 0 l u s p ≡ ended_at 0 s p
unfolding read_to
read_none l u s p = refl

module _ (row : List Session) (log : List ℕ) (n : ℕ) (our : OurLog row log n) (l : ℕ) where
  -- the place of an entry
  pub place_rest : (k : ℕ) → 8 ≤ length log → 256 * k ≤ n → drop (entry_place log k) log ≡ entry_rest log k
  place_rest k h m =
      let s = drop 8 log in
      let r = length (entry_rest log k) in
      let e : length log - r ≡ 8 + (length s - r) = omega (arith, length-drop 8 log, shorter (256 * k) s) in
      ap (λ (x : ℕ). drop x log) e ∙ sym (drop-drop (length s - r) 8 log) ∙ rest-drops (256 * k) s (wholes-front (256 * k) n s m our.whole)

  entry-low : (k : ℕ) → 256 * k ≤ n → (entry_point l log k).clock ≤ latest
  entry-low k m =
      let t = behind_all (emptied row) (logged_by (256 * k) (drop 8 log)) in
      omega (arith, (index-holds row log n our l k m).clock, behind-low (emptied row) (logged_by (256 * k) (drop 8 log)) (start-order row our.rows) (unfold emptied in omega arith))

  -- 256 records further
  pub entry_next : (k : ℕ) → 256 * (k + 1) ≤ n
      → read_to 256 l never (entry_rest log k) (entry_point l log k) ≡ ended_at 0 (entry_rest log (k + 1)) (entry_point l log (k + 1))
  entry_next k m =
      let s = drop 8 log in
      let more : 256 * (k + 1) ≡ 256 * k + 256 = omega arith in
      let rises = rises-start row n s (start-order row our.rows) our.whole our.ours in
      let up = rises-front 256 (n - 256 * k) _ _ (omega arith) (rises-rest (256 * k) n l s at_start (omega arith) rises) in
      let p : entry_point l log (k + 1) ≡ point_after 256 l (entry_rest log k) (entry_point l log k) = ap (λ (x : ℕ). point_after x l s at_start) more ∙ point-joined (256 * k) 256 l s at_start in
      let r : entry_rest log (k + 1) ≡ rest_after 256 (entry_rest log k) = ap (λ (x : ℕ). rest_after x s) more ∙ rest-joined (256 * k) 256 s in
      let low : (point_after 256 l (entry_rest log k) (entry_point l log k)).clock ≤ never = omega (arith, ap (λ (x : Point). x.clock) p, entry-low (k + 1) m) in
      skips l 256 0 never (entry_rest log k) (entry_point l log k) up low ∙ read_none l never (rest_after 256 (entry_rest log k)) (point_after 256 l (entry_rest log k) (entry_point l log k)) ∙ (λ i. ended_at 0 (sym r i) (sym p i))

  -- where filling stands before entry k: what the entry before it has
  abbrev Standing : ℕ → ℕ → Filling
  Standing k count = record { point = entry_point l log (k - 1); place = entry_place log (k - 1); at = k; count = count; label = l }

  -- what is read for entry k, and what stands before the next
  reads-entry : (k count : ℕ) → 8 ≤ length log → 256 * k ≤ n → read_for (Standing k count) log ≡ ended_at 0 (entry_rest log k) (entry_point l log k)
  reads-entry zero count h m =
      ap (λ (s : List ℕ). read_to 0 l never s (entry_point l log 0)) (place_rest 0 h (omega arith)) ∙ read_none l never (entry_rest log 0) (entry_point l log 0)
  reads-entry (suc k) count h m =
      let one : suc k - 1 ≡ k = omega arith in
      let two : k + 1 ≡ suc k = omega arith in
      let all : reads_for (Standing (suc k) count) ≡ 256 = rw (ne_eqb (suc k) 0 (λ z. omega arith)) in
      (λ i. read_to (all i) l never (drop (entry_place log (one i)) log) (entry_point l log (one i)))
      ∙ ap (λ (s : List ℕ). read_to 256 l never s (entry_point l log k)) (place_rest k h (omega arith)) ∙ entry_next k (omega arith)
      ∙ ap (λ (j : ℕ). ended_at 0 (entry_rest log j) (entry_point l log j)) two

  pub stands-next : (k count : ℕ) → 8 ≤ length log → 256 * k ≤ n → k < count → filled_by (Standing k count) log ≡ Standing (suc k) count
  stands-next k count h m less =
      let e = reads-entry k count h m in
      let on : onward (Standing k count) ≡ suc k = rw (lt-ltb k count less) (omega arith) in
      let one : k ≡ suc k - 1 = omega arith in
      (λ i. record { point = (e i).point; place = length log - (e i).left; at = on i; count = count; label = l })
      ∙ (λ i. record { point = entry_point l log (one i); place = entry_place log (one i); at = suc k; count = count; label = l })

  -- one entry: the record of the table after its records
  fills_one : (k count : ℕ) (rs : List Session) → 8 ≤ length log → 256 * k ≤ n → k < count → count ≤ length rs
      → fill_one rs (Standing k count) log ≡ record { outcome = Standing (suc k) count; row = set rs k (entry_point l log k).session }
  unfolding at_place
  fills_one k count rs h m less room =
      let e = stands-next k count h m less in
      let one : suc k - 1 ≡ k = omega arith in
      rw (lt-ltb k (length rs) (omega arith)) ((λ i. record { outcome = e i; row = set rs k (e i).point.session }) ∙ ap (λ (j : ℕ). record { outcome = Standing (suc k) count; row = set rs k (entry_point l log j).session }) one)

  -- all entries from k on: each has its record, and what lies elsewhere is as it was
  pub fills-all : (j k count i : ℕ) (rs : List Session) (d : Session) → k + j ≡ count → 8 ≤ length log → 256 * (count - 1) ≤ n → count ≤ length rs
      → get_or (fills_of j log (record { outcome = Standing k count; row = rs })).row i d ≡ cond (leb k i && ltb i count) (entry_point l log i).session (get_or rs i d)
  unfolding fills_of
  fills-all zero k count i rs d e h m room =
      split (leb k i)
      (λ f. rw (f, le-ltb i count (omega (arith, leb-true k i f))))
      (λ f. rw f)
  fills-all (suc j) k count i rs d e h m room =
      let one = fills_one k count rs h (omega arith) (omega arith) room in
      let kept = length-set rs k (entry_point l log k).session in
      rw (lt-ltb k count (omega arith), one) (fills-all j (suc k) count i (set rs k (entry_point l log k).session) d (omega arith) h m (omega (arith, kept)) ∙ one_more (λ x. (entry_point l log x).session) k count i rs d (omega arith) (omega arith))

  -- before the first entry
  stands-first : (count : ℕ) → 8 ≤ length log → filling_from l count ≡ Standing 0 count
  unfolding rest_after point_after
  stands-first count h =
      let e : 8 ≡ length log - length (drop 8 log) = omega (arith, length-drop 8 log) in
      λ i. record { point = at_start; place = e i; at = 0; count = count; label = l }

  -- the records that are built: those of the entries, and what is behind them is as it was
  pub records-built : (count i : ℕ) (rs : List Session) (d : Session) → count ≡ n / 256 + 1 → 8 ≤ length log → count ≤ length rs
      → get_or (fill_all rs (filling_from l count) log).row i d ≡ cond (ltb i count) (entry_point l log i).session (get_or rs i d)
  records-built count i rs d e h room =
      let start = stands-first count h in
      let whole : count - 0 ≡ count = omega arith in
      (λ j. get_or (fills_of (whole j) log (record { outcome = start j; row = rs })).row i d)
      ∙ fills-all count 0 count i rs d (omega arith) h (omega arith) room ∙ rw (le-leb 0 i (omega arith))

  -- one entry's clock and place
  notes-one : (k count : ℕ) (cs ps : List ℕ) → 8 ≤ length log → 256 * k ≤ n → k < count
      → note_one (record { filling = Standing k count; clocks = cs; places = ps }) log
      ≡ record { filling = Standing (suc k) count; clocks = set cs k (entry_point l log k).clock; places = set ps k (entry_place log k) }
  notes-one k count cs ps h m less =
      let e = stands-next k count h m less in
      let one : suc k - 1 ≡ k = omega arith in
      (λ i. record { filling = e i; clocks = set cs k (e i).point.clock; places = set ps k (e i).place })
      ∙ (λ i. record { filling = Standing (suc k) count; clocks = set cs k (entry_point l log (one i)).clock; places = set ps k (entry_place log (one i)) })

  notes-all : (j k count i : ℕ) (cs ps : List ℕ) → k + j ≡ count → 8 ≤ length log → 256 * (count - 1) ≤ n → count ≤ length cs → count ≤ length ps
      → (get_or (notes_of j log (record { filling = Standing k count; clocks = cs; places = ps })).clocks i 0 ≡ cond (leb k i && ltb i count) (entry_point l log i).clock (get_or cs i 0))
      × (get_or (notes_of j log (record { filling = Standing k count; clocks = cs; places = ps })).places i 0 ≡ cond (leb k i && ltb i count) (entry_place log i) (get_or ps i 0))
  unfolding notes_of
  notes-all zero k count i cs ps e h m room room₂ =
      split (leb k i)
      (λ f. rw (f, le-ltb i count (omega (arith, leb-true k i f))) (refl, refl))
      (λ f. rw f (refl, refl))
  notes-all (suc j) k count i cs ps e h m room room₂ =
      let one = notes-one k count cs ps h (omega arith) (omega arith) in
      let cs' = set cs k (entry_point l log k).clock in
      let ps' = set ps k (entry_place log k) in
      let w = notes-all j (suc k) count i cs' ps' (omega arith) h m (omega (arith, length-set cs k (entry_point l log k).clock)) (omega (arith, length-set ps k (entry_place log k))) in
      let at : Noted = record { filling = Standing k count; clocks = cs; places = ps } in
      let fewer : suc j - 1 ≡ j = omega arith in
      let step = notes-go (suc j) log at (lt-ltb k count (omega arith)) (omega arith) ∙ ap (λ (x : ℕ). notes_of x log (note_one at log)) fewer ∙ ap (notes_of j log) one in
      (ap (λ (x : Noted). get_or x.clocks i 0) step ∙ w.0 ∙ one_more (λ x. (entry_point l log x).clock) k count i cs 0 (omega arith) (omega arith), ap (λ (x : Noted). get_or x.places i 0) step ∙ w.1 ∙ one_more (λ x. entry_place log x) k count i ps 0 (omega arith) (omega arith))

  -- the clocks and places that are built: those of the entries
  pub numbers-built : (count i : ℕ) (cs ps : List ℕ) → count ≡ n / 256 + 1 → 8 ≤ length log → count ≤ length cs → count ≤ length ps
      → (get_or (note_all cs ps (filling_from l count) log).clocks i 0 ≡ cond (ltb i count) (entry_point l log i).clock (get_or cs i 0))
      × (get_or (note_all cs ps (filling_from l count) log).places i 0 ≡ cond (ltb i count) (entry_place log i) (get_or ps i 0))
  numbers-built count i cs ps e h room room₂ =
      let start = stands-first count h in
      let whole : count - 0 ≡ count = omega arith in
      let w = notes-all count 0 count i cs ps (omega arith) h (omega arith) room room₂ in
      let all : leb 0 i ≡ true = le-leb 0 i (omega arith) in
      ((λ j. get_or (notes_of (whole j) log (record { filling = start j; clocks = cs; places = ps })).clocks i 0) ∙ w.0 ∙ rw all, (λ j. get_or (notes_of (whole j) log (record { filling = start j; clocks = cs; places = ps })).places i 0) ∙ w.1 ∙ rw all)

  -- the answer from the entry that the search finds
  abbrev pub asked_at : List ℕ → List ℕ → List Session → Session → ℕ → ℕ → Answer
  asked_at clocks places records d u count =
      let k = (found clocks u 0 count).place in
      answer_at log (get_or places k 0) (get_or records k d) (get_or clocks k 0) l u (found clocks u 0 count).looked

  -- asked from an index whose entries are these, the answer is the report of our run
  pub ask-built : (u : ℕ) → u ≤ latest → (clocks places : List ℕ) (records : List Session) (d : Session) (count : ℕ) → count ≡ n / 256 + 1 → 8 ≤ length log
      → ((i : ℕ) → i < count → get_or clocks i 0 ≡ (entry_point l log i).clock) → ((i : ℕ) → i < count → get_or places i 0 ≡ entry_place log i)
      → ((i : ℕ) → i < count → get_or records i d ≡ (entry_point l log i).session)
      → ((asked_at clocks places records d u count).answer ≡ (reported (front_of row log u) u l).number) × ((asked_at clocks places records d u count).report ≡ (reported (front_of row log u) u l).report)
  unfolding answer_at
  ask-built u top clocks places records d count e h cs ps rs =
      let k = (found clocks u 0 count).place in
      let looked = (found clocks u 0 count).looked in
      let near : k < count = omega (arith, (found_inside clocks u 0 count (omega arith)).1) in
      let same : asked_at clocks places records d u count ≡ answer_from (read_to 256 l u (entry_rest log k) (entry_point l log k)) u looked =
      (λ i. answer_from (read_to 256 l u (drop (ps k near i) log) (record { session = rs k near i; clock = cs k near i })) u looked)
      ∙ ap (λ (s : List ℕ). answer_from (read_to 256 l u s (entry_point l log k)) u looked) (place_rest k h (omega arith)) in
      let all = ask-all row log n our l u top clocks count e cs in
      (ap (λ (x : Answer). x.answer) same ∙ all.0, ap (λ (x : Answer). x.report) same ∙ all.1)
