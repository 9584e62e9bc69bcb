-- From the last entry that is not later than the reading, at most 256 records give what reading the whole log gives.
-- Assumes nothing.
use Prim.Native.Nat.{ℕ, zero, suc, ◌+◌, ◌*◌, ◌-◌, ◌≤◌, ◌<◌}
use native.Mathlib.Omega.{arith}
use mathlib.Core.Path.{◌≡◌, refl, sym, ap, ◌∙◌}
use mathlib.Core.Bool.{Bool, true, false, cond, not, ◌&&◌}
use mathlib.Core.List.{List}
use lib.Dec.{eqb, ltb, leb}
use lib.ListN.{length, drop}
use borrow.Author.Tests.{ltb-false, lt-ltb, le-ltb, lt-leb, leb-true, leb-false, not-true}
use Rattle.octets.proofs.Chain.{and_both}
use Rattle.rules.proofs.Bools.{split, no_way}
use Rattle.capture.specs.Records.{record_in}
use Rattle.call_log.specs.declared.Point.{Point}
use Rattle.call_log.specs.declared.Ended.{Ended}
use Rattle.call_log.specs.Records.{answer_in, is_whole, behind}
use Rattle.call_log.specs.Reading.{later_of, followed, more_of, read_to, answer_from, at_start}
use Rattle.call_log.specs.Entries.{rest_after, point_after, clock_by, Rises, entry_point, entry_rest}

-- the clock that reading keeps
pub kept-clock : (l : ℕ) (s : List ℕ) (p : Point) → (followed l s p).clock ≡ clock_by s p.clock
unfolding followed
kept-clock l s p = split (eqb (answer_in s) 0) (λ e. rw e) (λ e. rw e)

-- a record that is not later
abbrev passes : ℕ → List ℕ → Bool
passes u s = is_whole s && not (later_of u (record_in s) (answer_in s))

more-is : (u n : ℕ) (s : List ℕ) → more_of u (suc n) s ≡ passes u s
unfolding more_of
more-is u n s = rw (lt-ltb 0 (suc n) (omega arith))

-- where nothing is left no whole record stands
pub nothing-whole : (s : List ℕ) → length s ≡ 0 → is_whole s ≡ false
unfolding is_whole
nothing-whole s e = rw (lt-leb 18 (length s) (omega arith))

-- where the clock behind a record is not past a reading, the record is not later than it
not-later : (u clock : ℕ) (s : List ℕ) → clock_by s clock ≤ u → later_of u (record_in s) (answer_in s) ≡ false
not-later u clock s h =
    split (eqb (answer_in s) 0)
    (λ e. split (ltb (record_in s).kind 6)
    (λ k. let t : (record_in s).time ≤ u = rw (e, k) at h in rw (e, k, le-ltb u (record_in s).time t))
    (λ k. rw (e, k)))
    (λ e. rw e)

-- and the other way round
pub not-past : (u clock : ℕ) (s : List ℕ) → clock ≤ u → later_of u (record_in s) (answer_in s) ≡ false → clock_by s clock ≤ u
not-past u clock s h e =
    split (eqb (answer_in s) 0)
    (λ a. split (ltb (record_in s).kind 6)
    (λ k. rw (a, k) (ltb-false u (record_in s).time (rw (a, k) at e)))
    (λ k. rw (a, k) h))
    (λ a. rw a h)

-- reading ends within n records: nothing whole stands there, or one that is later
unfoldable ends_within : ℕ → ℕ → List ℕ → Bool
ends_within zero u s = false
ends_within (suc n) u s = cond (passes u s) (ends_within n u (behind s)) true

module _ (l : ℕ) where
  -- clocks rise: an entry is not before one before it
  pub clocks-rise : (n : ℕ) (s : List ℕ) (p : Point) → Rises n p.clock s → p.clock ≤ (point_after n l s p).clock
  unfolding point_after Rises
  clocks-rise zero s p r = omega arith
  clocks-rise (suc n) s p r =
      let k = kept-clock l s p in
      let after = rw (← k) at r.2 in
      omega (arith, r.1, k, clocks-rise n (behind s) (followed l s p) after)

  -- records before an entry that is not later than the reading are gone through
  pub skips : (m n u : ℕ) (s : List ℕ) (p : Point) → Rises m p.clock s → (point_after m l s p).clock ≤ u
      → read_to (m + n) l u s p ≡ read_to n l u (rest_after m s) (point_after m l s p)
  unfolding point_after rest_after read_to Rises
  skips zero n u s p r h = let e : 0 + n ≡ n = omega arith in ap (λ (k : ℕ). read_to k l u s p) e
  skips (suc m) n u s p r h =
      let k = kept-clock l s p in
      let after = rw (← k) at r.2 in
      let up = clocks-rise m (behind s) (followed l s p) after in
      let here : more_of u (suc (m + n)) s ≡ true = more-is u (m + n) s ∙ rw (r.0, not-later u p.clock s (omega (arith, k, up, h))) in
      let e : suc m + n ≡ suc (m + n) = omega arith in
      ap (λ (k : ℕ). read_to k l u s p) e ∙ rw here (skips m n u (behind s) (followed l s p) after h)

  -- then no more records have to be read
  enough : (n m u : ℕ) (s : List ℕ) (p : Point) → ends_within n u s ≡ true → n ≤ m
      → ((read_to m l u s p).point ≡ (read_to n l u s p).point) × ((read_to m l u s p).cut ≡ (read_to n l u s p).cut)
  unfolding ends_within read_to
  enough zero m u s p e h = no_way e refl
  enough (suc n) zero u s p e h = absurd (omega arith)
  enough (suc n) (suc m) u s p e h =
      split (passes u s)
      (λ k. rw (more-is u m s, more-is u n s, k) (enough n m u (behind s) (followed l s p) (rw k at e) (omega arith)))
      (λ k. rw (more-is u m s, more-is u n s, k) (refl, rw (lt-ltb 0 (suc m) (omega arith), lt-ltb 0 (suc n) (omega arith))))

  -- an entry that is later than the reading: reading ends before it
  ends-before : (n u : ℕ) (s : List ℕ) (p : Point) → p.clock ≤ u → u < (point_after n l s p).clock → ends_within n u s ≡ true
  unfolding ends_within point_after
  ends-before zero u s p h k = absurd (omega arith)
  ends-before (suc n) u s p h k =
      split (passes u s)
      (λ e.
      let f = (and_both (is_whole s) (not (later_of u (record_in s) (answer_in s))) e).1 in
      rw e (ends-before n u (behind s) (followed l s p) (rw (kept-clock l s p) (not-past u p.clock s h (not-true _ f))) k))
      (λ e. rw e)

  -- a log that ends: so does reading
  ends_there : (n m u : ℕ) (s : List ℕ) → n < m → length (rest_after n s) ≡ 0 → ends_within m u s ≡ true
  unfolding ends_within rest_after
  ends_there n zero u s h e = absurd (omega arith)
  ends_there zero (suc m) u s h e = rw (nothing-whole s e)
  ends_there (suc n) (suc m) u s h e =
      split (passes u s) (λ k. rw k (ends_there n m u (behind s) (omega arith) e)) (λ k. rw k)

-- m records, then n more
pub rest-joined : (m n : ℕ) (s : List ℕ) → rest_after (m + n) s ≡ rest_after n (rest_after m s)
unfolding rest_after
rest-joined zero n s = let e : 0 + n ≡ n = omega arith in ap (λ (k : ℕ). rest_after k s) e
rest-joined (suc m) n s = let e : suc m + n ≡ suc (m + n) = omega arith in ap (λ (k : ℕ). rest_after k s) e ∙ rest-joined m n (behind s)

pub point-joined : (m n l : ℕ) (s : List ℕ) (p : Point) → point_after (m + n) l s p ≡ point_after n l (rest_after m s) (point_after m l s p)
unfolding rest_after point_after
point-joined zero n l s p = let e : 0 + n ≡ n = omega arith in ap (λ (k : ℕ). point_after k l s p) e
point-joined (suc m) n l s p =
    let e : suc m + n ≡ suc (m + n) = omega arith in
    ap (λ (k : ℕ). point_after k l s p) e ∙ point-joined m n l (behind s) (followed l s p)

-- the first of records that rise, and those behind them
pub rises-front : (m n clock : ℕ) (s : List ℕ) → m ≤ n → Rises n clock s → Rises m clock s
unfolding Rises
rises-front zero n clock s h r = tt
rises-front (suc m) zero clock s h r = absurd (omega arith)
rises-front (suc m) (suc n) clock s h r = (r.0, r.1, rises-front m n (clock_by s clock) (behind s) (omega arith) r.2)

pub rises-rest : (m n l : ℕ) (s : List ℕ) (p : Point) → m ≤ n → Rises n p.clock s → Rises (n - m) (point_after m l s p).clock (rest_after m s)
unfolding Rises rest_after point_after
rises-rest zero n l s p h r = let e : n - 0 ≡ n = omega arith in rw e r
rises-rest (suc m) zero l s p h r = absurd (omega arith)
rises-rest (suc m) (suc n) l s p h r =
    let e : suc n - suc m ≡ n - m = omega arith in
    rw e (rises-rest m n l (behind s) (followed l s p) (omega arith) (rw (← kept-clock l s p) at r.2))

-- an answer hangs on the point where reading ends and on whether the next record is cut
same_answer : (e f : Ended) (u looked : ℕ) → e.point ≡ f.point → e.cut ≡ f.cut → answer_from e u looked ≡ answer_from f u looked
unfolding answer_from
same_answer e f u looked p q = λ i. answer_from (record { point = p i; left = 0; spare = 0; cut = q i }) u looked

module _ (l : ℕ) (log : List ℕ) (n : ℕ) (rises : Rises n 0 (drop 8 log)) (all : length (rest_after n (drop 8 log)) ≡ 0) where
  -- the entries' clocks rise
  pub entries-rise : (i j : ℕ) → i ≤ j → 256 * j ≤ n → (entry_point l log i).clock ≤ (entry_point l log j).clock
  entries-rise i j h k =
      let s = drop 8 log in
      let m = 256 * j - 256 * i in
      let e : 256 * i + m ≡ 256 * j = omega arith in
      let r = rises-front m (n - 256 * i) _ _ (omega arith) (rises-rest (256 * i) n l s at_start (omega arith) rises) in
      rw (ap (λ (x : ℕ). point_after x l s at_start) (sym e) ∙ point-joined (256 * i) m l s at_start)
      (clocks-rise l m (rest_after (256 * i) s) (entry_point l log i) r)

  -- reading ends within 256 records of the last entry that is not later
  ends-near : (k u : ℕ) → 256 * k ≤ n → (entry_point l log k).clock ≤ u → (256 * (k + 1) ≤ n → u < (entry_point l log (k + 1)).clock)
      → ends_within 256 u (entry_rest log k) ≡ true
  ends-near k u h serves later =
      let s = drop 8 log in
      split (leb (256 * (k + 1)) n)
      (λ e.
      let m : 256 * (k + 1) ≡ 256 * k + 256 = omega arith in
      let p : entry_point l log (k + 1) ≡ point_after 256 l (entry_rest log k) (entry_point l log k) =
      ap (λ (x : ℕ). point_after x l s at_start) m ∙ point-joined (256 * k) 256 l s at_start in
      ends-before l 256 u (entry_rest log k) (entry_point l log k) serves (rw p at (later (leb-true _ _ e))))
      (λ e.
      let m : n ≡ 256 * k + (n - 256 * k) = omega arith in
      ends_there l (n - 256 * k) 256 u (entry_rest log k) (omega (arith, leb-false (256 * (k + 1)) n e))
      (ap length (sym (ap (λ (x : ℕ). rest_after x s) m ∙ rest-joined (256 * k) (n - 256 * k) s)) ∙ all))

  -- from that entry at most 256 records give the answer of the whole log
  pub from-entry : (k u most looked : ℕ) → 256 * k ≤ n → 256 * k + 256 ≤ most → (entry_point l log k).clock ≤ u
      → (256 * (k + 1) ≤ n → u < (entry_point l log (k + 1)).clock)
      → answer_from (read_to 256 l u (entry_rest log k) (entry_point l log k)) u looked ≡ answer_from (read_to most l u (drop 8 log) at_start) u looked
  from-entry k u most looked h room serves later =
      let s = drop 8 log in
      let m : most ≡ 256 * k + (most - 256 * k) = omega arith in
      let skipped : read_to most l u s at_start ≡ read_to (most - 256 * k) l u (entry_rest log k) (entry_point l log k) =
      ap (λ (x : ℕ). read_to x l u s at_start) m ∙ skips l (256 * k) (most - 256 * k) u s at_start (rises-front (256 * k) n 0 s h rises) serves in
      let w = enough l 256 (most - 256 * k) u (entry_rest log k) (entry_point l log k) (ends-near k u h serves later) (omega arith) in
      sym (ap (λ (e : Ended). answer_from e u looked) skipped ∙ same_answer _ _ u looked w.0 w.1)
