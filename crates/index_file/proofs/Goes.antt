-- Reading in two goes: n records more behind the first m, and nothing more where the first m were not all there.
-- Assumes nothing.
use Prim.Native.Nat.{ℕ, zero, suc, ◌+◌, ◌-◌, ◌<◌}
use native.Mathlib.Omega.{arith}
use mathlib.Core.Path.{◌≡◌, refl, sym, ap, subst, ◌∙◌}
use mathlib.Core.Bool.{true, not, ◌&&◌}
use mathlib.Core.List.{List}
use lib.ListN.{length, drop, length-drop}
use lib.Seq.{drop-drop}
use lib.Dec.{ltb}
use borrow.Author.Tests.{lt-ltb}
use Rattle.rules.proofs.Bools.{split}
use Rattle.capture.specs.Records.{record_in}
use Rattle.call_log.specs.declared.Point.{Point}
use Rattle.call_log.specs.declared.Ended.{Ended}
use Rattle.call_log.specs.Records.{answer_in, size_in, is_whole, behind}
use Rattle.call_log.specs.Reading.{later_of, followed, more_of, ended_at, read_to}
use Rattle.call_log.proofs.Turns.{more-whole, whole-size, left-most, stops, turns}

-- whether a record is gone through does not depend on how many more there may be
any-more : (u m n : ℕ) (s : List ℕ) → more_of u (suc m) s ≡ more_of u (suc n) s
unfolding more_of
any-more u m n s =
    let a : ltb 0 (suc m) ≡ ltb 0 (suc n) = lt-ltb 0 (suc m) (omega arith) ∙ sym (lt-ltb 0 (suc n) (omega arith)) in
    λ i. a i && is_whole s && not (later_of u (record_in s) (answer_in s))

module _ (l u : ℕ) where
  none_read : (s : List ℕ) (p : Point) → read_to 0 l u s p ≡ ended_at 0 s p
  unfolding read_to
  none_read s p = refl

  -- one record is gone through
  on : (m : ℕ) (s : List ℕ) (p : Point) → more_of u (suc m) s ≡ true → read_to (suc m) l u s p ≡ read_to m l u (behind s) (followed l s p)
  on m s p e = let f : suc m - 1 ≡ m = omega arith in turns l u (suc m) s p e ∙ ap (λ (k : ℕ). read_to k l u (behind s) (followed l s p)) f

  on_both : (m n : ℕ) (s : List ℕ) (p : Point) → more_of u (suc m) s ≡ true → read_to (suc m + n) l u s p ≡ read_to (m + n) l u (behind s) (followed l s p)
  on_both m n s p e = let f : suc m + n ≡ suc (m + n) = omega arith in ap (λ (k : ℕ). read_to k l u s p) f ∙ on (m + n) s p (any-more u (m + n) m s ∙ e)

  -- behind m records that were all there
  pub joined-read : (m n : ℕ) (s : List ℕ) (p : Point) → (read_to m l u s p).spare ≡ 0
      → read_to (m + n) l u s p ≡ read_to n l u (drop (length s - (read_to m l u s p).left) s) (read_to m l u s p).point
  joined-read zero n s p e =
      let a : 0 + n ≡ n = omega arith in
      let b : 0 ≡ length s - length s = omega arith in
      ap (λ (k : ℕ). read_to k l u s p) a ∙ ap (λ (k : ℕ). read_to n l u (drop k s) p) b
      ∙ ap (λ (x : Ended). read_to n l u (drop (length s - x.left) s) x.point) (sym (none_read s p))
  joined-read (suc m) n s p e =
      split (more_of u (suc m) s)
      (λ t.
      let b = behind s in
      let q = followed l s p in
      let r = read_to m l u b q in
      let size = size_in s in
      let some = whole-size s (more-whole u (suc m) s t) in
      let first = on m s p t in
      let long : length b ≡ length s - size = unfold behind in length-drop size s in
      let low = left-most l u m b q in
      let place : size + (length b - r.left) ≡ length s - r.left = omega (arith, long, some, low) in
      let here : drop (length b - r.left) b ≡ drop (size + (length b - r.left)) s = unfold behind in drop-drop (length b - r.left) size s in
      let there : drop (length b - r.left) b ≡ drop (length s - r.left) s = here ∙ ap (λ (k : ℕ). drop k s) place in
      on_both m n s p t ∙ joined-read m n b q (ap (λ (x : Ended). x.spare) (sym first) ∙ e)
      ∙ ap (λ (y : List ℕ). read_to n l u y r.point) there
      ∙ ap (λ (x : Ended). read_to n l u (drop (length s - x.left) s) x.point) (sym first))
      (λ t. absurd (let z : suc m ≡ 0 = ap (λ (x : Ended). x.spare) (sym (stops l u (suc m) s p t)) ∙ e in omega arith))

  -- where they were not all there, more may be read and nothing more is
  pub stopped-read : (m n : ℕ) (s : List ℕ) (p : Point) → 0 < (read_to m l u s p).spare
      → ((read_to (m + n) l u s p).left ≡ (read_to m l u s p).left) × ((read_to (m + n) l u s p).spare ≡ (read_to m l u s p).spare + n)
  stopped-read zero n s p h = absurd (omega (arith, ap (λ (x : Ended). x.spare) (none_read s p)))
  stopped-read (suc m) n s p h =
      split (more_of u (suc m) s)
      (λ t.
      let one = on m s p t in
      let two = on_both m n s p t in
      let w = stopped-read m n (behind s) (followed l s p) (subst (λ (k : ℕ). 0 < k) (ap (λ (x : Ended). x.spare) one) h) in
      (ap (λ (x : Ended). x.left) two ∙ w.0 ∙ ap (λ (x : Ended). x.left) (sym one), ap (λ (x : Ended). x.spare) two ∙ w.1 ∙ ap (λ (x : Ended). x.spare + n) (sym one)))
      (λ t.
      let f : suc m + n ≡ suc (m + n) = omega arith in
      let one = stops l u (suc m) s p t in
      let two = ap (λ (k : ℕ). read_to k l u s p) f ∙ stops l u (suc (m + n)) s p (any-more u (m + n) m s ∙ t) in
      (ap (λ (x : Ended). x.left) two ∙ ap (λ (x : Ended). x.left) (sym one), ap (λ (x : Ended). x.spare) two ∙ sym f ∙ ap (λ (x : Ended). x.spare + n) (sym one)))

-- how far is read does not depend on the label, nor on what was known before
pub same_reads : (l k u m : ℕ) (s : List ℕ) (p q : Point) → ((read_to m l u s p).left ≡ (read_to m k u s q).left) × ((read_to m l u s p).spare ≡ (read_to m k u s q).spare)
unfolding read_to
same_reads l k u zero s p q = (refl, refl)
same_reads l k u (suc m) s p q =
    split (more_of u (suc m) s) (λ t. rw t (same_reads l k u m (behind s) (followed l s p) (followed k s q))) (λ t. rw t (refl, refl))
