-- Reading a log, record by record.
-- Assumes nothing.
use Prim.Native.Nat.{ℕ, zero, suc, ◌-◌, ◌≤◌, ◌<◌}
use native.Mathlib.Omega.{arith}
use native.Mathlib.Numerals.{sub-one}
use mathlib.Core.Path.{◌≡◌, refl, sym, ◌∙◌}
use mathlib.Core.Bool.{true, false, not, ◌&&◌}
use mathlib.Core.List.{List}
use lib.ListN.{length, take, drop, length-drop}
use lib.Seq.{take_all}
use lib.Dec.{eqb, ltb, leb}
use borrow.Author.Tests.{ltb-true, leb-true, not-true}
use Rattle.octets.proofs.Chain.{and_both}
use Rattle.rules.proofs.Bools.{split}
use Rattle.capture.specs.Records.{record_in}
use Rattle.own.proofs.Ungrouped.{Ungrouped, record-ungrouped}
use Rattle.call_log.specs.declared.Point.{Point}
use Rattle.call_log.specs.declared.Ended.{Ended}
use Rattle.call_log.specs.Records.{answer_in, body_in, size_in, is_whole, behind}
use Rattle.call_log.specs.Reading.{later_of, followed, more_of, ended_at, read_to}

-- a record that is gone through is one of those to read, and whole
pub more_left : (u n : ℕ) (s : List ℕ) → more_of u n s ≡ true → 0 < n
unfolding more_of
more_left u n s e = ltb-true 0 n (and_both _ _ (and_both _ _ e).0).0

pub whole-size : (s : List ℕ) → is_whole s ≡ true → size_in s ≤ length s
unfolding is_whole
whole-size s e =
    leb-true _ _ (and_both (leb 18 (length s) && leb (record_in s).kind 8 && leb (record_in s).size 2048) (leb (size_in s) (length s)) e).1

pub more-whole : (u n : ℕ) (s : List ℕ) → more_of u n s ≡ true → is_whole s ≡ true
unfolding more_of
more-whole u n s e = (and_both (ltb 0 n) (is_whole s) (and_both (ltb 0 n && is_whole s) (not (later_of u (record_in s) (answer_in s))) e).0).1

pub more-not-later : (u n : ℕ) (s : List ℕ) → more_of u n s ≡ true → later_of u (record_in s) (answer_in s) ≡ false
unfolding more_of
more-not-later u n s e = not-true _ (and_both (ltb 0 n && is_whole s) (not (later_of u (record_in s) (answer_in s))) e).1

pub more-size : (u n : ℕ) (s : List ℕ) → more_of u n s ≡ true → size_in s ≤ length s
more-size u n s e = whole-size s (more-whole u n s e)

module _ (l u : ℕ) where
  pub stops : (n : ℕ) (s : List ℕ) (p : Point) → more_of u n s ≡ false → read_to n l u s p ≡ ended_at n s p
  unfolding read_to
  stops zero s p e = refl
  stops (suc n) s p e = rw e

  -- no more records are left to read than there were
  pub spare-most : (n : ℕ) (s : List ℕ) (p : Point) → (read_to n l u s p).spare ≤ n
  unfolding read_to
  spare-most zero s p = omega arith
  spare-most (suc n) s p =
      split (more_of u (suc n) s)
      (λ e. rw e (omega (arith, spare-most n (behind s) (followed l s p))))
      (λ e. rw e (omega arith))

  -- no more octets are left than there were
  pub left-most : (n : ℕ) (s : List ℕ) (p : Point) → (read_to n l u s p).left ≤ length s
  unfolding read_to behind
  left-most zero s p = omega arith
  left-most (suc n) s p =
      split (more_of u (suc n) s)
      (λ e. rw e (omega (arith, left-most n (drop (size_in s) s) (followed l s p), length-drop (size_in s) s)))
      (λ e. rw e (omega arith))

  pub turns : (n : ℕ) (s : List ℕ) (p : Point) → more_of u n s ≡ true → read_to n l u s p ≡ read_to (n - 1) l u (behind s) (followed l s p)
  unfolding read_to
  turns zero s p e = absurd (omega (arith, more_left u 0 s e))
  turns (suc n) s p e = rw (e, sub-one (suc n))

  -- no record of a log gives the label's record a group
  followed-ungrouped : (s : List ℕ) (p : Point) → Ungrouped p.session → Ungrouped (followed l s p).session
  unfolding followed
  followed-ungrouped s p none =
      split (eqb (answer_in s) 0)
      (λ e. rw e (record-ungrouped p.session none (record_in s) (body_in s (record_in s).size) l))
      (λ e. rw e none)

  pub read-ungrouped : (n : ℕ) (s : List ℕ) (p : Point) → Ungrouped p.session → Ungrouped (read_to n l u s p).point.session
  unfolding read_to
  read-ungrouped zero s p none = none
  read-ungrouped (suc n) s p none =
      split (more_of u (suc n) s)
      (λ e. rw e (read-ungrouped n (behind s) (followed l s p) (followed-ungrouped s p none)))
      (λ e. rw e none)

-- what is left of the octets, as the code takes it
part : (xs : List ℕ) (n : ℕ) → take (length xs - n) (drop n xs) ≡ drop n xs
part xs n = take_all (length xs - n) (drop n xs) (simp length-drop (omega arith))

pub again : (l u n : ℕ) (s : List ℕ) (p q : Point) (size : ℕ) (w : Ended) → more_of u n s ≡ true → size ≡ size_in s → q ≡ followed l s p → read_to n l u s p ≡ w
    → read_to (n - 1) l u (take (length s - size) (drop size s)) q ≡ w
unfolding behind
again l u n s p q size w m e d i = rw (part s size, e, d) (sym (turns l u n s p m) ∙ i)

-- what a turn of the reading leaves, and how far it goes
pub ruleset reads = (more_left, more-size, stops)

pub ruleset spares = (spare-most)
