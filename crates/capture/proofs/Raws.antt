-- Records as values: what the cursor takes for whole stands there; one record more, and none.
-- Assumes nothing.
use Prim.Native.Nat.{ℕ, zero, suc, ◌+◌, ◌≤◌}
use native.Mathlib.Omega.{arith}
use mathlib.Core.Path.{◌≡◌, refl, sym, ap, ◌∙◌}
use mathlib.Core.Bool.{Bool, true, false, not, cond}
use mathlib.Core.List.{List, [], ◌∷◌}
use lib.Dec.{eqb, ltb, leb}
use lib.ListN.{length, drop, length-drop}
use borrow.Author.Tests.{leb-true, leb-false, lt-ltb, le-ltb, ne_eqb}
use Rattle.octets.proofs.Chain.{and_both}
use Rattle.rules.proofs.Bools.{split}
use Rattle.capture.specs.declared.Next.TheVariants.{Broken, Short, End}
use Rattle.capture.specs.Records.{record_in, is_broken, next_in, is_whole}
use Rattle.capture.specs.Raws.{Raws, raw_in, raw_size, stands_in, raws_by, raws_in}

-- ---- the cursor
broken : (a b : Bool) → is_whole (cond a End (cond b Short Broken)) ≡ false
broken true b = refl
broken false true = refl
broken false false = refl

short : (a b : Bool) → is_whole (cond a End (cond b Short Short)) ≡ false
short true b = refl
short false true = refl
short false false = refl

-- what the cursor takes for whole stands there
pub whole-stands : (s : List ℕ) → is_whole (next_in s) ≡ stands_in 16 s
unfolding next_in stands_in
whole-stands s =
    let n = length s in
    let r = record_in s in
    split (is_broken r.kind r.size)
    (λ d. rw d (broken (eqb n 0) (ltb n 16)))
    (λ d. split (leb (16 + r.size) n)
    (λ e. let h = leb-true (16 + r.size) n e in
    rw (d, e, ne_eqb n 0 (λ z. omega arith), le-ltb n 16 (omega arith), le-ltb n (16 + r.size) h))
    (λ e. rw (d, e, lt-ltb n (16 + r.size) (leb-false (16 + r.size) n e)) (short (eqb n 0) (ltb n 16))))

-- ---- records one behind the other
module _ (head : ℕ) where
  -- all its octets are there
  pub stands-size : (s : List ℕ) → stands_in head s ≡ true → raw_size head s ≤ length s
  unfolding stands_in
  stands-size s e = leb-true (raw_size head s) (length s) (and_both (not (is_broken (record_in s).kind (record_in s).size)) (leb (raw_size head s) (length s)) e).1

  pub by-record : (n : ℕ) (s : List ℕ) → stands_in head s ≡ true
      → raws_by head (suc n) s
      ≡ record { raws = raw_in head s ∷ (raws_by head n (drop (raw_size head s) s)).raws; rest = (raws_by head n (drop (raw_size head s) s)).rest }
  unfolding raws_by
  by-record n s e = rw e

  pub by-nothing : (n : ℕ) (s : List ℕ) → stands_in head s ≡ false → raws_by head n s ≡ record { raws = []; rest = s }
  unfolding raws_by
  by-nothing zero s e = refl
  by-nothing (suc n) s e = rw e

  -- no record more
  pub raws-none : (s : List ℕ) → stands_in head s ≡ false → raws_in head s ≡ record { raws = []; rest = s }
  unfolding raws_in
  raws-none s e = by-nothing (length s) s e

module _ (head : ℕ) (some : 1 ≤ head) where
  enough : (m n : ℕ) (s : List ℕ) → length s ≤ m → length s ≤ n → raws_by head m s ≡ raws_by head n s
  enough zero n s l k =
      split (stands_in head s)
      (λ e. absurd (omega (arith, stands-size head s e)))
      (λ e. by-nothing head zero s e ∙ sym (by-nothing head n s e))
  enough (suc m) zero s l k =
      split (stands_in head s)
      (λ e. absurd (omega (arith, stands-size head s e)))
      (λ e. by-nothing head (suc m) s e ∙ sym (by-nothing head zero s e))
  enough (suc m) (suc n) s l k =
      split (stands_in head s)
      (λ e.
      let len = length-drop (raw_size head s) s in
      by-record head m s e
      ∙ ap (λ (p : Raws). record { raws = raw_in head s ∷ p.raws; rest = p.rest })
      (enough m n (drop (raw_size head s) s) (omega (arith, stands-size head s e, len)) (omega (arith, stands-size head s e, len)))
      ∙ sym (by-record head n s e))
      (λ e. by-nothing head (suc m) s e ∙ sym (by-nothing head (suc n) s e))

  -- one record more
  pub raws-record : (s : List ℕ) → stands_in head s ≡ true
      → raws_in head s
      ≡ record { raws = raw_in head s ∷ (raws_in head (drop (raw_size head s) s)).raws; rest = (raws_in head (drop (raw_size head s) s)).rest }
  unfolding raws_in
  raws-record s e =
      let left = drop (raw_size head s) s in
      enough (length s) (suc (length s)) s (omega arith) (omega arith) ∙ by-record head (length s) s e
      ∙ ap (λ (p : Raws). record { raws = raw_in head s ∷ p.raws; rest = p.rest })
      (enough (length s) (length left) left (omega (arith, length-drop (raw_size head s) s)) (omega arith))
