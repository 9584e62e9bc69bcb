-- What the test of one TLV says of its octets, and what the kept places say when it was taken in.
-- Assumes nothing.
use mathlib.Core.Path.{◌≡◌, refl, sym, ◌∙◌}
use mathlib.Core.Bool.{Bool, true, false, cond}
use Prim.Native.Nat.{ℕ, ◌+◌, ◌≤◌, ◌<◌}
use native.Mathlib.Omega.{arith}
use lib.Dec.{ltb, eqb}
use borrow.Author.Tests.{ltb-true, ltb-false, lt-ltb, eqb-true, eqb-false, ne_eqb}
use Rattle.coordination.specs.declared.tlv.Tlvs.{Tlvs}
use Rattle.coordination.specs.Tlvs.{repeated, wrong_length, wrong_tlv, noted}
use Rattle.coordination.specs.Refused.{Known, status, switching, WrongLength, not_twenty, not_sixteen}

-- by the two answers of a test
pub decide : {P : Type 0} (b : Bool) → (b ≡ true → P) → (b ≡ false → P) → P
decide true f g = f refl
decide false f g = g refl

pub unequal : true ≡ false → ⊥
unequal e = let y : ◌≡◌ {A = ℕ} 0 1 = cc in omega arith

-- a TLV is fine, or the first test that it fails
pub data Verdict (t : Tlvs) (end kind size : ℕ) : Type 0 where
  fine : wrong_tlv t end kind size ≡ false → t.at + 4 + size ≤ end → repeated t kind ≡ false → wrong_length kind size ≡ false → Verdict t end kind size
  twice : wrong_tlv t end kind size ≡ true → repeated t kind ≡ true → Verdict t end kind size
  odd : wrong_tlv t end kind size ≡ true → wrong_length kind size ≡ true → Verdict t end kind size
  over : wrong_tlv t end kind size ≡ true → end < t.at + 4 + size → Verdict t end kind size

pub judge : (t : Tlvs) (end kind size : ℕ) → Verdict t end kind size
unfolding wrong_tlv
judge t end kind size =
    decide (repeated t kind) (λ a. twice (rw a) a) (λ a.
    decide (wrong_length kind size) (λ b. odd (rw (a, b)) b) (λ b.
    decide (ltb end (t.at + 4 + size)) (λ c. over (rw (a, b, c)) (ltb-true _ _ c)) (λ c. fine (rw (a, b, c)) (ltb-false _ _ c) a b)))

-- the test of a length is the rule
pub length-right : (kind size : ℕ) → wrong_length kind size ≡ false → WrongLength kind size → ⊥
unfolding wrong_length
length-right kind size e (not_twenty k n) = unequal (rw (k, ne_eqb size 20 n) at e)
length-right kind size e (not_sixteen k n) = unequal (rw (k, ne_eqb size 16 n) at e)

pub length-wrong : (kind size : ℕ) → wrong_length kind size ≡ true → WrongLength kind size
unfolding wrong_length
length-wrong kind size e =
    decide (eqb kind 1)
    (λ a. not_twenty (eqb-true _ _ a) (λ s. unequal (sym (rw (a, s) at e)))) (λ a.
    decide (eqb kind 2)
    (λ b. not_sixteen (eqb-true _ _ b) (λ s. unequal (sym (rw (a, b, s) at e))))
    (λ b. absurd (unequal (sym (rw (a, b) at e)))))

-- a type whose place is kept is one of the two
pub mark-known : (t : Tlvs) (kind : ℕ) → repeated t kind ≡ true → Known kind
unfolding repeated
mark-known t kind e =
    decide (eqb kind 1) (λ a. status (eqb-true _ _ a)) (λ a.
    decide (eqb kind 2) (λ b. switching (eqb-true _ _ b)) (λ b. absurd (unequal (sym (rw (a, b) at e)))))

-- the places behind a TLV of type `kind`
pub data Marked (t : Tlvs) (kind other : ℕ) : Type 0 where
  old : repeated t other ≡ true → Marked t kind other
  new : other ≡ kind → Marked t kind other

module _ (t : Tlvs) (kind size : ℕ) (low : 12 ≤ t.at) where
  -- its own place is kept
  pub mark_set : Known kind → repeated (noted t kind size) kind ≡ true
  unfolding repeated
  mark_set (status e) = rw (e, lt-ltb 0 t.at (omega arith))
  mark_set (switching e) = rw (e, lt-ltb 0 t.at (omega arith))

  kept : (x : Bool) (place : ℕ) → ltb 0 place ≡ true → ltb 0 (cond x t.at place) ≡ true
  kept true place e = lt-ltb 0 t.at (omega arith)
  kept false place e = e

  -- a place that is kept stays so
  pub mark-kept : (other : ℕ) → repeated t other ≡ true → repeated (noted t kind size) other ≡ true
  unfolding repeated
  mark-kept other = go (eqb other 1) (eqb other 2)
    where
      go : (p q : Bool) → cond p (ltb 0 t.status) (cond q (ltb 0 t.switching) false) ≡ true
          → cond p (ltb 0 (noted t kind size).status) (cond q (ltb 0 (noted t kind size).switching) false) ≡ true
      go true q e = kept (eqb kind 1) t.status e
      go false true e = kept (eqb kind 2) t.switching e
      go false false e = e

  -- and no other is set
  pub mark-new : (other : ℕ) → repeated (noted t kind size) other ≡ true → Marked t kind other
  unfolding repeated
  mark-new other e =
      decide (eqb other 1)
      (λ p. decide (eqb kind 1) (λ x. new (eqb-true _ _ p ∙ sym (eqb-true _ _ x))) (λ x. old (rw p (rw (p, x) at e)))) (λ p.
      decide (eqb other 2)
      (λ q. decide (eqb kind 2) (λ y. new (eqb-true _ _ q ∙ sym (eqb-true _ _ y))) (λ y. old (rw (p, q) (rw (p, q, y) at e))))
      (λ q. absurd (unequal (sym (rw (p, q) at e)))))
