-- What the test of one TLV says of its octets, and what the marks of the types say when it was taken in.
-- Assumes nothing.
use mathlib.Core.Path.{◌≡◌, refl, sym, ◌∙◌}
use mathlib.Core.Bool.{Bool, true, false, cond}
use Prim.Native.Nat.{ℕ, ◌+◌, ◌≤◌, ◌<◌}
use native.Mathlib.Omega.{arith}
use lib.Dec.{ltb, eqb}
use borrow.Author.Tests.{ltb-true, ltb-false, eqb-true, eqb-false}
use Rattle.fault.specs.declared.tlv.Tlvs.{Tlvs}
use Rattle.fault.specs.Tlvs.{repeated, right_length, bad_octet, passed, with_if, with_global, with_tlv}
use Rattle.fault.specs.Broken.{Known, if_id, global_id, WrongLength, not_eight, not_four}

-- by the two answers of a test
pub decide : {P : Type 0} (b : Bool) → (b ≡ true → P) → (b ≡ false → P) → P
decide true f g = f refl
decide false f g = g refl

-- a TLV is fine, or the first test that it fails
pub data Verdict (t : Tlvs) (end kind size : ℕ) : Type 0 where
  fine : bad_octet t end kind size ≡ 0 → t.at + 2 + size ≤ end → repeated t kind ≡ false → right_length kind size ≡ true → Verdict t end kind size
  lone : bad_octet t end kind size ≡ t.at → end < t.at + 2 → Verdict t end kind size
  twice : bad_octet t end kind size ≡ t.at → repeated t kind ≡ true → Verdict t end kind size
  over : bad_octet t end kind size ≡ t.at → end < t.at + 2 + size → Verdict t end kind size
  odd : bad_octet t end kind size ≡ t.at + 1 → t.at + 2 + size ≤ end → repeated t kind ≡ false → right_length kind size ≡ false → Verdict t end kind size

pub judge : (t : Tlvs) (end kind size : ℕ) → Verdict t end kind size
unfolding bad_octet
judge t end kind size =
    decide (ltb end (t.at + 2)) (λ a. lone (rw a) (ltb-true _ _ a)) (λ a.
    decide (repeated t kind) (λ b. twice (rw (a, b)) b) (λ b.
    decide (ltb end (t.at + 2 + size)) (λ c. over (rw (a, b, c)) (ltb-true _ _ c)) (λ c.
    decide (right_length kind size) (λ d. fine (rw (a, b, c, d)) (ltb-false _ _ c) b d) (λ d.
    odd (rw (a, b, c, d)) (ltb-false _ _ c) b d))))

-- the test of a length is the rule
pub length-right : (kind size : ℕ) → right_length kind size ≡ true → WrongLength kind size → ⊥
unfolding right_length
length-right kind size e (not_eight k n) = n (eqb-true size 8 (rw k at e))
length-right kind size e (not_four k n) = n (eqb-true size 4 (rw k at e))

pub length-wrong : (kind size : ℕ) → right_length kind size ≡ false → WrongLength kind size
unfolding right_length
length-wrong kind size e =
    decide (eqb kind 1) (λ a. not_eight (eqb-true _ _ a) (eqb-false size 8 (rw a at e))) (λ a.
    decide (eqb kind 2) (λ b. not_four (eqb-true _ _ b) (eqb-false size 4 (rw (a, b) at e))) (λ b.
    absurd (let z : true ≡ false = rw (a, b) at e in let y : ◌≡◌ {A = ℕ} 0 1 = cc in omega arith)))

-- a type that is marked is one of the two
pub mark-known : (t : Tlvs) (kind : ℕ) → repeated t kind ≡ true → Known kind
unfolding repeated
mark-known t kind e =
    decide (eqb kind 1) (λ a. if_id (eqb-true _ _ a)) (λ a.
    decide (eqb kind 2) (λ b. global_id (eqb-true _ _ b)) (λ b.
    absurd (let z : false ≡ true = rw (a, b) at e in let y : ◌≡◌ {A = ℕ} 0 1 = cc in omega arith)))

-- the marks behind a TLV of type `kind`
pub data Marked (t : Tlvs) (kind other : ℕ) : Type 0 where
  old : repeated t other ≡ true → Marked t kind other
  new : other ≡ kind → Marked t kind other

module _ (t : Tlvs) (kind size a b : ℕ) where
  pub taken_at : (with_tlv t kind size a b).at ≡ t.at + 2 + size
  unfolding with_tlv
  taken_at = go (eqb kind 1) (eqb kind 2)
    where
      go : (x y : Bool) → (cond x (with_if (passed t size) a b) (cond y (with_global (passed t size) a) (passed t size))).at ≡ t.at + 2 + size
      go true y = refl
      go false true = refl
      go false false = refl

  pub taken-bad : (with_tlv t kind size a b).bad ≡ t.bad
  unfolding with_tlv
  taken-bad = go (eqb kind 1) (eqb kind 2)
    where
      go : (x y : Bool) → (cond x (with_if (passed t size) a b) (cond y (with_global (passed t size) a) (passed t size))).bad ≡ t.bad
      go true y = refl
      go false true = refl
      go false false = refl

  -- its own type is marked
  pub mark_set : Known kind → repeated (with_tlv t kind size a b) kind ≡ true
  unfolding repeated with_tlv
  mark_set (if_id e) = rw e
  mark_set (global_id e) = rw e

  -- a mark stays
  pub mark-kept : (other : ℕ) → repeated t other ≡ true → repeated (with_tlv t kind size a b) other ≡ true
  unfolding repeated with_tlv
  mark-kept other = go (eqb other 1) (eqb other 2) (eqb kind 1) (eqb kind 2)
    where
      after : (x y : Bool) → Tlvs
      after x y = cond x (with_if (passed t size) a b) (cond y (with_global (passed t size) a) (passed t size))

      go : (p q x y : Bool) → cond p t.ifid (cond q t.globalid false) ≡ true
          → cond p (after x y).ifid (cond q (after x y).globalid false) ≡ true
      go true q true y e = refl
      go true q false true e = e
      go true q false false e = e
      go false q true y e = e
      go false true false true e = refl
      go false true false false e = e
      go false false false true e = e
      go false false false false e = e

  -- and no other is set
  pub mark-new : (other : ℕ) → repeated (with_tlv t kind size a b) other ≡ true → Marked t kind other
  unfolding repeated with_tlv
  mark-new other e =
      decide (eqb kind 1)
      (λ x. decide (eqb other 1) (λ p. new (eqb-true _ _ p ∙ sym (eqb-true _ _ x))) (λ p. old (rw p (rw (x, p) at e)))) (λ x.
      decide (eqb kind 2)
      (λ y. decide (eqb other 1) (λ p. old (rw p (rw (x, y, p) at e))) (λ p.
      decide (eqb other 2) (λ q. new (eqb-true _ _ q ∙ sym (eqb-true _ _ y))) (λ q. old (rw (p, q) (rw (x, y, p, q) at e)))))
      (λ y. old (rw (x, y) at e)))
