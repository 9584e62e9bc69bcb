-- A TLV goes forward, and any number of turns that is enough gives the same.
-- Assumes nothing.
use mathlib.Core.Path.{◌≡◌, refl, sym, ap, ◌∙◌}
use mathlib.Core.Bool.{Bool, true, false, cond}
use mathlib.Core.List.{List}
use Prim.Native.Nat.{ℕ, zero, suc, ◌-◌, ◌≤◌, ◌<◌}
use native.Mathlib.Omega.{arith}
use lib.Dec.{ltb, eqb}
use borrow.Author.Tests.{lt-ltb, le-ltb, ltb-true}
use Rattle.fault.specs.declared.tlv.Tlvs.{Tlvs}
use Rattle.fault.specs.Tlvs.{passed, with_if, with_global, with_tlv, ended, bad_octet, step_with, step, walk, start, tlvs_of}

-- whatever the tests say, the place goes forward
any : (t : Tlvs) (n end size a b : ℕ) (fine is_if is_global : Bool) → t.at < end
    → t.at < (cond fine (cond is_if (with_if (passed t size) a b) (cond is_global (with_global (passed t size) a) (passed t size))) (ended n end t)).at
any t n end size a b true true is_global h = omega arith
any t n end size a b true false true h = omega arith
any t n end size a b true false false h = omega arith
any t n end size a b false is_if is_global h = h

pub forward : (t : Tlvs) (end kind size a b : ℕ) → t.at < end → t.at < (step_with t end kind size a b).at
unfolding with_tlv
forward t end kind size a b h =
    any t (bad_octet t end kind size) end size a b (eqb (bad_octet t end kind size) 0) (eqb kind 1) (eqb kind 2) h

same : (q : Bool) (x y t : Tlvs) → (q ≡ true → x ≡ y) → cond q x t ≡ cond q y t
same true x y t e = e refl
same false x y t e = refl

module _ (m : List ℕ) (end : ℕ) where
  pub stays : (k : ℕ) (t : Tlvs) → end ≤ t.at → walk k m end t ≡ t
  stays zero t h = refl
  stays (suc k) t h = rw (le-ltb t.at end h)

  pub turn : (k : ℕ) (t : Tlvs) → t.at < end → walk (suc k) m end t ≡ walk k m end (step m end t)
  turn k t h = rw (lt-ltb t.at end h)

  pub enough : (k j : ℕ) (t : Tlvs) → end - t.at ≤ k → end - t.at ≤ j → walk k m end t ≡ walk j m end t
  enough zero j t p q = sym (stays j t (omega arith))
  enough (suc k) zero t p q = stays (suc k) t (omega arith)
  enough (suc k) (suc j) t p q =
      same (ltb t.at end) (walk k m end (step m end t)) (walk j m end (step m end t)) t
      (λ e. let h : t.at < end = ltb-true _ _ e in
      let f : t.at < (step m end t).at = forward t end _ _ _ _ h in
      enough k j (step m end t) (omega arith) (omega arith))

  -- a turn of the loop: the turns that are left, counted by the octets that are left
  pub turned : (t : Tlvs) → t.at < end → walk (end - t.at) m end t ≡ walk (end - (step m end t).at) m end (step m end t)
  turned t h =
      let f : t.at < (step m end t).at = forward t end _ _ _ _ h in
      let k = end - t.at - 1 in
      let e : end - t.at ≡ suc k = omega arith in
      ap (λ (n : ℕ). walk n m end t) e ∙ turn k t h ∙ enough k (end - (step m end t).at) (step m end t) (omega arith) (omega arith)

  begins : tlvs_of m end ≡ walk (end - 9) m end start
  unfolding tlvs_of
  begins = enough end (end - 9) start (omega arith) (omega arith)

  -- no TLV, one, or two up to the end
  pub none : end ≤ 9 → tlvs_of m end ≡ start
  none h = begins ∙ stays (end - 9) start h

  pub one : (t : Tlvs) → 9 < end → step m end start ≡ t → end ≤ t.at → tlvs_of m end ≡ t
  one t h e p = begins ∙ turned start h ∙ ap (λ (u : Tlvs). walk (end - u.at) m end u) e ∙ stays (end - t.at) t p

  pub two : (t u : Tlvs) → 9 < end → step m end start ≡ t → t.at < end → step m end t ≡ u → end ≤ u.at → tlvs_of m end ≡ u
  two t u h e k d p =
      begins ∙ turned start h ∙ ap (λ (v : Tlvs). walk (end - v.at) m end v) e
      ∙ turned t k ∙ ap (λ (v : Tlvs). walk (end - v.at) m end v) d ∙ stays (end - u.at) u p
