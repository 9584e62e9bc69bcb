-- What fits and what does not: the five numbers of an account, by cases.
-- Assumes nothing.
use mathlib.Core.Path.{◌≡◌, refl, sym, ap, ◌∙◌}
use mathlib.Core.Bool.{Bool, true, false, cond, ◌&&◌}
use Prim.Native.Nat.{ℕ, ◌+◌, ◌≤◌}
use native.Mathlib.Omega.{arith}
use lib.Dec.{eqb}
use borrow.Author.Tests.{le-ltb, ltb-false}
use lib.IntN.{ℤ, pos, negsuc, nat_abs, ◌+ℤ◌}
use lib.Signed.{lt_z, mag}
use mir.Syntax.{w64}
use mir.Val.{SFits}
use Rattle.account.specs.declared.Account.{Account}
use Rattle.account.specs.Figures.{Exact, one, lesser, greater, chosen, joined, fits, fit, given, refused, finished}
use Rattle.account.specs.Accounts.{signed, counted, numbers_of, kept, spent, account_of, made, combined, added, finished_of}
use Rattle.account.proofs.Integers.{split, fits-true}
use Rattle.account.proofs.Kept.{cond_yes, cond_no}

no : {A : Type 0} → ◌≡◌ {A = Bool} true false → A
no e = absurd (let z : ◌≡◌ {A = ℕ} 0 1 = cc in omega arith)

-- the first or the last of five
pub fit-pairs : (x : Exact) → fits (pos x.pairs) ≡ false → fit x ≡ false
unfolding fit
fit-pairs x e = ap (λ (b : Bool). b && (fits x.least && (fits x.greatest && (fits x.sum && fits (pos x.sizes))))) e

last-false : (p l g s z : Bool) → z ≡ false → p && (l && (g && (s && z))) ≡ false
last-false false l g s z e = refl
last-false true false g s z e = refl
last-false true true false s z e = refl
last-false true true true false z e = refl
last-false true true true true z e = e

pub fit-sizes : (x : Exact) → fits (pos x.sizes) ≡ false → fit x ≡ false
unfolding fit
fit-sizes x e = last-false (fits (pos x.pairs)) (fits x.least) (fits x.greatest) (fits x.sum) (fits (pos x.sizes)) e

-- least and greatest fit: the other three decide
three : (p l g s z : Bool) → l ≡ true → g ≡ true → p && (l && (g && (s && z))) ≡ p && (s && z)
three false l g s z e f = refl
three true true true s z e f = refl
three true false g s z e f = no (sym e)
three true true false s z e f = no (sym f)

pub fit-three : (x : Exact) → fits x.least ≡ true → fits x.greatest ≡ true → fit x ≡ (fits (pos x.pairs) && (fits x.sum && fits (pos x.sizes)))
unfolding fit
fit-three x e f = three (fits (pos x.pairs)) (fits x.least) (fits x.greatest) (fits x.sum) (fits (pos x.sizes)) e f

-- each number by itself, kept where it fits
by_three : (p s z : Bool) (x : Exact)
    → cond (p && (s && z)) (kept (record { pairs = cond p x.pairs 0; least = x.least; greatest = x.greatest; sum = cond s x.sum (pos 0); sizes = cond z x.sizes 0 })) spent
    ≡ cond (p && (s && z)) (kept x) spent
by_three false s z x = refl
by_three true false z x = refl
by_three true true false x = refl
by_three true true true x = refl

pub made-is : (x : Exact) → fits x.least ≡ true → fits x.greatest ≡ true
    → made (counted x.pairs) x.least x.greatest (signed x.sum) (counted x.sizes) ≡ account_of x
unfolding made account_of
made-is x e f =
    by_three (fits (pos x.pairs)) (fits x.sum) (fits (pos x.sizes)) x ∙ ap (λ (b : Bool). cond b (kept x) spent) (sym (fit-three x e f))

-- one of two that fit
picked : (b : Bool) (p q : ℤ) → fits p ≡ true → fits q ≡ true → fits (cond b p q) ≡ true
picked true p q e f = e
picked false p q e f = f

chosen-fits : (pick : ℤ → ℤ → ℤ) (m n : ℕ) (p q : ℤ) → fits p ≡ true → fits q ≡ true → fits (pick p q) ≡ true → fits (chosen pick m p n q) ≡ true
chosen-fits pick m n p q e f g = picked (eqb m 0) q _ f (picked (eqb n 0) p (pick p q) e g)

module _ (a b : Account) where
  pub combined-over : a.over ≡ true → spent ≡ combined a b
  unfolding combined
  combined-over h = sym (cond_yes spent _ h)

  pub combined-other : a.over ≡ false → b.over ≡ true → spent ≡ combined a b
  unfolding combined
  combined-other h k = sym (cond_no spent _ h ∙ cond_yes spent _ k)

  pub combined-made : a.over ≡ false → b.over ≡ false → SFits w64 a.least → SFits w64 b.least → SFits w64 a.greatest → SFits w64 b.greatest
      → made (counted (a.pairs + b.pairs)) (chosen lesser a.pairs a.least b.pairs b.least) (chosen greater a.pairs a.greatest b.pairs b.greatest)
      (signed (a.sum +ℤ b.sum)) (counted (a.sizes + b.sizes))
      ≡ combined a b
  unfolding combined joined
  combined-made h k al bl ag bg =
      made-is (joined (numbers_of a) (numbers_of b))
      (chosen-fits lesser a.pairs b.pairs a.least b.least (fits-true _ al) (fits-true _ bl) (picked (lt_z a.least b.least) a.least b.least (fits-true _ al) (fits-true _ bl)))
      (chosen-fits greater a.pairs b.pairs a.greatest b.greatest (fits-true _ ag) (fits-true _ bg)
      (picked (lt_z a.greatest b.greatest) b.greatest a.greatest (fits-true _ bg) (fits-true _ ag)))
      ∙ sym (cond_no spent _ h ∙ cond_no spent _ k)

-- what does not fit has a size that does not
pub mag-size : (z : ℤ) → mag z ≤ nat_abs z
mag-size (pos n) = omega arith
mag-size (negsuc n) = omega arith

module _ (a : Account) (e : ℤ) where
  pub added-single : combined a (kept (one e)) ≡ added a e
  unfolding combined added
  added-single = refl

  pub added-over : fits e ≡ false → spent ≡ added a e
  unfolding added account_of joined
  added-over h =
      split a.over (λ o. sym (cond_yes spent _ o))
      (λ o. sym (cond_no spent _ o ∙ cond_no (kept (joined (numbers_of a) (one e))) spent
      (fit-sizes (joined (numbers_of a) (one e)) (le-ltb (a.sizes + nat_abs e) 9223372036854775808 (omega (arith, mag-size e, ltb-false (mag e) 9223372036854775808 h))))))

-- finished
module _ (a : Account) where
  pub finished-over : a.over ≡ true → refused ≡ finished_of a
  unfolding finished_of
  finished-over h = sym (cond_yes refused _ h)

  pub finished-not : a.over ≡ false → fit (numbers_of a) ≡ false → refused ≡ finished_of a
  unfolding finished_of finished
  finished-not h f = sym (cond_no refused _ h ∙ cond_no (given (numbers_of a)) refused f)

  pub finished-yes : a.over ≡ false → fit (numbers_of a) ≡ true → given (numbers_of a) ≡ finished_of a
  unfolding finished_of finished
  finished-yes h f = sym (cond_no refused _ h ∙ cond_yes (given (numbers_of a)) refused f)
