-- The test of a group fails exactly where the words for 26 hold; every step keeps it; and what setting makes fits.
-- Assumes nothing.
use Prim.Native.Nat.{ℕ, zero, suc, ◌≤◌, ◌<◌}
use native.Mathlib.Omega.{arith}
use mathlib.Core.Path.{◌≡◌, refl, sym}
use mathlib.Core.Bool.{Bool, true, false, cond, ◌&&◌, ◌||◌}
use mathlib.Core.Logic.{◌↔◌}
use lib.Dec.{ltb, leb, eqb}
use borrow.Author.Tests.{ltb-true, ltb-false, leb-true, leb-false, eqb-true, eqb-false, not-false, le-ltb, lt-leb, eq-eqb, ne_eqb}
use Rattle.octets.proofs.Chain.{and_both}
use Rattle.rules.specs.Settings.{label_fits}
use Rattle.rules.specs.Parties.{party_of}
use Rattle.rules.proofs.Bools.{no_way, split, forced, true-false}
use Rattle.rules.proofs.Failing.{one-fails, both-fail, and-false, no-mark, mark-fails}
use Rattle.homing.specs.declared.Group.{Group}
use Rattle.homing.specs.declared.GroupSettings.{GroupSettings}
use Rattle.homing.specs.Groups.{one_of_two, is_working, no_group, with_pw, with_ac, first_pw, grouped}
use Rattle.homing.specs.Messages.{fails, switches}
use Rattle.homing.specs.Events.{Event, Timer, Crossed, Message, Ac, Return, after}
use Rattle.homing.specs.Fitting.{marks_fit, dni_fits, group_fits}
use Rattle.homing.specs.Unfit.{UnfitGroup, set_mark, role_above, pw_above, ac_above, dni_below, dni_above, labels_equal, two_parties}

-- neither 0 nor 1
pub above-one : (n : ℕ) → (n ≡ 0 → ⊥) → (n ≡ 1 → ⊥) → ltb n 2 ≡ false
above-one zero a b = absurd (a refl)
above-one (suc zero) a b = absurd (b refl)
above-one (suc (suc n)) a b = le-ltb (suc (suc n)) 2 (omega arith)

-- not 0, and at most 1
one_left : (n : ℕ) → ltb n 2 ≡ true → eqb n 0 ≡ false → n ≡ 1
one_left zero m z = no_way refl z
one_left (suc zero) m z = refl
one_left (suc (suc n)) m z = no_way m (le-ltb (suc (suc n)) 2 (omega arith))

module _ (label : ℕ) (g : Group) where
  rest-told : g.set ≡ 1 → marks_fit g.role g.pw g.ac && dni_fits label g.dni ≡ false → UnfitGroup label g
  rest-told s =
      one-fails
      (one-fails (λ e. role_above s (no-mark _ e)) (one-fails (λ e. pw_above s (no-mark _ e)) (λ e. ac_above s (no-mark _ e))))
      (one-fails
      (one-fails (λ e. dni_below s (leb-false 16 _ e)) (λ e. dni_above s (leb-false _ 1048575 e)))
      (one-fails (λ e. labels_equal s (eqb-true _ _ (not-false _ e))) (λ e. two_parties s (eqb-false _ _ e))))

  told : group_fits label g ≡ false → UnfitGroup label g
  unfolding group_fits
  told e =
      split (ltb g.set 2)
      (λ m. both-fail (λ z f. rest-told (one_left g.set m z) f) (rw m at e))
      (λ m. set_mark (no-mark _ m))

  untold : UnfitGroup label g → group_fits label g ≡ false
  unfolding group_fits
  untold (set_mark h) = rw (mark-fails g.set h)
  untold (role_above s h) = rw (s, mark-fails g.role h)
  untold (pw_above s h) = rw s (simp (mark-fails g.pw h, and-false))
  untold (ac_above s h) = rw s (simp (mark-fails g.ac h, and-false))
  untold (dni_below s h) = rw s (simp (lt-leb 16 g.dni h, and-false))
  untold (dni_above s h) = rw s (simp (lt-leb g.dni 1048575 h, and-false))
  untold (labels_equal s h) = rw s (simp (eq-eqb g.dni label h, and-false))
  untold (two_parties s h) = rw s (simp (ne_eqb (party_of g.dni) (party_of label) h, and-false))

  -- 26's clauses for one group
  pub group-unfit : (group_fits label g ≡ false) ↔ UnfitGroup label g
  group-unfit = (told, untold)

  fit-not : group_fits label g ≡ true → UnfitGroup label g → ⊥
  fit-not f u = true-false f (untold u)

-- another PW keeps a group that fits, if it is in range wherever the old one was
module _ (label : ℕ) (g : Group) (n : ℕ) where
  old-pw : (g.pw ≤ 1 → n ≤ 1) → UnfitGroup label (with_pw n g) → UnfitGroup label g
  old-pw b (set_mark h) = set_mark h
  old-pw b (role_above s h) = role_above s h
  old-pw b (pw_above s h) = pw_above s (split (ltb 1 g.pw) (ltb-true 1 g.pw) (λ e. absurd (omega (arith, h, b (ltb-false 1 g.pw e)))))
  old-pw b (ac_above s h) = ac_above s h
  old-pw b (dni_below s h) = dni_below s h
  old-pw b (dni_above s h) = dni_above s h
  old-pw b (labels_equal s h) = labels_equal s h
  old-pw b (two_parties s h) = two_parties s h

  pw-fits : (g.pw ≤ 1 → n ≤ 1) → group_fits label g ≡ true → group_fits label (with_pw n g) ≡ true
  pw-fits b f = forced _ (λ e. fit-not label g f (old-pw b ((group-unfit label (with_pw n g)).0 e)))

  -- another AC that is in range
  old-ac : n ≤ 1 → UnfitGroup label (with_ac n g) → UnfitGroup label g
  old-ac b (set_mark h) = set_mark h
  old-ac b (role_above s h) = role_above s h
  old-ac b (pw_above s h) = pw_above s h
  old-ac b (ac_above s h) = absurd (omega (arith, h, b))
  old-ac b (dni_below s h) = dni_below s h
  old-ac b (dni_above s h) = dni_above s h
  old-ac b (labels_equal s h) = labels_equal s h
  old-ac b (two_parties s h) = two_parties s h

  ac-fits : n ≤ 1 → group_fits label g ≡ true → group_fits label (with_ac n g) ≡ true
  ac-fits b f = forced _ (λ e. fit-not label g f (old-ac b ((group-unfit label (with_ac n g)).0 e)))

-- one of two numbers in range is in range
choice-most : (b : Bool) {m n : ℕ} → m ≤ 1 → n ≤ 1 → cond b m n ≤ 1
choice-most true p q = p
choice-most false p q = q

two-most : (n : ℕ) → one_of_two n ≤ 1
two-most n = choice-most (eqb n 0) (omega arith) (omega arith)

first-most : (role : ℕ) (loss crossing : Bool) → first_pw role loss crossing ≤ 1
first-most role loss crossing = choice-most (is_working role) (choice-most (loss || crossing) (omega arith) (omega arith)) (omega arith)

-- 26 is not asked anew of a group: whatever happens to one that fits, it fits
pub after-fits : (label : ℕ) (e : Event) (g : Group) → group_fits label g ≡ true → group_fits label (after e g) ≡ true
after-fits label (Timer loss) g =
    pw-fits label g _ (λ p. choice-most loss (choice-most (is_working g.role) (omega arith) p) p)
after-fits label Crossed g = pw-fits label g _ (λ p. choice-most (is_working g.role) (omega arith) p)
after-fits label (Message d) g =
    pw-fits label g _
    (λ p.
    choice-most (is_working g.role)
    (choice-most (switches d.switching) (omega arith) p)
    (choice-most (switches d.switching || fails d.status) (omega arith) p))
after-fits label (Ac ac) g = ac-fits label g _ (two-most ac)
after-fits label (Return loss crossing) g = pw-fits label g _ (λ p. first-most g.role loss crossing)

-- no group fits wherever it lies
pub no-group-fits : (label : ℕ) → group_fits label no_group ≡ true
unfolding group_fits
no-group-fits label = refl

-- and so does what setting makes, of two labels of one party that are not equal
pub grouped-fits : (s : GroupSettings) (loss crossing : Bool) → label_fits s.dni ≡ true → (s.service ≡ s.dni → ⊥) → party_of s.service ≡ party_of s.dni
    → group_fits s.service (grouped s loss crossing) ≡ true
grouped-fits s loss crossing f n p = forced _ (λ e. no ((group-unfit s.service (grouped s loss crossing)).0 e))
  where
    no : UnfitGroup s.service (grouped s loss crossing) → ⊥
    no (set_mark h) = omega (arith, h)
    no (role_above t h) = omega (arith, h, two-most s.role)
    no (pw_above t h) = omega (arith, h, first-most s.role loss crossing)
    no (ac_above t h) = omega (arith, h)
    no (dni_below t h) = omega (arith, h, leb-true 16 s.dni (and_both (leb 16 s.dni) _ f).0)
    no (dni_above t h) = omega (arith, h, leb-true s.dni 1048575 (and_both (leb 16 s.dni) _ f).1)
    no (labels_equal t h) = n (sym h)
    no (two_parties t h) = h (sym p)
