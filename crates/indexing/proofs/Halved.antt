-- The entries judged on the way to the one that a search found are those that it looked at.
-- Assumes nothing.
use Prim.Native.Nat.{ℕ, zero, suc, ◌+◌, ◌-◌, ◌/◌, ◌≤◌, ◌<◌}
use native.Mathlib.Omega.{arith}
use mathlib.Core.Path.{◌≡◌, refl, sym, ◌∙◌}
use mathlib.Core.Bool.{Bool, true, false, cond, ◌&&◌}
use mathlib.Core.List.{List, []}
use lib.ListN.{get_or}
use lib.Dec.{ltb, leb}
use borrow.Author.Tests.{ltb-false, lt-ltb, le-ltb, le-leb, lt-leb}
use Rattle.rules.proofs.Bools.{split}
use Rattle.halving.specs.Search.{halving, looks_of}
use Rattle.indexing.specs.Asking.{all_fit}
use Rattle.indexing.proofs.Looks.{way}
use Rattle.indexing.specs.Judging.{judged_by, judged_of}

module _ (fits : ℕ → Bool) where
  -- more turns than there are candidates change nothing
  enough : (k j p first n : ℕ) → n ≤ suc k → n ≤ suc j → judged_by k fits p first n ≡ judged_by j fits p first n
  unfolding judged_by
  enough zero zero p first n h g = refl
  enough zero (suc j) p first n h g = rw (lt-ltb n 2 (omega arith))
  enough (suc k) zero p first n h g = rw (lt-ltb n 2 (omega arith))
  enough (suc k) (suc j) p first n h g =
      let later = enough k j p (first + n / 2) (n - n / 2) (omega arith) (omega arith) in
      let earlier = enough k j p first (n / 2) (omega arith) (omega arith) in
      λ i. cond (ltb n 2) (fits first) (cond (fits (first + n / 2)) (cond (leb (first + n / 2) p) (later i) (earlier i)) false)

  -- what the code does
  pub judged-few : (p first n : ℕ) → n < 2 → fits first ≡ judged_of fits p first n
  unfolding judged_of judged_by
  judged-few p first zero h = refl
  judged-few p first (suc n) h = rw (lt-ltb (suc n) 2 h)

  pub judged-out : (p first n : ℕ) → 2 ≤ n → fits (first + n / 2) ≡ false → false ≡ judged_of fits p first n
  unfolding judged_of judged_by
  judged-out p first zero h e = absurd (omega arith)
  judged-out p first (suc n) h e = rw (le-ltb (suc n) 2 h, e)

  pub judged-later : (p first n : ℕ) → 2 ≤ n → fits (first + n / 2) ≡ true → first + n / 2 ≤ p → judged_of fits p (first + n / 2) (n - n / 2) ≡ judged_of fits p first n
  unfolding judged_of judged_by
  judged-later p first zero h e g = absurd (omega arith)
  judged-later p first (suc n) h e g =
      rw (le-ltb (suc n) 2 h, e, le-leb (first + suc n / 2) p g) (enough (suc n - suc n / 2) n p (first + suc n / 2) (suc n - suc n / 2) (omega arith) (omega arith))

  pub judged-earlier : (p first n : ℕ) → 2 ≤ n → fits (first + n / 2) ≡ true → p < first + n / 2 → judged_of fits p first (n / 2) ≡ judged_of fits p first n
  unfolding judged_of judged_by
  judged-earlier p first zero h e g = absurd (omega arith)
  judged-earlier p first (suc n) h e g =
      rw (le-ltb (suc n) 2 h, e, lt-leb (first + suc n / 2) p g) (enough (suc n / 2) n p first (suc n / 2) (omega arith) (omega arith))

  -- those looked at, and the one found
  pub judged-is : (clocks : List ℕ) (u k first n : ℕ)
      → judged_by k fits (halving k clocks u first n).place first n ≡ (all_fit fits (looks_of k clocks u first n) && fits (halving k clocks u first n).place)
  unfolding judged_by looks_of halving all_fit
  judged-is clocks u zero first n = refl
  judged-is clocks u (suc k) first n =
      split (ltb n 2) (λ e. rw e)
      (λ e.
      let two = ltb-false n 2 e in
      let m = first + n / 2 in
      let side = way [] clocks [] [] 0 u k first n two in
      split (leb (get_or clocks m 0) u)
      (λ d. let on = judged-is clocks u k m (n - n / 2) in
      let here : leb m (halving k clocks u m (n - n / 2)).place ≡ true = rw (e, d) at (sym side ∙ d) in
      split (fits m) (λ f. rw (e, d, f, here) on) (λ f. rw (e, d, f)))
      (λ d. let on = judged-is clocks u k first (n / 2) in
      let here : leb m (halving k clocks u first (n / 2)).place ≡ false = rw (e, d) at (sym side ∙ d) in
      split (fits m) (λ f. rw (e, d, f, here) on) (λ f. rw (e, d, f))))

pub ruleset judges = (judged-few, judged-out, judged-later, judged-earlier)
