-- A label is open exactly where the calls have its opening.
-- Assumes nothing.
use Prim.Native.Nat.{ℕ}
use mathlib.Core.Path.{◌≡◌, refl, sym, ap, ◌∙◌}
use mathlib.Core.Bool.{Bool, true, false, cond, ◌&&◌}
use mathlib.Core.Option.{Option, none, some}
use mathlib.Core.Logic.{◌↔◌}
use lib.Dec.{eqb}
use borrow.Author.Tests.{eqb-true}
use Rattle.rules.specs.declared.Settings.{Settings}
use Rattle.rules.specs.Calls.{Act, Close, Lock, Unlock, Receive, ReportOn, WriteCc, WriteCv, Call, Tick, Open, On, Said, is_accepted}
use Rattle.rules.proofs.Bools.{split}
use Rattle.meaning.specs.Stories.{Story, opened, settings_of}
use Rattle.meaning.specs.Histories.{History, start, after, act_told, told, story}
use Rattle.meaning.specs.Accounts.{size, Took, Opening}
use Rattle.meaning.proofs.Positions.{named, bounding, carried, flipped, unnamed, opening-kept, opening-told, took-below}
use Rattle.meaning.proofs.LossPositions.{by_last, put, last-is}
use Rattle.cause.proofs.Lasts.{clash, none-some, other-label}

-- no act opens a label
no-act : (b : Act) (o : Option Story) → bounding b ≡ false → act_told b o ≡ none → o ≡ none
no-act (Close t) o n e = clash (cc)
no-act (Lock t) none n e = refl
no-act (Lock t) (some s) n e = none-some (sym e)
no-act (Unlock t) none n e = refl
no-act (Unlock t) (some s) n e = none-some (sym e)
no-act (Receive m t) none n e = refl
no-act (Receive m t) (some s) n e = none-some (sym e)
no-act ReportOn o n e = e
no-act (WriteCc b) none n e = refl
no-act (WriteCc b) (some s) n e = none-some (sym e)
no-act (WriteCv b) o n e = e

module _ (h : History) (a : Said) (l : ℕ) (y : is_accepted a ≡ true) (before : story l h ≡ none → (o t : ℕ) (g : Settings) → Opening h l o g t → ⊥)
    (o t : ℕ) (g : Settings) where
  -- an opening after a call that bounds nothing was there before
  earlier-none : (d : Call) → named bounding l d && is_accepted a ≡ false → story l h ≡ none → Opening (after h d a) l o g t → ⊥
  earlier-none d n e O = before e o t g (opening-kept (flipped (carried bounding l h d a n)) (λ u. refl) O)

  -- a close ends it
  closed_none : (u : ℕ) → Opening (after h (On l (Close u)) a) l o g t → ⊥
  unfolding size
  closed_none u O =
      by_last o (size h) (took-below (after h (On l (Close u)) a) o _ O.took)
      (λ i. O.unclosed (size h) u i (put h (On l (Close u)) a y))
      (λ i. let w = last-is h (On l (Close u)) a o (Open g t) i O.took in let z : Open g t ≡ On l (Close u) = w.0 in clash (cc))

  act-none : (b : Act) → act_told b (story l h) ≡ none → Opening (after h (On l b) a) l o g t → ⊥
  act-none (Close u) e O = closed_none u O
  act-none (Lock u) e O = earlier-none (On l (Lock u)) refl (no-act (Lock u) (story l h) refl e) O
  act-none (Unlock u) e O = earlier-none (On l (Unlock u)) refl (no-act (Unlock u) (story l h) refl e) O
  act-none (Receive m u) e O = earlier-none (On l (Receive m u)) refl (no-act (Receive m u) (story l h) refl e) O
  act-none ReportOn e O = earlier-none (On l ReportOn) refl (no-act ReportOn (story l h) refl e) O
  act-none (WriteCc b) e O = earlier-none (On l (WriteCc b)) refl (no-act (WriteCc b) (story l h) refl e) O
  act-none (WriteCv b) e O = earlier-none (On l (WriteCv b)) refl (no-act (WriteCv b) (story l h) refl e) O

  taken_none : (d : Call) → told l d (story l h) ≡ none → Opening (after h d a) l o g t → ⊥
  taken_none (Tick u) e O = earlier-none (Tick u) refl e O
  taken_none (Open k u) e O =
      split (eqb k.label l)
      (λ i. none-some {x = opened k u} (sym e ∙ rw i))
      (λ i. earlier-none (Open k u) (rw i) (sym (rw i) ∙ e) O)
  taken_none (On k b) e O =
      split (eqb k l)
      (λ i. let j : k ≡ l = eqb-true k l i in act-none b (sym (rw i) ∙ e) (rw j at O))
      (λ i. earlier-none (On k b) (other-label l a b k i) (sym (rw i) ∙ e) O)

pub none-opened : (h : History) (l : ℕ) → story l h ≡ none → (o t : ℕ) (g : Settings) → Opening h l o g t → ⊥
unfolding story Took
none-opened start l e o t g O = O.took
none-opened (after h d a) l e o t g O =
    split (is_accepted a)
    (λ y. taken_none h a l y (none-opened h l) o t g d (ap (λ (b : Bool). cond b (told l d (story l h)) (story l h)) (sym y) ∙ e) O)
    (λ n.
    none-opened h l (ap (λ (b : Bool). cond b (told l d (story l h)) (story l h)) (sym n) ∙ e) o t g
    (opening-kept (flipped (carried bounding l h d a (unnamed bounding l d a n))) (λ u. refl) O))

-- not open: no opening
pub not-open : (h : History) (l : ℕ) → (story l h ≡ none) ↔ ((o t : ℕ) (g : Settings) → Opening h l o g t → ⊥)
not-open h l = (none-opened h l, λ n. go n (story l h) refl)
  where
    go : ((o t : ℕ) (g : Settings) → Opening h l o g t → ⊥) → (m : Option Story) → story l h ≡ m → story l h ≡ none
    go n none e = e
    go n (some s) e = let w = opening-told h l s e in absurd (n w.0 w.1 (settings_of s) w.2)
