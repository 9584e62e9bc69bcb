-- Numbers that were noted, each once: what the search among the first ones finds, and what one number more makes of it. 0 stands where none was.
-- Assumes nothing.
use Prim.Native.Nat.{ℕ, ◌+◌, ◌<◌}
use native.Mathlib.Numerals.{add-one}
use mathlib.Core.Path.{◌≡◌, refl, sym, ap, ◌∙◌}
use mathlib.Core.Bool.{Bool, true, false, not, ◌&&◌, ◌||◌}
use mathlib.Core.List.{List, [], ◌∷◌, ◌++◌, append-nil}
use lib.ListN.{length, get_or, take, drop, take-append-drop}
use lib.Seq.{take-suc}
use lib.Dec.{eqb}
use borrow.Author.Tests.{eqb-true, eq-eqb, ne_eqb}
use Rattle.rules.specs.Lists.{any, once}
use Rattle.rules.proofs.Bools.{split, refuted, true-false}
use Rattle.rules.proofs.Lists.{once-inserted, numbers-alike}
use Rattle.scan.specs.Distinct.{filled, once_in}
use Rattle.scan.proofs.KeyMarks.{at-end, once-front, filled-append}

-- a number that is not 0 stands among all where it stands among those that were noted
any-filled : (key : ℕ) → (key ≡ 0 → ⊥) → (xs : List ℕ) → any (eqb key) (filled xs) ≡ any (eqb key) xs
unfolding any filled
any-filled key d [] = refl
any-filled key d (x ∷ xs) =
    let rest = any-filled key d xs in
    split (eqb x 0)
    (λ e. rw e (rest ∙ ap (λ (b : Bool). b || any (eqb key) xs) (sym (ne_eqb key x (λ z. d (z ∙ eqb-true x 0 e))))))
    (λ e. rw e (ap (λ (b : Bool). eqb key x || b) rest))

module _ (xs : List ℕ) (i : ℕ) (h : i < length xs) where
  step : filled (take (i + 1) xs) ≡ filled (take i xs) ++ filled (get_or xs i 0 ∷ [])
  step = rw (add-one, take-suc xs i 0 h) (filled-append (take i xs) (get_or xs i 0 ∷ []))

  -- a place where none was noted, and one number more
  pub still-once : get_or xs i 0 ≡ 0 → once eqb (filled (take i xs)) ≡ true → once eqb (filled (take (i + 1) xs)) ≡ true
  unfolding filled
  still-once e o = ap (once eqb) (step ∙ rw (eq-eqb (get_or xs i 0) 0 e) (append-nil (filled (take i xs)))) ∙ o

  module _ (d : get_or xs i 0 ≡ 0 → ⊥) where
    more : filled (take (i + 1) xs) ≡ filled (take i xs) ++ (get_or xs i 0 ∷ [])
    unfolding filled
    more = step ∙ rw (ne_eqb (get_or xs i 0) 0 d)

    added : once eqb (filled (take i xs) ++ (get_or xs i 0 ∷ [])) ≡ not (any (eqb (get_or xs i 0)) (take i xs)) && once eqb (filled (take i xs))
    added =
        once-inserted eqb numbers-alike (at-end (get_or xs i 0) (filled (take i xs)))
        ∙ ap (λ (b : Bool). not b && once eqb (filled (take i xs))) (any-filled (get_or xs i 0) d (take i xs))

    pub once_more : any (eqb (get_or xs i 0)) (take i xs) ≡ false → once eqb (filled (take i xs)) ≡ true → once eqb (filled (take (i + 1) xs)) ≡ true
    once_more n o = ap (once eqb) more ∙ added ∙ rw (n, o)

    -- one that was there before
    pub twice-noted : any (eqb (get_or xs i 0)) (take i xs) ≡ true → once_in xs ≡ false
    unfolding once_in
    twice-noted t =
        refuted (once eqb (filled xs))
        (λ z. true-false
        (once-front (filled (take (i + 1) xs)) (filled (drop (i + 1) xs)) (ap (once eqb) (sym (filled-append (take (i + 1) xs) (drop (i + 1) xs)) ∙ ap filled (take-append-drop (i + 1) xs)) ∙ z))
        (ap (once eqb) more ∙ added ∙ rw t))
