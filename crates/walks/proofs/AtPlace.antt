-- A call that concerns one record of the row, by its place, comes to `at_place`: where the row has no such place, and where it has one.
--     unmet-there, done-there      the two cases. The record is read with any element past the end
-- Assumes nothing.
use mathlib.Core.Path.{◌≡◌, refl, sym, ap, ◌∙◌}
use mathlib.Core.Bool.{Bool, true, false, cond}
use Prim.Native.Nat.{ℕ, ◌<◌, ◌≤◌}
use mathlib.Core.List.{List}
use lib.Dec.{ltb}
use lib.ListN.{length, get_or, set}
use Rattle.std.proofs.Common.{arith}
use Rattle.std.proofs.lemmas.Bool.Decides.{nat_tests}
use Rattle.std.proofs.lemmas.List.{get_or_default}
use Rattle.walks.specs.AtPlace.{Afterwards, at_place}

is-past : (i n : ℕ) → n ≤ i → ltb i n ≡ false
is-past i n h = grind (arith, nat_tests)

is_inside : (i n : ℕ) → i < n → ltb i n ≡ true
is_inside i n h = grind (arith, nat_tests)

module _ {R X D O : Type 0} (goes : X → ℕ) (unmet : X → O) (act : R → X → List ℕ → D) (put : R → D → R) (said : X → D → O) (past : R) (row : List R) (x : X) (m : List ℕ) where
  -- the definition by its two cases
  abbrev by-test : Bool → Afterwards O R
  by-test t =
      cond t
      (record { outcome = said x (act (get_or row (goes x) past) x m); row = set row (goes x) (put (get_or row (goes x) past) (act (get_or row (goes x) past) x m)) })
      (record { outcome = unmet x; row = row })

  is-at : by-test (ltb (goes x) (length row)) ≡ at_place goes unmet act put said past row x m
  unfolding at_place
  is-at = refl

  pub unmet-there : (n : ℕ) → n ≡ goes x → length row ≤ n → (o : O) → o ≡ unmet x → ◌≡◌ {A = Afterwards O R} (record { outcome = o; row = row }) (at_place goes unmet act put said past row x m)
  unmet-there n e h o e' =
      ap (λ (u : O). record { outcome = u; row = row }) e'
      ∙ ap by-test (sym (is-past (goes x) (length row) (rw (← e) h))) ∙ is-at

  pub done-there : (n : ℕ) → n ≡ goes x → n < length row → (z : R) (d : D) → d ≡ act (get_or row n z) x m → (r : R) → r ≡ put (get_or row n z) d → (o : O) → o ≡ said x d
      → ◌≡◌ {A = Afterwards O R} (record { outcome = o; row = set row n r }) (at_place goes unmet act put said past row x m)
  done-there n e h z d e₁ r e₂ o e₃ =
      let s = get_or_default row n z past h ∙ ap (λ (k : ℕ). get_or row k past) e in
      let f = e₁ ∙ ap (λ (u : R). act u x m) s in
      ap (λ (u : O). record { outcome = u; row = set row n r }) (e₃ ∙ ap (said x) f)
      ∙ ap (λ (u : R). record { outcome = said x (act (get_or row (goes x) past) x m); row = set row n u }) (e₂ ∙ ap (λ (u : R). put u d) s ∙ ap (put (get_or row (goes x) past)) f)
      ∙ ap (λ (k : ℕ). record { outcome = said x (act (get_or row (goes x) past) x m); row = set row k (put (get_or row (goes x) past) (act (get_or row (goes x) past) x m)) }) e
      ∙ ap by-test (sym (is_inside (goes x) (length row) (rw (← e) h))) ∙ is-at
