-- The open records by their places in the row: which occupied place holds one that passes a test, which two hold records that are the same.
-- Assumes nothing.
use Prim.Native.Nat.{ℕ, zero, suc, ◌<◌, ◌/◌, ◌%◌}
use native.Mathlib.Omega.{arith}
use mathlib.Core.Path.{◌≡◌, refl, sym, ◌∙◌}
use mathlib.Core.Bool.{Bool, true, false, not}
use mathlib.Core.List.{List, [], ◌∷◌}
use mathlib.Core.Logic.{⊎_elim}
use lib.Dec.{eqb}
use lib.ListN.{length, get_or}
use Rattle.rules.specs.Lists.{any, once}
use Rattle.rules.proofs.Bools.{split, no_way, or_cases, or_left, or_right}
use Rattle.rules.proofs.Failing.{and_right}
use Rattle.session.specs.declared.Session.{Session}
use Rattle.table.specs.Places.{first_on, occupied_at, opens}
use Rattle.table.proofs.OccupiedSet.{at_zero, at_suc}

-- an occupied place whose record passes
pub record Held (p : Session → Bool) (d : Session) (set : ℕ) (row : List Session) : Type 0 where
  pub place : ℕ
  pub inside : place < length row
  pub taken : occupied_at set place ≡ true
  pub passes : p (get_or row place d) ≡ true

module _ (p : Session → Bool) (d : Session) where
  behind : (set : ℕ) (r : Session) (row : List Session) → Held p d (set / 2) row → Held p d set (r ∷ row)
  behind set r row w =
      record { place = suc w.place; inside = omega (arith, w.inside); taken = at_suc set w.place ∙ w.taken; passes = w.passes }

  pub any_held : (set : ℕ) (row : List Session) → any p (opens set row) ≡ true → Held p d set row
  unfolding any opens
  any_held set [] e = no_way e refl
  any_held set (r ∷ rs) e =
      split (first_on set)
      (λ o.
      ⊎_elim
      (λ q. record { place = 0; inside = omega arith; taken = at_zero set ∙ o; passes = q })
      (λ q. behind set r rs (any_held (set / 2) rs q))
      (or_cases (p r) (any p (opens (set / 2) rs)) (rw o at e)))
      (λ o. behind set r rs (any_held (set / 2) rs (rw o at e)))

  pub held_any : (set : ℕ) (row : List Session) (i : ℕ) → i < length row → occupied_at set i ≡ true → p (get_or row i d) ≡ true
      → any p (opens set row) ≡ true
  unfolding any opens
  held_any set [] i h o q = absurd (omega arith)
  held_any set (r ∷ rs) zero h o q = rw (sym (at_zero set) ∙ o) (or_left (any p (opens (set / 2) rs)) q)
  held_any set (r ∷ rs) (suc i) h o q =
      let w = held_any (set / 2) rs i (omega arith) (sym (at_suc set i) ∙ o) q in
      split (first_on set) (λ a. rw a (or_right (p r) w)) (λ a. rw a w)

-- two different occupied places whose records are the same
pub record TwoHeld (same : Session → Session → Bool) (d : Session) (set : ℕ) (row : List Session) : Type 0 where
  pub first : ℕ
  pub second : ℕ
  pub before : first < second
  pub inside : second < length row
  pub first_taken : occupied_at set first ≡ true
  pub second_taken : occupied_at set second ≡ true
  pub alike : same (get_or row first d) (get_or row second d) ≡ true

module _ (same : Session → Session → Bool) (d : Session) where
  both_behind : (set : ℕ) (r : Session) (row : List Session) → TwoHeld same d (set / 2) row → TwoHeld same d set (r ∷ row)
  both_behind set r row w =
      record {
        first = suc w.first;
        second = suc w.second;
        before = omega (arith, w.before);
        inside = omega (arith, w.inside);
        first_taken = at_suc set w.first ∙ w.first_taken;
        second_taken = at_suc set w.second ∙ w.second_taken;
        alike = w.alike;
      }

  one-behind : (set : ℕ) (r : Session) (row : List Session) → eqb (set % 2) 1 ≡ true → Held (same r) d (set / 2) row → TwoHeld same d set (r ∷ row)
  one-behind set r row o w =
      record {
        first = 0;
        second = suc w.place;
        before = omega arith;
        inside = omega (arith, w.inside);
        first_taken = at_zero set ∙ o;
        second_taken = at_suc set w.place ∙ w.taken;
        alike = w.passes;
      }

  pub once-two : (set : ℕ) (row : List Session) → once same (opens set row) ≡ false → TwoHeld same d set row
  unfolding once opens
  once-two set [] e = no_way refl e
  once-two set (r ∷ rs) e =
      split (first_on set)
      (λ o.
      split (any (same r) (opens (set / 2) rs))
      (λ q. one-behind set r rs o (any_held (same r) d (set / 2) rs q))
      (λ q. both_behind set r rs (once-two (set / 2) rs (rw (o, q) at e))))
      (λ o. both_behind set r rs (once-two (set / 2) rs (rw o at e)))

  pub two-once : (set : ℕ) (row : List Session) (i j : ℕ) → i < j → j < length row → occupied_at set i ≡ true → occupied_at set j ≡ true
      → same (get_or row i d) (get_or row j d) ≡ true → once same (opens set row) ≡ false
  unfolding once opens
  two-once set [] i j b h o u q = absurd (omega arith)
  two-once set (r ∷ rs) i zero b h o u q = absurd (omega arith)
  two-once set (r ∷ rs) zero (suc j) b h o u q =
      rw (sym (at_zero set) ∙ o, held_any (same r) d (set / 2) rs j (omega arith) (sym (at_suc set j) ∙ u) q)
  two-once set (r ∷ rs) (suc i) (suc j) b h o u q =
      let w = two-once (set / 2) rs i j (omega arith) (omega arith) (sym (at_suc set i) ∙ o) (sym (at_suc set j) ∙ u) q in
      split (first_on set) (λ a. rw a (and_right (not (any (same r) (opens (set / 2) rs))) w)) (λ a. rw a w)
