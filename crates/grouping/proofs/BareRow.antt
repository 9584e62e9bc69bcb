-- A row of records without their groups: which are open, where, and what a label finds.
-- Assumes nothing.
use Prim.Native.Nat.{ℕ, zero, suc, ◌/◌}
use mathlib.Core.Path.{◌≡◌, refl, sym, ap, ◌∙◌}
use mathlib.Core.Bool.{Bool, cond, not, ◌&&◌, ◌||◌}
use mathlib.Core.Option
use mathlib.Core.List.{List, [], ◌∷◌, map}
use lib.ListN.{get_or, set, get_or-map}
use Rattle.rules.specs.Lists.{any, once}
use Rattle.rules.proofs.Bools.{split}
use Rattle.rules.proofs.Counting.{one_if, count, count-cons}
use Rattle.session.specs.declared.Session.{Session}
use Rattle.session.specs.Steps.{new_session}
use Rattle.table.specs.Places.{first_on, opens, has_label, place_of}
use Rattle.table.specs.Table.{find, absent}
use Rattle.grouping.specs.Grouped.{with_group}
use Rattle.grouping.specs.Bare.{bare}

pub bare-opens : (on : ℕ) (row : List Session) → opens on (map bare row) ≡ map bare (opens on row)
unfolding opens
bare-opens on [] = refl
bare-opens on (r ∷ rs) =
    split (first_on on) (λ o. rw o (ap (λ (xs : List Session). bare r ∷ xs) (bare-opens (on / 2) rs))) (λ o. rw o (bare-opens (on / 2) rs))

pub bare-place : (l on : ℕ) (row : List Session) → place_of l on (map bare row) ≡ place_of l on row
unfolding place_of bare with_group
bare-place l on [] = refl
bare-place l on (r ∷ rs) = ap (λ (n : ℕ). cond (first_on on && has_label l r) 0 (suc n)) (bare-place l (on / 2) rs)

pub bare-find : (l : ℕ) (rs : List Session) → find l (map bare rs) ≡ Option.map bare (find l rs)
unfolding find bare with_group
bare-find l [] = refl
bare-find l (r ∷ rs) = split (has_label l r) (λ q. rw q) (λ q. rw q (bare-find l rs))

-- the record at a place, and one stored there
pub bare-at : (row : List Session) (i : ℕ) → get_or (map bare row) i absent ≡ bare (get_or row i absent)
unfolding bare with_group new_session
bare-at row i = get_or-map bare row i absent

pub bare_set : (row : List Session) (i : ℕ) (r : Session) → map bare (set row i r) ≡ set (map bare row) i (bare r)
bare_set [] i r = refl
bare_set (x ∷ xs) zero r = refl
bare_set (x ∷ xs) (suc i) r = ap (λ (ys : List Session). bare x ∷ ys) (bare_set xs i r)

-- tests of the open records
pub bare-any : (p q : Session → Bool) → ((r : Session) → p (bare r) ≡ q r) → (rs : List Session) → any p (map bare rs) ≡ any q rs
unfolding any
bare-any p q k [] = refl
bare-any p q k (r ∷ rs) = λ i. k r i || bare-any p q k rs i

pub bare-once : (same : Session → Session → Bool) → ((a b : Session) → same (bare a) (bare b) ≡ same a b) → (rs : List Session)
    → once same (map bare rs) ≡ once same rs
unfolding once
bare-once same k [] = refl
bare-once same k (r ∷ rs) = λ i. not (bare-any (same (bare r)) (same r) (k r) rs i) && bare-once same k rs i

pub bare-count : (p : Session → Bool) → ((r : Session) → p (bare r) ≡ p r) → (rs : List Session) → count p (map bare rs) ≡ count p rs
bare-count p k [] = refl
bare-count p k (r ∷ rs) = count-cons p (bare r) (map bare rs) ∙ (λ i. one_if (k r i) (bare-count p k rs i)) ∙ sym (count-cons p r rs)
