-- The place of a label in the row. In a table in order an occupied place whose record has the label is that place, however it was come by: by a
-- search that ends at its first hit, or by a hint that is looked at. A search for a label, or for a record with the discriminator 0, which no sound one has, finds it too.
-- Assumes nothing.
use Prim.Native.Nat.{ℕ, zero, suc, ◌/◌, ◌<◌}
use native.Mathlib.Omega.{arith}
use mathlib.Core.Path.{◌≡◌, refl, sym, ap, ◌∙◌}
use mathlib.Core.Bool.{true, false, cond, not}
use mathlib.Core.List.{List, [], ◌∷◌}
use lib.ListN.{length, get_or}
use borrow.Author.Tests.{eqb-true, eq-eqb, ne_eqb, ltb-true, not-true}
use Rattle.octets.proofs.Chain.{and_both}
use Rattle.rules.specs.Lists.{any, once}
use Rattle.rules.proofs.Bools.{split, refuted, true-false}
use Rattle.rules.proofs.Fitting.{settings-say}
use Rattle.session.specs.declared.Session.{Session}
use Rattle.session.specs.Soundness.{session_sound}
use Rattle.session.proofs.Sound.{sound-says}
use Rattle.table.specs.Places.{first_on, occupied_at, opens, has_label, place_of, hits, first_hit}
use Rattle.table.specs.Table.{Table, same_label, every, in_order, absent}
use Rattle.table.specs.Hints.{holds, hint_of, placed_by}
use Rattle.table.proofs.OccupiedSet.{at_zero, at_suc}
use Rattle.table.proofs.OpenPlaces.{held_any}
use Rattle.table.proofs.Every.{every-cons}
use Rattle.table.proofs.Order.{order-says}

-- a record with the same label
same-label : (l : ℕ) (a b : Session) → has_label l a ≡ true → has_label l b ≡ true → same_label a b ≡ true
same-label l a b p q = eq-eqb a.settings.label b.settings.label (eqb-true a.settings.label l p ∙ sym (eqb-true b.settings.label l q))

-- where no two open records have one label
pub only-place : (l on : ℕ) (row : List Session) (i : ℕ) → once same_label (opens on row) ≡ true
    → i < length row → occupied_at on i ≡ true → has_label l (get_or row i absent) ≡ true → place_of l on row ≡ i
unfolding opens once place_of
only-place l on [] i e h o k = absurd (omega arith)
only-place l on (r ∷ rs) zero e h o k = rw (sym (at_zero on) ∙ o, k)
only-place l on (r ∷ rs) (suc i) e h o k =
    let o' : occupied_at (on / 2) i ≡ true = sym (at_suc on i) ∙ o in
    split (first_on on)
    (λ a.
    let w = and_both (not (any (same_label r) (opens (on / 2) rs))) (once same_label (opens (on / 2) rs)) (rw a at e) in
    let unlike : has_label l r ≡ false =
    refuted (has_label l r)
    (λ z. true-false (held_any (same_label r) absent (on / 2) rs i (omega arith) o' (same-label l r (get_or rs i absent) z k)) (not-true _ w.0)) in
    rw (a, unlike) (ap suc (only-place l (on / 2) rs i w.1 (omega arith) o' k)))
    (λ a. rw a (ap suc (only-place l (on / 2) rs i (rw a at e) (omega arith) o' k)))

-- the place holds the label, if it is in the row: for every table
pub place-holds : (l on : ℕ) (row : List Session) → place_of l on row < length row
    → (occupied_at on (place_of l on row) ≡ true) × (has_label l (get_or row (place_of l on row) absent) ≡ true)
unfolding place_of
place-holds l on [] h = absurd (omega arith)
place-holds l on (r ∷ rs) h =
    split (first_on on)
    (λ a. split (has_label l r)
    (λ k. rw (a, k) (at_zero on ∙ a, k))
    (λ k.
    let w = place-holds l (on / 2) rs (omega (arith, rw (a, k) at h)) in
    rw (a, k) (at_suc on (place_of l (on / 2) rs) ∙ w.0, w.1)))
    (λ a.
    let w = place-holds l (on / 2) rs (omega (arith, rw a at h)) in
    rw a (at_suc on (place_of l (on / 2) rs) ∙ w.0, w.1))

-- and is the row's length where no place holds it: for every table. So a search that comes to the end without a hit has it too
pub no_place : (l on : ℕ) (row : List Session)
    → ((i : ℕ) → i < length row → occupied_at on i ≡ true → has_label l (get_or row i absent) ≡ false) → place_of l on row ≡ length row
unfolding place_of
no_place l on [] f = refl
no_place l on (r ∷ rs) f =
    let rest = ap suc (no_place l (on / 2) rs (λ i h o. f (suc i) (omega arith) (at_suc on i ∙ o))) in
    split (first_on on)
    (λ a. rw (a, f 0 (omega arith) (at_zero on ∙ a)) rest)
    (λ a. rw a rest)

-- in a table in order, an occupied place whose record has the label is the place
pub found-place : (t : Table) → in_order t ≡ true → (l i : ℕ)
    → i < length t.row → occupied_at t.occupied i ≡ true → has_label l (get_or t.row i absent) ≡ true → place_of l t.occupied t.row ≡ i
found-place t e l i h o k = only-place l t.occupied t.row i (order-says t e).labels h o k

-- a hint, whatever it is: taken where it holds the label, else the place that a search gives
abbrev pub hinted : ℕ → ℕ → List Session → ℕ → ℕ → ℕ
hinted l on row hint searched = cond (holds l on row hint) hint searched

pub hint-right : (t : Table) → in_order t ≡ true → (l hint : ℕ) → hinted l t.occupied t.row hint (place_of l t.occupied t.row) ≡ place_of l t.occupied t.row
hint-right t e l hint =
    split (holds l t.occupied t.row hint)
    (λ a.
    let w = and_both _ _ a in
    let v = and_both _ _ w.0 in
    rw a (sym (found-place t e l hint (ltb-true hint (length t.row) v.0) v.1 w.1)))
    (λ a. rw a)

-- a sound record's discriminator is not 0
sound-hits : (l clock : ℕ) (r : Session) → session_sound r clock ≡ true → hits l 0 r ≡ has_label l r
sound-hits l clock r e =
    let none = ne_eqb r.settings.discriminator 0 (settings-say r.settings (sound-says r clock e).settings).discriminator in
    split (has_label l r) (λ a. rw a) (λ a. rw (a, none))

-- so where every open record is sound, the search with 0 is for the label alone
first-sound : (l clock on : ℕ) (row : List Session) → every (λ r. session_sound r clock) (opens on row) ≡ true → first_hit l 0 on row ≡ place_of l on row
unfolding first_hit place_of opens
first-sound l clock on [] e = refl
first-sound l clock on (r ∷ rs) e =
    split (first_on on)
    (λ a.
    let w = and_both _ _ (sym (every-cons (λ x. session_sound x clock) r (opens (on / 2) rs)) ∙ rw a at e) in
    rw a (λ i. cond (sound-hits l clock r w.0 i) 0 (suc (first-sound l clock (on / 2) rs w.1 i))))
    (λ a. rw a (ap suc (first-sound l clock (on / 2) rs (rw a at e))))

-- in a table in order the first record with the label or the discriminator 0 is that with the label
pub first-label : (t : Table) → in_order t ≡ true → (l : ℕ) → first_hit l 0 t.occupied t.row ≡ place_of l t.occupied t.row
first-label t e l = first-sound l t.clock t.occupied t.row (order-says t e).sound

-- the place by the hints is the place, whatever the hints are
pub known-place : (t : Table) → in_order t ≡ true → (l : ℕ) (hints : List ℕ) → (placed_by t.row hints t.occupied l).place ≡ place_of l t.occupied t.row
unfolding placed_by
known-place t e l hints =
    let hint = hint_of hints l in
    split (holds l t.occupied t.row hint)
    (λ a. rw a (rw a at (hint-right t e l hint)))
    (λ a. rw a (first-label t e l))
