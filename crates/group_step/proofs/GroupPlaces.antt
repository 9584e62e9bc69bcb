-- The place of a group in the row: the record that is found by party and ID lies there, and in a table in order it is the place of that record's label.
-- Assumes nothing.
use Prim.Native.Nat.{ℕ, suc, ◌/◌, ◌<◌}
use native.Mathlib.Omega.{arith}
use mathlib.Core.Path.{◌≡◌, refl, sym, ap, ◌∙◌}
use mathlib.Core.Bool.{Bool, true, false, cond}
use mathlib.Core.Option.{Option, none, some}
use mathlib.Core.List.{List, [], ◌∷◌}
use lib.Dec.{ltb, leb-suc-suc}
use lib.ListN.{length, get_or, get_or-eq_default}
use borrow.Author.Tests.{eq-eqb, lt-ltb, ltb-false}
use Rattle.rules.proofs.Bools.{split}
use Rattle.session.specs.declared.Session.{Session}
use Rattle.table.specs.Places.{first_on, occupied_at, opens, place_of}
use Rattle.table.specs.Table.{Table, open_of, in_order, is_found, absent}
use Rattle.table.proofs.OccupiedSet.{at_zero, at_suc}
use Rattle.table.proofs.Found.{found-place}
use Rattle.grouping.specs.Grouped.{holds_group, find_group, label_of}
use Rattle.group_step.specs.GroupSeeing.{holder_place}

pub holder-found : (p id on : ℕ) (row : List Session) (d : Session)
    → find_group p id (opens on row) ≡ cond (ltb (holder_place p id on row) (length row)) (some (get_or row (holder_place p id on row) d)) none
unfolding opens holder_place find_group
holder-found p id on [] d = refl
holder-found p id on (r ∷ rs) d =
    let first : ltb 0 (suc (length rs)) ≡ true = lt-ltb 0 (suc (length rs)) (omega arith) in
    let later : ltb (suc (holder_place p id (on / 2) rs)) (suc (length rs)) ≡ ltb (holder_place p id (on / 2) rs) (length rs) = leb-suc-suc (suc (holder_place p id (on / 2) rs)) (length rs) in
    split (first_on on)
    (λ o. split (holds_group p id r)
    (λ e. simp (o, e, first))
    (λ e. simp (o, e, later) (holder-found p id (on / 2) rs d)))
    (λ o. simp (o, later) (holder-found p id (on / 2) rs d))

holder-taken : (p id on : ℕ) (row : List Session) → holder_place p id on row < length row → occupied_at on (holder_place p id on row) ≡ true
unfolding holder_place
holder-taken p id on [] h = absurd (omega arith)
holder-taken p id on (r ∷ rs) h =
    split (first_on on)
    (λ o. split (holds_group p id r)
    (λ e. rw (o, e) (at_zero on ∙ o))
    (λ e. rw (o, e) (at_suc on (holder_place p id (on / 2) rs) ∙ holder-taken p id (on / 2) rs (omega (arith, rw (o, e) at h)))))
    (λ o. rw o (at_suc on (holder_place p id (on / 2) rs) ∙ holder-taken p id (on / 2) rs (omega (arith, rw o at h))))

-- labels are once: whoever looks for the label of the group's record comes to the group's place
pub holder-label : (t : Table) → in_order t ≡ true → (p id : ℕ) → holder_place p id t.occupied t.row < length t.row
    → place_of (label_of (find_group p id (open_of t))) t.occupied t.row ≡ holder_place p id t.occupied t.row
holder-label t e p id h =
    let i = holder_place p id t.occupied t.row in
    let l = (get_or t.row i absent).settings.label in
    let there : find_group p id (open_of t) ≡ some (get_or t.row i absent) =
    holder-found p id t.occupied t.row absent ∙ rw (lt-ltb i (length t.row) h) in
    ap (λ (o : Option Session). place_of (label_of o) t.occupied t.row) there
    ∙ found-place t e l i h (holder-taken p id t.occupied t.row h) (eq-eqb l l refl)

-- what is found at a place of a row: a test of it is one of the record that is taken out there, where the record past the row's end fails it
pub found-test : (row : List Session) (i : ℕ) (o : Option Session) → o ≡ cond (ltb i (length row)) (some (get_or row i absent)) none
    → (test : Option Session → Bool) (f : Session → Bool) → ((r : Session) → test (some r) ≡ f r) → test none ≡ false → f absent ≡ false → test o ≡ f (get_or row i absent)
found-test row i o e test f there nothing past =
    split (ltb i (length row))
    (λ b. ap test (e ∙ rw b) ∙ there (get_or row i absent))
    (λ b. ap test (e ∙ rw b) ∙ nothing ∙ sym (ap f (get_or-eq_default row absent (ltb-false i (length row) b)) ∙ past))

-- whether there is any
pub found-any : (row : List Session) (i : ℕ) (o : Option Session) → o ≡ cond (ltb i (length row)) (some (get_or row i absent)) none → is_found o ≡ ltb i (length row)
found-any row i o e = split (ltb i (length row)) (λ b. rw (e, b)) (λ b. rw (e, b))
