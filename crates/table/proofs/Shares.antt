-- How many sessions of each party are open: what a call that is accepted makes of it, and that a party which has not opened 32 finds a free place.
-- Assumes nothing.
use Prim.Native.Nat.{ℕ, zero, suc, ◌≤◌}
use native.Mathlib.Omega.{arith}
use mathlib.Core.Path.{◌≡◌, refl, sym, ap, ◌∙◌}
use mathlib.Core.Bool.{Bool}
use mathlib.Core.List.{List, [], ◌∷◌}
use lib.ListN.{length}
use borrow.Author.Tests.{eqb-true}
use Rattle.rules.specs.declared.Settings.{Settings}
use Rattle.rules.specs.Parties.{party_of, is_of, own_most}
use Rattle.rules.proofs.Bools.{split}
use Rattle.rules.proofs.Lists.{Inserted}
use Rattle.rules.proofs.Counting.{one_if, count, count-cons, count-inserted}
use Rattle.rules.proofs.TwoParties.{both-parties}
use Rattle.session.specs.declared.Session.{Session}
use Rattle.session.specs.Steps.{new_session}
use Rattle.table.specs.Places.{occupied_of, has_label}
use Rattle.table.specs.Table.{Table, open_of, open_by, absent, altered}
use Rattle.table.proofs.Rows.{update, opens-altered, count-opens}

-- a record is a party's
abbrev pub held_by : ℕ → Session → Bool
held_by p r = is_of p r.settings.label

-- a record altered that keeps its settings
count-update : (q : Session → Bool) (l : ℕ) (f : Session → Session) (rs : List Session) → ((r : Session) → q (f r) ≡ q r) → count q (update l f rs) ≡ count q rs
unfolding update
count-update q l f [] k = refl
count-update q l f (r ∷ rs) k =
    split (has_label l r)
    (λ a. rw a (count-cons q (f r) rs ∙ ap (λ (b : Bool). one_if b (count q rs)) (k r) ∙ sym (count-cons q r rs)))
    (λ a. rw a (count-cons q r (update l f rs) ∙ ap (one_if (q r)) (count-update q l f rs k) ∙ sym (count-cons q r rs)))

pub altered-count : (t : Table) (l u : ℕ) (f : Session → Session) → ((r : Session) → (f r).settings ≡ r.settings) → (p : ℕ) → open_by p (altered t l f u) ≡ open_by p t
unfolding altered
altered-count t l u f k p =
    ap (count (held_by p)) (opens-altered l f absent t.occupied t.row)
    ∙ count-update (held_by p) l f (open_of t) (λ r. ap (λ (g : Settings). is_of p g.label) (k r))

-- a new record of a party that has not opened 32
pub added-each : (g : Settings) (u : ℕ) {xs ys : List Session} → Inserted (new_session g u) xs ys → (p : ℕ) → count (held_by p) xs ≤ own_most
    → ((party_of g.label ≡ p) → count (held_by p) xs ≡ own_most → ⊥) → count (held_by p) ys ≤ own_most
unfolding new_session
added-each g u {xs} i p h room =
    let more = count-inserted (held_by p) i in
    split (is_of p g.label)
    (λ e. let one = rw e at more in let free = room (eqb-true (party_of g.label) p e) in omega (arith, one, h, free))
    (λ e. let none = rw e at more in omega (arith, none, h))

-- a record less
pub closed-each : (r : Session) {xs ys : List Session} → Inserted r xs ys → (p : ℕ) → count (held_by p) ys ≤ own_most → count (held_by p) xs ≤ own_most
closed-each r i p h =
    let more = count-inserted (held_by p) i in
    split (held_by p r) (λ e. let one = rw e at more in omega (arith, one, h)) (λ e. let none = rw e at more in omega (arith, none, h))

-- 32 of each are 64, so a place is free for who has fewer
pub place-left : (t : Table) → length t.row ≡ 64 → ((p : ℕ) → open_by p t ≤ own_most) → (p : ℕ) → p ≤ 1 → (open_by p t ≡ own_most → ⊥)
    → occupied_of 64 t.occupied ≡ 64 → ⊥
place-left t rows each p two room full =
    less p two room
  where
    whole : length (open_of t) ≡ 64
    whole = count-opens t.occupied t.row ∙ ap (λ (n : ℕ). occupied_of n t.occupied) rows ∙ full

    less : (q : ℕ) → q ≤ 1 → (open_by q t ≡ own_most → ⊥) → ⊥
    less zero h n = n (omega (arith, each 0, each 1, both-parties (λ (r : Session). r.settings.label) (open_of t), whole))
    less (suc zero) h n = n (omega (arith, each 0, each 1, both-parties (λ (r : Session). r.settings.label) (open_of t), whole))
    less (suc (suc q)) h n = absurd (omega (arith, h))
