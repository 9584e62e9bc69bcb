-- No two groups of one party have one ID: what a call does to the row keeps the open records apart in it.
-- Assumes nothing.
use Prim.Native.Nat.{ℕ}
use mathlib.Core.Path.{◌≡◌, refl, sym, ap, ◌∙◌}
use mathlib.Core.Bool.{Bool, true, false, not, ◌&&◌}
use mathlib.Core.List.{List, [], ◌∷◌}
use lib.Dec.{eqb}
use borrow.Author.Tests.{not-true}
use Rattle.octets.proofs.Chain.{and_both}
use Rattle.rules.specs.declared.Settings.{Settings}
use Rattle.rules.specs.Parties.{own_number}
use Rattle.rules.specs.Lists.{any, once}
use Rattle.rules.proofs.Lists.{Inserted, inserted-once, numbers-alike}
use Rattle.session.specs.declared.Session.{Session}
use Rattle.session.specs.Steps.{new_session}
use Rattle.table.specs.Table.{Table, open_of, has_group, own_group, same_group, absent, altered}
use Rattle.table.proofs.Rows.{opens-altered, once-update}

-- two records have a group of one ID, or neither has one
abbrev pub SameId : Session → Session → Type 0
SameId a b = (a.group.set ≡ b.group.set) × (a.group.id ≡ b.group.id)

-- which comes first is not asked
and-swap : (a b : Bool) → a && b ≡ b && a
and-swap true true = refl
and-swap true false = refl
and-swap false true = refl
and-swap false false = refl

pub group-back : (a b : Session) → same_group a b ≡ same_group b a
group-back a b = λ i. and-swap (has_group a) (has_group b) i && numbers-alike.back (own_group a) (own_group b) i

-- a record altered that keeps its settings and the ID of its group
pub altered-groups : (t : Table) (l u : ℕ) (f : Session → Session) → ((r : Session) → (f r).settings ≡ r.settings) → ((r : Session) → SameId (f r) r)
    → once same_group (open_of (altered t l f u)) ≡ once same_group (open_of t)
unfolding altered
altered-groups t l u f k i =
    ap (once same_group) (opens-altered l f absent t.occupied t.row)
    ∙ once-update same_group l f (open_of t)
    (λ a b j. (eqb ((i a).0 j) 1 && has_group b) && eqb (own a j) (own_group b))
    (λ a b j. (has_group a && eqb ((i b).0 j) 1) && eqb (own_group a) (own b j))
  where
    own : (r : Session) → own_group (f r) ≡ own_group r
    own r = λ j. own_number (k r j).label ((i r).1 j)

-- a record without a group is like no other
pub none-like : (r : Session) → has_group r ≡ false → (rs : List Session) → any (same_group r) rs ≡ false
unfolding any
none-like r e [] = refl
none-like r e (x ∷ rs) = let rest = none-like r e rs in rw e rest

-- a new record has no group
pub added-groups : (g : Settings) (u : ℕ) {xs ys : List Session} → Inserted (new_session g u) xs ys → once same_group xs ≡ true → once same_group ys ≡ true
unfolding new_session
added-groups g u {xs} i e = inserted-once same_group group-back i ∙ (λ j. not (none-like (new_session g u) refl xs j) && e j)

-- a record less: the others are apart, and none of them has its group
pub closed-groups : (r : Session) {xs ys : List Session} → Inserted r xs ys → once same_group ys ≡ true
    → (any (same_group r) xs ≡ false) × (once same_group xs ≡ true)
closed-groups r {xs} i e =
    let a = and_both (not (any (same_group r) xs)) (once same_group xs) (sym (inserted-once same_group group-back i) ∙ e) in
    (not-true _ a.0, a.1)
