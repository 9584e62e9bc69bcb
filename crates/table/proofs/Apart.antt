-- No two open records have one label, and no two of one party have one discriminator: one law for both, over the number of the settings that is compared.
-- What a call does to the row keeps the open records apart in it.
-- Assumes nothing.
use Prim.Native.Nat.{ℕ}
use mathlib.Core.Path.{◌≡◌, sym, ap, ◌∙◌}
use mathlib.Core.Bool.{Bool, true, false, not, ◌&&◌}
use mathlib.Core.Option.{some}
use mathlib.Core.List.{List}
use lib.ListN.{length}
use lib.Dec.{eqb}
use borrow.Author.Tests.{not-true}
use Rattle.octets.proofs.Chain.{and_both}
use Rattle.rules.specs.declared.Settings.{Settings}
use Rattle.rules.specs.Parties.{own_discriminator}
use Rattle.rules.specs.Lists.{any, once}
use Rattle.rules.proofs.Bools.{or_left, or_right, refuted, true-false}
use Rattle.rules.proofs.Lists.{Inserted, once-inserted, any_at, any-who, any_same, Alike, numbers-alike}
use Rattle.session.specs.declared.Session.{Session}
use Rattle.session.specs.Steps.{new_session}
use Rattle.table.specs.Places.{occupied_of, has_label}
use Rattle.table.specs.Table.{Table, open_of, find, rivals, absent, altered, added, closed}
use Rattle.table.proofs.Rows.{opens-altered, opens-added, opens-closed, free-exists, once-update}

-- an open puts one record among the open ones, a close takes one out
pub added-one : (t : Table) (g : Settings) (u : ℕ) → length t.row ≡ 64 → (occupied_of 64 t.occupied ≡ 64 → ⊥)
    → Inserted (new_session g u) (open_of t) (open_of (added t g u))
unfolding added
added-one t g u rows room = opens-added (new_session g u) 64 t.occupied t.row rows (free-exists 64 t.occupied room)

pub closed-one : (t : Table) (l u : ℕ) (r : Session) → find l (open_of t) ≡ some r → Inserted r (open_of (closed t l u)) (open_of t)
unfolding closed
closed-one t l u r e = opens-closed l t.occupied t.row r e

-- settings without a rival: no open record has their label, none in their party their discriminator
unrivalled : (p : Session → Bool) (g : Settings) → ((r : Session) → p r ≡ true → rivals g r ≡ true) → (rs : List Session)
    → any (rivals g) rs ≡ false → any p rs ≡ false
unrivalled p g k rs e = refuted (any p rs) (λ z. let w = any-who p rs z in true-false (any_at (rivals g) w.1 (k w.0 w.2)) e)

pub no_label : (g : Settings) (rs : List Session) → any (rivals g) rs ≡ false → any (has_label g.label) rs ≡ false
no_label g rs e = unrivalled (has_label g.label) g (λ r q. or_left _ q) rs e

pub no-discriminator : (g : Settings) (rs : List Session) → any (rivals g) rs ≡ false
    → any (λ (r : Session). eqb (own_discriminator r.settings) (own_discriminator g)) rs ≡ false
no-discriminator g rs e =
    unrivalled (λ (r : Session). eqb (own_discriminator r.settings) (own_discriminator g)) g (λ r q. or_right (eqb r.settings.label g.label) q) rs e

-- two records have this number of their settings in common
abbrev pub same_in : (Settings → ℕ) → Session → Session → Bool
same_in number a b = eqb (number a.settings) (number b.settings)

module _ (number : Settings → ℕ) where
  alike-in : Alike (same_in number)
  alike-in =
      record {
        itself = λ a. numbers-alike.itself (number a.settings);
        back = λ a b. numbers-alike.back (number a.settings) (number b.settings);
        through = λ a b c p q. numbers-alike.through (number a.settings) (number b.settings) (number c.settings) p q;
      }

  -- a record altered that keeps its settings
  pub altered-apart : (t : Table) (l u : ℕ) (f : Session → Session) → ((r : Session) → (f r).settings ≡ r.settings)
      → once (same_in number) (open_of (altered t l f u)) ≡ once (same_in number) (open_of t)
  unfolding altered
  altered-apart t l u f k =
      ap (once (same_in number)) (opens-altered l f absent t.occupied t.row)
      ∙ once-update (same_in number) l f (open_of t) (λ a b. ap (λ (x : Settings). eqb (number x) (number b.settings)) (k a))
      (λ a b. ap (λ (x : Settings). eqb (number a.settings) (number x)) (k b))

  -- a new record whose number no open one has
  pub added-apart : (g : Settings) (u : ℕ) {xs ys : List Session} → Inserted (new_session g u) xs ys
      → any (λ (r : Session). eqb (number r.settings) (number g)) xs ≡ false → once (same_in number) xs ≡ true → once (same_in number) ys ≡ true
  unfolding new_session
  added-apart g u {xs} i free e =
      let unlike : any (same_in number (new_session g u)) xs ≡ false =
      any_same (same_in number (new_session g u)) (λ (r : Session). eqb (number r.settings) (number g)) (λ r. numbers-alike.back (number g) (number r.settings)) xs
      ∙ free in
      once-inserted (same_in number) alike-in i ∙ (λ j. not (unlike j) && e j)

  -- a record less: the others are apart, and none of them has its number
  pub closed-apart : (r : Session) {xs ys : List Session} → Inserted r xs ys → once (same_in number) ys ≡ true
      → (any (same_in number r) xs ≡ false) × (once (same_in number) xs ≡ true)
  closed-apart r {xs} i e =
      let a = and_both (not (any (same_in number r) xs)) (once (same_in number) xs) (sym (once-inserted (same_in number) alike-in i) ∙ e) in
      (not-true _ a.0, a.1)
