-- What is found by a party and an ID is an open record that holds this group, and in a table in order its label finds it. What is found by a label that a
-- party names is its own.
-- Assumes nothing.
use Prim.Native.Nat.{ℕ, ◌≤◌}
use native.Mathlib.Omega.{arith}
use mathlib.Core.Path.{◌≡◌, refl, sym, ap, ◌∙◌, subst}
use mathlib.Core.Bool.{Bool, true, false, not}
use mathlib.Core.Option.{Option, none, some}
use mathlib.Core.List.{List, [], ◌∷◌, Memᴰ}
use borrow.Author.Tests.{eqb-true, not-true}
use Rattle.octets.proofs.Chain.{and_both}
use Rattle.rules.specs.Parties.{is_of, own_label}
use Rattle.rules.specs.Lists.{any}
use Rattle.rules.proofs.Bools.{split, no_way, forced, true-false}
use Rattle.rules.proofs.Lists.{any_at}
use Rattle.rules.proofs.Fitting.{settings-say}
use Rattle.homing.specs.Messages.{has_id}
use Rattle.session.specs.declared.Session.{Session}
use Rattle.session.specs.Soundness.{session_sound}
use Rattle.session.proofs.Sound.{sound-says}
use Rattle.table.specs.Table.{Table, open_of, has_group, every, in_order, find, is_found}
use Rattle.table.proofs.Rows.{found-is, found-own}
use Rattle.table.proofs.Order.{order-says}
use Rattle.grouping.specs.Grouped.{holds_group, find_group, label_of}

-- something was found
pub found_some : (o : Option Session) → is_found o ≡ true → (r : Session) × (o ≡ some r)
found_some none e = no_way e refl
found_some (some r) e = (r, refl)

-- what is found is open and holds the group
pub holder-is : (p id : ℕ) (rs : List Session) (r : Session) → find_group p id rs ≡ some r → Memᴰ r rs × (holds_group p id r ≡ true)
unfolding find_group
holder-is p id [] r e = absurd (let z : ◌≡◌ {A = ℕ} 0 1 = cc in omega arith)
holder-is p id (x ∷ rs) r e =
    split (holds_group p id x)
    (λ q. let w : some x ≡ some r = simp q at e in let o : x ≡ r = cc in (Memᴰ.head (sym o), subst (λ (y : Session). holds_group p id y ≡ true) o q))
    (λ q. let m = holder-is p id rs r (simp q at e) in (Memᴰ.tail m.0, m.1))

-- of this party, with a group, of this ID
pub record Holds (p n : ℕ) (r : Session) : Type 0 where
  pub party : is_of p r.settings.label ≡ true
  pub grouped : has_group r ≡ true
  pub id : r.group.id ≡ n

pub holder-says : (p id : ℕ) (r : Session) → holds_group p id r ≡ true → Holds p id r
holder-says p id r e =
    let a = and_both (is_of p r.settings.label) (has_id id r.group) e in
    let b = and_both (has_group r) _ a.1 in
    record { party = a.0; grouped = b.0; id = eqb-true r.group.id id b.1 }

-- nobody holds a group that is not found
pub no-holder : (p id : ℕ) (rs : List Session) → is_found (find_group p id rs) ≡ false → any (holds_group p id) rs ≡ false
unfolding find_group any
no-holder p id [] e = refl
no-holder p id (r ∷ rs) e =
    split (holds_group p id r) (λ q. no_way refl (simp q at e)) (λ q. simp q (no-holder p id rs (simp q at e)))

-- one of those that every one passes
pub every-at : (p : Session → Bool) (rs : List Session) (r : Session) → every p rs ≡ true → Memᴰ r rs → p r ≡ true
every-at p rs r e m = forced (p r) (λ z. true-false (any_at (λ x. not (p x)) m (ap not z)) (not-true _ e))

module _ (t : Table) (e : in_order t ≡ true) where
  -- each open record is sound, and its label finds it
  pub open-sound : (r : Session) → Memᴰ r (open_of t) → session_sound r t.clock ≡ true
  open-sound r m = every-at (λ x. session_sound x t.clock) (open_of t) r (order-says t e).sound m

  pub open-found : (r : Session) → Memᴰ r (open_of t) → find r.settings.label (open_of t) ≡ some r
  open-found r m = found-own (open_of t) r (order-says t e).labels m

  -- so the label of a group's holder finds the holder
  pub holder-found : (p id : ℕ) (r : Session) → find_group p id (open_of t) ≡ some r → find (label_of (find_group p id (open_of t))) (open_of t) ≡ some r
  holder-found p id r f = ap (λ (o : Option Session). find (label_of o) (open_of t)) f ∙ open-found r (holder-is p id (open_of t) r f).0

  -- the label of an open record is a label
  pub label-open : (l : ℕ) (r : Session) → find l (open_of t) ≡ some r → (16 ≤ l) × (l ≤ 1048575)
  label-open l r f =
      let w = found-is l (open_of t) r f in
      let s = settings-say r.settings (sound-says r t.clock (open-sound r w.0)).settings in
      (omega (arith, s.label_low, w.1), omega (arith, s.label_high, w.1))

  -- and one that a party names is its own, for 0 is no label
  pub own_open : (p l : ℕ) (r : Session) → find (own_label p l) (open_of t) ≡ some r → is_of p l ≡ true
  own_open p l r f =
      let w = (label-open (own_label p l) r f).0 in
      forced (is_of p l) (λ z. omega (arith, rw z at w))
