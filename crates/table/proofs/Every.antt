-- Every open record passes a test: what follows for a list whose records pass another, with one of them altered, or with one more.
-- Assumes nothing.
use Prim.Native.Nat.{ℕ}
use mathlib.Core.Path.{◌≡◌, refl, sym, ap, ◌∙◌}
use mathlib.Core.Bool.{Bool, true, false, not, ◌&&◌, ◌||◌}
use mathlib.Core.Option.{some}
use mathlib.Core.List.{List, [], ◌∷◌}
use Rattle.octets.proofs.Chain.{and_both}
use Rattle.rules.specs.Lists.{any}
use Rattle.rules.proofs.Bools.{split, both_true}
use Rattle.rules.proofs.Lists.{Inserted, any-inserted}
use Rattle.session.specs.declared.Session.{Session}
use Rattle.table.specs.Places.{has_label}
use Rattle.table.specs.Table.{every, find}
use Rattle.table.proofs.Rows.{update}

both-not : (a b : Bool) → not (not a || b) ≡ a && not b
both-not true b = refl
both-not false b = refl

pub every-cons : (p : Session → Bool) (r : Session) (rs : List Session) → every p (r ∷ rs) ≡ p r && every p rs
unfolding any
every-cons p r rs = both-not (p r) (any (λ x. not (p x)) rs)

pub every_inserted : (p : Session → Bool) {n : Session} {xs ys : List Session} → Inserted n xs ys → every p ys ≡ p n && every p xs
every_inserted p {n} {xs} i = ap not (any-inserted (λ x. not (p x)) i) ∙ both-not (p n) (any (λ x. not (p x)) xs)

module _ (p q : Session → Bool) (k : (r : Session) → p r ≡ true → q r ≡ true) where
  -- where each that passes the one test passes the other
  pub every-on : (rs : List Session) → every p rs ≡ true → every q rs ≡ true
  every-on [] e = unfold any in refl
  every-on (r ∷ rs) e =
      let w = and_both (p r) (every p rs) (sym (every-cons p r rs) ∙ e) in
      every-cons q r rs ∙ both_true (k r w.0) (every-on rs w.1)

  -- and the record of a label passes it once it is altered
  pub every-update : (l : ℕ) (f : Session → Session) (rs : List Session)
      → ((r : Session) → find l rs ≡ some r → p r ≡ true → q (f r) ≡ true) → every p rs ≡ true → every q (update l f rs) ≡ true
  unfolding update find
  every-update l f [] m e = unfold any in refl
  every-update l f (r ∷ rs) m e =
      let w = and_both (p r) (every p rs) (sym (every-cons p r rs) ∙ e) in
      split (has_label l r)
      (λ a. rw a (every-cons q (f r) rs ∙ both_true (m r (rw a) w.0) (every-on rs w.1)))
      (λ a. rw a (every-cons q r (update l f rs) ∙ both_true (k r w.0) (every-update l f rs (λ x g. m x (rw a g)) w.1)))
