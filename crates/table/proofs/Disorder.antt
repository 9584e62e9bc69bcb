-- 26, for every table and every call: the answer is 26 exactly where the paper's words for it hold, and then its number alone is said.
-- Assumes nothing.
use Prim.Native.Nat.{ℕ, ◌<◌}
use native.Mathlib.Omega.{arith}
use mathlib.Core.Path.{◌≡◌, ap}
use mathlib.Core.Bool.{Bool, true, false, not}
use mathlib.Core.Logic.{◌↔◌}
use lib.ListN.{length}
use borrow.Author.Tests.{eqb-true, eqb-false, not-true, not-false, eq-eqb, ne_eqb, leb-false}
use Rattle.rules.specs.Parties.{own_most}
use Rattle.rules.specs.Lists.{any, once}
use Rattle.rules.specs.Calls.{Call, number_only}
use Rattle.octets.proofs.Chain.{and_both}
use Rattle.rules.proofs.Bools.{split, both_true, refuted}
use Rattle.rules.proofs.Failing.{one-fails, and-false}
use Rattle.rules.proofs.TwoParties.{same_number, same-own}
use Rattle.session.specs.declared.Session.{Session}
use Rattle.session.specs.Soundness.{session_sound}
use Rattle.session.proofs.Unsound.{session-unsound}
use Rattle.table.specs.Places.{occupied_at}
use Rattle.table.specs.Table.{Table, open_of, same_label, same_discriminator, same_group, in_order, asked, answer, absent}
use Rattle.table.specs.Disorder.{record_at, OpenAt, Disorder, not_of64, record_unsound, label_shared, discriminator_shared, too_many, group_shared}
use Rattle.table.proofs.Numbers.{asked-most}
use Rattle.table.proofs.OpenPlaces.{any_held, held_any, once-two, two-once}
use Rattle.table.proofs.Order.{order-says}

module _ (t : Table) where
  open_at_lem : (i : ℕ) → i < length t.row → occupied_at t.occupied i ≡ true → OpenAt t i
  unfolding occupied_at
  open_at_lem i h o = record { inside = h; marked = eqb-true _ 1 o }

  is-occupied : (i : ℕ) → OpenAt t i → occupied_at t.occupied i ≡ true
  unfolding occupied_at
  is-occupied i o = eq-eqb _ 1 o.marked

  -- an open record that is not sound
  unsound-told : not (any (λ r. not (session_sound r t.clock)) (open_of t)) ≡ false → Disorder t
  unsound-told e =
      let w = any_held (λ r. not (session_sound r t.clock)) absent t.occupied t.row (not-false _ e) in
      record_unsound w.place (open_at_lem w.place w.inside w.taken) ((session-unsound _ t.clock).0 (not-true _ w.passes))

  -- two open records that are the same in one thing
  module _ (same : Session → Session → Bool) where
    two-told : (P : Type 0) → ((i j : ℕ) → i < j → OpenAt t i → OpenAt t j → same (record_at t i) (record_at t j) ≡ true → P)
        → once same (open_of t) ≡ false → P
    two-told P f e =
        let w = once-two same absent t.occupied t.row e in
        f w.first w.second w.before (open_at_lem w.first (omega (arith, w.before, w.inside)) w.first_taken)
        (open_at_lem w.second w.inside w.second_taken) w.alike

    two-untold : (i j : ℕ) → i < j → OpenAt t i → OpenAt t j → same (record_at t i) (record_at t j) ≡ true → once same (open_of t) ≡ false
    two-untold i j b o u e =
        two-once same absent t.occupied t.row i j b u.inside (is-occupied i o) (is-occupied j u) e

  group-told : (i j : ℕ) → i < j → OpenAt t i → OpenAt t j → same_group (record_at t i) (record_at t j) ≡ true → Disorder t
  group-told i j b o u e =
      let a = and_both _ _ e in
      let g = and_both _ _ a.0 in
      let w = (same_number (record_at t i).settings.label (record_at t j).settings.label (record_at t i).group.id (record_at t j).group.id).0 (eqb-true _ _ a.1) in
      group_shared i j b o u (eqb-true _ 1 g.0) (eqb-true _ 1 g.1) w.0 w.1

  told : in_order t ≡ false → Disorder t
  unfolding in_order
  told =
      one-fails
      (one-fails
      (one-fails
      (one-fails
      (one-fails (one-fails (λ e. not_of64 (eqb-false _ 64 e)) unsound-told)
      (two-told same_label (Disorder t) (λ i j b o u e. label_shared i j b o u (eqb-true _ _ e))))
      (two-told same_discriminator (Disorder t)
      (λ i j b o u e.
      let w = (same-own (record_at t i).settings (record_at t j).settings).0 (eqb-true _ _ e) in
      discriminator_shared i j b o u w.0 w.1)))
      (λ e. too_many 0 (leb-false _ own_most e)))
      (λ e. too_many 1 (leb-false _ own_most e)))
      (two-told same_group (Disorder t) group-told)

  untold : Disorder t → in_order t ≡ false
  unfolding in_order
  untold (not_of64 n) = rw (ne_eqb (length t.row) 64 n)
  untold (record_unsound i o w) =
      let e : not (any (λ r. not (session_sound r t.clock)) (open_of t)) ≡ false =
      ap not
      (held_any (λ r. not (session_sound r t.clock)) absent t.occupied t.row i o.inside (is-occupied i o)
      (ap not ((session-unsound (record_at t i) t.clock).1 w))) in
      simp (e, and-false)
  untold (label_shared i j b o u e) = simp (two-untold same_label i j b o u (eq-eqb _ _ e), and-false)
  untold (discriminator_shared i j b o u p e) =
      simp (two-untold same_discriminator i j b o u (eq-eqb _ _ ((same-own (record_at t i).settings (record_at t j).settings).1 (p, e))), and-false)
  untold (group_shared i j b o u g h p e) =
      let w = (same_number (record_at t i).settings.label (record_at t j).settings.label (record_at t i).group.id (record_at t j).group.id).1 (p, e) in
      simp (two-untold same_group i j b o u (both_true (both_true (eq-eqb _ 1 g) (eq-eqb _ 1 h)) (eq-eqb _ _ w)), and-false)
  untold (too_many p h) = refuted (in_order t) (λ z. omega (arith, (order-says t z).each p, h))

  pub table-disorder : (in_order t ≡ false) ↔ Disorder t
  table-disorder = (told, untold)

  asked-number : (c : Call) → in_order t ≡ true → (answer t c).number ≡ (asked t c).number
  unfolding answer
  asked-number c o = rw o

  -- 26 says its number alone
  pub disorder-answer : (c : Call) → Disorder t → answer t c ≡ number_only c 26
  unfolding answer
  disorder-answer c w = rw (untold w)

  -- and is given for nothing else
  pub exactly-26 : (c : Call) → ((answer t c).number ≡ 26) ↔ Disorder t
  exactly-26 c = (
    λ e. split (in_order t) (λ o. absurd (omega (arith, asked-most t c, asked-number c o, e))) told,
    λ w. ap (λ a. a.number) (disorder-answer c w),
  )
