-- Each label has one of two parties; two settings have one discriminator within a party exactly where they have one party and one discriminator.
-- Assumes nothing.
use Prim.Native.Nat.{ℕ, suc, ◌+◌, ◌*◌, ◌≤◌}
use native.Mathlib.Omega.{arith}
use mathlib.Core.Path.{◌≡◌, refl, sym, ap, ◌∙◌}
use mathlib.Core.Bool.{Bool, true, false, not}
use mathlib.Core.List.{List}
use mathlib.Core.Logic.{◌↔◌}
use lib.Dec.{eqb, ltb}
use lib.ListN.{length}
use borrow.Author.Tests.{ne_eqb}
use Rattle.rules.specs.declared.Settings.{Settings}
use Rattle.rules.specs.Parties.{their_first, party_of, is_of, own_number, own_discriminator}
use Rattle.rules.proofs.Bools.{split}
use Rattle.rules.proofs.Counting.{count, count_same, count-both}

pub party-most : (l : ℕ) → party_of l ≤ 1
party-most l = split (ltb l their_first) (λ e. rw e (omega arith)) (λ e. rw e (omega arith))

-- who is not of the one is of the other
pub other-party : (l : ℕ) → not (is_of 0 l) ≡ is_of 1 l
other-party l = split (ltb l their_first) (λ e. rw e) (λ e. rw e)

-- a number above 1 is no party
pub no-party : (p l : ℕ) → is_of (suc (suc p)) l ≡ false
no-party p l = ne_eqb (party_of l) (suc (suc p)) (λ z. omega (arith, party-most l, z))

-- two numbers within parties are one exactly where number and party are
pub same_number : (k l m n : ℕ) → (own_number k m ≡ own_number l n) ↔ ((party_of k ≡ party_of l) × (m ≡ n))
same_number k l m n = (λ e. (omega (arith, most, e), omega (arith, most, e)), λ w. omega (arith, w.0, w.1))
  where
    most : (party_of k ≤ 1) × (party_of l ≤ 1)
    most = (party-most k, party-most l)

pub same-own : (g h : Settings) → (own_discriminator g ≡ own_discriminator h) ↔ ((party_of g.label ≡ party_of h.label) × (g.discriminator ≡ h.discriminator))
same-own g h = same_number g.label h.label g.discriminator h.discriminator

-- those of the one and those of the other are all
pub both-parties : {A : Type 0} (label : A → ℕ) (xs : List A) → count (λ x. is_of 0 (label x)) xs + count (λ x. is_of 1 (label x)) xs ≡ length xs
both-parties label xs =
    ap (λ (n : ℕ). count (λ x. is_of 0 (label x)) xs + n) (sym (count_same _ _ (λ x. other-party (label x)) xs)) ∙ count-both (λ x. is_of 0 (label x)) xs
