-- An accepted fault message keeps the four places sound.
-- Assumes nothing.
use mathlib.Core.Path.{◌≡◌, refl, sym, ap, ◌∙◌}
use mathlib.Core.Bool.{Bool, true, false, cond, not, ◌&&◌, ◌||◌}
use Prim.Native.Nat.{ℕ, zero, suc, ◌≤◌, ◌<◌}
use native.Mathlib.Omega.{arith}
use lib.Dec.{eqb}
use borrow.Author.Tests.{ne_eqb, not-true}
use Rattle.octets.specs.Choice.{bit_of}
use Rattle.octets.proofs.Chain.{and_both}
use Rattle.fault.specs.declared.Fault.{Fault}
use Rattle.rules.specs.declared.Key.{Key}
use Rattle.rules.specs.Conditions.{key_of, same_key}
use Rattle.rules.proofs.Bools.{split, both_true, refuted, true-false}
use Rattle.rules.proofs.SameKeys.{same-sym, if-id-marked, global-id-marked}
use Rattle.conditions.specs.declared.Condition.{Condition}
use Rattle.conditions.specs.declared.Conditions.{Conditions}
use Rattle.conditions.specs.Standing.{filled, fresh, place_stands}
use Rattle.conditions.specs.Soundness.{place_sound, places_sound, clash, no_clash, conditions_sound}
use Rattle.conditions.specs.Taking.{empty, without, forgotten, free_place, placed, condition_of, taken_in}
use Rattle.conditions.proofs.Fading.{PlaceSays, place-filled, place-empty}

-- two conditions do not clash
abbrev pub Apart : ℕ → Condition → Condition → Type 0
Apart now a b = clash a b now ≡ false

-- four places, sound one by one and apart from each other
pub record Sound (cs : Conditions) (now : ℕ) : Type 0 where
  pub first : place_sound cs.first now ≡ true
  pub second : place_sound cs.second now ≡ true
  pub third : place_sound cs.third now ≡ true
  pub fourth : place_sound cs.fourth now ≡ true
  pub apart12 : Apart now cs.first cs.second
  pub apart13 : Apart now cs.first cs.third
  pub apart14 : Apart now cs.first cs.fourth
  pub apart23 : Apart now cs.second cs.third
  pub apart24 : Apart now cs.second cs.fourth
  pub apart34 : Apart now cs.third cs.fourth

pub sound-says : (cs : Conditions) (now : ℕ) → conditions_sound cs now ≡ true → Sound cs now
unfolding conditions_sound places_sound no_clash
sound-says cs now e =
    let a = and_both _ _ e in
    let b = and_both _ _ a.0 in
    let c = and_both _ _ b.0 in
    let d = and_both _ _ c.0 in
    let f = and_both _ _ a.1 in
    let g = and_both _ _ f.0 in
    let h = and_both _ _ g.0 in
    let i = and_both _ _ h.0 in
    let j = and_both _ _ i.0 in
    record {
      first = d.0;
      second = d.1;
      third = c.1;
      fourth = b.1;
      apart12 = not-true _ j.0;
      apart13 = not-true _ j.1;
      apart14 = not-true _ i.1;
      apart23 = not-true _ h.1;
      apart24 = not-true _ g.1;
      apart34 = not-true _ f.1;
    }

pub says-sound : (cs : Conditions) (now : ℕ) → Sound cs now → conditions_sound cs now ≡ true
unfolding conditions_sound places_sound no_clash
says-sound cs now s =
    rw (s.first, s.second, s.third, s.fourth, s.apart12, s.apart13, s.apart14, s.apart23, s.apart24, s.apart34)

-- an empty place is apart from every other
empty_left : (b : Condition) (now : ℕ) → Apart now empty b
unfolding clash
empty_left b now = refl

empty_right : (a : Condition) (now : ℕ) → Apart now a empty
unfolding clash
empty_right a now = split (filled a) (λ e. rw e) (λ e. rw e)

-- a place whose key is another
unlike : (a b : Condition) (now : ℕ) → same_key a.key b.key ≡ false → Apart now a b
unfolding clash
unlike a b now e =
    refuted (filled a && filled b && same_key a.key b.key && fresh a now && fresh b now)
    (λ z. let x = and_both (filled a && filled b && same_key a.key b.key && fresh a now) (fresh b now) z in
    let y = and_both (filled a && filled b && same_key a.key b.key) (fresh a now) x.0 in
    let w = and_both (filled a && filled b) (same_key a.key b.key) y.0 in
    true-false w.1 e)

module _ (key : Key) (now : ℕ) where
  without-sound : (c : Condition) → place_sound c now ≡ true → place_sound (without key c) now ≡ true
  unfolding place_sound
  without-sound c e = split (same_key c.key key) (λ z. rw z) (λ z. rw z e)

  without-apart : (a b : Condition) → Apart now a b → Apart now (without key a) (without key b)
  without-apart a b e =
      split (same_key a.key key) (λ z. rw z (empty_left (without key b) now))
      (λ z. split (same_key b.key key) (λ w. rw (z, w) (empty_right a now)) (λ w. rw (z, w) e))

  forgotten-sound : (cs : Conditions) → Sound cs now → Sound (forgotten cs key) now
  unfolding forgotten
  forgotten-sound cs s =
      record {
        first = without-sound cs.first s.first;
        second = without-sound cs.second s.second;
        third = without-sound cs.third s.third;
        fourth = without-sound cs.fourth s.fourth;
        apart12 = without-apart cs.first cs.second s.apart12;
        apart13 = without-apart cs.first cs.third s.apart13;
        apart14 = without-apart cs.first cs.fourth s.apart14;
        apart23 = without-apart cs.second cs.third s.apart23;
        apart24 = without-apart cs.second cs.fourth s.apart24;
        apart34 = without-apart cs.third cs.fourth s.apart34;
      }

  -- a condition of the forgotten key is apart from what is left
  new-left : (n c : Condition) → n.key ≡ key → Apart now n (without key c)
  new-left n c e =
      split (same_key c.key key) (λ z. rw z (empty_right n now))
      (λ z. rw z (unlike n c now (ap (λ (k : Key). same_key k c.key) e ∙ same-sym key c.key ∙ z)))

  new-right : (n c : Condition) → n.key ≡ key → Apart now (without key c) n
  new-right n c e =
      split (same_key c.key key) (λ z. rw z (empty_left n now))
      (λ z. rw z (unlike c n now (ap (same_key c.key) e ∙ z)))

  -- into whatever place it goes
  placed-sound : (cs : Conditions) (n : Condition) (place : ℕ) → n.key ≡ key → place_sound n now ≡ true → Sound (forgotten cs key) now
      → Sound (placed (forgotten cs key) place n) now
  unfolding forgotten placed
  placed-sound cs n zero e p s =
      record {
        first = p;
        second = s.second;
        third = s.third;
        fourth = s.fourth;
        apart12 = new-left n cs.second e;
        apart13 = new-left n cs.third e;
        apart14 = new-left n cs.fourth e;
        apart23 = s.apart23;
        apart24 = s.apart24;
        apart34 = s.apart34;
      }
  placed-sound cs n (suc zero) e p s =
      record {
        first = s.first;
        second = p;
        third = s.third;
        fourth = s.fourth;
        apart12 = new-right n cs.first e;
        apart13 = s.apart13;
        apart14 = s.apart14;
        apart23 = new-left n cs.third e;
        apart24 = new-left n cs.fourth e;
        apart34 = s.apart34;
      }
  placed-sound cs n (suc (suc zero)) e p s =
      record {
        first = s.first;
        second = s.second;
        third = p;
        fourth = s.fourth;
        apart12 = s.apart12;
        apart13 = new-right n cs.first e;
        apart14 = s.apart14;
        apart23 = new-right n cs.second e;
        apart24 = s.apart24;
        apart34 = new-left n cs.fourth e;
      }
  placed-sound cs n (suc (suc (suc zero))) e p s =
      record {
        first = s.first;
        second = s.second;
        third = s.third;
        fourth = p;
        apart12 = s.apart12;
        apart13 = s.apart13;
        apart14 = new-right n cs.first e;
        apart23 = s.apart23;
        apart24 = new-right n cs.second e;
        apart34 = new-right n cs.third e;
      }
  placed-sound cs n (suc (suc (suc (suc k)))) e p s =
      let i = suc (suc (suc (suc k))) in
      rw (ne_eqb i 0 (λ z. omega arith), ne_eqb i 1 (λ z. omega arith), ne_eqb i 2 (λ z. omega arith), ne_eqb i 3 (λ z. omega arith)) s

bit-small : (b : Bool) → bit_of b < 2
bit-small true = omega arith
bit-small false = omega arith

-- an accepted fault message, of type 1 or 2 and refresh 1 to 20, leaves sound conditions
pub taken-sound : (cs : Conditions) (f : Fault) (now : ℕ) → f.kind ≤ 2 → 1 ≤ f.refresh → f.refresh ≤ 20
    → conditions_sound cs now ≡ true → conditions_sound (taken_in cs f now) now ≡ true
unfolding taken_in
taken-sound cs f now k l h e =
    let key = key_of f in
    let n = condition_of f now in
    let p : PlaceSays n now =
    record {
      kind = k;
      present = omega (arith, if-id-marked f.interface);
      carrier = omega (arith, global-id-marked f.global);
      linkdown = bit-small f.linkdown;
      low = l;
      high = h;
      date = omega arith;
    } in
    says-sound (taken_in cs f now) now
    (placed-sound key now cs n (cond f.removed 4 (free_place (forgotten cs key) now)) refl (place-filled n now p) (forgotten-sound key now cs (sound-says cs now e)))
