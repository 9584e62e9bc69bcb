-- Conditions fade: what stands later stood before; sound places stay sound as the clock goes on; at most four stand.
-- Assumes nothing.
use mathlib.Core.Path.{◌≡◌}
use mathlib.Core.Bool.{Bool, true, false, not, ◌&&◌}
use Prim.Native.Nat.{ℕ, ◌≤◌, ◌<◌}
use native.Mathlib.Omega.{arith}
use borrow.Author.Tests.{eqb-false, not-true}
use Rattle.octets.specs.Choice.{bit_of}
use Rattle.octets.proofs.Chain.{and_both}
use Rattle.rules.specs.Conditions.{same_key}
use Rattle.rules.proofs.Ages.{within-before}
use Rattle.rules.proofs.Bools.{split, both_true, or_left, refuted, forced, true-false}
use Rattle.rules.proofs.Failing.{at_most}
use Rattle.conditions.specs.declared.Condition.{Condition}
use Rattle.conditions.specs.declared.Conditions.{Conditions}
use Rattle.conditions.specs.Standing.{filled, fresh, place_stands, count_at}
use Rattle.conditions.specs.Soundness.{place_sound, places_sound, clash, no_clash, conditions_sound}
use Rattle.conditions.specs.Unsound.{OutOfRange, kind_above, present_mark, carrier_mark, link_flag, no_refresh, refresh_above, dated_above}
use Rattle.conditions.proofs.Unsound.{place-unsound}

bit-most : (b : Bool) → bit_of b ≤ 1
bit-most true = omega arith
bit-most false = omega arith

-- at most four conditions
pub at-most-four : (cs : Conditions) (now : ℕ) → count_at cs now ≤ 4
unfolding count_at
at-most-four cs now =
    let a = bit-most (place_stands cs.first now) in
    let b = bit-most (place_stands cs.second now) in
    let c = bit-most (place_stands cs.third now) in
    let d = bit-most (place_stands cs.fourth now) in
    omega arith

-- what the sound fields of a filled place say
pub record PlaceSays (c : Condition) (clock : ℕ) : Type 0 where
  pub kind : c.key.kind ≤ 2
  pub present : c.key.present < 2
  pub carrier : c.key.carrier < 2
  pub linkdown : c.linkdown < 2
  pub low : 1 ≤ c.refresh
  pub high : c.refresh ≤ 20
  pub date : c.at ≤ clock

pub place-filled : (c : Condition) (clock : ℕ) → PlaceSays c clock → place_sound c clock ≡ true
place-filled c clock s = forced (place_sound c clock) (λ e. no ((place-unsound c clock).0 e).wrong)
  where
    no : OutOfRange c clock → ⊥
    no (kind_above h) = omega (arith, s.kind)
    no (present_mark h) = omega (arith, s.present)
    no (carrier_mark h) = omega (arith, s.carrier)
    no (link_flag h) = omega (arith, s.linkdown)
    no (no_refresh h) = omega (arith, s.low)
    no (refresh_above h) = omega (arith, s.high)
    no (dated_above h) = omega (arith, s.date)

pub place-empty : (c : Condition) (clock : ℕ) → filled c ≡ false → place_sound c clock ≡ true
unfolding place_sound
place-empty c clock e = or_left {a = not (filled c)} _ (rw e)

pub place-says : (c : Condition) (clock : ℕ) → place_sound c clock ≡ true → filled c ≡ true → PlaceSays c clock
place-says c clock e f =
    record {
      kind = at_most _ 2 (λ h. no (kind_above h));
      present = omega (arith, at_most c.key.present 1 (λ h. no (present_mark h)));
      carrier = omega (arith, at_most c.key.carrier 1 (λ h. no (carrier_mark h)));
      linkdown = omega (arith, at_most c.linkdown 1 (λ h. no (link_flag h)));
      low = at_most 1 _ (λ h. no (no_refresh (omega arith)));
      high = at_most _ 20 (λ h. no (refresh_above h));
      date = at_most _ clock (λ h. no (dated_above h));
    }
  where
    no : OutOfRange c clock → ⊥
    no w = true-false e ((place-unsound c clock).1 (record { held = eqb-false _ _ (not-true _ f); wrong = w }))

module _ (now later : ℕ) (h : now ≤ later) where
  pub fresh-before : (c : Condition) → fresh c later ≡ true → fresh c now ≡ true
  unfolding fresh
  fresh-before c e = within-before _ _ now later h e

  pub stands-before : (c : Condition) → place_stands c later ≡ true → place_stands c now ≡ true
  unfolding place_stands
  stands-before c e = let a = and_both (filled c) (fresh c later) e in both_true a.0 (fresh-before c a.1)

  place-later : (c : Condition) → place_sound c now ≡ true → place_sound c later ≡ true
  place-later c e =
      split (filled c)
      (λ f. let s = place-says c now e f in
      place-filled c later
      (record {
        kind = s.kind;
        present = s.present;
        carrier = s.carrier;
        linkdown = s.linkdown;
        low = s.low;
        high = s.high;
        date = omega (arith, s.date);
      }))
      (λ f. place-empty c later f)

  clash-before : (a b : Condition) → clash a b later ≡ true → clash a b now ≡ true
  unfolding clash
  clash-before a b e =
      let same = filled a && filled b && same_key a.key b.key in
      let x = and_both (same && fresh a later) (fresh b later) e in
      let y = and_both same (fresh a later) x.0 in
      both_true (both_true y.0 (fresh-before a y.1)) (fresh-before b x.1)

  apart-later : (a b : Condition) → not (clash a b now) ≡ true → not (clash a b later) ≡ true
  apart-later a b e = rw (refuted (clash a b later) (λ z. true-false (clash-before a b z) (not-true _ e)))

  none-later : (cs : Conditions) → no_clash cs now ≡ true → no_clash cs later ≡ true
  unfolding no_clash
  none-later cs e =
      let a = and_both _ _ e in
      let b = and_both _ _ a.0 in
      let c = and_both _ _ b.0 in
      let d = and_both _ _ c.0 in
      let f = and_both _ _ d.0 in
      both_true
      (both_true
      (both_true
      (both_true (both_true (apart-later _ _ f.0) (apart-later _ _ f.1)) (apart-later _ _ d.1))
      (apart-later _ _ c.1))
      (apart-later _ _ b.1))
      (apart-later _ _ a.1)

  -- sound conditions are sound at every later clock
  pub sound-later : (cs : Conditions) → conditions_sound cs now ≡ true → conditions_sound cs later ≡ true
  unfolding conditions_sound places_sound
  sound-later cs e =
      let a = and_both _ _ e in
      let b = and_both _ _ a.0 in
      let c = and_both _ _ b.0 in
      let d = and_both _ _ c.0 in
      both_true
      (both_true (both_true (both_true (place-later _ d.0) (place-later _ d.1)) (place-later _ c.1)) (place-later _ b.1))
      (none-later cs a.1)
