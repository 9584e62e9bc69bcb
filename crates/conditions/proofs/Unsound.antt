-- The test of the four places fails exactly where the paper's words for 26 hold of them.
-- Assumes nothing.
use Prim.Native.Nat.{ℕ, zero, suc, ◌<◌}
use native.Mathlib.Omega.{arith}
use mathlib.Core.Path.{◌≡◌, ap}
use mathlib.Core.Bool.{true, false, not}
use mathlib.Core.Logic.{◌↔◌}
use borrow.Author.Tests.{ltb-true, leb-false, eqb-false, not-true, not-false, lt-ltb, lt-leb, ne_eqb}
use Rattle.octets.proofs.Chain.{and_both}
use Rattle.rules.specs.Times.{within}
use Rattle.rules.specs.Conditions.{same_key}
use Rattle.rules.proofs.Bools.{both_true}
use Rattle.rules.proofs.Failing.{one-fails, both-fail, and-false, no-mark, mark-fails}
use Rattle.rules.proofs.SameKeys.{same-says, says_same}
use Rattle.conditions.specs.declared.Condition.{Condition}
use Rattle.conditions.specs.declared.Conditions.{Conditions}
use Rattle.conditions.specs.Standing.{filled, fresh}
use Rattle.conditions.specs.Soundness.{fields_sound, place_sound, clash, no_clash, places_sound, conditions_sound}
use Rattle.conditions.specs.Unsound.{place_at, OutOfRange, kind_above, present_mark, carrier_mark, link_flag, no_refresh, refresh_above, dated_above, UnsoundPlace, TwoOfOneKey, UnsoundConditions, place_wrong, key_twice}

-- One place

is-filled : (c : Condition) → (c.key.kind ≡ 0 → ⊥) → filled c ≡ true
is-filled c n = ap not (ne_eqb c.key.kind 0 n)

module _ (c : Condition) (clock : ℕ) where
  place-told : place_sound c clock ≡ false → UnsoundPlace c clock
  unfolding place_sound
  place-told =
      both-fail
      (λ f e.
      record {
        held = eqb-false _ _ (not-true _ (not-false _ f));
        wrong =
            one-fails
            (one-fails
            (one-fails
            (one-fails
            (one-fails (one-fails (λ z. kind_above (leb-false _ 2 z)) (λ z. present_mark (no-mark _ z))) (λ z. carrier_mark (no-mark _ z)))
            (λ z. link_flag (no-mark _ z)))
            (λ z. no_refresh (omega (arith, leb-false 1 c.refresh z))))
            (λ z. refresh_above (leb-false _ 20 z)))
            (λ z. dated_above (leb-false _ clock z)) e;
      })

  out-fails : OutOfRange c clock → fields_sound c.key.kind c.key.present c.key.carrier c.linkdown c.refresh c.at clock ≡ false
  out-fails (kind_above h) = rw (lt-leb c.key.kind 2 h)
  out-fails (present_mark h) = simp (mark-fails c.key.present h, and-false)
  out-fails (carrier_mark h) = simp (mark-fails c.key.carrier h, and-false)
  out-fails (link_flag h) = simp (mark-fails c.linkdown h, and-false)
  out-fails (no_refresh h) = simp (lt-leb 1 c.refresh (omega arith), and-false)
  out-fails (refresh_above h) = simp (lt-leb c.refresh 20 h, and-false)
  out-fails (dated_above h) = simp (lt-leb c.at clock h, and-false)

  pub place-unsound : (place_sound c clock ≡ false) ↔ UnsoundPlace c clock
  unfolding place_sound
  place-unsound = (place-told, λ w. rw (is-filled c w.held, out-fails w.wrong))

-- Two places

module _ (a b : Condition) (clock : ℕ) where
  clash-told : clash a b clock ≡ true → TwoOfOneKey a b clock
  unfolding clash fresh within
  clash-told e =
      let v = and_both _ (fresh b clock) e in
      let w = and_both _ (fresh a clock) v.0 in
      let x = and_both _ (same_key a.key b.key) w.0 in
      let y = and_both (filled a) (filled b) x.0 in
      record {
        one = record { held = eqb-false _ _ (not-true _ y.0); young = ltb-true _ _ w.1 };
        other = record { held = eqb-false _ _ (not-true _ y.1); young = ltb-true _ _ v.1 };
        key = same-says a.key b.key x.1;
      }

  told-clash : TwoOfOneKey a b clock → clash a b clock ≡ true
  unfolding clash fresh within
  told-clash w =
      both_true
      (both_true
      (both_true (both_true (is-filled a w.one.held) (is-filled b w.other.held)) (says_same a.key b.key w.key))
      (lt-ltb _ _ w.one.young))
      (lt-ltb _ _ w.other.young)

-- The four

module _ (cs : Conditions) (clock : ℕ) where
  place-fails : (i : ℕ) → i < 4 → place_sound (place_at cs i) clock ≡ false → UnsoundConditions cs clock
  place-fails i h e = place_wrong i h (place-told (place_at cs i) clock e)

  pair-fails : (i j : ℕ) → i < j → j < 4 → not (clash (place_at cs i) (place_at cs j) clock) ≡ false → UnsoundConditions cs clock
  pair-fails i j b h e = key_twice i j b h (clash-told (place_at cs i) (place_at cs j) clock (not-false _ e))

  told : conditions_sound cs clock ≡ false → UnsoundConditions cs clock
  unfolding conditions_sound places_sound no_clash
  told =
      one-fails
      (one-fails
      (one-fails (one-fails (place-fails 0 (omega arith)) (place-fails 1 (omega arith))) (place-fails 2 (omega arith)))
      (place-fails 3 (omega arith)))
      (one-fails
      (one-fails
      (one-fails
      (one-fails (one-fails (pair-fails 0 1 (omega arith) (omega arith)) (pair-fails 0 2 (omega arith) (omega arith))) (pair-fails 0 3 (omega arith) (omega arith)))
      (pair-fails 1 2 (omega arith) (omega arith)))
      (pair-fails 1 3 (omega arith) (omega arith)))
      (pair-fails 2 3 (omega arith) (omega arith)))

  place-untold : (i : ℕ) → i < 4 → UnsoundPlace (place_at cs i) clock → places_sound cs clock ≡ false
  unfolding places_sound
  place-untold zero h w = rw ((place-unsound cs.first clock).1 w)
  place-untold (suc zero) h w = simp ((place-unsound cs.second clock).1 w, and-false)
  place-untold (suc (suc zero)) h w = simp ((place-unsound cs.third clock).1 w, and-false)
  place-untold (suc (suc (suc zero))) h w = simp ((place-unsound cs.fourth clock).1 w, and-false)
  place-untold (suc (suc (suc (suc i)))) h w = absurd (omega arith)

  pair-untold : (i j : ℕ) → i < j → j < 4 → TwoOfOneKey (place_at cs i) (place_at cs j) clock → no_clash cs clock ≡ false
  unfolding no_clash
  pair-untold zero (suc zero) b h w = rw (told-clash cs.first cs.second clock w)
  pair-untold zero (suc (suc zero)) b h w = simp (told-clash cs.first cs.third clock w, and-false)
  pair-untold zero (suc (suc (suc zero))) b h w = simp (told-clash cs.first cs.fourth clock w, and-false)
  pair-untold (suc zero) (suc (suc zero)) b h w = simp (told-clash cs.second cs.third clock w, and-false)
  pair-untold (suc zero) (suc (suc (suc zero))) b h w = simp (told-clash cs.second cs.fourth clock w, and-false)
  pair-untold (suc (suc zero)) (suc (suc (suc zero))) b h w = simp (told-clash cs.third cs.fourth clock w, and-false)
  pair-untold zero zero b h w = absurd (omega arith)
  pair-untold (suc i) zero b h w = absurd (omega arith)
  pair-untold (suc i) (suc zero) b h w = absurd (omega arith)
  pair-untold (suc (suc i)) (suc (suc zero)) b h w = absurd (omega arith)
  pair-untold (suc (suc (suc i))) (suc (suc (suc zero))) b h w = absurd (omega arith)
  pair-untold i (suc (suc (suc (suc j)))) b h w = absurd (omega arith)

  untold : UnsoundConditions cs clock → conditions_sound cs clock ≡ false
  unfolding conditions_sound
  untold (place_wrong i h w) = rw (place-untold i h w)
  untold (key_twice i j b h w) = simp (pair-untold i j b h w, and-false)

  -- 26, the four places
  pub conditions-unsound : (conditions_sound cs clock ≡ false) ↔ UnsoundConditions cs clock
  conditions-unsound = (told, untold)
