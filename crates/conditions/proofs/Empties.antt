-- What 26 asks of the four places where all but the first are empty; and that an empty place holds nothing down.
-- Assumes nothing.
use Prim.Native.Nat.{ℕ}
use mathlib.Core.Path.{◌≡◌, refl, ◌∙◌}
use mathlib.Core.Bool.{Bool, true, false, not, ◌&&◌, ◌||◌}
use lib.Dec.{eqb}
use Rattle.rules.specs.Conditions.{follows_with}
use Rattle.rules.proofs.Bools.{split, no_way}
use Rattle.conditions.specs.declared.Condition.{Condition}
use Rattle.conditions.specs.declared.Conditions.{Conditions}
use Rattle.conditions.specs.Standing.{filled, fresh, place_stands, followed_with, any_followed_with, marked_with, any_marked_with}
use Rattle.conditions.specs.Soundness.{place_sound, places_sound, clash, no_clash, conditions_sound}

-- nothing clashes with an empty place
first-empty : (a b : Condition) (clock : ℕ) → eqb a.key.kind 0 ≡ true → clash a b clock ≡ false
unfolding clash
first-empty a b clock e = rw e

second_empty : (a b : Condition) (clock : ℕ) → eqb b.key.kind 0 ≡ true → clash a b clock ≡ false
unfolding clash
second_empty a b clock e = split (filled a) (λ f. rw (f, e)) (λ f. rw f)

empty-sound : (c : Condition) (clock : ℕ) → eqb c.key.kind 0 ≡ true → place_sound c clock ≡ true
unfolding place_sound
empty-sound c clock e = rw e

three-apart : (a b c : Bool) → (a && b && c) ≡ true → (a ≡ true) × ((b ≡ true) × (c ≡ true))
three-apart true true true e = (refl, (refl, refl))
three-apart true true false e = no_way e refl
three-apart true false c e = no_way e refl
three-apart false b c e = no_way e refl

-- the first place alone
pub first_alone : (cs : Conditions) (clock : ℕ) → (eqb cs.second.key.kind 0 && eqb cs.third.key.kind 0 && eqb cs.fourth.key.kind 0) ≡ true
    → conditions_sound cs clock ≡ place_sound cs.first clock
unfolding conditions_sound places_sound no_clash
first_alone cs clock e =
    let p = three-apart (eqb cs.second.key.kind 0) (eqb cs.third.key.kind 0) (eqb cs.fourth.key.kind 0) e in
    let x = p.0 in
    let y = p.1.0 in
    let z = p.1.1 in
    split (place_sound cs.first clock)
    (λ s. rw (s, empty-sound cs.second clock x, empty-sound cs.third clock y, empty-sound cs.fourth clock z, second_empty cs.first cs.second clock x, second_empty cs.first cs.third clock y, second_empty cs.first cs.fourth clock z, first-empty cs.second cs.third clock x, first-empty cs.second cs.fourth clock x, first-empty cs.third cs.fourth clock y))
    (λ s. rw s)

pub none_filled : (cs : Conditions) (clock : ℕ)
    → (eqb cs.first.key.kind 0 && eqb cs.second.key.kind 0 && eqb cs.third.key.kind 0 && eqb cs.fourth.key.kind 0) ≡ true
    → conditions_sound cs clock ≡ true
none_filled cs clock e =
    split (eqb cs.first.key.kind 0) (λ f. first_alone cs clock (rw f at e) ∙ empty-sound cs.first clock f) (λ f. no_way e (rw f))

-- where no place is filled, none is followed
empty-unfollowed : (link lock : ℕ) (c : Condition) (now : ℕ) → eqb c.key.kind 0 ≡ true → followed_with link lock c now ≡ false
unfolding followed_with place_stands
empty-unfollowed link lock c now e = rw e

pub none-followed : (link lock : ℕ) (cs : Conditions) (now : ℕ)
    → (eqb cs.first.key.kind 0 && eqb cs.second.key.kind 0 && eqb cs.third.key.kind 0 && eqb cs.fourth.key.kind 0) ≡ true
    → any_followed_with link lock cs now ≡ false
unfolding any_followed_with
none-followed link lock cs now e =
    split (eqb cs.first.key.kind 0)
    (λ f. let p = three-apart (eqb cs.second.key.kind 0) (eqb cs.third.key.kind 0) (eqb cs.fourth.key.kind 0) (rw f at e) in
    rw (empty-unfollowed link lock cs.first now f, empty-unfollowed link lock cs.second now p.0, empty-unfollowed link lock cs.third now p.1.0, empty-unfollowed link lock cs.fourth now p.1.1))
    (λ f. no_way e (rw f))

-- where no place is filled with what is followed, none is followed
unmarked-unfollowed : (link lock : ℕ) (c : Condition) (now : ℕ) → marked_with link lock c ≡ false → followed_with link lock c now ≡ false
unfolding followed_with place_stands
unmarked-unfollowed link lock c now e = dropped (filled c) (fresh c now) (follows_with link lock c.key.kind (eqb c.linkdown 1)) e
  where
    dropped : (a b d : Bool) → (a && d) ≡ false → (a && b && d) ≡ false
    dropped true true d e = e
    dropped true false d e = refl
    dropped false b d e = refl

none_of : (a b c d : Bool) → (a || b || c || d) ≡ false → (a ≡ false) × ((b ≡ false) × ((c ≡ false) × (d ≡ false)))
none_of false false false false e = (refl, (refl, (refl, refl)))
none_of false false false true e = no_way refl e
none_of false false true d e = no_way refl e
none_of false true c d e = no_way refl e
none_of true b c d e = no_way refl e

pub none-marked : (link lock : ℕ) (cs : Conditions) (now : ℕ) → any_marked_with link lock cs ≡ false → any_followed_with link lock cs now ≡ false
unfolding any_followed_with any_marked_with
none-marked link lock cs now e =
    let p = none_of (marked_with link lock cs.first) (marked_with link lock cs.second) (marked_with link lock cs.third) (marked_with link lock cs.fourth) e in
    rw (unmarked-unfollowed link lock cs.first now p.0, unmarked-unfollowed link lock cs.second now p.1.0, unmarked-unfollowed link lock cs.third now p.1.1.0, unmarked-unfollowed link lock cs.fourth now p.1.1.1)
