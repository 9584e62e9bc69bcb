-- Digests tell what 26 asks: a digest is sound where its place is, and the digests of two sound places are alike where the places clash.
-- Assumes nothing.
use Prim.Native.Nat.{ℕ, ◌+◌, ◌*◌, ◌≤◌, ◌<◌}
use mathlib.Core.Path.{◌≡◌, refl, sym, ap, ◌∙◌}
use mathlib.Core.Bool.{Bool, true, false, not, ◌&&◌, ◌||◌}
use mathlib.Core.Logic.{◌⊎◌, inl, inr, ⊎_elim}
use native.Mathlib.Omega.{arith}
use lib.Dec.{eqb}
use borrow.Author.Tests.{eqb-true, eqb-false, eq-eqb, ne_eqb, not-true, not-false}
use Rattle.octets.proofs.Chain.{and_both}
use Rattle.rules.specs.declared.Key.{Key}
use Rattle.rules.specs.Conditions.{same_key}
use Rattle.rules.specs.OneKey.{OneKey}
use Rattle.rules.proofs.Bools.{split, no_way, both_true, same_test, refuted, true-false}
use Rattle.rules.proofs.SameKeys.{same-says, says_same}
use Rattle.conditions.specs.declared.Condition.{Condition}
use Rattle.conditions.specs.declared.Conditions.{Conditions}
use Rattle.conditions.specs.declared.sound.Digest.{Digest}
use Rattle.conditions.specs.Standing.{filled, fresh, place_stands}
use Rattle.conditions.specs.Soundness.{place_sound, clash, conditions_sound}
use Rattle.conditions.specs.Digests.{blank_of, marked_by, tag_with, tag_of, word_of, key_digest, digest_of, alike}
use Rattle.conditions.proofs.Fading.{place-says}
use Rattle.conditions.proofs.Marks.{marked-below, marked-says, says-marked}
use Rattle.conditions.proofs.Held.{KeyHeld}
use Rattle.conditions.proofs.Taken.{Apart, Sound, sound-says}

pub told-sound : (c : Condition) (clock : ℕ) → (digest_of c clock).sound ≡ place_sound c clock
unfolding digest_of
told-sound c clock =
    split (place_sound c clock) (λ s. split (place_stands c clock) (λ t. rw (s, t)) (λ t. rw (s, t))) (λ s. rw s)

-- a key whose Node and Global_ID fit their 32 bits and whose marks are 0 or 1
pub record Fits (k : Key) : Type 0 where
  pub held : KeyHeld k
  pub present : k.present < 2
  pub carrier : k.carrier < 2

unlike-blank : (x : Digest) → alike x (blank_of true) ≡ false
unfolding alike
unlike-blank x = refl

-- a filled key has no tag 0, so no digest of an empty place is alike to its own
tag-filled : (k : Key) → 1 ≤ k.kind → eqb (tag_of k) 0 ≡ false
unfolding tag_with
tag-filled k h = ne_eqb (tag_of k) 0 (λ e. omega arith)

blank-unlike : (k : Key) → 1 ≤ k.kind → alike (blank_of true) (key_digest k) ≡ false
unfolding alike
blank-unlike k h = rw (tag-filled k h, ne_eqb 0 (tag_of k) (λ e. eqb-false (tag_of k) 0 (tag-filled k h) (sym e)))

-- equal tags and words are one key: the Global_ID, below 2 to the 32, does not reach into type and marks, nor the node into the interface
module _ (a b : Key) (f : Fits a) (g : Fits b) where
  -- the tag taken apart
  told-marks : tag_of a ≡ tag_of b
      → (a.kind ≡ b.kind) × ((a.present ≡ b.present) × ((a.carrier ≡ b.carrier) × (marked_by a.carrier a.global ≡ marked_by b.carrier b.global)))
  unfolding tag_with
  told-marks t =
      let x = marked-below a.carrier a.global 4294967296 f.held.global in
      let y = marked-below b.carrier b.global 4294967296 g.held.global in
      let p = f.present in
      let q = g.present in
      let u = f.carrier in
      let v = g.carrier in
      (omega arith, (omega arith, (omega arith, omega arith)))

  told_same : tag_of a ≡ tag_of b → word_of a ≡ word_of b → OneKey a b
  told_same t w =
      let m = told-marks t in
      let h = f.held.node in
      let k = g.held.node in
      record {
        kind = m.0;
        present = m.1.0;
        place = ⊎_elim (λ z. inl z) (λ z. inr (omega arith, omega arith)) (marked-says a.present b.present _ _ m.1.0 w);
        carrier = m.1.1.0;
        global = marked-says a.carrier b.carrier _ _ m.1.1.0 m.1.1.1;
      }

  same-told : OneKey a b → (tag_of a ≡ tag_of b) × (word_of a ≡ word_of b)
  unfolding tag_with
  same-told s = (
    rw (says-marked a.carrier b.carrier a.global b.global s.carrier s.global, s.kind, s.present, s.carrier),
    says-marked a.present b.present _ _ s.present (⊎_elim (λ z. inl z) (λ z. inr (rw (z.0, z.1))) s.place),
  )

  alike-keys : 1 ≤ b.kind → alike (key_digest a) (key_digest b) ≡ same_key a b
  unfolding alike
  alike-keys k =
      same_test _ _
      (λ e. let x = and_both (not (eqb (tag_of b) 0) && eqb (tag_of a) (tag_of b)) (eqb (word_of a) (word_of b)) e in
      let y = and_both (not (eqb (tag_of b) 0)) (eqb (tag_of a) (tag_of b)) x.0 in
      says_same a b (told_same (eqb-true _ _ y.1) (eqb-true _ _ x.1)))
      (λ e. let s = same-told (same-says a b e) in
      both_true (both_true {a = not (eqb (tag_of b) 0)} (rw (tag-filled b k)) (eq-eqb _ _ s.0)) (eq-eqb _ _ s.1))

-- the digest of a sound place
stands-digest : (c : Condition) (clock : ℕ) → place_sound c clock ≡ true → place_stands c clock ≡ true → digest_of c clock ≡ key_digest c.key
unfolding digest_of
stands-digest c clock s t = rw (s, t)

lapsed-digest : (c : Condition) (clock : ℕ) → place_sound c clock ≡ true → place_stands c clock ≡ false → digest_of c clock ≡ blank_of true
unfolding digest_of
lapsed-digest c clock s t = rw (s, t)

-- what stands in a sound place has a type and marks of 0 or 1
record Stands (c : Condition) : Type 0 where
  kind : 1 ≤ c.key.kind
  present : c.key.present < 2
  carrier : c.key.carrier < 2

stands-says : (c : Condition) (clock : ℕ) → place_sound c clock ≡ true → place_stands c clock ≡ true → Stands c
unfolding place_stands
stands-says c clock s t =
    let f = (and_both (filled c) (fresh c clock) t).0 in
    let n = eqb-false c.key.kind 0 (not-true _ f) in
    let p = place-says c clock s f in
    record { kind = omega (arith, n); present = p.present; carrier = p.carrier }

regrouped : (f g k x y : Bool) → (f && g && k && x && y) ≡ ((f && x) && (g && y) && k)
regrouped false g k x y = refl
regrouped true false k true y = refl
regrouped true false k false y = refl
regrouped true true true true true = refl
regrouped true true true true false = refl
regrouped true true true false y = refl
regrouped true true false true true = refl
regrouped true true false true false = refl
regrouped true true false false y = refl

-- a clash is two conditions that stand, of one key
clash-stands : (a b : Condition) (clock : ℕ) → clash a b clock ≡ (place_stands a clock && place_stands b clock && same_key a.key b.key)
unfolding clash place_stands
clash-stands a b clock = regrouped (filled a) (filled b) (same_key a.key b.key) (fresh a clock) (fresh b clock)

module _ (a b : Condition) (clock : ℕ) (m : KeyHeld a.key) (n : KeyHeld b.key) (p : place_sound a clock ≡ true) (q : place_sound b clock ≡ true) where
  -- alike where they clash
  pub alike-clash : alike (digest_of a clock) (digest_of b clock) ≡ clash a b clock
  alike-clash =
      rw (clash-stands a b clock)
      (split (place_stands b clock)
      (λ t. let y = stands-says b clock q t in
      split (place_stands a clock)
      (λ s. let x = stands-says a clock p s in
      rw (s, t, stands-digest a clock p s, stands-digest b clock q t)
      (alike-keys a.key b.key
      (record { held = m; present = x.present; carrier = x.carrier }) (record { held = n; present = y.present; carrier = y.carrier }) y.kind))
      (λ s. rw (s, lapsed-digest a clock p s, stands-digest b clock q t) (blank-unlike b.key y.kind)))
      (λ t. rw (lapsed-digest b clock q t) (split (place_stands a clock) (λ s. rw (s, t) (unlike-blank (digest_of a clock))) (λ s. rw s (unlike-blank (digest_of a clock))))))

-- where the code refuses: a clause of 26 that does not hold
pub refused : (cs : Conditions) (clock : ℕ) → (Sound cs clock → ⊥) → false ≡ conditions_sound cs clock
refused cs clock f = sym (refuted (conditions_sound cs clock) (λ e. f (sound-says cs clock e)))

-- a place, and its digest as the code has it
pub sound : (c : Condition) (clock : ℕ) {d : Digest} → d ≡ digest_of c clock → not d.sound ≡ false → place_sound c clock ≡ true
sound c clock e f = sym (told-sound c clock) ∙ ap (λ (x : Digest). x.sound) (sym e) ∙ not-false _ f

pub unsound : (c : Condition) (clock : ℕ) {d : Digest} → d ≡ digest_of c clock → not d.sound ≡ true → place_sound c clock ≡ true → ⊥
unsound c clock e f s = true-false s (sym (told-sound c clock) ∙ ap (λ (x : Digest). x.sound) (sym e) ∙ not-true _ f)

-- two places with theirs
module _ (a b : Condition) (clock : ℕ) {x y : Digest} (m : KeyHeld a.key) (n : KeyHeld b.key) (d : x ≡ digest_of a clock) (e : y ≡ digest_of b clock) where
  pub apart : alike x y ≡ false → place_sound a clock ≡ true → place_sound b clock ≡ true → Apart clock a b
  apart f p q = sym (alike-clash a b clock m n p q) ∙ rw (← d, ← e) f

  pub clashing : alike x y ≡ true → place_sound a clock ≡ true → place_sound b clock ≡ true → Apart clock a b → ⊥
  clashing f p q o = true-false (rw (← d, ← e) f) (alike-clash a b clock m n p q ∙ o)

-- alike to neither of two
pub neither : (a b : Bool) → a || b ≡ false → (a ≡ false) × (b ≡ false)
neither true b e = no_way refl e
neither false b e = (refl, e)
