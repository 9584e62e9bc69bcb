-- The place behind a refusal is that of the earliest field that breaks a rule ("Of several such fields the earliest is named").
-- Assumes nothing.
use mathlib.Core.Path.{◌≡◌, refl}
use mathlib.Core.Bool.{Bool, true, false}
use mathlib.Core.List.{List}
use mathlib.Core.Logic.{◌⊎◌, inl, inr}
use Prim.Native.Nat.{ℕ, ◌+◌, ◌≤◌, ◌<◌}
use native.Mathlib.Omega.{arith}
use lib.Dec.{ltb, leb}
use lib.ListN.{length}
use borrow.Author.Tests.{ltb-true, ltb-false, leb-true, leb-false, eqb-true, eqb-false, lt-ltb, le-ltb}
use Rattle.octets.specs.Choice.{need, bar, or_else}
use Rattle.octets.proofs.Chain.{and_both}
use Rattle.gach.specs.Header.{cv_channel}
use Rattle.gach.specs.Places.{Told}
use Rattle.gach.proofs.Places.{told_none, told-short, told-rule}
use Rattle.bfd.specs.Broken.{Broken}
use Rattle.bfd.proofs.Says.{ControlSays}
use Rattle.bfd.proofs.Earliest.{none-broken, control-told}
use Rattle.cv.specs.Forms.{length_fits, agi_fits, form_refusal, agi_refusal, mep_refusal, form_place, value_place}
use Rattle.cv.specs.Cv.{mep_at, kind_at, len_at, agi_length_at, cv_refusal, cv_end, source_place, cv_place}
use Rattle.cv.specs.Broken.{CvBroken, packet, mep_type, not_twelve, too_short, too_long, agi_length}
use Rattle.cv.proofs.Forms.{split}

-- the MEP-ID's rules lie behind the packet's
behind : (m : List ℕ) (q : ℕ) → CvBroken q m → Broken q m ⊎ (9 ≤ q)
behind m q (packet b) = inl b
behind m q (mep_type l b) = inr (omega arith)
behind m q (not_twelve l k b) = inr (omega arith)
behind m q (too_short l k b) = inr (omega arith)
behind m q (too_long l k b) = inr (omega arith)
behind m q (agi_length l k b) = inr (omega arith)

-- a length that a type of 0, 1 or 2 allows, and one that it does not
allowed : (kind len : ℕ) → length_fits kind len ≡ true → (kind < 2 → len ≡ 12) × (kind ≡ 2 → (14 ≤ len) × (len ≤ 46))
unfolding length_fits
allowed kind len e = (
  (λ h. eqb-true len 12 (rw (lt-ltb kind 2 h) at e)),
  (λ h.
      let low : 2 ≤ kind = omega arith in
      let both = and_both (leb 14 len) (leb len 46) (rw (le-ltb kind 2 low) at e) in
      (leb-true 14 len both.0, leb-true len 46 both.1)),
)

-- where no rule of the packet is broken: from the MEP-ID on; with a type that is right from its length on; and with a length that is right
-- at the AGI length
module _ (m : List ℕ) (s : ControlSays cv_channel m) where
  type-first : (q : ℕ) → CvBroken q m → mep_at m ≤ q
  type-first q (packet b) = none-broken cv_channel (mep_at m) m s q b
  type-first q (mep_type l b) = omega arith
  type-first q (not_twelve l k b) = omega arith
  type-first q (too_short l k b) = omega arith
  type-first q (too_long l k b) = omega arith
  type-first q (agi_length l k b) = omega arith

  length-first : kind_at m < 3 → (q : ℕ) → CvBroken q m → mep_at m + 2 ≤ q
  length-first h q (packet b) = none-broken cv_channel (mep_at m + 2) m s q b
  length-first h q (mep_type l b) = absurd (omega arith)
  length-first h q (not_twelve l k b) = omega arith
  length-first h q (too_short l k b) = omega arith
  length-first h q (too_long l k b) = omega arith
  length-first h q (agi_length l k b) = omega arith

  agi-first : kind_at m < 3 → length_fits (kind_at m) (len_at m) ≡ true → (q : ℕ) → CvBroken q m → mep_at m + 17 ≤ q
  agi-first h f q (packet b) = none-broken cv_channel (mep_at m + 17) m s q b
  agi-first h f q (mep_type l b) = absurd (omega arith)
  agi-first h f q (not_twelve l k b) = absurd (b ((allowed (kind_at m) (len_at m) f).0 k))
  agi-first h f q (too_short l k b) = absurd (omega (arith, ((allowed (kind_at m) (len_at m) f).1 k).0))
  agi-first h f q (too_long l k b) = absurd (omega (arith, ((allowed (kind_at m) (len_at m) f).1 k).1))
  agi-first h f q (agi_length l k b) = omega arith

  -- a length and an AGI length that are not allowed break a rule
  length-broken : kind_at m < 3 → length_fits (kind_at m) (len_at m) ≡ false → CvBroken (mep_at m + 2) m
  unfolding length_fits
  length-broken h f =
      let kind = kind_at m in
      let len = len_at m in
      split (ltb kind 2) (λ t. not_twelve s.whole (ltb-true kind 2 t) (eqb-false len 12 (rw t at f)))
      (λ t.
      let k : kind ≡ 2 = omega (arith, ltb-false kind 2 t) in
      split (leb 14 len)
      (λ low. too_long s.whole k (leb-false len 46 (rw (t, low) at f)))
      (λ low. too_short s.whole k (leb-false 14 len low)))

  agi-broken : kind_at m < 3 → agi_fits (kind_at m) (len_at m) (agi_length_at m) ≡ false → CvBroken (mep_at m + 17) m
  unfolding agi_fits
  agi-broken h f =
      let kind = kind_at m in
      split (ltb kind 2) (λ t. absurd (let z : true ≡ false = rw t at f in let n : ◌≡◌ {A = ℕ} 0 1 = cc in omega arith))
      (λ t.
      let k : kind ≡ 2 = omega (arith, ltb-false kind 2 t) in
      agi_length s.whole k (eqb-false (14 + agi_length_at m) (len_at m) (rw t at f)))

-- the tests of a MEP-ID, in their order
source-step : (T : ℕ → ℕ → Type 0) (short low fits cut agi : Bool) (size at p : ℕ) → T 3 size → (low ≡ false → T 7 at)
    → (low ≡ true → fits ≡ false → T 7 (at + 2)) → (low ≡ true → fits ≡ true → agi ≡ false → T 7 (at + 17)) → T 0 p
    → T (bar short 3 (or_else (need low 7 (need fits 7 0)) (bar cut 3 (need agi 7 0))))
    (bar short size (need low at (need fits (at + 2) (bar cut size (need agi (at + 17) p)))))
source-step T true low fits cut agi size at p ends kind len odds none = ends
source-step T false false fits cut agi size at p ends kind len odds none = kind refl
source-step T false true false cut agi size at p ends kind len odds none = len refl refl
source-step T false true true true agi size at p ends kind len odds none = ends
source-step T false true true false false size at p ends kind len odds none = odds refl refl refl
source-step T false true true false true size at p ends kind len odds none = none

source_told : (m : List ℕ) → ControlSays cv_channel m → Told CvBroken m (mep_refusal m (mep_at m)) (source_place m)
unfolding form_refusal agi_refusal mep_refusal form_place value_place source_place
source_told m s =
    let earliest : (k : ℕ) → CvBroken k m → ((q : ℕ) → CvBroken q m → k ≤ q) → Told CvBroken m 7 k =
    λ k b first. told-rule CvBroken m 7 k (omega arith) (record { broken = b; first = first }) in
    source-step (Told CvBroken m) (ltb (length m) (mep_at m + 4)) (ltb (kind_at m) 3) (length_fits (kind_at m) (len_at m))
    (ltb (length m) (cv_end m)) (agi_fits (kind_at m) (len_at m) (agi_length_at m)) (length m) (mep_at m) (cv_end m)
    (told-short CvBroken m)
    (λ e. earliest (mep_at m) (mep_type s.whole (ltb-false _ _ e)) (type-first m s))
    (λ t e. let h = ltb-true _ _ t in earliest (mep_at m + 2) (length-broken m s h e) (length-first m s h))
    (λ t f e. let h = ltb-true _ _ t in earliest (mep_at m + 17) (agi-broken m s h e) (agi-first m s h f))
    (told_none CvBroken m (cv_end m))

pub place-earliest : (m : List ℕ) → Told CvBroken m (cv_refusal m) (cv_place m)
unfolding cv_refusal cv_place
place-earliest m = control-told CvBroken m (λ q b. packet b) (behind m) cv_channel (mep_refusal m (mep_at m)) (source_place m) (source_told m)
