-- The forms of a MEP-ID: what the tests on its type, its length and its AGI length say, each once.
-- Assumes nothing.
use mathlib.Core.Path.{◌≡◌, refl, sym, ◌∙◌}
use mathlib.Core.Bool.{Bool, true, false}
use Prim.Native.Nat.{ℕ, ◌+◌, ◌≤◌, ◌<◌}
use native.Mathlib.Nat.{min-eq_left, min-eq_right}
use native.Mathlib.Omega.{arith}
use borrow.Author.Tests.{ltb-true, ltb-false, leb-true, eqb-true, lt-ltb, le-ltb, le-leb, eq-eqb}
use lib.Dec.{ltb, leb, eqb}
use Rattle.octets.proofs.Chain.{need-passed, and_both}
use Rattle.cv.specs.Forms.{value_length, length_fits, agi_fits, form_refusal, agi_refusal, mep_fits}

-- by the two values of a test, with what it is
pub split : {A : Type 0} (b : Bool) → (b ≡ true → A) → (b ≡ false → A) → A
split true t f = t refl
split false t f = f refl

-- a type, a length and an AGI length of a MEP-ID: a Section or LSP, whose AGI length is nobody's field, or a pseudowire
pub data Formed : ℕ → ℕ → ℕ → Type 0 where
  fixed : {kind len agi : ℕ} → kind < 2 → len ≡ 12 → Formed kind len agi
  pseudowire : {kind len agi : ℕ} → kind ≡ 2 → len ≡ 14 + agi → agi ≤ 32 → Formed kind len agi

module _ (kind agi : ℕ) where
  pub length-fixed : kind < 2 → value_length kind agi ≡ 12
  unfolding value_length
  length-fixed h = rw (lt-ltb kind 2 h)

  pub length-pseudowire : 2 ≤ kind → agi ≤ 32 → value_length kind agi ≡ 14 + agi
  unfolding value_length
  length-pseudowire h k = rw (le-ltb kind 2 h, min-eq_left k)

  pub length-long : 2 ≤ kind → 32 ≤ agi → value_length kind agi ≡ 46
  unfolding value_length
  length-long h k = rw (le-ltb kind 2 h, min-eq_right k)

  -- 12 to 46, whatever the numbers are
  pub length-within : (12 ≤ value_length kind agi) × (value_length kind agi ≤ 46)
  unfolding value_length
  length-within = split (ltb kind 2) (λ e. rw e (omega arith, omega arith)) (λ e. rw e (omega arith, omega arith))

  -- what can be written has a form
  pub fits-formed : mep_fits kind agi ≡ true → Formed kind (value_length kind agi) agi
  unfolding mep_fits
  fits-formed e =
      split (ltb kind 2) (λ t. fixed (ltb-true kind 2 t) (length-fixed (ltb-true kind 2 t)))
      (λ t.
      let a = and_both (eqb kind 2) (leb agi 32) (rw t at e) in
      let k : kind ≡ 2 = eqb-true kind 2 a.0 in
      let small : agi ≤ 32 = leb-true agi 32 a.1 in
      pseudowire k (length-pseudowire (omega arith) small) small)

-- a message that passes both tests has a form
pub formed : (kind len agi : ℕ) → form_refusal kind len ≡ 0 → agi_refusal kind len agi ≡ 0 → Formed kind len agi
unfolding form_refusal length_fits agi_fits agi_refusal
formed kind len agi e f =
    let a = need-passed _ _ _ e in
    let b = need-passed (length_fits kind len) _ _ a.1 in
    let d = need-passed (agi_fits kind len agi) _ _ f in
    split (ltb kind 2) (λ t. fixed (ltb-true kind 2 t) (eqb-true len 12 (rw t at b.0)))
    (λ t.
    let within = and_both (leb 14 len) (leb len 46) (rw t at b.0) in
    let low : 2 ≤ kind = ltb-false kind 2 t in
    let high : kind < 3 = ltb-true kind 3 a.0 in
    let most : len ≤ 46 = leb-true len 46 within.1 in
    let sum : 14 + agi ≡ len = eqb-true (14 + agi) len (rw t at d.0) in
    pseudowire (omega arith) (sym sum) (omega arith))

-- and passes them
pub length-allowed : {kind len agi : ℕ} → Formed kind len agi → (kind < 3) × (length_fits kind len ≡ true)
unfolding length_fits
length-allowed {kind} {len} {agi} (fixed h e) = (omega arith, rw (lt-ltb kind 2 h, eq-eqb len 12 e))
length-allowed {kind} {len} {agi} (pseudowire k e m) =
    let low : 2 ≤ kind = omega arith in
    let least : 14 ≤ len = omega arith in
    let most : len ≤ 46 = omega arith in
    (omega arith, rw (le-ltb kind 2 low, le-leb 14 len least, le-leb len 46 most))

pub agi-allowed : {kind len agi : ℕ} → Formed kind len agi → agi_fits kind len agi ≡ true
unfolding agi_fits
agi-allowed {kind} {len} {agi} (fixed h e) = rw (lt-ltb kind 2 h)
agi-allowed {kind} {len} {agi} (pseudowire k e m) =
    let low : 2 ≤ kind = omega arith in
    rw (le-ltb kind 2 low, eq-eqb (14 + agi) len (sym e))

pub form-passes : {kind len agi : ℕ} → Formed kind len agi → form_refusal kind len ≡ 0
unfolding form_refusal
form-passes {kind} {len} {agi} f = let a = length-allowed f in rw (lt-ltb kind 3 a.0, a.1)

pub agi-passes : {kind len agi : ℕ} → Formed kind len agi → agi_refusal kind len agi ≡ 0
unfolding agi_refusal
agi-passes f = rw (agi-allowed f)

-- its length is the one that is written, 12 or more, and it can be written
pub formed-length : {kind len agi : ℕ} → Formed kind len agi → value_length kind agi ≡ len
formed-length {kind} {len} {agi} (fixed h e) = length-fixed kind agi h ∙ sym e
formed-length {kind} {len} {agi} (pseudowire k e m) = length-pseudowire kind agi (omega arith) m ∙ sym e

pub formed-long : {kind len agi : ℕ} → Formed kind len agi → 12 ≤ len
formed-long {kind} {len} {agi} f = omega (arith, formed-length f, (length-within kind agi).0)

pub formed-fits : {kind len agi : ℕ} → Formed kind len agi → mep_fits kind agi ≡ true
unfolding mep_fits
formed-fits {kind} {len} {agi} (fixed h e) = rw (lt-ltb kind 2 h)
formed-fits {kind} {len} {agi} (pseudowire k e m) =
    let low : 2 ≤ kind = omega arith in
    rw (le-ltb kind 2 low, eq-eqb kind 2 k, le-leb agi 32 m)

-- another octet where the AGI length would stand: only a pseudowire looks at it
pub formed-at : {kind len agi : ℕ} (other : ℕ) → Formed kind len agi → (len ≡ 14 + agi → other ≡ agi) → Formed kind len other
formed-at other (fixed h e) same = fixed h e
formed-at {kind} {len} {agi} other (pseudowire k e m) same =
    let o : other ≡ agi = same e in
    pseudowire {kind = kind} {len = len} {agi = other} k (rw o e) (rw o m)
