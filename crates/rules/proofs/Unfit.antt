-- The test of settings fails exactly where the paper's words say that they are out of range.
-- Assumes nothing.
use Prim.Native.Nat.{ℕ, ◌≤◌, ◌<◌}
use native.Mathlib.Omega.{arith}
use mathlib.Core.Path.{◌≡◌, refl}
use mathlib.Core.Bool.{false}
use mathlib.Core.Logic.{◌↔◌}
use lib.Dec.{ltb, leb, eqb}
use borrow.Author.Tests.{ltb-false, leb-true, leb-false, eqb-true, eqb-false, le-ltb, lt-leb, eq-eqb, ne_eqb}
use Rattle.cv.specs.Forms.{mep_fits}
use Rattle.rules.specs.declared.Settings.{Settings}
use Rattle.rules.specs.Settings.{settings_fit}
use Rattle.rules.specs.Unfit.{Unfit, label_below, label_above, no_discriminator, period_below, period_above, own_kind, own_agi, expected_kind, expected_agi, link_mark, lock_mark, mode_above}
use Rattle.rules.proofs.Bools.{no_way, split}
use Rattle.rules.proofs.Failing.{one-fails, and-false, no-mark, mark-fails, nought, nought-fails}

-- a MEP-ID that does not fit: a type above 2, or a pseudowire with an AGI of more than 32 octets
pub end-fails : {P : Type 0} (kind agi : ℕ) → (2 < kind → P) → (kind ≡ 2 → 32 < agi → P) → mep_fits kind agi ≡ false → P
unfolding mep_fits
end-fails kind agi above long e =
    split (ltb kind 2) (λ a. no_way refl (rw a at e))
    (λ a.
    split (eqb kind 2) (λ b. long (eqb-true kind 2 b) (leb-false agi 32 (rw (a, b) at e)))
    (λ b.
    split (leb kind 2) (λ d. absurd (eqb-false kind 2 b (omega (arith, ltb-false kind 2 a, leb-true kind 2 d))))
    (λ d. above (leb-false kind 2 d))))

kind-fails : (kind agi : ℕ) → 2 < kind → mep_fits kind agi ≡ false
unfolding mep_fits
kind-fails kind agi h =
    let low : 2 ≤ kind = omega arith in
    let other : kind ≡ 2 → ⊥ = λ k. omega arith in
    rw (le-ltb kind 2 low, ne_eqb kind 2 other)

agi-fails : (kind agi : ℕ) → kind ≡ 2 → 32 < agi → mep_fits kind agi ≡ false
unfolding mep_fits
agi-fails kind agi k h =
    let low : 2 ≤ kind = omega arith in
    rw (le-ltb kind 2 low, eq-eqb kind 2 k, lt-leb agi 32 h)

-- a mode is 0, 1 or 2
no_mode : (mode : ℕ) → ltb mode 3 ≡ false → 2 < mode
no_mode mode e = omega (arith, ltb-false mode 3 e)

mode-fails : (mode : ℕ) → 2 < mode → ltb mode 3 ≡ false
mode-fails mode h = le-ltb mode 3 (omega arith)

module _ (g : Settings) where
  told : settings_fit g ≡ false → Unfit g
  unfolding settings_fit
  told =
      one-fails
      (one-fails
      (one-fails (one-fails (λ e. label_below (leb-false 16 _ e)) (λ e. label_above (leb-false _ 1048575 e))) (λ e. no_discriminator (nought _ e)))
      (one-fails (λ e. period_below (leb-false 1000 _ e)) (λ e. period_above (leb-false _ 10000000 e))))
      (one-fails
      (one-fails (end-fails _ _ own_kind own_agi) (end-fails _ _ expected_kind expected_agi))
      (one-fails (λ e. link_mark (no-mark _ e)) (one-fails (λ e. lock_mark (no-mark _ e)) (λ e. mode_above (no_mode _ e)))))

  untold : Unfit g → settings_fit g ≡ false
  unfolding settings_fit
  untold (label_below h) = rw (lt-leb 16 g.label h)
  untold (label_above h) = simp (lt-leb g.label 1048575 h, and-false)
  untold (no_discriminator h) = simp (nought-fails g.discriminator h, and-false)
  untold (period_below h) = simp (lt-leb 1000 g.period h, and-false)
  untold (period_above h) = simp (lt-leb g.period 10000000 h, and-false)
  untold (own_kind h) = simp (kind-fails g.own.kind g.own.size h, and-false)
  untold (own_agi k h) = simp (agi-fails g.own.kind g.own.size k h, and-false)
  untold (expected_kind h) = simp (kind-fails g.expected.kind g.expected.size h, and-false)
  untold (expected_agi k h) = simp (agi-fails g.expected.kind g.expected.size k h, and-false)
  untold (link_mark h) = simp (mark-fails g.followlink h, and-false)
  untold (lock_mark h) = simp (mark-fails g.followlock h, and-false)
  untold (mode_above h) = simp (mode-fails g.mode h, and-false)

  -- 10 of open
  pub settings-unfit : (settings_fit g ≡ false) ↔ Unfit g
  settings-unfit = (told, untold)
