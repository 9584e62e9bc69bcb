-- What settings that fit say: none of the words for settings out of range holds of them.
-- Assumes nothing.
use mathlib.Core.Path.{◌≡◌}
use mathlib.Core.Bool.{true}
use Prim.Native.Nat.{◌≤◌, ◌<◌}
use native.Mathlib.Omega.{arith}
use Rattle.cv.specs.Forms.{mep_fits}
use Rattle.rules.specs.declared.Settings.{Settings}
use Rattle.rules.specs.Settings.{settings_fit}
use Rattle.rules.specs.Unfit.{Unfit, label_below, label_above, no_discriminator, period_below, period_above, own_kind, own_agi, expected_kind, expected_agi, link_mark, lock_mark, mode_above}
use Rattle.rules.proofs.Bools.{forced, true-false}
use Rattle.rules.proofs.Failing.{at_most}
use Rattle.rules.proofs.Unfit.{end-fails, settings-unfit}

pub record SettingsSay (s : Settings) : Type 0 where
  pub label_low : 16 ≤ s.label
  pub label_high : s.label ≤ 1048575
  pub discriminator : s.discriminator ≡ 0 → ⊥
  pub period_low : 1000 ≤ s.period
  pub period_high : s.period ≤ 10000000
  pub own : mep_fits s.own.kind s.own.size ≡ true
  pub expected : mep_fits s.expected.kind s.expected.size ≡ true
  pub followlink : s.followlink < 2
  pub followlock : s.followlock < 2
  pub mode : s.mode < 3

pub settings-say : (s : Settings) → settings_fit s ≡ true → SettingsSay s
settings-say s e =
    record {
      label_low = at_most 16 _ (λ h. no (label_below h));
      label_high = at_most _ 1048575 (λ h. no (label_above h));
      discriminator = λ h. no (no_discriminator h);
      period_low = at_most 1000 _ (λ h. no (period_below h));
      period_high = at_most _ 10000000 (λ h. no (period_above h));
      own = forced _ (λ f. no (end-fails _ _ own_kind own_agi f));
      expected = forced _ (λ f. no (end-fails _ _ expected_kind expected_agi f));
      followlink = omega (arith, at_most s.followlink 1 (λ h. no (link_mark h)));
      followlock = omega (arith, at_most s.followlock 1 (λ h. no (lock_mark h)));
      mode = omega (arith, at_most s.mode 2 (λ h. no (mode_above h)));
    }
  where
    no : Unfit s → ⊥
    no w = true-false e ((settings-unfit s).1 w)
