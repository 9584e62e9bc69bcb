-- The test of one record fails exactly where the paper's words for 26 hold of it.
-- Assumes nothing.
use Prim.Native.Nat.{ℕ}
use native.Mathlib.Omega.{arith}
use mathlib.Core.Path.{◌≡◌, ap}
use mathlib.Core.Bool.{true, false, not}
use mathlib.Core.Logic.{◌↔◌, ◌⊎◌, inl, inr}
use lib.Dec.{eqb}
use borrow.Author.Tests.{leb-false, eqb-true, eqb-false, not-false, lt-leb, ne_eqb}
use Rattle.rules.specs.States.{is_coming_up, state_of}
use Rattle.rules.proofs.Bools.{split, no_way}
use Rattle.rules.proofs.Failing.{one-fails, both-fail, and-false, nought, nought-fails}
use Rattle.rules.proofs.Unfit.{settings-unfit}
use Rattle.homing.proofs.Fits.{group-unfit}
use Rattle.conditions.proofs.Unsound.{conditions-unsound}
use Rattle.session.specs.declared.Session.{Session}
use Rattle.session.specs.Soundness.{own_fits, ungrouped_sound, session_sound}
use Rattle.session.specs.Unsound.{UnsoundSession, settings_unfit, state_above, no_multiplier, diagnostic_above, owed_mark, crossing_mark, timed_above, crossed_above, conditions_unsound, no_remote, group_unfit}

-- INIT is 2 and UP is 3
pub up-told : (n : ℕ) → is_coming_up (state_of n) ≡ true → (n ≡ 2) ⊎ (n ≡ 3)
up-told n e =
    split (eqb n 2) (λ z. inl (eqb-true n 2 z))
    (λ z. split (eqb n 3) (λ y. inr (eqb-true n 3 y))
    (λ y. no_way e
    (split (eqb n 0) (λ x. rw x) (λ x. split (eqb n 1) (λ w. rw (x, w)) (λ w. rw (x, w, z, y))))))

pub told-up : (n : ℕ) → (n ≡ 2) ⊎ (n ≡ 3) → is_coming_up (state_of n) ≡ true
told-up n (inl e) = ap (λ (m : ℕ). is_coming_up (state_of m)) e
told-up n (inr e) = ap (λ (m : ℕ). is_coming_up (state_of m)) e

module _ (r : Session) (clock : ℕ) where
  own-told : own_fits r clock ≡ false → UnsoundSession r clock
  unfolding own_fits
  own-told =
      one-fails
      (one-fails
      (one-fails
      (one-fails
      (one-fails
      (one-fails (λ e. state_above (leb-false _ 4 e)) (λ e. no_multiplier (omega (arith, leb-false 1 r.peer.multiplier e))))
      (λ e. diagnostic_above (leb-false _ 31 e)))
      (λ e. owed_mark (leb-false _ 1 e)))
      (λ e. crossing_mark (leb-false _ 1 e)))
      (one-fails (λ e. timed_above (leb-false _ clock e)) (both-fail (λ m e. crossed_above (eqb-false _ _ m) (leb-false _ clock e)))))
      (both-fail (λ u e. no_remote (up-told _ (not-false _ u)) (nought _ e)))

  told : session_sound r clock ≡ false → UnsoundSession r clock
  unfolding session_sound ungrouped_sound
  told =
      one-fails
      (one-fails (one-fails (λ e. settings_unfit ((settings-unfit r.settings).0 e)) own-told)
      (λ e. conditions_unsound ((conditions-unsound r.conditions clock).0 e)))
      (λ e. group_unfit ((group-unfit r.settings.label r.group).0 e))

  untold : UnsoundSession r clock → session_sound r clock ≡ false
  unfolding session_sound ungrouped_sound own_fits
  untold (settings_unfit w) = rw ((settings-unfit r.settings).1 w)
  untold (state_above h) = simp (lt-leb r.state 4 h, and-false)
  untold (no_multiplier h) = simp (lt-leb 1 r.peer.multiplier (omega arith), and-false)
  untold (diagnostic_above h) = simp (lt-leb r.peer.diagnostic 31 h, and-false)
  untold (owed_mark h) = simp (lt-leb r.peer.owed 1 h, and-false)
  untold (crossing_mark h) = simp (lt-leb r.crossing 1 h, and-false)
  untold (timed_above h) = simp (lt-leb r.timed clock h, and-false)
  untold (crossed_above m h) = simp (ne_eqb r.crossing 0 m, lt-leb r.crossed clock h, and-false)
  untold (conditions_unsound w) = simp ((conditions-unsound r.conditions clock).1 w, and-false)
  untold (no_remote u z) = simp (told-up r.state u, nought-fails r.peer.remote z, and-false)
  untold (group_unfit w) = simp ((group-unfit r.settings.label r.group).1 w, and-false)

  -- 26, one open record
  pub session-unsound : (session_sound r clock ≡ false) ↔ UnsoundSession r clock
  session-unsound = (told, untold)
