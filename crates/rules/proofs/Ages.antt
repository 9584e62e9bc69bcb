-- A reading that is not late goes on from the clock; as the clock goes on a loss stays, a crossing and a condition fade.
-- Assumes nothing.
use mathlib.Core.Path.{◌≡◌}
use mathlib.Core.Bool.{true, false}
use Prim.Native.Nat.{ℕ, ◌+◌, ◌≤◌, ◌<◌}
use native.Mathlib.Omega.{arith}
use lib.Dec.{ltb}
use borrow.Author.Tests.{ltb-true, ltb-false, lt-ltb}
use Rattle.rules.specs.Times.{latest, late, past, within}
use Rattle.rules.proofs.Failing.{both-fail}

pub not_late : (clock reading : ℕ) → late clock reading ≡ false → clock ≤ reading
unfolding late
not_late clock reading = both-fail {a = ltb reading clock} {b = ltb latest reading} (λ e f. ltb-false reading clock e)

module _ (at span now later : ℕ) (h : now ≤ later) where
  pub past-later : past at span now ≡ true → past at span later ≡ true
  unfolding past
  past-later e = let p : at + span < now = ltb-true (at + span) now e in lt-ltb (at + span) later (omega arith)

  pub within-before : within at span later ≡ true → within at span now ≡ true
  unfolding within
  within-before e = let p : later < at + span = ltb-true later (at + span) e in lt-ltb now (at + span) (omega arith)
