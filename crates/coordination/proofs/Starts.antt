-- Where TLVs start: no start lies inside another TLV.
-- Assumes nothing.
use mathlib.Core.Path.{◌≡◌, refl}
use mathlib.Core.List.{List}
use Prim.Native.Nat.{ℕ, ◌≤◌, ◌<◌}
use native.Mathlib.Omega.{arith}
use Rattle.coordination.specs.Message.{tlvs_end}
use Rattle.coordination.specs.Refused.{behind, StartsAt, first, next}

pub start-low : (m : List ℕ) (p : ℕ) → StartsAt m p → 12 ≤ p
start-low m p (first h) = omega arith
start-low m p (next o s h) = omega (arith, start-low m o s)

pub start-high : (m : List ℕ) (p : ℕ) → StartsAt m p → p < tlvs_end m
start-high m p (first h) = h
start-high m p (next o s h) = h

-- how the start p stands to the place s
pub data Beside (m : List ℕ) (s p : ℕ) : Type 0 where
  before : behind m p ≤ s → Beside m s p
  same : p ≡ s → Beside m s p
  after : behind m s ≤ p → Beside m s p

module _ (m : List ℕ) where
  beside_first : (p : ℕ) → StartsAt m p → Beside m 12 p
  beside_first p (first h) = same refl
  beside_first p (next o s h) = go (beside_first o s) (start-low m o s)
    where
      go : Beside m 12 o → 12 ≤ o → Beside m 12 (behind m o)
      go (before b) l = absurd (omega arith)
      go (same e) l = after (rw e (omega arith))
      go (after b) l = after (omega arith)

  module _ (s : ℕ) (low : 12 ≤ s) (old : (p : ℕ) → StartsAt m p → Beside m s p) where
    moved : (p : ℕ) → Beside m s p → (behind m s ≤ p → Beside m (behind m s) p) → Beside m (behind m s) p
    moved p (before b) f = before (omega arith)
    moved p (same e) f = before (rw e (omega arith))
    moved p (after b) f = f b

    stepped : (o : ℕ) → Beside m s o → Beside m (behind m s) o → behind m s ≤ behind m o → Beside m (behind m s) (behind m o)
    stepped o (before c) d b = absurd (omega arith)
    stepped o (same e) d b = same (rw e)
    stepped o (after c) (before d) b = same (omega arith)
    stepped o (after c) (same e) b = after (rw (← e) (omega arith))
    stepped o (after c) (after d) b = after (omega arith)

    beside-next : (p : ℕ) → StartsAt m p → Beside m (behind m s) p
    beside-next p (first h) = moved 12 (old 12 (first h)) (λ b. absurd (omega arith))
    beside-next p (next o t h) = moved (behind m o) (old (behind m o) (next o t h)) (λ b. stepped o (old o t) (beside-next o t) b)

  pub stands : (s : ℕ) → StartsAt m s → (p : ℕ) → StartsAt m p → Beside m s p
  stands s (first h) = beside_first
  stands s (next o t h) = beside-next o (start-low m o t) (stands o t)
