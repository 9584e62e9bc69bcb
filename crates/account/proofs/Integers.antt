-- Signed 64-bit numbers: what the machine reads back from a number's bits is the number; ranges of sums and differences.
-- Assumes nothing.
use mathlib.Core.Path.{◌≡◌, refl, sym, ap, ◌∙◌}
use mathlib.Core.Bool.{Bool, true, false}
use Prim.Native.Nat.{ℕ, zero, suc, ◌+◌, ◌-◌, ◌^◌, ◌≤◌, ◌<◌}
use native.Mathlib.Omega.{arith}
use lib.Dec.{ltb, leb}
use borrow.Author.Tests.{lt-ltb, le-ltb, ltb-true, ltb-false, le-leb, leb-true, leb-false}
use lib.IntN.{ℤ, pos, negsuc, nat_abs, sub_ℕ, ◌+ℤ◌, ◌-ℤ◌}
use lib.Signed.{mag, lt_z, le_z}
use mir.Syntax.{w64}
use mir.Val.{SFits, to_z}

pub split : {A : Type 0} (b : Bool) → (b ≡ true → A) → (b ≡ false → A) → A
split true y n = y refl
split false y n = n refl

-- bits below half are a number that is not negative
pub read_pos : (n : ℕ) → n < 2 ^ 63 → to_z w64 n ≡ pos n
read_pos n h = rw (lt-ltb n (2 ^ 63) h)

pub small : (z : ℤ) → mag z < 2 ^ 63 → SFits w64 z
small z h = record { sfits = h }

-- a minus b
sub-mag : (a b : ℕ) → a < 2 ^ 63 → b ≤ 2 ^ 63 → mag (sub_ℕ a b) < 2 ^ 63
sub-mag a b ha hb = split (ltb a b) (λ e. rw e (omega (arith, ltb-true a b e))) (λ e. rw e (omega (arith, ltb-false a b e)))

-- a negative number, one more, and that taken from 0
pub up : (e : ℤ) → lt_z e (pos 0) ≡ true → SFits w64 e → SFits w64 (e +ℤ pos 1)
up (pos n) h f = absurd (omega (arith, ltb-true n 0 h))
up (negsuc n) h f = small _ (sub-mag 1 (suc n) (omega arith) (omega (arith, f.sfits)))

pub turned : (e : ℤ) → lt_z e (pos 0) ≡ true → pos 0 -ℤ (e +ℤ pos 1) ≡ pos (mag e)
turned (pos n) h = absurd (omega (arith, ltb-true n 0 h))
turned (negsuc zero) h = refl
turned (negsuc (suc m)) h = rw (lt-ltb 1 (suc (suc m)) (omega arith)) (ap pos (omega arith))

pub size_below : (e : ℤ) → lt_z e (pos 0) ≡ true → mag e + 1 ≡ nat_abs e
size_below (pos n) h = absurd (omega (arith, ltb-true n 0 h))
size_below (negsuc n) h = omega arith

pub not-below : (e : ℤ) → lt_z e (pos 0) ≡ false → e ≡ pos (nat_abs e)
not-below (pos n) h = refl
not-below (negsuc n) h = absurd (let z : ◌≡◌ {A = ℕ} 0 1 = cc in omega arith)

pub size_small : (e : ℤ) → SFits w64 e → nat_abs e ≤ 2 ^ 63
size_small (pos n) f = omega (arith, f.sfits)
size_small (negsuc n) f = omega (arith, f.sfits)

-- the difference of two numbers
pub minus : (d p : ℕ) → pos d -ℤ pos p ≡ sub_ℕ d p
minus d zero = rw (le-ltb d 0 (omega arith)) (ap pos (omega arith))
minus d (suc q) = refl

pub minus-fits : (d p : ℕ) → d < 2 ^ 63 → p < 2 ^ 63 → SFits w64 (pos d -ℤ pos p)
minus-fits d p hd hp = rw (minus d p) (small _ (sub-mag d p hd (omega arith)))

pub minus-less : (a b : ℕ) → b ≤ a → pos a -ℤ pos b ≡ pos (a - b)
minus-less a b h = minus a b ∙ rw (le-ltb a b h)

-- below 0
pub zero-less : (s : ℕ) → 0 < s → pos 0 -ℤ pos s ≡ negsuc (s - 1)
zero-less zero h = absurd (omega arith)
zero-less (suc k) h = rw (lt-ltb 0 (suc k) (omega arith)) (ap negsuc (omega arith))

less : (k c : ℕ) → negsuc k -ℤ pos c ≡ negsuc (k + c)
less k zero = rw (lt-ltb 0 (suc k) (omega arith)) (ap negsuc (omega arith))
less k (suc d) = ap negsuc (omega arith)

pub down-one : (k : ℕ) → pos 0 -ℤ pos k -ℤ pos 1 ≡ negsuc k
down-one zero = refl
down-one (suc j) = ap (λ (z : ℤ). z -ℤ pos 1) (zero-less (suc j) (omega arith)) ∙ less (suc j - 1) 1 ∙ ap negsuc (omega arith)

minus-more : (a b : ℕ) → a < b → pos a -ℤ pos b ≡ negsuc (b - suc a)
minus-more a b h = minus a b ∙ rw (lt-ltb a b h)

-- one number, another taken from it, and a third from that
module _ (a b c : ℕ) where
  pub all-behind : a < b → pos a -ℤ pos b -ℤ pos c ≡ pos 0 -ℤ pos (b - a + c)
  all-behind h =
      ap (λ (z : ℤ). z -ℤ pos c) (minus-more a b h) ∙ less (b - suc a) c ∙ ap negsuc (omega arith) ∙ sym (zero-less (b - a + c) (omega arith))

  pub all_short : b ≤ a → a - b < c → pos a -ℤ pos b -ℤ pos c ≡ pos 0 -ℤ pos (c - (a - b) + 0)
  all_short h s =
      ap (λ (z : ℤ). z -ℤ pos c) (minus-less a b h) ∙ minus-more (a - b) c s ∙ ap negsuc (omega arith) ∙ sym (zero-less (c - (a - b) + 0) (omega arith))

  pub all-ahead : b ≤ a → c ≤ a - b → pos a -ℤ pos b -ℤ pos c ≡ pos (a - b - c)
  all-ahead h s = ap (λ (z : ℤ). z -ℤ pos c) (minus-less a b h) ∙ minus-less (a - b) c s

-- whether the sum of two numbers fits, by a difference that does
same_test : (x y : Bool) → (x ≡ true → y ≡ true) → (x ≡ false → y ≡ false) → x ≡ y
same_test true y f g = sym (f refl)
same_test false y f g = sym (g refl)

-- the greatest less a number that is not below 0
pub greatest-less : (b : ℤ) → lt_z b (pos 0) ≡ false → SFits w64 b → SFits w64 (pos 9223372036854775807 -ℤ b)
greatest-less (pos n) h f = minus-fits 9223372036854775807 n (omega arith) f.sfits
greatest-less (negsuc n) h f = absurd (let z : ◌≡◌ {A = ℕ} 0 1 = cc in omega arith)

-- the least less a number that is below 0
pub least-less : (b : ℤ) → lt_z b (pos 0) ≡ true → SFits w64 b → SFits w64 (negsuc 9223372036854775807 -ℤ b)
least-less (pos n) h f = absurd (omega (arith, ltb-true n 0 h))
least-less (negsuc n) h f =
    small _ (split (ltb (suc n) 9223372036854775808) (λ e. rw e (omega arith)) (λ e. rw e (omega (arith, f.sfits))))

pub room-up : (a b : ℤ) → lt_z b (pos 0) ≡ false → SFits w64 a → SFits w64 b
    → le_z a (pos 9223372036854775807 -ℤ b) ≡ ltb (mag (a +ℤ b)) 9223372036854775808
room-up (pos m) (pos n) h f g =
    rw (minus-less 9223372036854775807 n (omega (arith, g.sfits)))
    (same_test (leb m (9223372036854775807 - n)) (ltb (m + n) 9223372036854775808)
    (λ e. lt-ltb (m + n) 9223372036854775808 (omega (arith, leb-true m (9223372036854775807 - n) e, g.sfits)))
    (λ e. le-ltb (m + n) 9223372036854775808 (omega (arith, leb-false m (9223372036854775807 - n) e, g.sfits))))
room-up (negsuc m) (pos n) h f g =
    rw (minus-less 9223372036854775807 n (omega (arith, g.sfits)))
    (sym (lt-ltb (mag (sub_ℕ n (suc m))) 9223372036854775808 (sub-mag n (suc m) g.sfits (omega (arith, f.sfits)))))
room-up a (negsuc n) h f g = absurd (let z : ◌≡◌ {A = ℕ} 0 1 = cc in omega arith)

pub room-down : (a b : ℤ) → lt_z b (pos 0) ≡ true → SFits w64 a → SFits w64 b
    → le_z (negsuc 9223372036854775807 -ℤ b) a ≡ ltb (mag (a +ℤ b)) 9223372036854775808
room-down a (pos n) h f g = absurd (omega (arith, ltb-true n 0 h))
room-down (pos m) (negsuc n) h f g =
    split (ltb (suc n) 9223372036854775808)
    (λ e. rw e (sym (lt-ltb (mag (sub_ℕ m (suc n))) 9223372036854775808 (sub-mag m (suc n) f.sfits (omega (arith, g.sfits))))))
    (λ e. rw e (
    le-leb (suc n - 9223372036854775808) m (omega (arith, g.sfits)) ∙ sym (lt-ltb (mag (sub_ℕ m (suc n))) 9223372036854775808 (sub-mag m (suc n) f.sfits (omega (arith, g.sfits))))))
room-down (negsuc m) (negsuc n) h f g =
    split (ltb (suc n) 9223372036854775808)
    (λ e. rw e (same_test (leb m (9223372036854775808 - suc (suc n))) (ltb (suc (m + n)) 9223372036854775808)
    (λ t. lt-ltb (suc (m + n)) 9223372036854775808 (omega (arith, leb-true m (9223372036854775808 - suc (suc n)) t, ltb-true (suc n) 9223372036854775808 e)))
    (λ t. le-ltb (suc (m + n)) 9223372036854775808 (omega (arith, leb-false m (9223372036854775808 - suc (suc n)) t, ltb-true (suc n) 9223372036854775808 e)))))
    (λ e. rw e (sym (le-ltb (suc (m + n)) 9223372036854775808 (omega (arith, ltb-false (suc n) 9223372036854775808 e)))))

pub fits-true : (z : ℤ) → SFits w64 z → ltb (mag z) 9223372036854775808 ≡ true
fits-true z f = lt-ltb (mag z) 9223372036854775808 f.sfits

pub true-fits : (z : ℤ) → ltb (mag z) 9223372036854775808 ≡ true → SFits w64 z
true-fits z e = small z (ltb-true (mag z) 9223372036854775808 e)
