-- Refusals and places go down one chain of tests, step by step; the header's part of it; and the header of a message that is cut.
-- Assumes nothing.
use mathlib.Core.Path.{◌≡◌, refl, sym, subst}
use mathlib.Core.Bool.{Bool, true, false}
use mathlib.Core.List.{List}
use Prim.Native.Nat.{ℕ, zero, suc, ◌+◌, ◌/◌, ◌%◌, ◌≤◌, ◌<◌}
use native.Mathlib.Omega.{arith}
use lib.Dec.{ltb, eqb, eqb-suc-zero}
use lib.ListN.{length, get_or, take}
use lib.Seq.{length-take-le, get_or-take}
use borrow.Author.Tests.{ltb-true, ltb-false, eqb-true, lt-ltb}
use Rattle.octets.specs.Numbers.{number_at}
use Rattle.octets.specs.Choice.{need, bar, or_else}
use Rattle.octets.proofs.Chain.{or_else-assoc}
use Rattle.octets.proofs.Cuts.{at_front_lem}
use Rattle.gach.specs.Header.{channel_of, header_refusal, channel_refusal, header_place, channel_place}
use Rattle.gach.specs.Places.{Earliest, Told}
use Rattle.gach.proofs.Says.{ChannelSays}

-- one test of a chain: refused here, with this place, or what follows
module _ (T : ℕ → ℕ → Type 0) where
  pub need-step : (test : Bool) (n x r k p : ℕ) → (test ≡ false → T (suc n) k) → (test ≡ true → T (or_else x r) p)
      → T (or_else (need test (suc n) x) r) (need test k p)
  need-step true n x r k p here next = next refl
  need-step false n x r k p here next = rw (eqb-suc-zero n) (here refl)

  pub bar-step : (test : Bool) (n x r k p : ℕ) → (test ≡ true → T (suc n) k) → (test ≡ false → T (or_else x r) p)
      → T (or_else (bar test (suc n) x) r) (bar test k p)
  bar-step true n x r k p here next = rw (eqb-suc-zero n) (here refl)
  bar-step false n x r k p here next = next refl

-- each refusal with its place
module _ (Broken : ℕ → List ℕ → Type 0) (m : List ℕ) where
  pub told_none : (place : ℕ) → Told Broken m 0 place
  told_none place =
      record { short = λ e. absurd (omega arith); header = λ e. absurd (omega arith); channel = λ e. absurd (omega arith); rule = λ h. absurd (omega arith) }

  pub told-short : Told Broken m 3 (length m)
  told-short =
      record { short = λ e. refl; header = λ e. absurd (omega arith); channel = λ e. absurd (omega arith); rule = λ h. absurd (omega arith) }

  told-header : Told Broken m 4 0
  told-header =
      record { short = λ e. absurd (omega arith); header = λ e. refl; channel = λ e. absurd (omega arith); rule = λ h. absurd (omega arith) }

  told-channel : Told Broken m 5 2
  told-channel =
      record { short = λ e. absurd (omega arith); header = λ e. absurd (omega arith); channel = λ e. refl; rule = λ h. absurd (omega arith) }

  pub told-rule : (n place : ℕ) → 6 ≤ n → Earliest Broken m place → Told Broken m n place
  told-rule n place h earliest =
      record { short = λ e. absurd (omega arith); header = λ e. absurd (omega arith); channel = λ e. absurd (omega arith); rule = λ _. earliest }

  -- the header of any of the three kinds, before what follows
  pub channel-told : (own r p : ℕ) → (ChannelSays own m → Told Broken m r p) → Told Broken m (or_else (channel_refusal own m) r) (channel_place own m p)
  unfolding header_refusal channel_refusal header_place channel_place
  channel-told own r p next =
      let T = Told Broken m in
      subst (λ (n : ℕ). T n (channel_place own m p)) (sym (or_else-assoc (header_refusal m) _ r))
      (bar-step T (ltb (length m) 4) 2 _ _ _ _ (λ _. told-short)
      (λ long. need-step T (eqb (get_or m 0 0 / 16) 1) 3 _ _ _ _ (λ _. told-header)
      (λ nibble. need-step T (eqb (get_or m 0 0 % 16) 0) 3 _ _ _ _ (λ _. told-header)
      (λ version. need-step T (eqb (channel_of m) own) 4 _ _ _ _ (λ _. told-channel)
      (λ channel. next (record { long = ltb-false _ _ long; nibble = eqb-true _ _ nibble; version = eqb-true _ _ version; channel = eqb-true _ _ channel }))))))

by-test : {A : Type 0} (test : Bool) → (test ≡ true → A) → (test ≡ false → A) → A
by-test true low high = low refl
by-test false low high = high refl

-- a message is cut below k, or not
pub below : {A : Type 0} (n k : ℕ) → (n < k → A) → (k ≤ n → A) → A
below n k low high = by-test (ltb n k) (λ e. low (ltb-true n k e)) (λ e. high (ltb-false n k e))

module _ (m : List ℕ) (n : ℕ) (h : n ≤ length m) where
  -- the header of a message that is cut behind it, and inside it
  pub channel-front : (own : ℕ) → 4 ≤ n → ChannelSays own m → ChannelSays own (take n m)
  channel-front own f s =
      record {
        long = omega (arith, length-take-le n m h);
        nibble = rw (get_or-take n m 0 0 (omega arith)) s.nibble;
        version = rw (get_or-take n m 0 0 (omega arith)) s.version;
        channel = rw (at_front_lem 2 n m 2 (omega arith)) s.channel;
      }

  pub channel-cut : (own : ℕ) → n < 4 → channel_refusal own (take n m) ≡ 3
  unfolding header_refusal channel_refusal
  channel-cut own f = rw (lt-ltb (length (take n m)) 4 (omega (arith, length-take-le n m h)))
