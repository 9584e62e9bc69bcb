-- The place beside a refusal is the earliest octet at which a rule is broken; an accepted message breaks no rule, and its place is where its TLVs end.
-- Assumes nothing.
use mathlib.Core.Path.{◌≡◌, refl}
use mathlib.Core.Bool.{false}
use mathlib.Core.List.{List}
use Prim.Native.Nat.{ℕ, ◌/◌, ◌%◌, ◌≤◌}
use native.Mathlib.Omega.{arith}
use lib.ListN.{length, get_or}
use lib.Dec.{ltb, leb, eqb}
use borrow.Author.Tests.{leb-true, leb-false, eqb-true, eqb-false, ne_eqb}
use Rattle.octets.specs.Choice.{or_else}
use Rattle.gach.specs.Header.{fault_channel, channel_of, header_refusal, channel_refusal, header_place, channel_place}
use Rattle.gach.specs.Places.{Told}
use Rattle.fault.specs.declared.tlv.Tlvs.{Tlvs}
use Rattle.fault.specs.Message.{tlvs_end, tlvs_in, tlvs_refusal, range_refusal, head_refusal, refusal_with, fault_refusal, head_place, front_place, place_with, fault_place}
use Rattle.fault.specs.Broken.{StartsAt, WrongTlv, Broken, version, type, refresh_low, refresh_high, tlv}
use Rattle.fault.proofs.Verdict.{decide}
use Rattle.fault.proofs.Starts.{start-low}
use Rattle.fault.proofs.WalkEnds.{Walked, clean, ill, all-walked, wrong-low}

-- the earliest octet at which a rule is broken
record Soonest (m : List ℕ) (place : ℕ) : Type 0 where
  broken : Broken place m
  least : (q : ℕ) → Broken q m → place ≤ q

-- a TLV breaks no rule before octet 9
tlv-low : (m : List ℕ) (p q : ℕ) → StartsAt m p → WrongTlv m p q → 9 ≤ q
tlv-low m p q s w = omega (arith, start-low m p s, wrong-low m p q w)

module _ (m : List ℕ) where
  first-version : (get_or m 4 0 / 16 ≡ 1 → ⊥) → Soonest m 4
  first-version h = record { broken = version refl h; least = least }
    where
      least : (q : ℕ) → Broken q m → 4 ≤ q
      least q (version e n) = omega arith
      least q (type e n k) = omega arith
      least q (refresh_low e n) = omega arith
      least q (refresh_high e n) = omega arith
      least q (tlv p s w) = omega (arith, tlv-low m p q s w)

  module _ (v : get_or m 4 0 / 16 ≡ 1) where
    first-type : (get_or m 5 0 ≡ 1 → ⊥) → (get_or m 5 0 ≡ 2 → ⊥) → Soonest m 5
    first-type a b = record { broken = type refl a b; least = least }
      where
        least : (q : ℕ) → Broken q m → 5 ≤ q
        least q (version e n) = absurd (n v)
        least q (type e n k) = omega arith
        least q (refresh_low e n) = omega arith
        least q (refresh_high e n) = omega arith
        least q (tlv p s w) = omega (arith, tlv-low m p q s w)

    module _ (low : 1 ≤ get_or m 5 0) (high : get_or m 5 0 ≤ 2) where
      from-refresh : (q : ℕ) → Broken q m → 7 ≤ q
      from-refresh q (version e n) = absurd (n v)
      from-refresh q (type e n k) = absurd (k (omega (arith, n)))
      from-refresh q (refresh_low e n) = omega arith
      from-refresh q (refresh_high e n) = omega arith
      from-refresh q (tlv p s w) = omega (arith, tlv-low m p q s w)

      first-refresh : Broken 7 m → Soonest m 7
      first-refresh b = record { broken = b; least = from-refresh }

-- what reading comes to, and with which number
data Comes (m : List ℕ) (n place : ℕ) : Type 0 where
  short : n ≡ 3 → place ≡ length m → Comes m n place
  header : n ≡ 4 → place ≡ 0 → Comes m n place
  channel : n ≡ 5 → place ≡ 2 → Comes m n place
  wrong : n ≡ 8 → Soonest m place → Comes m n place
  whole : n ≡ 0 → place ≡ tlvs_end m → ((q : ℕ) → Broken q m → ⊥) → Comes m n place

-- the fields of the head are right
record Head (m : List ℕ) : Type 0 where
  version : get_or m 4 0 / 16 ≡ 1
  kind_low : 1 ≤ get_or m 5 0
  kind_high : get_or m 5 0 ≤ 2
  refresh_low : 1 ≤ get_or m 7 0
  refresh_high : get_or m 7 0 ≤ 20

module _ (m : List ℕ) where
  -- where the head is right, by the TLVs
  by-tlvs : (t : Tlvs) → Head m → Walked m t → Comes m (tlvs_refusal t) (or_else t.bad (tlvs_end m))
  by-tlvs t h (clean e none) = rw e (whole refl refl least)
    where
      least : (q : ℕ) → Broken q m → ⊥
      least q (version e n) = n h.version
      least q (type e n k) = k (omega (arith, n, h.kind_low, h.kind_high))
      least q (refresh_low e n) = omega (arith, h.refresh_low)
      least q (refresh_high e n) = omega (arith, h.refresh_high)
      least q (tlv p s w) = none p q s w
  by-tlvs t h (ill p s w none) =
      let n : eqb t.bad 0 ≡ false = ne_eqb t.bad 0 (λ z. omega (arith, tlv-low m p t.bad s w)) in
      rw n (wrong refl (record { broken = tlv p s w; least = least }))
    where
      least : (q : ℕ) → Broken q m → t.bad ≤ q
      least q (version e n) = absurd (n h.version)
      least q (type e n k) = absurd (k (omega (arith, n, h.kind_low, h.kind_high)))
      least q (refresh_low e n) = absurd (omega (arith, h.refresh_low))
      least q (refresh_high e n) = absurd (omega (arith, h.refresh_high))
      least q (tlv p s w) = none p q s w

  -- by the head, and where it is right by what follows
  by-head : (n place : ℕ) → (Head m → Comes m n place) → Comes m (or_else (head_refusal m) n) (head_place m place)
  unfolding head_refusal range_refusal head_place
  by-head n place rest =
      decide (eqb (get_or m 4 0 / 16) 1) (λ a. rw a (
      decide (leb 1 (get_or m 5 0)) (λ b. rw b (
      decide (leb (get_or m 5 0) 2) (λ c. rw c (
      decide (leb 1 (get_or m 7 0)) (λ d. rw d (
      decide (leb (get_or m 7 0) 20) (λ e. rw e (
      rest (record { version = eqb-true _ _ a; kind_low = leb-true _ _ b; kind_high = leb-true _ _ c; refresh_low = leb-true _ _ d; refresh_high = leb-true _ _ e })))
      (λ e. rw e (wrong refl (first-refresh m (eqb-true _ _ a) (leb-true _ _ b) (leb-true _ _ c) (refresh_high refl (leb-false _ _ e)))))))
      (λ d. rw d (wrong refl (first-refresh m (eqb-true _ _ a) (leb-true _ _ b) (leb-true _ _ c) (refresh_low refl (leb-false _ _ d)))))))
      (λ c. rw c (wrong refl (first-type m (eqb-true _ _ a) (λ z. omega (arith, leb-false (get_or m 5 0) 2 c)) (λ z. omega (arith, leb-false (get_or m 5 0) 2 c)))))))
      (λ b. rw b (wrong refl (first-type m (eqb-true _ _ a) (λ z. omega (arith, leb-false 1 (get_or m 5 0) b)) (λ z. omega (arith, leb-false 1 (get_or m 5 0) b)))))))
      (λ a. rw a (wrong refl (first-version m (eqb-false _ _ a))))

  -- by the channel header and the length before that
  reading : Comes m (fault_refusal m) (fault_place m)
  unfolding fault_refusal refusal_with channel_refusal header_refusal fault_place place_with front_place channel_place header_place
  reading =
      decide (ltb (length m) 4) (λ a. rw a (short refl refl)) (λ a. rw a (
      decide (eqb (get_or m 0 0 / 16) 1) (λ b. rw b (
      decide (eqb (get_or m 0 0 % 16) 0) (λ c. rw c (
      decide (eqb (channel_of m) fault_channel) (λ d. rw d (
      decide (ltb (length m) 9) (λ e. rw e (short refl refl)) (λ e. rw e (
      by-head _ _ (λ h.
      decide (ltb (length m) (tlvs_end m)) (λ f. rw f (short refl refl)) (λ f. rw f (
      by-tlvs (tlvs_in m) h (all-walked m))))))))
      (λ d. rw d (channel refl refl))))
      (λ c. rw c (header refl refl))))
      (λ b. rw b (header refl refl))))

-- a number and its place, told
telling : (m : List ℕ) → Comes m (fault_refusal m) (fault_place m) → Told Broken m (fault_refusal m) (fault_place m)
telling m (short a b) =
    record { short = λ z. b; header = λ z. absurd (omega arith); channel = λ z. absurd (omega arith); rule = λ z. absurd (omega arith) }
telling m (header a b) =
    record { short = λ z. absurd (omega arith); header = λ z. b; channel = λ z. absurd (omega arith); rule = λ z. absurd (omega arith) }
telling m (channel a b) =
    record { short = λ z. absurd (omega arith); header = λ z. absurd (omega arith); channel = λ z. b; rule = λ z. absurd (omega arith) }
telling m (wrong a f) =
    record {
      short = λ z. absurd (omega arith);
      header = λ z. absurd (omega arith);
      channel = λ z. absurd (omega arith);
      rule = λ z. record { broken = f.broken; first = f.least };
    }
telling m (whole a b f) =
    record {
      short = λ z. absurd (omega arith);
      header = λ z. absurd (omega arith);
      channel = λ z. absurd (omega arith);
      rule = λ z. absurd (omega arith);
    }

-- the place beside each refusal: of several rules that are broken the one at the earliest octet is told
pub place-earliest : (m : List ℕ) → Told Broken m (fault_refusal m) (fault_place m)
place-earliest m = telling m (reading m)

-- an accepted message breaks none
none_in : (m : List ℕ) → Comes m (fault_refusal m) (fault_place m) → fault_refusal m ≡ 0 → (q : ℕ) → Broken q m → ⊥
none_in m (short a b) z = absurd (omega arith)
none_in m (header a b) z = absurd (omega arith)
none_in m (channel a b) z = absurd (omega arith)
none_in m (wrong a f) z = absurd (omega arith)
none_in m (whole a b f) z = f

pub unbroken : (m : List ℕ) → fault_refusal m ≡ 0 → (q : ℕ) → Broken q m → ⊥
unbroken m = none_in m (reading m)

-- and the place of an accepted message
whole-place : (m : List ℕ) → Comes m (fault_refusal m) (fault_place m) → fault_refusal m ≡ 0 → fault_place m ≡ tlvs_end m
whole-place m (short a b) z = absurd (omega arith)
whole-place m (header a b) z = absurd (omega arith)
whole-place m (channel a b) z = absurd (omega arith)
whole-place m (wrong a f) z = absurd (omega arith)
whole-place m (whole a b f) z = b

pub place-used : (m : List ℕ) → fault_refusal m ≡ 0 → fault_place m ≡ tlvs_end m
place-used m = whole-place m (reading m)
