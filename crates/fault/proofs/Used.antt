-- An accepted message cut at its place reads the same, and cut before its place it is too short.
-- Assumes nothing.
use mathlib.Core.Path.{◌≡◌, refl, sym, ap, ◌∙◌}
use mathlib.Core.Bool.{true, false}
use mathlib.Core.List.{List}
use Prim.Native.Nat.{ℕ, zero, suc, ◌+◌, ◌≤◌, ◌<◌}
use native.Mathlib.Omega.{arith}
use lib.ListN.{length, take}
use lib.Seq.{get_or-take, length-take-le}
use lib.Dec.{ltb, eqb}
use borrow.Author.Tests.{lt-ltb, ltb-true, ltb-false, eqb-true, eq-eqb, ne_eqb}
use Rattle.octets.proofs.Cuts.{at_front_lem}
use Rattle.octets.specs.Numbers.{number_at}
use Rattle.gach.specs.Header.{fault_channel, header_refusal, channel_refusal}
use Rattle.gach.specs.Places.{Used}
use Rattle.gach.proofs.Says.{channel-passes}
use Rattle.gach.proofs.Places.{channel-front}
use Rattle.fault.specs.declared.tlv.Tlvs.{Tlvs}
use Rattle.fault.specs.Tlvs.{right_length, bad_octet, with_tlv, step_with, step, walk, start, tlvs_of}
use Rattle.fault.specs.Message.{tlvs_end, tlvs_in, head_refusal, refusal_with, fault_refusal, fields_with, fault_of, read_fault, fault_place}
use Rattle.fault.proofs.Walk.{forward, stays, turn}
use Rattle.fault.proofs.Verdict.{decide, Verdict, fine, lone, twice, over, odd, judge}
use Rattle.fault.proofs.Says.{Says, says-bad, passes, fault-says, range-passes}
use Rattle.fault.proofs.Earliest.{place-used}

-- a number is taken in from a value of a type that has it, and no other is looked at
taken-same : (t : Tlvs) (kind size a b a' b' : ℕ) → (eqb kind 1 ≡ true → (a' ≡ a) × (b' ≡ b))
    → (eqb kind 1 ≡ false → eqb kind 2 ≡ true → a' ≡ a) → with_tlv t kind size a' b' ≡ with_tlv t kind size a b
unfolding with_tlv
taken-same t kind size a b a' b' f g =
    decide (eqb kind 1) (λ x. rw (x, (f x).0, (f x).1)) (λ x.
    decide (eqb kind 2) (λ y. rw (x, y, g x y)) (λ y. rw (x, y)))

-- One TLV: all octets of a right one that are looked at lie before the end, and so do those that tell that one is wrong.
module _ (m : List ℕ) (end : ℕ) (t : Tlvs) (low : 9 ≤ t.at) (h : t.at < end) where
  abbrev front : List ℕ
  front = take end m

  -- a stray octet, whatever stands behind it
  stray-any : (kind size : ℕ) → end < t.at + 2 → bad_octet t end kind size ≡ t.at
  unfolding bad_octet
  stray-any kind size x = rw (lt-ltb _ _ x)

  ends : (kind size kind' size' a b a' b' v : ℕ) → bad_octet t end kind' size' ≡ v → bad_octet t end kind size ≡ v → 9 ≤ v
      → step_with t end kind' size' a' b' ≡ step_with t end kind size a b
  ends kind size kind' size' a b a' b' v d e n = rw (d, e, ne_eqb v 0 (λ z. omega arith))

  module _ (kind size : ℕ) where
    goes : bad_octet t end kind size ≡ 0 → t.at + 2 + size ≤ end → right_length kind size ≡ true
        → step_with t end kind size (number_at 4 front (t.at + 2)) (number_at 4 front (t.at + 6))
        ≡ step_with t end kind size (number_at 4 m (t.at + 2)) (number_at 4 m (t.at + 6))
    unfolding right_length
    goes e w l =
        rw e (taken-same t kind size _ _ _ _
        (λ x. let n : size ≡ 8 = eqb-true size 8 (rw x at l) in
        (at_front_lem 4 end m (t.at + 2) (omega arith), at_front_lem 4 end m (t.at + 6) (omega arith)))
        (λ x y. let n : size ≡ 4 = eqb-true size 4 (rw (x, y) at l) in at_front_lem 4 end m (t.at + 2) (omega arith)))

    by : Verdict t end kind size
        → step_with t end kind size (number_at 4 front (t.at + 2)) (number_at 4 front (t.at + 6))
        ≡ step_with t end kind size (number_at 4 m (t.at + 2)) (number_at 4 m (t.at + 6))
    by (fine e w r l) = goes e w l
    by (lone e x) = ends kind size kind size _ _ _ _ t.at e e low
    by (twice e x) = ends kind size kind size _ _ _ _ t.at e e low
    by (over e x) = ends kind size kind size _ _ _ _ t.at e e low
    by (odd e w r x) = ends kind size kind size _ _ _ _ (t.at + 1) e e (omega arith)

  step-front : step front end t ≡ step m end t
  step-front =
      decide (ltb end (t.at + 2))
      (λ x. let s = ltb-true end (t.at + 2) x in
      ends _ _ _ _ _ _ _ _ t.at (stray-any _ _ s) (stray-any _ _ s) low)
      (λ x. let s = ltb-false end (t.at + 2) x in
      rw (get_or-take end m t.at 0 h, get_or-take end m (t.at + 1) 0 (omega arith)) (by _ _ (judge t end _ _)))

walk-front : (k : ℕ) (m : List ℕ) (end : ℕ) (t : Tlvs) → 9 ≤ t.at → walk k (take end m) end t ≡ walk k m end t
walk-front zero m end t low = refl
walk-front (suc k) m end t low =
    decide (ltb t.at end)
    (λ x. let h : t.at < end = ltb-true _ _ x in
    let g : t.at < (step m end t).at = forward t end _ _ _ _ h in
    turn (take end m) end k t h ∙ ap (walk k (take end m) end) (step-front m end t low h)
    ∙ walk-front k m end (step m end t) (omega arith) ∙ sym (turn m end k t h))
    (λ x. let h : end ≤ t.at = ltb-false _ _ x in
    stays (take end m) end (suc k) t h ∙ sym (stays m end (suc k) t h))

tlvs-front : (m : List ℕ) (end : ℕ) → tlvs_of (take end m) end ≡ tlvs_of m end
unfolding tlvs_of
tlvs-front m end = walk-front end m end start (omega arith)

-- The front of a message that is accepted.
module _ (m : List ℕ) (z : fault_refusal m ≡ 0) where
  abbrev said : Says m
  said = fault-says m z

  head-front : (n : ℕ) → 9 ≤ n → head_refusal (take n m) ≡ 0
  unfolding head_refusal
  head-front n p =
      rw (
        get_or-take n m 4 0 (omega arith),
        get_or-take n m 5 0 (omega arith),
        get_or-take n m 7 0 (omega arith),
        eq-eqb _ _ said.version,
        range-passes 8 _ _ said.range,
      )

  -- cut inside the header, inside the head, and inside the TLVs
  cut : (n : ℕ) → n < tlvs_end m → fault_refusal (take n m) ≡ 3
  unfolding fault_refusal refusal_with channel_refusal header_refusal
  cut n h =
      let q : n ≤ length m = omega (arith, said.fits) in
      let l = length-take-le n m q in
      decide (ltb n 4) (λ a. rw (l, a)) (λ a.
      let c = channel-passes fault_channel (take n m) (channel-front m n q fault_channel (ltb-false _ _ a) said.channel) in
      decide (ltb n 9) (λ b. rw (c, l, b)) (λ b.
      let p = ltb-false n 9 b in
      rw (c, l, b, head-front n p, get_or-take n m 8 0 (omega arith), lt-ltb n (tlvs_end m) h)))

  abbrev end : ℕ
  end = tlvs_end m

  abbrev whole : List ℕ
  whole = take end m

  total-whole : tlvs_end whole ≡ end
  total-whole = rw (get_or-take end m 8 0 (omega arith))

  tlvs-whole : tlvs_in whole ≡ tlvs_in m
  tlvs-whole = rw (total-whole) (tlvs-front m end)

  whole_says : Says whole
  whole_says =
      record {
        channel = channel-front m end said.fits fault_channel (omega arith) said.channel;
        long = rw (length-take-le end m said.fits) (omega arith);
        version = rw (get_or-take end m 4 0 (omega arith)) said.version;
        range = rw (get_or-take end m 5 0 (omega arith), get_or-take end m 7 0 (omega arith)) said.range;
        fits = rw (total-whole, length-take-le end m said.fits) (omega arith);
      }

  whole-accepted : fault_refusal whole ≡ 0
  unfolding fault_refusal
  whole-accepted = passes whole (tlvs_in whole) whole_says (rw tlvs-whole (says-bad m (tlvs_in m) z))

  fields-whole : fault_of whole ≡ fault_of m
  unfolding fault_of fields_with
  fields-whole = rw (tlvs-whole, get_or-take end m 5 0 (omega arith), get_or-take end m 6 0 (omega arith), get_or-take end m 7 0 (omega arith))

  reads_whole : read_fault whole ≡ read_fault m
  unfolding read_fault
  reads_whole = rw (whole-accepted, z, fields-whole)

-- the octets used are those before the place
pub used-exactly : (m : List ℕ) → fault_refusal m ≡ 0 → Used read_fault fault_refusal fault_place m
used-exactly m z =
    let e = place-used m z in
    record { same = rw e (reads_whole m z); fewer = λ n h. cut m z n (rw e at h) }
