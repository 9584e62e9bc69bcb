-- What is written reads back to the same fields, and a plain message that was read, written again, gives the same octets.
-- Assumes nothing.
use mathlib.Core.Path.{◌≡◌, refl, sym, ap, ◌∙◌}
use mathlib.Core.Bool.{Bool, true, false}
use mathlib.Core.List.{List, [], ◌∷◌, ◌++◌}
use Prim.Native.Nat.{ℕ, ◌+◌, ◌*◌, ◌/◌, ◌%◌, ◌^◌, ◌≤◌, ◌<◌}
use native.Mathlib.Omega.{arith}
use lib.ListN.{length, get_or}
use lib.Dec.{eqb}
use borrow.Author.Tests.{le-ltb}
use Rattle.octets.specs.Numbers.{number_at, octets_of}
use Rattle.octets.specs.Choice.{accepted, bit_of}
use Rattle.octets.proofs.Numbers.{read_of, run, of_at, run-all}
use Rattle.octets.proofs.Chain.{bit-again}
use Rattle.gach.specs.Header.{header_octets}
use Rattle.coordination.specs.declared.Dhc.{Dhc}
use Rattle.std.specs.Prelude.{Some}
use Rattle.coordination.specs.Carried.{OptionalStatus}
use Rattle.coordination.specs.Carried.{NoStatus, AStatus}
use Rattle.coordination.specs.Carried.{OptionalSwitching}
use Rattle.coordination.specs.Carried.{NoSwitching, ASwitching}
use Rattle.coordination.specs.declared.tlv.Tlvs.{Tlvs}
use Rattle.coordination.specs.Tlvs.{repeated, wrong_length, wrong_tlv, step_with, start, tlvs_of}
use Rattle.coordination.specs.Message.{dhc_channel, tlvs_in, tlvs_refusal, refusal_with, dhc_refusal, low_bit, next_bit, status_at, switching_at, fields_with, dhc_of, read_dhc}
use Rattle.coordination.specs.Octets.{tlvs_needed, field_refusal, status_tlv, switching_tlv, total_of, head_octets, dhc_octets}
use Rattle.coordination.specs.Plain.{Three, SizedStatus, SizedSwitching, Sized, PlainStatus, PlainSwitching, PlainTlvs, status_alone, switching_alone, status_then_switching, Plain}
use Rattle.coordination.proofs.Walk.{none, one, two}
use Rattle.coordination.proofs.Says.{Says, passes, dhc-says}

-- The walk over the TLVs of a plain message, each presence by itself.

abbrev met : ℕ → ℕ → ℕ → Tlvs
met at status switching = record { at = at; bad = false; status = status; switching = switching }

first-status : (end kind size : ℕ) → 36 ≤ end → kind ≡ 1 → size ≡ 20 → step_with start end kind size ≡ met 36 12 0
unfolding repeated wrong_length wrong_tlv
first-status end kind size h k s = rw (k, s, le-ltb end 36 h)

first-switching : (end kind size : ℕ) → 32 ≤ end → kind ≡ 2 → size ≡ 16 → step_with start end kind size ≡ met 32 0 12
unfolding repeated wrong_length wrong_tlv
first-switching end kind size h k s = rw (k, s, le-ltb end 32 h)

second-switching : (end kind size : ℕ) → 56 ≤ end → kind ≡ 2 → size ≡ 16 → step_with (met 36 12 0) end kind size ≡ met 56 12 36
unfolding repeated wrong_length wrong_tlv
second-switching end kind size h k s = rw (k, s, le-ltb end 56 h)

module _ (m : List ℕ) where
  with-status : number_at 2 m 12 ≡ 1 → number_at 2 m 14 ≡ 20 → tlvs_of m 36 ≡ met 36 12 0
  with-status k s = one m 36 _ (omega arith) (first-status 36 _ _ (omega arith) k s) (omega arith)

  with-switching : number_at 2 m 12 ≡ 2 → number_at 2 m 14 ≡ 16 → tlvs_of m 32 ≡ met 32 0 12
  with-switching k s = one m 32 _ (omega arith) (first-switching 32 _ _ (omega arith) k s) (omega arith)

  with-both : number_at 2 m 12 ≡ 1 → number_at 2 m 14 ≡ 20 → number_at 2 m 36 ≡ 2 → number_at 2 m 38 ≡ 16 → tlvs_of m 56 ≡ met 56 12 36
  with-both k s k' s' =
      two m 56 (met 36 12 0) _ (omega arith) (first-status 56 _ _ (omega arith) k s) (omega arith)
      (second-switching 56 _ _ (omega arith) k' s') (omega arith)

-- What is written, read.

reads : (m : List ℕ) (t : Tlvs) (d : Dhc) → tlvs_in m ≡ t → Says m → tlvs_refusal t ≡ 0 → fields_with m t ≡ d → read_dhc m ≡ accepted d
unfolding read_dhc dhc_refusal dhc_of
reads m t d e s r g = rw (e, passes m t s, r, g)

-- the bits of a number of one or two bits
low-one : (a : Bool) → low_bit (bit_of a) ≡ a
low-one true = refl
low-one false = refl

low-two : (a b : Bool) → low_bit (bit_of a * 2 + bit_of b) ≡ b
low-two true true = refl
low-two true false = refl
low-two false true = refl
low-two false false = refl

next-two : (a b : Bool) → next_bit (bit_of a * 2 + bit_of b) ≡ a
next-two true true = refl
next-two true false = refl
next-two false true = refl
next-two false false = refl

one-small : (a : Bool) → bit_of a < 256 ^ 4
one-small true = omega arith
one-small false = omega arith

two-small : (a b : Bool) → bit_of a * 2 + bit_of b < 256 ^ 4
two-small true true = omega arith
two-small true false = omega arith
two-small false true = omega arith
two-small false false = omega arith

-- TLVs at a place, by the numbers that stand there
module _ (m : List ℕ) (a b c : ℕ) where
  status-is : (p d f : Bool) → number_at 4 m 16 ≡ a → number_at 4 m 20 ≡ b → number_at 4 m 24 ≡ c → number_at 4 m 28 ≡ bit_of p
      → number_at 4 m 32 ≡ bit_of d * 2 + bit_of f → status_at m 12 ≡ AStatus a b c p d f
  unfolding status_at
  status-is p d f x y z v w = rw (x, y, z, v, w, low-one p, next-two d f, low-two d f)

  switching-is : (at : ℕ) (s p : Bool) → eqb at 0 ≡ false → number_at 4 m (at + 4) ≡ a → number_at 4 m (at + 8) ≡ b → number_at 4 m (at + 12) ≡ c
      → number_at 4 m (at + 16) ≡ bit_of s * 2 + bit_of p → switching_at m at ≡ ASwitching a b c s p
  unfolding switching_at
  switching-is at s p n x y z v = rw (n, x, y, z, v, next-two s p, low-two s p)

same-fields : {a b : ℕ} {s s' : OptionalStatus} {w w' : OptionalSwitching} → a ≡ b → s ≡ s' → w ≡ w'
    → ◌≡◌ {A = Dhc} (record { id = a; status = s; switching = w }) (record { id = b; status = s'; switching = w' })
same-fields x y z = cc

no-status : (m : List ℕ) → status_at m 0 ≡ NoStatus
unfolding status_at
no-status m = refl

no-switching : (m : List ℕ) → switching_at m 0 ≡ NoSwitching
unfolding switching_at
no-switching m = refl

module _ (id : ℕ) (pad : List ℕ) where
  abbrev dhc : OptionalStatus → OptionalSwitching → Dhc
  dhc s w = record { id = id; status = s; switching = w }

  -- the twelve octets before the TLVs
  abbrev message : ℕ → List ℕ → List ℕ
  message total tlvs = header_octets dhc_channel (octets_of 4 id (octets_of 2 total (octets_of 2 0 tlvs)))

  head-says : (total : ℕ) (tlvs : List ℕ) → total < 65536 → total ≤ length tlvs → Says (message total tlvs)
  head-says total tlvs b h =
      record {
        channel = record { long = omega arith; nibble = refl; version = refl; channel = refl };
        long = omega arith;
        fits = omega arith;
      }

  back : (s : OptionalStatus) (w : OptionalSwitching) → id < 256 ^ 4 → SizedStatus s → SizedSwitching w → tlvs_needed s w ≡ 0
      → read_dhc (dhc_octets (dhc s w) ++ pad) ≡ accepted (dhc s w)
  unfolding dhc_octets tlvs_refusal
  back NoStatus NoSwitching i x y n = absurd (omega arith)
  back NoStatus (Some sw) i x y n =
      let tlvs : List ℕ = octets_of 2 2 (octets_of 2 16 (octets_of 4 sw.destination (octets_of 4 sw.source (octets_of 4 sw.pw (octets_of 4 (bit_of sw.switch * 2 + bit_of sw.protection) pad))))) in
      let m = message 20 tlvs in
      reads m (met 32 0 12) _ (with-switching m refl refl) (head-says 20 tlvs (omega arith) (omega arith)) refl
      (same-fields (read_of 4 id [] i) (no-status m)
      (switching-is m sw.destination sw.source sw.pw 12 sw.switch sw.protection refl (read_of 4 sw.destination [] y.first) (read_of 4 sw.source [] y.second) (read_of 4 sw.pw [] y.third)
      (read_of 4 (bit_of sw.switch * 2 + bit_of sw.protection) [] (two-small sw.switch sw.protection))))
  back (Some st) NoSwitching i x y n =
      let tlvs : List ℕ = octets_of 2 1 (octets_of 2 20 (octets_of 4 st.destination (octets_of 4 st.source (octets_of 4 st.pw (octets_of 4 (bit_of st.protection) (octets_of 4 (bit_of st.degrade * 2 + bit_of st.fail) pad)))))) in
      let m = message 24 tlvs in
      reads m (met 36 12 0) _ (with-status m refl refl) (head-says 24 tlvs (omega arith) (omega arith)) refl
      (same-fields (read_of 4 id [] i)
      (status-is m st.destination st.source st.pw st.protection st.degrade st.fail (read_of 4 st.destination [] x.first) (read_of 4 st.source [] x.second) (read_of 4 st.pw [] x.third)
      (read_of 4 (bit_of st.protection) [] (one-small st.protection)) (read_of 4 (bit_of st.degrade * 2 + bit_of st.fail) [] (two-small st.degrade st.fail)))
      (no-switching m))
  back (Some st) (Some sw) i x y n =
      let last : List ℕ = octets_of 2 2 (octets_of 2 16 (octets_of 4 sw.destination (octets_of 4 sw.source (octets_of 4 sw.pw (octets_of 4 (bit_of sw.switch * 2 + bit_of sw.protection) pad))))) in
      let tlvs : List ℕ = octets_of 2 1 (octets_of 2 20 (octets_of 4 st.destination (octets_of 4 st.source (octets_of 4 st.pw (octets_of 4 (bit_of st.protection) (octets_of 4 (bit_of st.degrade * 2 + bit_of st.fail) last)))))) in
      let m = message 44 tlvs in
      reads m (met 56 12 36) _ (with-both m refl refl refl refl) (head-says 44 tlvs (omega arith) (omega arith)) refl
      (same-fields (read_of 4 id [] i)
      (status-is m st.destination st.source st.pw st.protection st.degrade st.fail (read_of 4 st.destination [] x.first) (read_of 4 st.source [] x.second) (read_of 4 st.pw [] x.third)
      (read_of 4 (bit_of st.protection) [] (one-small st.protection)) (read_of 4 (bit_of st.degrade * 2 + bit_of st.fail) [] (two-small st.degrade st.fail)))
      (switching-is m sw.destination sw.source sw.pw 36 sw.switch sw.protection refl (read_of 4 sw.destination [] y.first) (read_of 4 sw.source [] y.second) (read_of 4 sw.pw [] y.third)
      (read_of 4 (bit_of sw.switch * 2 + bit_of sw.protection) [] (two-small sw.switch sw.protection))))

-- what is written reads back, whatever stands behind it
pub read-written : (d : Dhc) (pad : List ℕ) → Sized d → field_refusal d ≡ 0 → read_dhc (dhc_octets d ++ pad) ≡ accepted d
read-written d pad s e = back d.id pad d.status d.switching s.id s.status s.switching e

-- refusal 10 is for no other fields: what would be read is written
exactly : (id : ℕ) (s : OptionalStatus) (w : OptionalSwitching) → dhc_refusal (dhc_octets (dhc id [] s w)) ≡ 0 → tlvs_needed s w ≡ 0
unfolding dhc_octets dhc_refusal tlvs_refusal
exactly id NoStatus NoSwitching e =
    let m = message id [] 0 [] in
    let t : dhc_refusal m ≡ 25 = rw (none m 12 (omega arith), passes m start (head-says id [] 0 [] (omega arith) (omega arith))) in
    absurd (omega arith)
exactly id NoStatus (Some sw) e = refl
exactly id (Some st) w e = refl

pub refused-exactly : (d : Dhc) → dhc_refusal (dhc_octets d) ≡ 0 → field_refusal d ≡ 0
refused-exactly d e = exactly d.id d.status d.switching e

-- A plain message, read and written.

one-back : (x : ℕ) → x < 2 → bit_of (low_bit x) ≡ x
one-back x h = bit-again (x % 2) (omega arith) ∙ omega arith

two_back : (x : ℕ) → x < 4 → bit_of (next_bit x) * 2 + bit_of (low_bit x) ≡ x
two_back x h = rw (bit-again (x / 2 % 2) (omega arith), bit-again (x % 2) (omega arith)) (omega arith)

pair : {a0 a1 b0 b1 : ℕ} {s t : List ℕ} → a0 ≡ b0 → a1 ≡ b1 → s ≡ t → a0 ∷ a1 ∷ s ≡ b0 ∷ b1 ∷ t
pair e0 e1 e = cc

module _ (m : List ℕ) (p : Plain m) (e : dhc_refusal m ≡ 0) where
  -- a number that is the one at a place, before what is read behind it
  number-again : (k n at : ℕ) {s u : List ℕ} → n ≡ number_at k m at → s ≡ u → octets_of k n s ≡ run k m at u
  number-again k n at {s} {u} x y = ap (λ (i : ℕ). octets_of k i s) x ∙ of_at k m at s p.octets ∙ ap (run k m at) y

  head-again : (t : Tlvs) (s u : List ℕ) → total_of (fields_with m t) ≡ number_at 2 m 8 → s ≡ u → head_octets (fields_with m t) s ≡ run 12 m 0 u
  head-again t s u n d =
      let h = (dhc-says m e).channel in
      pair {b0 = get_or m 0 0} {b1 = get_or m 1 0} (omega arith) (omega arith)
      (number-again 2 dhc_channel 2 (sym h.channel)
      (number-again 4 (number_at 4 m 4) 4 refl
      (number-again 2 (total_of (fields_with m t)) 8 n (number-again 2 0 10 (sym p.reserved) d))))

  status-again : (s u : List ℕ) → PlainStatus m 12 → s ≡ u → status_tlv (status_at m 12) ++ s ≡ run 24 m 12 u
  unfolding status_at
  status-again s u q d =
      number-again 2 1 12 (sym q.type) (number-again 2 20 14 (sym q.size)
      (number-again 4 (number_at 4 m 16) 16 refl (number-again 4 (number_at 4 m 20) 20 refl (number-again 4 (number_at 4 m 24) 24 refl
      (number-again 4 (bit_of (low_bit (number_at 4 m 28))) 28 (one-back _ q.flags)
      (number-again 4 (bit_of (next_bit (number_at 4 m 32)) * 2 + bit_of (low_bit (number_at 4 m 32))) 32 (two_back _ q.service) d))))))

  switching-again : (at : ℕ) → PlainSwitching m at
      → octets_of 2 2 (octets_of 2 16 (octets_of 4 (number_at 4 m (at + 4)) (octets_of 4 (number_at 4 m (at + 8)) (octets_of 4 (number_at 4 m (at + 12))
      (octets_of 4 (bit_of (next_bit (number_at 4 m (at + 16))) * 2 + bit_of (low_bit (number_at 4 m (at + 16)))) [])))))
      ≡ run 2 m at (run 2 m (at + 2) (run 4 m (at + 4) (run 4 m (at + 8) (run 4 m (at + 12) (run 4 m (at + 16) [])))))
  switching-again at q =
      number-again 2 2 at (sym q.type) (number-again 2 16 (at + 2) (sym q.size)
      (number-again 4 (number_at 4 m (at + 4)) (at + 4) refl (number-again 4 (number_at 4 m (at + 8)) (at + 8) refl
      (number-again 4 (number_at 4 m (at + 12)) (at + 12) refl (number-again 4 _ (at + 16) (two_back _ q.flags) refl)))))

  again : (t : Tlvs) (total : ℕ) → number_at 2 m 8 ≡ total → tlvs_of m (12 + total) ≡ t → dhc_octets (fields_with m t) ≡ m → dhc_octets (dhc_of m) ≡ m
  unfolding dhc_of
  again t total z w q = ap (λ (n : ℕ). dhc_octets (fields_with m (tlvs_of m (12 + n)))) z ∙ ap (λ (u : Tlvs). dhc_octets (fields_with m u)) w ∙ q

  all-again : PlainTlvs m → dhc_octets (dhc_of m) ≡ m
  unfolding dhc_octets status_at switching_at
  all-again (status_alone z q) =
      let t = met 36 12 0 in
      again t 24 z (with-status m q.type q.size)
      (head-again t _ (run 24 m 12 []) (sym z) (status-again [] [] q refl) ∙ run-all 36 m (omega (arith, p.size)))
  all-again (switching_alone z q) =
      let t = met 32 0 12 in
      again t 20 z (with-switching m q.type q.size)
      (head-again t _ (run 20 m 12 []) (sym z) (switching-again 12 q) ∙ run-all 32 m (omega (arith, p.size)))
  all-again (status_then_switching z q r) =
      let t = met 56 12 36 in
      again t 44 z (with-both m q.type q.size r.type r.size)
      (head-again t _ (run 44 m 12 []) (sym z) (status-again _ (run 20 m 36 []) q (switching-again 36 r)) ∙ run-all 56 m (omega (arith, p.size)))

-- a plain message that is read, written again, is the same octets
pub written_read : (m : List ℕ) → Plain m → dhc_refusal m ≡ 0 → dhc_octets (dhc_of m) ≡ m
written_read m p e = all-again m p e p.tlvs
