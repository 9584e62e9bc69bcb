-- What is written reads back to the same fields, and a plain message that was read, written again, gives the same octets.
-- Assumes nothing.
use mathlib.Core.Path.{◌≡◌, refl, ap, ◌∙◌}
use mathlib.Core.Bool.{Bool, true, false}
use mathlib.Core.List.{List, [], ◌∷◌, ◌++◌}
use Prim.Native.Nat.{ℕ, zero, suc, ◌+◌, ◌*◌, ◌/◌, ◌%◌, ◌≤◌, ◌<◌}
use native.Mathlib.Omega.{arith}
use lib.ListN.{length, get_or}
use lib.Dec.{eqb}
use borrow.Author.Tests.{le-ltb}
use Rattle.octets.specs.Numbers.{number_at, octets_of}
use Rattle.octets.specs.Choice.{accepted, bit_of}
use Rattle.octets.proofs.Numbers.{read_of, run, of_at, run-all}
use Rattle.octets.proofs.Chain.{bit-again}
use Rattle.gach.specs.Header.{fault_channel, header_octets}
use Rattle.fault.specs.declared.Fault.{Fault}
use Rattle.fault.specs.Identifiers.{OptionalIfId}
use Rattle.fault.specs.Identifiers.{NoIfId}
use Rattle.std.specs.Prelude.{Some}
use Rattle.fault.specs.Identifiers.{OptionalGlobalId}
use Rattle.fault.specs.Identifiers.{NoGlobalId, AGlobalId}
use Rattle.fault.specs.declared.tlv.Tlvs.{Tlvs}
use Rattle.fault.specs.Tlvs.{repeated, right_length, bad_octet, with_tlv, step_with, start, tlvs_of}
use Rattle.fault.specs.Message.{tlvs_in, refusal_with, fault_refusal, fields_with, fault_of, read_fault}
use Rattle.fault.specs.Octets.{field_refusal, total_of, head_octets, fault_octets}
use Rattle.fault.specs.Plain.{SizedIf, SizedGlobal, Sized, PlainTlvs, no_tlv, if_alone, global_alone, if_then_global, Plain}
use Rattle.fault.proofs.Walk.{none, one, two}
use Rattle.fault.proofs.Says.{RangeSays, range-says, range-passes, Says, passes, fault-says}

-- The walk over the TLVs of a plain message, each presence by itself.

abbrev met : ℕ → Bool → ℕ → ℕ → Bool → ℕ → Tlvs
met at ifid node interface globalid global =
    record { at = at; bad = 0; ifid = ifid; node = node; interface = interface; globalid = globalid; global = global }

first-if : (end kind size a b : ℕ) → 19 ≤ end → kind ≡ 1 → size ≡ 8 → step_with start end kind size a b ≡ met 19 true a b false 0
unfolding repeated right_length bad_octet with_tlv
first-if end kind size a b h k s =
    rw (k, s, le-ltb end 11 (omega arith), le-ltb end 19 h)

first-global : (end kind size a b : ℕ) → 15 ≤ end → kind ≡ 2 → size ≡ 4 → step_with start end kind size a b ≡ met 15 false 0 0 true a
unfolding repeated right_length bad_octet with_tlv
first-global end kind size a b h k s =
    rw (k, s, le-ltb end 11 (omega arith), le-ltb end 15 h)

second-global : (end kind size a b node interface : ℕ) → 25 ≤ end → kind ≡ 2 → size ≡ 4
    → step_with (met 19 true node interface false 0) end kind size a b ≡ met 25 true node interface true a
unfolding repeated right_length bad_octet with_tlv
second-global end kind size a b node interface h k s =
    rw (k, s, le-ltb end 21 (omega arith), le-ltb end 25 h)

module _ (m : List ℕ) where
  with-if : get_or m 9 0 ≡ 1 → get_or m 10 0 ≡ 8 → tlvs_of m 19 ≡ met 19 true (number_at 4 m 11) (number_at 4 m 15) false 0
  with-if k s = one m 19 _ (omega arith) (first-if 19 _ _ _ _ (omega arith) k s) (omega arith)

  with-global : get_or m 9 0 ≡ 2 → get_or m 10 0 ≡ 4 → tlvs_of m 15 ≡ met 15 false 0 0 true (number_at 4 m 11)
  with-global k s = one m 15 _ (omega arith) (first-global 15 _ _ _ _ (omega arith) k s) (omega arith)

  with-both : get_or m 9 0 ≡ 1 → get_or m 10 0 ≡ 8 → get_or m 19 0 ≡ 2 → get_or m 20 0 ≡ 4
      → tlvs_of m 25 ≡ met 25 true (number_at 4 m 11) (number_at 4 m 15) true (number_at 4 m 21)
  with-both k s k' s' =
      two m 25 (met 19 true (number_at 4 m 11) (number_at 4 m 15) false 0) _ (omega arith)
      (first-if 25 _ _ _ _ (omega arith) k s) (omega arith)
      (second-global 25 _ _ _ _ _ _ (omega arith) k' s') (omega arith)

-- What is written, read.

reads : (m : List ℕ) (t : Tlvs) (f : Fault) → tlvs_in m ≡ t → refusal_with m t ≡ 0 → fields_with m t ≡ f → read_fault m ≡ accepted f
unfolding read_fault fault_refusal fault_of
reads m t f e r g = rw (e, r, g)

link-back : (linkdown removed : Bool) → eqb ((bit_of linkdown * 2 + bit_of removed) / 2 % 2) 1 ≡ linkdown
link-back true true = refl
link-back true false = refl
link-back false true = refl
link-back false false = refl

removed-back : (linkdown removed : Bool) → eqb ((bit_of linkdown * 2 + bit_of removed) % 2) 1 ≡ removed
removed-back true true = refl
removed-back true false = refl
removed-back false true = refl
removed-back false false = refl

same_met : (at : ℕ) (p q : Bool) {a b c a' b' c' : ℕ} → a ≡ a' → b ≡ b' → c ≡ c' → met at p a b q c ≡ met at p a' b' q c'
same_met at p q x y z = rw (x, y, z)

module _ (kind refresh : ℕ) (linkdown removed : Bool) (pad : List ℕ) where
  abbrev fault : OptionalIfId → OptionalGlobalId → Fault
  fault i g = record { kind = kind; linkdown = linkdown; removed = removed; refresh = refresh; interface = i; global = g }

  -- the nine octets before the TLVs
  abbrev message : ℕ → List ℕ → List ℕ
  message total tlvs = header_octets fault_channel (0x10 ∷ kind ∷ (bit_of linkdown * 2 + bit_of removed) ∷ refresh ∷ total ∷ tlvs)

  head-says : RangeSays kind refresh → (total : ℕ) (tlvs : List ℕ) → total ≤ length tlvs → Says (message total tlvs)
  head-says r total tlvs h =
      record {
        channel = record { long = omega arith; nibble = refl; version = refl; channel = refl };
        long = omega arith;
        version = refl;
        range = r;
        fits = omega arith;
      }

  back : (i : OptionalIfId) (g : OptionalGlobalId) → SizedIf i → SizedGlobal g → RangeSays kind refresh
      → read_fault (fault_octets (fault i g) ++ pad) ≡ accepted (fault i g)
  unfolding fault_octets fields_with
  back NoIfId NoGlobalId si sg r =
      let m = message 0 pad in
      reads m start _ (none m 9 (omega arith)) (passes m start (head-says r 0 pad (omega arith)) refl)
      (rw (link-back linkdown removed, removed-back linkdown removed))
  back NoIfId (AGlobalId global) si sg r =
      let tlvs : List ℕ = 2 ∷ 4 ∷ octets_of 4 global pad in
      let m = message 6 tlvs in
      let t = met 15 false 0 0 true global in
      reads m t _ (with-global m refl refl ∙ same_met 15 false true refl refl (read_of 4 global [] sg)) (passes m t (head-says r 6 tlvs (omega arith)) refl)
      (rw (link-back linkdown removed, removed-back linkdown removed))
  back (Some i) NoGlobalId si sg r =
      let node = i.node in
      let interface = i.interface in
      let tlvs : List ℕ = 1 ∷ 8 ∷ octets_of 4 node (octets_of 4 interface pad) in
      let m = message 10 tlvs in
      let t = met 19 true node interface false 0 in
      reads m t _ (with-if m refl refl ∙ same_met 19 true false (read_of 4 node [] si.0) (read_of 4 interface [] si.1) refl)
      (passes m t (head-says r 10 tlvs (omega arith)) refl)
      (rw (link-back linkdown removed, removed-back linkdown removed))
  back (Some i) (AGlobalId global) si sg r =
      let node = i.node in
      let interface = i.interface in
      let tlvs : List ℕ = 1 ∷ 8 ∷ octets_of 4 node (octets_of 4 interface (2 ∷ 4 ∷ octets_of 4 global pad)) in
      let m = message 16 tlvs in
      let t = met 25 true node interface true global in
      reads m t _
      (with-both m refl refl refl refl
      ∙ same_met 25 true true (read_of 4 node [] si.0) (read_of 4 interface [] si.1) (read_of 4 global [] sg))
      (passes m t (head-says r 16 tlvs (omega arith)) refl)
      (rw (link-back linkdown removed, removed-back linkdown removed))

-- what is written reads back, whatever stands behind it
pub read-written : (f : Fault) (pad : List ℕ) → Sized f → field_refusal f ≡ 0 → read_fault (fault_octets f ++ pad) ≡ accepted f
read-written f pad s e =
    back f.kind f.refresh f.linkdown f.removed pad f.interface f.global s.interface s.global (range-says 9 _ _ e)

-- refusal 10 is for no other fields: what would be read is written
pub refused-exactly : (f : Fault) → fault_refusal (fault_octets f) ≡ 0 → field_refusal f ≡ 0
unfolding fault_octets
refused-exactly f e = range-passes 10 f.kind f.refresh (fault-says (fault_octets f) e).range

-- A plain message, read and written.

flags-back : (x : ℕ) → x < 4 → bit_of (eqb (x / 2 % 2) 1) * 2 + bit_of (eqb (x % 2) 1) ≡ x
flags-back x h = rw (bit-again (x / 2 % 2) (omega arith), bit-again (x % 2) (omega arith)) (omega arith)

nine : {a0 a1 a2 a3 a4 a5 a6 a7 a8 b0 b1 b2 b3 b4 b5 b6 b7 b8 : ℕ} {s t : List ℕ}
    → a0 ≡ b0 → a1 ≡ b1 → a2 ≡ b2 → a3 ≡ b3 → a4 ≡ b4 → a5 ≡ b5 → a6 ≡ b6 → a7 ≡ b7 → a8 ≡ b8 → s ≡ t
    → a0 ∷ a1 ∷ a2 ∷ a3 ∷ a4 ∷ a5 ∷ a6 ∷ a7 ∷ a8 ∷ s ≡ b0 ∷ b1 ∷ b2 ∷ b3 ∷ b4 ∷ b5 ∷ b6 ∷ b7 ∷ b8 ∷ t
nine e0 e1 e2 e3 e4 e5 e6 e7 e8 e = cc

pair : {a0 a1 b0 b1 : ℕ} {s t : List ℕ} → b0 ≡ a0 → b1 ≡ a1 → s ≡ t → a0 ∷ a1 ∷ s ≡ b0 ∷ b1 ∷ t
pair e0 e1 e = cc

module _ (m : List ℕ) (p : Plain m) (e : fault_refusal m ≡ 0) where
  -- the nine octets before the TLVs
  head-again : (t : Tlvs) (s u : List ℕ) → total_of (fields_with m t) ≡ get_or m 8 0 → s ≡ u → head_octets (fields_with m t) s ≡ run 9 m 0 u
  unfolding fields_with
  head-again t s u n d =
      let o = p.octets in
      let a = fault-says m e in
      let h = a.channel in
      nine {b0 = get_or m 0 0} {b1 = get_or m 1 0} {b2 = get_or m 2 0} {b3 = get_or m 3 0} {b4 = get_or m 4 0} {b5 = get_or m 5 0} {b6 = get_or m 6 0} {b7 = get_or m 7 0} {b8 = get_or m 8 0}
      (omega arith) (omega arith) (omega (arith, o 2, o 3)) (omega (arith, o 2, o 3)) (omega arith) refl (flags-back (get_or m 6 0) p.flags) refl n d

  again : (t : Tlvs) (total : ℕ) → get_or m 8 0 ≡ total → tlvs_of m (9 + total) ≡ t → fault_octets (fields_with m t) ≡ m → fault_octets (fault_of m) ≡ m
  unfolding fault_of
  again t total z w q = ap (λ (n : ℕ). fault_octets (fields_with m (tlvs_of m (9 + n)))) z ∙ ap (λ (u : Tlvs). fault_octets (fields_with m u)) w ∙ q

  if-again : (s : List ℕ) → get_or m 9 0 ≡ 1 → get_or m 10 0 ≡ 8 → 1 ∷ 8 ∷ octets_of 4 (number_at 4 m 11) (octets_of 4 (number_at 4 m 15) s) ≡ run 10 m 9 s
  if-again s k n = pair k n (of_at 4 m 11 _ p.octets ∙ ap (run 4 m 11) (of_at 4 m 15 s p.octets))

  all-again : PlainTlvs m → fault_octets (fault_of m) ≡ m
  unfolding fault_octets fields_with
  all-again (no_tlv z) =
      again start 0 z (none m 9 (omega arith)) (head-again start [] [] (omega arith) refl ∙ run-all 9 m (omega (arith, p.size)))
  all-again (if_alone z k n) =
      let t = met 19 true (number_at 4 m 11) (number_at 4 m 15) false 0 in
      again t 10 z (with-if m k n) (head-again t _ (run 10 m 9 []) (omega arith) (if-again [] k n) ∙ run-all 19 m (omega (arith, p.size)))
  all-again (global_alone z k n) =
      let t = met 15 false 0 0 true (number_at 4 m 11) in
      again t 6 z (with-global m k n)
      (head-again t _ (run 6 m 9 []) (omega arith) (pair k n (of_at 4 m 11 [] p.octets)) ∙ run-all 15 m (omega (arith, p.size)))
  all-again (if_then_global z k n k' n') =
      let t = met 25 true (number_at 4 m 11) (number_at 4 m 15) true (number_at 4 m 21) in
      again t 16 z (with-both m k n k' n')
      (head-again t _ (run 16 m 9 []) (omega arith)
      (if-again _ k n ∙ ap (run 10 m 9) (pair k' n' (of_at 4 m 21 [] p.octets))) ∙ run-all 25 m (omega (arith, p.size)))

-- a plain message that is read, written again, is the same octets
pub written_read : (m : List ℕ) → Plain m → fault_refusal m ≡ 0 → fault_octets (fault_of m) ≡ m
written_read m p e = all-again m p e p.tlvs
