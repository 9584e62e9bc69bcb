-- The octets of a written message, by which TLVs are present.
-- Assumes nothing.
use mathlib.Core.Path.{◌≡◌, refl, sym, ap, ◌∙◌}
use mathlib.Core.Bool.{Bool, true, false}
use mathlib.Core.List.{List, [], ◌∷◌}
use Prim.Native.Nat.{ℕ, ◌+◌, ◌*◌, ◌≤◌}
use native.Mathlib.Omega.{arith}
use lib.ListN.{length, take, replicate}
use lib.Seq.{sets, length-sets}
use Rattle.octets.specs.Numbers.{octets_of}
use Rattle.octets.specs.Choice.{bit_of}
use Rattle.coordination.specs.declared.Dhc.{Dhc}
use Rattle.std.specs.Prelude.{Some}
use Rattle.coordination.specs.Carried.{OptionalStatus}
use Rattle.coordination.specs.Carried.{NoStatus, AStatus}
use Rattle.coordination.specs.Carried.{OptionalSwitching}
use Rattle.coordination.specs.Carried.{NoSwitching, ASwitching}
use Rattle.coordination.specs.Octets.{tlvs_needed, status_tlv, switching_tlv, total_of, filled, all_octets, dhc_octets}

pub status-small : (s : OptionalStatus) → length (status_tlv s) ≤ 24
status-small NoStatus = omega arith
status-small (Some st) = omega arith

pub switching-small : (s : OptionalSwitching) → length (switching_tlv s) ≤ 20
switching-small NoSwitching = omega arith
switching-small (Some sw) = omega arith

-- neither TLV is no octet
pub needed-none : (s : OptionalStatus) (w : OptionalSwitching) → length (status_tlv s) + length (switching_tlv w) ≡ 0 → tlvs_needed s w ≡ 10
needed-none NoStatus NoSwitching e = refl
needed-none NoStatus (Some sw) e = absurd (omega arith)
needed-none (Some st) w e = absurd (omega arith)

pub needed-some : (s : OptionalStatus) (w : OptionalSwitching) → (length (status_tlv s) + length (switching_tlv w) ≡ 0 → ⊥) → tlvs_needed s w ≡ 0
needed-some NoStatus NoSwitching e = absurd (e refl)
needed-some NoStatus (Some sw) e = refl
needed-some (Some st) w e = refl

-- one bit and two bits as four octets
pub one_bit : (a : Bool) (rest : List ℕ) → octets_of 4 (bit_of a) rest ≡ 0 ∷ 0 ∷ 0 ∷ bit_of a ∷ rest
one_bit true rest = refl
one_bit false rest = refl

pub two-bits : (a b : Bool) (rest : List ℕ) → octets_of 4 (bit_of a * 2 + bit_of b) rest ≡ 0 ∷ 0 ∷ 0 ∷ (bit_of a * 2 + bit_of b) ∷ rest
two-bits true true rest = refl
two-bits true false rest = refl
two-bits false true rest = refl
two-bits false false rest = refl

bits-spelled : {a b c a' b' c' : ℕ} → a ≡ a' → b ≡ b' → c ≡ c'
    → 0 ∷ 0 ∷ 0 ∷ a ∷ 0 ∷ 0 ∷ 0 ∷ (b * 2 + c) ∷ [] ≡ 0 ∷ 0 ∷ 0 ∷ a' ∷ 0 ∷ 0 ∷ 0 ∷ (b' * 2 + c') ∷ []
bits-spelled x y z = cc

-- the octets of a PW Status, its bits given as numbers
pub status-spelled : {s : OptionalStatus} {destination source pw p q r : ℕ} {protection degrade fail : Bool}
    → s ≡ AStatus destination source pw protection degrade fail → p ≡ bit_of protection → q ≡ bit_of degrade → r ≡ bit_of fail
    → octets_of 2 1 (octets_of 2 20 (octets_of 4 destination (octets_of 4 source (octets_of 4 pw (0 ∷ 0 ∷ 0 ∷ p ∷ 0 ∷ 0 ∷ 0 ∷ (q * 2 + r) ∷ [])))))
    ≡ filled 24 (status_tlv s)
status-spelled {s} {destination} {source} {pw} {p} {q} {r} {protection} {degrade} {fail} e a b c =
    ap (λ (l : List ℕ). octets_of 2 1 (octets_of 2 20 (octets_of 4 destination (octets_of 4 source (octets_of 4 pw l)))))
    (bits-spelled a b c ∙ ap (λ (l : List ℕ). 0 ∷ 0 ∷ 0 ∷ bit_of protection ∷ l) (sym (two-bits degrade fail [])) ∙ sym (one_bit protection _))
    ∙ sym (ap (λ (t : OptionalStatus). filled 24 (status_tlv t)) e)

-- a small total as two octets
pub small-total : (s : OptionalStatus) (w : OptionalSwitching) (rest : List ℕ)
    → octets_of 2 (length (status_tlv s) + length (switching_tlv w)) rest ≡ 0 ∷ (length (status_tlv s) + length (switching_tlv w)) ∷ rest
small-total NoStatus NoSwitching rest = refl
small-total NoStatus (Some sw) rest = refl
small-total (Some st) NoSwitching rest = refl
small-total (Some st) (Some sw) rest = refl

module _ (id : ℕ) where
  cut : (s : OptionalStatus) (w : OptionalSwitching)
      → let d : Dhc = record { id = id; status = s; switching = w } in
      take (12 + total_of d) (all_octets d) ≡ dhc_octets d
  unfolding all_octets dhc_octets
  cut NoStatus NoSwitching = refl
  cut NoStatus (Some sw) = refl
  cut (Some st) NoSwitching = refl
  cut (Some st) (Some sw) = refl

-- the octets that are written are the front of the 56
pub front : (d : Dhc) → take (12 + total_of d) (all_octets d) ≡ dhc_octets d
front d = cut d.id d.status d.switching

-- head, PW Status and Dual-Node Switching, put one after the other
pub puts : {x y z head status switching head' status' switching' : List ℕ} {n n' : ℕ}
    → x ≡ sets (replicate 56 0) 0 head → y ≡ sets x 12 status → z ≡ sets y (12 + n) switching
    → head ≡ head' → status ≡ status' → n ≡ n' → switching ≡ switching'
    → z ≡ sets (sets (sets (replicate 56 0) 0 head') 12 status') (12 + n') switching'
puts e1 e2 e3 a b c d = cc

pub all-length : (d : Dhc) → length (all_octets d) ≡ 56
unfolding all_octets
all-length d = simp length-sets
