-- The octets of a written message, by which TLVs are present.
-- Assumes nothing.
use mathlib.Core.Path.{◌≡◌, refl}
use mathlib.Core.Bool.{Bool}
use mathlib.Core.List.{List}
use Prim.Native.Nat.{ℕ, ◌+◌, ◌≤◌}
use native.Mathlib.Omega.{arith}
use lib.ListN.{length, take, replicate}
use lib.Seq.{sets, length-sets}
use Rattle.fault.specs.declared.Fault.{Fault}
use Rattle.fault.specs.Identifiers.{OptionalIfId}
use Rattle.fault.specs.Identifiers.{NoIfId}
use Rattle.std.specs.Prelude.{Some}
use Rattle.fault.specs.Identifiers.{OptionalGlobalId}
use Rattle.fault.specs.Identifiers.{NoGlobalId, AGlobalId}
use Rattle.fault.specs.Octets.{if_tlv, global_tlv, total_of, all_octets, fault_octets}

pub if-small : (i : OptionalIfId) → length (if_tlv i) ≤ 10
if-small NoIfId = omega arith
if-small (Some i) = omega arith

pub global-small : (g : OptionalGlobalId) → length (global_tlv g) ≤ 6
global-small NoGlobalId = omega arith
global-small (AGlobalId global) = omega arith

module _ (kind refresh : ℕ) (linkdown removed : Bool) where
  cut : (i : OptionalIfId) (g : OptionalGlobalId)
      → let f : Fault = record { kind = kind; linkdown = linkdown; removed = removed; refresh = refresh; interface = i; global = g } in
      take (9 + total_of f) (all_octets f) ≡ fault_octets f
  unfolding all_octets fault_octets
  cut NoIfId NoGlobalId = refl
  cut NoIfId (AGlobalId global) = refl
  cut (Some i) NoGlobalId = refl
  cut (Some i) (AGlobalId global) = refl

-- the octets that are written are the front of the 25
pub front : (f : Fault) → take (9 + total_of f) (all_octets f) ≡ fault_octets f
front f = cut f.kind f.refresh f.linkdown f.removed f.interface f.global

-- head, IF_ID and Global_ID, put one after the other
pub puts : {x y z head interface global head' interface' global' : List ℕ} {n n' : ℕ}
    → x ≡ sets (replicate 25 0) 0 head → y ≡ sets x 9 interface → z ≡ sets y (9 + n) global
    → head ≡ head' → interface ≡ interface' → n ≡ n' → global ≡ global'
    → z ≡ sets (sets (sets (replicate 25 0) 0 head') 9 interface') (9 + n') global'
puts e1 e2 e3 a b c d = cc

pub all-length : (f : Fault) → length (all_octets f) ≡ 25
unfolding all_octets
all-length f = simp length-sets
