-- Of which values and messages the round trips speak.
-- Assumes nothing.
use Rattle.std.specs.Prelude.{ℕ, ◌+◌, ◌%◌, ◌^◌, ◌<◌, ◌≡◌, List, length, get_or}
use Rattle.fault.specs.declared.Fault.{Fault}
use Rattle.fault.specs.Identifiers.{OptionalIfId}
use Rattle.fault.specs.Identifiers.{NoIfId}
use Rattle.std.specs.Prelude.{Some}
use Rattle.fault.specs.Identifiers.{OptionalGlobalId}
use Rattle.fault.specs.Identifiers.{NoGlobalId, AGlobalId}

-- Node, Interface and the Global_ID are 32-bit numbers
abbrev pub SizedIf : OptionalIfId → Type 0
SizedIf NoIfId = Unit {0}
SizedIf (Some i) = (i.node < 256 ^ 4) × (i.interface < 256 ^ 4)

abbrev pub SizedGlobal : OptionalGlobalId → Type 0
SizedGlobal NoGlobalId = Unit {0}
SizedGlobal (AGlobalId global) = global < 256 ^ 4

-- the numbers are those that the code's types hold
pub record Sized (f : Fault) : Type 0 where
  pub kind : f.kind < 256
  pub refresh : f.refresh < 256
  pub interface : SizedIf f.interface
  pub global : SizedGlobal f.global

-- the TLVs, by their total length in octet 8 and by the types and lengths: none; IF_ID; Global_ID; IF_ID and then Global_ID
pub data PlainTlvs (m : List ℕ) : Type 0 where
  no_tlv : get_or m 8 0 ≡ 0 → PlainTlvs m
  if_alone : get_or m 8 0 ≡ 10 → get_or m 9 0 ≡ 1 → get_or m 10 0 ≡ 8 → PlainTlvs m
  global_alone : get_or m 8 0 ≡ 6 → get_or m 9 0 ≡ 2 → get_or m 10 0 ≡ 4 → PlainTlvs m
  if_then_global : get_or m 8 0 ≡ 16 → get_or m 9 0 ≡ 1 → get_or m 10 0 ≡ 8 → get_or m 19 0 ≡ 2 → get_or m 20 0 ≡ 4 → PlainTlvs m

-- a plain fault message: octets, no padding, 0 in all that is not looked at, IF_ID then Global_ID, each present or absent, and no other TLV
pub record Plain (m : List ℕ) : Type 0 where
  pub octets : (i : ℕ) → get_or m i 0 < 256
  pub size : length m ≡ 9 + get_or m 8 0
  pub unread : get_or m 1 0 ≡ 0
  pub reserved : get_or m 4 0 % 16 ≡ 0
  pub flags : get_or m 6 0 < 4
  pub tlvs : PlainTlvs m
