-- Of which values and messages the round trips speak.
-- Assumes nothing.
use Rattle.std.specs.Prelude.{ℕ, ◌+◌, ◌^◌, ◌<◌, ◌≡◌, List, length, get_or}
use Rattle.octets.specs.Numbers.{number_at}
use Rattle.coordination.specs.declared.Dhc.{Dhc}
use Rattle.std.specs.Prelude.{Some}
use Rattle.coordination.specs.Carried.{OptionalStatus}
use Rattle.coordination.specs.Carried.{NoStatus, AStatus}
use Rattle.coordination.specs.Carried.{OptionalSwitching}
use Rattle.coordination.specs.Carried.{NoSwitching, ASwitching}
use Rattle.coordination.specs.Message.{tlvs_end}

-- three 32-bit numbers
pub record Three (a b c : ℕ) : Type 0 where
  pub first : a < 256 ^ 4
  pub second : b < 256 ^ 4
  pub third : c < 256 ^ 4

abbrev pub SizedStatus : OptionalStatus → Type 0
SizedStatus NoStatus = Unit {0}
SizedStatus (Some st) = Three st.destination st.source st.pw

abbrev pub SizedSwitching : OptionalSwitching → Type 0
SizedSwitching NoSwitching = Unit {0}
SizedSwitching (Some sw) = Three sw.destination sw.source sw.pw

-- the numbers are those that the code's types hold
pub record Sized (d : Dhc) : Type 0 where
  pub id : d.id < 256 ^ 4
  pub status : SizedStatus d.status
  pub switching : SizedSwitching d.switching

-- a PW Status at a place with no other bit than P, D and F
pub record PlainStatus (m : List ℕ) (place : ℕ) : Type 0 where
  pub type : number_at 2 m place ≡ 1
  pub size : number_at 2 m (place + 2) ≡ 20
  pub flags : number_at 4 m (place + 16) < 2
  pub service : number_at 4 m (place + 20) < 4

-- a Dual-Node Switching at a place with no other bit than S and P
pub record PlainSwitching (m : List ℕ) (place : ℕ) : Type 0 where
  pub type : number_at 2 m place ≡ 2
  pub size : number_at 2 m (place + 2) ≡ 16
  pub flags : number_at 4 m (place + 16) < 4

-- the TLVs, by their total length and where they stand: PW Status; Dual-Node Switching; PW Status and then Dual-Node Switching
pub data PlainTlvs (m : List ℕ) : Type 0 where
  status_alone : number_at 2 m 8 ≡ 24 → PlainStatus m 12 → PlainTlvs m
  switching_alone : number_at 2 m 8 ≡ 20 → PlainSwitching m 12 → PlainTlvs m
  status_then_switching : number_at 2 m 8 ≡ 44 → PlainStatus m 12 → PlainSwitching m 36 → PlainTlvs m

-- a plain DHC message: octets, no padding, 0 in all that is not looked at, one or both TLVs in this order, and no other
pub record Plain (m : List ℕ) : Type 0 where
  pub octets : (i : ℕ) → get_or m i 0 < 256
  pub size : length m ≡ tlvs_end m
  pub unread : get_or m 1 0 ≡ 0
  pub reserved : number_at 2 m 10 ≡ 0
  pub tlvs : PlainTlvs m
