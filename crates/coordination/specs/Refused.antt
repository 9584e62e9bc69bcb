-- What a DHC message is refused for, in the request's words. They speak of octets and their numbers alone, and not of the walk that a reader takes.
-- Assumes nothing.
use Rattle.std.specs.Prelude.{ℕ, ◌+◌, ◌≤◌, ◌<◌, ◌≡◌, List, length, get_or}
use Rattle.octets.specs.Numbers.{number_at}
use Rattle.gach.specs.Header.{channel_of}
use Rattle.coordination.specs.Message.{dhc_channel, tlvs_end}

-- type and length of the TLV at octet p, and where the next one would start
abbrev pub type_at : List ℕ → ℕ → ℕ
type_at m p = number_at 2 m p

abbrev pub size_at : List ℕ → ℕ → ℕ
size_at m p = number_at 2 m (p + 2)

abbrev pub behind : List ℕ → ℕ → ℕ
behind m p = p + 4 + size_at m p

-- a TLV starts at octet 12, and one behind every other, as long as there are TLV octets; whether those before it are right or not
pub data StartsAt (m : List ℕ) : ℕ → Type 0 where
  first : 12 < tlvs_end m → StartsAt m 12
  next : (p : ℕ) → StartsAt m p → behind m p < tlvs_end m → StartsAt m (behind m p)

-- the two types: PW Status and Dual-Node Switching
pub data Known (kind : ℕ) : Type 0 where
  status : kind ≡ 1 → Known kind
  switching : kind ≡ 2 → Known kind

-- another length than theirs
pub data WrongLength (kind size : ℕ) : Type 0 where
  not_twenty : kind ≡ 1 → (size ≡ 20 → ⊥) → WrongLength kind size
  not_sixteen : kind ≡ 2 → (size ≡ 16 → ⊥) → WrongLength kind size

-- the TLV at p is the second of its type, of another length, or past the total
pub data WrongTlv (m : List ℕ) (p : ℕ) : Type 0 where
  again : (o : ℕ) → StartsAt m o → o < p → type_at m o ≡ type_at m p → Known (type_at m p) → WrongTlv m p
  sized : WrongLength (type_at m p) (size_at m p) → WrongTlv m p
  past : tlvs_end m < behind m p → WrongTlv m p

-- 25: a wrong TLV, or neither of the two there
pub data Broken (m : List ℕ) : Type 0 where
  tlv : (p : ℕ) → StartsAt m p → WrongTlv m p → Broken m
  neither : ((p : ℕ) → StartsAt m p → Known (type_at m p) → ⊥) → Broken m

-- the header is a DHC message's
pub record Headed (m : List ℕ) : Type 0 where
  pub long : 4 ≤ length m
  pub first : get_or m 0 0 ≡ 0x10
  pub channel : channel_of m ≡ dhc_channel

-- and all octets are there
pub record Whole (m : List ℕ) : Type 0 where
  pub headed : Headed m
  pub long : 12 ≤ length m
  pub fits : tlvs_end m ≤ length m

-- the answer to a message, each number with its words
pub data Comes (m : List ℕ) (n : ℕ) : Type 0 where
  short : n ≡ 3 → length m < 4 → Comes m n
  header : n ≡ 4 → 4 ≤ length m → (get_or m 0 0 ≡ 0x10 → ⊥) → Comes m n
  channel : n ≡ 5 → 4 ≤ length m → get_or m 0 0 ≡ 0x10 → (channel_of m ≡ dhc_channel → ⊥) → Comes m n
  short_head : n ≡ 3 → Headed m → length m < 12 → Comes m n
  short_tlvs : n ≡ 3 → Headed m → 12 ≤ length m → length m < tlvs_end m → Comes m n
  broken : n ≡ 25 → Whole m → Broken m → Comes m n
  accepted : n ≡ 0 → Whole m → (Broken m → ⊥) → Comes m n
