-- The rules for the octets of a fault message behind its channel header, each with the octet at which a message breaks it. They speak of octets and their
-- numbers alone, and not of the walk that a reader takes.
-- Assumes nothing.
use Rattle.std.specs.Prelude.{ℕ, ◌+◌, ◌/◌, ◌<◌, ◌≡◌, List, get_or}
use Rattle.fault.specs.Message.{tlvs_end}

-- where the TLV behind the one at octet p would start: an octet of type, one of length, and as many as that one says
abbrev pub behind : List ℕ → ℕ → ℕ
behind m p = p + 2 + get_or m (p + 1) 0

-- a TLV starts at octet 9, and one behind every other, as long as there are TLV octets; whether those before it are right or not
pub data StartsAt (m : List ℕ) : ℕ → Type 0 where
  first : 9 < tlvs_end m → StartsAt m 9
  next : (p : ℕ) → StartsAt m p → behind m p < tlvs_end m → StartsAt m (behind m p)

-- the types that the rules speak of: IF_ID and Global_ID
pub data Known (kind : ℕ) : Type 0 where
  if_id : kind ≡ 1 → Known kind
  global_id : kind ≡ 2 → Known kind

-- a length that its type does not allow
pub data WrongLength (kind size : ℕ) : Type 0 where
  not_eight : kind ≡ 1 → (size ≡ 8 → ⊥) → WrongLength kind size
  not_four : kind ≡ 2 → (size ≡ 4 → ⊥) → WrongLength kind size

-- what breaks a rule in the TLV that starts at p, and the octet q to name: a last octet that is too little for type and length, a type 1 or 2 that an earlier
-- TLV has, and a value past the total are told at the type octet; a wrong length at the length octet
pub data WrongTlv (m : List ℕ) (p q : ℕ) : Type 0 where
  stray : q ≡ p → tlvs_end m ≡ p + 1 → WrongTlv m p q
  again : (o : ℕ) → q ≡ p → StartsAt m o → o < p → get_or m o 0 ≡ get_or m p 0 → Known (get_or m p 0) → WrongTlv m p q
  past : q ≡ p → tlvs_end m < behind m p → WrongTlv m p q
  sized : q ≡ p + 1 → p + 1 < tlvs_end m → WrongLength (get_or m p 0) (get_or m (p + 1) 0) → WrongTlv m p q

-- a rule is broken at octet q: version not 1, type not 1 or 2, refresh time not 1 to 20, or a TLV
pub data Broken (q : ℕ) (m : List ℕ) : Type 0 where
  version : q ≡ 4 → (get_or m 4 0 / 16 ≡ 1 → ⊥) → Broken q m
  type : q ≡ 5 → (get_or m 5 0 ≡ 1 → ⊥) → (get_or m 5 0 ≡ 2 → ⊥) → Broken q m
  refresh_low : q ≡ 7 → get_or m 7 0 < 1 → Broken q m
  refresh_high : q ≡ 7 → 20 < get_or m 7 0 → Broken q m
  tlv : (p : ℕ) → StartsAt m p → WrongTlv m p q → Broken q m
