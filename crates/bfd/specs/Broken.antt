-- The rules on a BFD packet in the words of the rules paper, each with the offset of its field. This is 6 of CC and CV.
-- Assumes nothing.
use Rattle.std.specs.Prelude.{◌≡◌, List, ℕ, ◌/◌, ◌%◌, ◌≤◌, ◌<◌, get_or}
use Rattle.octets.specs.Numbers.{number_at}
use Rattle.bfd.specs.Packet.{version_octet, flag_octet, length_of}

-- on either channel: version not 1; A set; M set; multiplier 0; Length below 24; My Discriminator 0
pub data Broken : ℕ → List ℕ → Type 0 where
  version : {m : List ℕ} → (version_octet m / 32 ≡ 1 → ⊥) → Broken 4 m
  authentication : {m : List ℕ} → flag_octet m / 4 % 2 ≡ 1 → Broken 5 m
  multipoint : {m : List ℕ} → flag_octet m % 2 ≡ 1 → Broken 5 m
  multiplier : {m : List ℕ} → get_or m 6 0 ≡ 0 → Broken 6 m
  too_small : {m : List ℕ} → length_of m < 24 → Broken 7 m
  my : {m : List ℕ} → number_at 4 m 8 ≡ 0 → Broken 8 m

-- and of a CC: Your Discriminator 0 in INIT (2) or UP (3)
pub data CcBroken : ℕ → List ℕ → Type 0 where
  packet : {q : ℕ} {m : List ℕ} → Broken q m → CcBroken q m
  your : {m : List ℕ} → 2 ≤ flag_octet m / 64 → number_at 4 m 12 ≡ 0 → CcBroken 12 m
