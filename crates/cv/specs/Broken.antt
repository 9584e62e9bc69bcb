-- The rules on a CV in the words of the rules paper, each with the offset of its field: those of the packet (6), those of the MEP-ID (7).
-- Assumes nothing.
use Rattle.std.specs.Prelude.{◌≡◌, List, ℕ, ◌+◌, ◌≤◌, ◌<◌}
use Rattle.bfd.specs.Packet.{length_of}
use Rattle.bfd.specs.Broken.{Broken}
use Rattle.cv.specs.Cv.{mep_at, kind_at, len_at, agi_length_at}

-- a MEP-ID stands behind a packet that is one, of Length 24 or more: its type above 2; a length that the type does not allow, not 12 of
-- types 0 and 1, not 14 to 46 of type 2; of type 2 an AGI length that does not make up the length
pub data CvBroken : ℕ → List ℕ → Type 0 where
  packet : {q : ℕ} {m : List ℕ} → Broken q m → CvBroken q m
  mep_type : {m : List ℕ} → 24 ≤ length_of m → 2 < kind_at m → CvBroken (mep_at m) m
  not_twelve : {m : List ℕ} → 24 ≤ length_of m → kind_at m < 2 → (len_at m ≡ 12 → ⊥) → CvBroken (mep_at m + 2) m
  too_short : {m : List ℕ} → 24 ≤ length_of m → kind_at m ≡ 2 → len_at m < 14 → CvBroken (mep_at m + 2) m
  too_long : {m : List ℕ} → 24 ≤ length_of m → kind_at m ≡ 2 → 46 < len_at m → CvBroken (mep_at m + 2) m
  agi_length : {m : List ℕ} → 24 ≤ length_of m → kind_at m ≡ 2 → (14 + agi_length_at m ≡ len_at m → ⊥) → CvBroken (mep_at m + 17) m
