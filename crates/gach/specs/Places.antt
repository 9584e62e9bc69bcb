-- What the place behind an answer says, for each reader in turn: a type `Broken` has its rules, each with the offset of its field.
-- Assumes nothing.
use Rattle.std.specs.Prelude.{◌≡◌, List, ℕ, ◌≤◌, ◌<◌, length, take}
use Rattle.octets.specs.Choice.{Answer}

-- of several fields that break a rule the earliest
pub record Earliest (Broken : ℕ → List ℕ → Type 0) (m : List ℕ) (place : ℕ) : Type 0 where
  pub broken : Broken place m
  pub first : (q : ℕ) → Broken q m → place ≤ q

-- behind 3 the length of the message, behind 4 its first octet, behind 5 the channel type; behind 6, 7 and 8 the field that broke the rule
pub record Told (Broken : ℕ → List ℕ → Type 0) (m : List ℕ) (refusal place : ℕ) : Type 0 where
  pub short : refusal ≡ 3 → place ≡ length m
  pub header : refusal ≡ 4 → place ≡ 0
  pub channel : refusal ≡ 5 → place ≡ 2
  pub rule : 6 ≤ refusal → Earliest Broken m place

-- behind 0 the octets used: with them alone the message reads the same, and with fewer it is too short
pub record Used {A : Type 0} (read : List ℕ → Answer A) (refusal place : List ℕ → ℕ) (m : List ℕ) : Type 0 where
  pub same : read (take (place m) m) ≡ read m
  pub fewer : (n : ℕ) → n < place m → refusal (take n m) ≡ 3
