-- What 26 is given for, in the words of the rules paper: the row is not of 64 records; a field of an open record is out of its range or
-- dated above the clock, or two of its standing conditions have one key, or it is in INIT or UP with no remote discriminator; or two open
-- sessions share a label; or two open sessions of one party share a discriminator; or more than 32 of one party are open; or two groups of one
-- party have one ID. Of a record in a free place nothing is asked.
-- Assumes nothing.
use Rattle.std.specs.Prelude.{ℕ, ◌/◌, ◌%◌, ◌^◌, ◌<◌, ◌≡◌, length, get_or}
use Rattle.rules.specs.Parties.{party_of, own_most}
use Rattle.session.specs.declared.Session.{Session}
use Rattle.session.specs.Unsound.{UnsoundSession}
use Rattle.table.specs.Table.{Table, open_by, absent}

-- the record at place i of the row
abbrev pub record_at : Table → ℕ → Session
record_at t i = get_or t.row i absent

-- place i of the row is occupied: bit i of the set is 1
pub record OpenAt (t : Table) (i : ℕ) : Type 0 where
  pub inside : i < length t.row
  pub marked : t.occupied / 2 ^ i % 2 ≡ 1

pub data Disorder (t : Table) : Type 0 where
  not_of64 : (length t.row ≡ 64 → ⊥) → Disorder t
  record_unsound : (i : ℕ) → OpenAt t i → UnsoundSession (record_at t i) t.clock → Disorder t
  label_shared : (i j : ℕ) → i < j → OpenAt t i → OpenAt t j → (record_at t i).settings.label ≡ (record_at t j).settings.label → Disorder t
  discriminator_shared : (i j : ℕ) → i < j → OpenAt t i → OpenAt t j
      → party_of (record_at t i).settings.label ≡ party_of (record_at t j).settings.label
      → (record_at t i).settings.discriminator ≡ (record_at t j).settings.discriminator → Disorder t
  too_many : (p : ℕ) → own_most < open_by p t → Disorder t
  group_shared : (i j : ℕ) → i < j → OpenAt t i → OpenAt t j → (record_at t i).group.set ≡ 1 → (record_at t j).group.set ≡ 1
      → party_of (record_at t i).settings.label ≡ party_of (record_at t j).settings.label
      → (record_at t i).group.id ≡ (record_at t j).group.id → Disorder t
