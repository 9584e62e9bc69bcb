-- The 64-bit set of occupied places: place i is occupied when set / 2 ^ i is odd. A row is gone through with the set halved at each record.
-- Assumes nothing.
use Rattle.std.specs.Prelude.{ℕ, zero, suc, ◌+◌, ◌-◌, ◌/◌, ◌%◌, ◌^◌, Bool, cond, ◌&&◌, ◌||◌, List, [], ◌∷◌, eqb, ltb}
use Rattle.session.specs.declared.Session.{Session}

-- the first place of the set is occupied
abbrev pub first_on : ℕ → Bool
first_on set = eqb (set % 2) 1

-- place i of the set is occupied
unfoldable pub occupied_at : ℕ → ℕ → Bool
occupied_at set i = eqb (set / 2 ^ i % 2) 1

-- the set with place i taken; the set itself past its 64 places
unfoldable pub with_place : ℕ → ℕ → ℕ
with_place set i = cond (ltb i 64) (cond (occupied_at set i) set (set + 2 ^ i)) set

-- the set with place i free
unfoldable pub without_place : ℕ → ℕ → ℕ
without_place set i = cond (occupied_at set i) (set - 2 ^ i) set

-- the lowest free place of the first n; n where there is none
unfoldable pub lowest_free : ℕ → ℕ → ℕ
lowest_free zero set = 0
lowest_free (suc n) set = cond (first_on set) (suc (lowest_free n (set / 2))) 0

-- how many of the first n are occupied
unfoldable pub occupied_of : ℕ → ℕ → ℕ
occupied_of zero set = 0
occupied_of (suc n) set = cond (first_on set) (suc (occupied_of n (set / 2))) (occupied_of n (set / 2))

-- the open records, in the order of their places
unfoldable pub opens : ℕ → List Session → List Session
opens set [] = []
opens set (r ∷ rs) = cond (first_on set) (r ∷ opens (set / 2) rs) (opens (set / 2) rs)

abbrev pub has_label : ℕ → Session → Bool
has_label l r = eqb r.settings.label l

-- the place of the open record with a label; behind the row where there is none
unfoldable pub place_of : ℕ → ℕ → List Session → ℕ
place_of l set [] = 0
place_of l set (r ∷ rs) = cond (first_on set && has_label l r) 0 (suc (place_of l (set / 2) rs))

-- a record with the label or the discriminator
abbrev pub hits : ℕ → ℕ → Session → Bool
hits l d r = eqb r.settings.label l || eqb r.settings.discriminator d

-- the place of the first open record with the label or the discriminator; behind the row where there is none
unfoldable pub first_hit : ℕ → ℕ → ℕ → List Session → ℕ
first_hit l d set [] = 0
first_hit l d set (r ∷ rs) = cond (first_on set && hits l d r) 0 (suc (first_hit l d (set / 2) rs))
