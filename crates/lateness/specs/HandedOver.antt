-- What is handed over from outside, worked out by hand: a last heard CC and an account, that no run may have left, and one CC heard behind them; and two accounts combined. No
-- number is given that is not exact.
-- Assumes nothing.
use Rattle.std.specs.Prelude.{ℕ, ◌≡◌, true, false, List, [], ◌∷◌, ℤ, pos, negsuc}
use Rattle.account.specs.declared.Account.{Account}
use Rattle.account.specs.Figures.{Spaced}
use Rattle.account.specs.Figures.{none, refused}
use Rattle.account.specs.Accounts.{kept, spent, combined, finished_of}
use Rattle.interval.specs.Pacing.{hearing}

pub record Example : Type 0 where
  pub found : Spaced
  pub worked : Spaced

unfoldable pub Hold : List Example → Type 0
Hold [] = Unit {0}
Hold (e ∷ es) = (e.found ≡ e.worked) × Hold es

abbrev gives : Spaced → Spaced → Example
gives found worked = record { found = found; worked = worked }

-- five numbers; no pair
abbrev five : ℕ → ℤ → ℤ → ℤ → ℕ → Spaced
five pairs least greatest sum sizes = record { answer = 0; pairs = pairs; least = least; greatest = greatest; sum = sum; sizes = sizes; paired = true }

abbrev no_pair : Spaced
no_pair = record { answer = 0; pairs = 0; least = pos 0; greatest = pos 0; sum = pos 0; sizes = 0; paired = false }

abbrev account : ℕ → ℤ → ℤ → ℤ → ℕ → Account
account pairs least greatest sum sizes = record { pairs = pairs; least = least; greatest = greatest; sum = sum; sizes = sizes; over = false }

abbrev nothing : Account
nothing = kept none

-- a CC heard at a reading under a period, behind one at another reading, or behind none
abbrev heard_behind : ℕ → Account → ℕ → ℕ → Spaced
heard_behind last a t period = finished_of (hearing (record { account = a; reading = last; heard = true }) t period).account

abbrev heard_first : Account → ℕ → ℕ → Spaced
heard_first a t period = finished_of (hearing (record { account = a; reading = 0; heard = false }) t period).account

unfoldable pub examples : List Example
examples =
    gives (heard_behind 50 nothing 20 1000000) (five 1 (negsuc 1000029) (negsuc 1000029) (negsuc 1000029) 1000030)
    ∷ gives (heard_first nothing 20 1000000) no_pair
    ∷ gives (heard_behind 9223372036854775807 nothing 10 1000000) refused
    ∷ gives (heard_behind 9223372036853775807 nothing 0 1000000) (five 1 (negsuc 9223372036854775806) (negsuc 9223372036854775806) (negsuc 9223372036854775806) 9223372036854775807)
    ∷ gives (heard_behind 9223372036853775808 nothing 0 1000000) refused
    ∷ gives (heard_behind 18446744073709551615 nothing 0 1000000) refused
    ∷ gives (heard_behind 9223372036854775808 nothing 4611686018427387904 1000) (five 1 (negsuc 4611686018427388903) (negsuc 4611686018427388903) (negsuc 4611686018427388903) 4611686018427388904)
    ∷ gives (heard_behind 0 nothing 9223372036854775807 1000) (five 1 (pos 9223372036854774807) (pos 9223372036854774807) (pos 9223372036854774807) 9223372036854774807)
    ∷ gives (heard_behind 5 nothing 9223372036854775807 1000) (five 1 (pos 9223372036854774802) (pos 9223372036854774802) (pos 9223372036854774802) 9223372036854774802)
    ∷ gives (heard_behind 0 (account 3 (negsuc 4) (pos 7) (pos 2) 12) 1000009 1000000) (five 4 (negsuc 4) (pos 9) (pos 11) 21)
    ∷ gives (heard_behind 0 (account 3 (negsuc 4) (pos 7) (pos 2) 12) 999991 1000000) (five 4 (negsuc 8) (pos 7) (negsuc 6) 21)
    ∷ gives (heard_first (account 3 (negsuc 4) (pos 7) (pos 2) 12) 1000000 1000000) (five 3 (negsuc 4) (pos 7) (pos 2) 12)
    ∷ gives (heard_behind 0 (account 2 (pos 0) (pos 9223372036854775802) (pos 9223372036854775802) 9223372036854775802) 1000005 1000000) (five 3 (pos 0) (pos 9223372036854775802) (pos 9223372036854775807) 9223372036854775807)
    ∷ gives (heard_behind 0 (account 2 (pos 0) (pos 9223372036854775802) (pos 9223372036854775802) 9223372036854775802) 1000006 1000000) refused
    ∷ gives (heard_behind 0 (account 2 (pos 0) (pos 9223372036854775802) (pos 9223372036854775802) 9223372036854775802) 999994 1000000) refused
    ∷ gives (heard_behind 0 (account 1 (negsuc 9223372036854775806) (negsuc 9223372036854775806) (negsuc 9223372036854775806) 9223372036854775807) 1000000 1000000) (five 2 (negsuc 9223372036854775806) (pos 0) (negsuc 9223372036854775806) 9223372036854775807)
    ∷ gives (heard_behind 0 (account 1 (negsuc 9223372036854775806) (negsuc 9223372036854775806) (negsuc 9223372036854775806) 9223372036854775807) 1000001 1000000) refused
    -- two accounts as one
    ∷ gives (finished_of (combined (account 2 (negsuc 4) (pos 7) (pos 2) 12) (account 1 (pos 9) (pos 9) (pos 9) 9))) (five 3 (negsuc 4) (pos 9) (pos 11) 21)
    ∷ gives (finished_of (combined (account 2 (negsuc 4) (pos 7) (pos 2) 12) nothing)) (five 2 (negsuc 4) (pos 7) (pos 2) 12)
    ∷ gives (finished_of (combined nothing nothing)) no_pair
    ∷ gives (finished_of (combined (account 1 (pos 0) (pos 0) (pos 0) 9223372036854775804) (account 1 (pos 3) (pos 3) (pos 3) 3))) (five 2 (pos 0) (pos 3) (pos 3) 9223372036854775807)
    ∷ gives (finished_of (combined (account 1 (pos 0) (pos 0) (pos 0) 9223372036854775804) (account 1 (negsuc 3) (negsuc 3) (negsuc 3) 4))) refused
    ∷ gives (finished_of (combined spent nothing)) refused
    ∷ gives (finished_of (combined (account 1 (pos 2) (pos 2) (pos 2) 2) spent)) refused
    ∷ gives (finished_of (combined spent spent)) refused
    ∷ []
