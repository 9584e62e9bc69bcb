-- The form of a MEP-ID: its type, its length and its AGI length, each by what the others allow; what is refused in it, and where.
-- Assumes nothing.
use Rattle.std.specs.Prelude.{ℕ, ◌+◌, min, List, Bool, true, cond, ◌&&◌, ◌||◌, length, get_or, ltb, leb, eqb}
use Rattle.octets.specs.Numbers.{number_at}
use Rattle.octets.specs.Choice.{need, bar, or_else}

-- the length of the value: 12, or 14 and the AGI's octets, of which there are at most 32
unfoldable pub value_length : ℕ → ℕ → ℕ
value_length kind agi = cond (ltb kind 2) 12 (14 + min agi 32)

-- the lengths that a type allows
unfoldable pub length_fits : ℕ → ℕ → Bool
length_fits kind len = cond (ltb kind 2) (eqb len 12) (leb 14 len && leb len 46)

-- refusal 7 before the value is there: type above 2, or a length that the type does not allow
unfoldable pub form_refusal : ℕ → ℕ → ℕ
form_refusal kind len = need (ltb kind 3) 7 (need (length_fits kind len) 7 0)

-- the AGI length that a length allows; only a pseudowire has one
unfoldable pub agi_fits : ℕ → ℕ → ℕ → Bool
agi_fits kind len agi = ltb kind 2 || eqb (14 + agi) len

-- refusal 7 of the value: an AGI length at odds with the length
unfoldable pub agi_refusal : ℕ → ℕ → ℕ → ℕ
agi_refusal kind len agi = need (agi_fits kind len agi) 7 0

-- what the MEP-ID from place `at` is refused for: 3 until type and length are there, 7 for them, 3 until the value is there, 7 for its
-- AGI length
unfoldable pub mep_refusal : List ℕ → ℕ → ℕ
mep_refusal s at =
    bar (ltb (length s) (at + 4)) 3
    (or_else (form_refusal (number_at 2 s at) (number_at 2 s (at + 2)))
    (bar (ltb (length s) (at + 4 + number_at 2 s (at + 2))) 3
    (agi_refusal (number_at 2 s at) (number_at 2 s (at + 2)) (get_or s (at + 17) 0))))

-- where 7 stands before the value: the type at the MEP-ID's own place `at`, the length two octets behind it; else what follows
unfoldable pub form_place : ℕ → ℕ → ℕ → ℕ → ℕ
form_place at kind len rest = need (ltb kind 3) at (need (length_fits kind len) (at + 2) rest)

-- behind that: the size of the message until the value is there, the AGI length 17 octets behind the type; else the value's end
unfoldable pub value_place : ℕ → ℕ → ℕ → ℕ → ℕ → ℕ
value_place size at kind len agi = bar (ltb size (at + 4 + len)) size (need (agi_fits kind len agi) (at + 17) (at + 4 + len))

-- a type and an AGI length that can be written
unfoldable pub mep_fits : ℕ → ℕ → Bool
mep_fits kind agi = cond (ltb kind 2) true (eqb kind 2 && leb agi 32)
