-- Two parties on one table: labels below 500,000 are ours, party 0, the rest theirs, party 1. No field of a record says it: the label does.
-- Assumes nothing.
use Rattle.std.specs.Prelude.{ℕ, ◌+◌, ◌*◌, Bool, cond, eqb, ltb}
use Rattle.rules.specs.declared.Settings.{Settings}

-- the first label that is theirs
abbrev pub their_first : ℕ
their_first = 500000

abbrev pub party_of : ℕ → ℕ
party_of l = cond (ltb l their_first) 0 1

-- a label is this party's; a number above 1 is no party, and no label is its
abbrev pub is_of : ℕ → ℕ → Bool
is_of p l = eqb (party_of l) p

-- the label that a call of a party means: for it another party's is not open, as 0 never is
abbrev pub own_label : ℕ → ℕ → ℕ
own_label p l = cond (is_of p l) l 0

-- how many sessions a party may open
abbrev pub own_most : ℕ
own_most = 32

-- a number counts within the party of its label: both as one, so that two of these are equal exactly where number and party are
abbrev pub own_number : ℕ → ℕ → ℕ
own_number label n = n * 2 + party_of label

-- a discriminator does
abbrev pub own_discriminator : Settings → ℕ
own_discriminator g = own_number g.label g.discriminator
