-- The keys of open records: the label, the discriminator within its party, and the ID of a group within its party. A key pair has a record's label and discriminator in one number; each is noted
-- at its record's place, and 0 stands where none was.
-- Assumes nothing.
use Rattle.std.specs.Prelude.{ℕ, suc, ◌+◌, ◌-◌, ◌*◌, ◌/◌, ◌%◌, Bool, true, false, cond, ◌||◌, List, [], ◌∷◌, map, length, take, eqb, ltb}
use Rattle.std.specs.Int.Count.{count_leading_zeros}
use Rattle.rules.specs.Parties.{is_of, own_number}
use Rattle.rules.specs.Lists.{any, only, once}

-- both are numbers of 32 bits
abbrev pub key_pair : ℕ → ℕ → ℕ
key_pair label discriminator = discriminator * 4294967296 + label

-- the label of a pair, or its discriminator within its party
abbrev pub key_in : Bool → ℕ → ℕ
key_in labels pair = cond labels (pair % 4294967296) (own_number (pair % 4294967296) (pair / 4294967296))

-- two pairs have a key in common
abbrev pub alike : ℕ → ℕ → Bool
alike q p = eqb (key_in true p) (key_in true q) || eqb (key_in false p) (key_in false q)

-- a key of this pair is 0, or some pair of these has one of its keys
unfoldable pub key_stands : List ℕ → ℕ → Bool
key_stands pairs q = (eqb (key_in true q) 0 || eqb (key_in false q) 0) || any (alike q) pairs

-- how many of these pairs have a label of theirs; a place where none was noted has not
abbrev pub theirs_of : List ℕ → ℕ
theirs_of pairs = length (only (λ p. is_of 1 (key_in true p)) pairs)

-- the pairs that were noted
unfoldable pub filled : List ℕ → List ℕ
filled [] = []
filled (p ∷ ps) = cond (eqb p 0) (filled ps) (p ∷ filled ps)

abbrev pub keys : Bool → ℕ → List ℕ → List ℕ
keys labels count pairs = map (key_in labels) (filled (take count pairs))

-- the first pairs have no two labels alike, or no two discriminators of one party; 0 is no key
unfoldable pub distinct_in : Bool → ℕ → List ℕ → Bool
distinct_in labels count pairs = once eqb (0 ∷ keys labels count pairs)

-- how many places there are up to the last occupied one
unfoldable pub reach_of : ℕ → ℕ
reach_of occupied = 64 - count_leading_zeros 64 occupied

abbrev pub reached : ℕ → List ℕ → List ℕ
reached occupied pairs = take (reach_of occupied) pairs

-- of a group: its ID within the party of its label; 1 more, so that none is 0
abbrev pub group_key : ℕ → ℕ → ℕ
group_key label id = own_number label id + 1

-- no two that were noted are alike
unfoldable pub once_in : List ℕ → Bool
once_in keys = once eqb (filled keys)

-- the first place with a label; behind them all where there is none
unfoldable pub first_with : ℕ → List ℕ → ℕ
first_with label [] = 0
first_with label (p ∷ ps) = cond (eqb (key_in true p) label) 0 (suc (first_with label ps))

-- the same as far as the set reaches, and behind all pairs where there is none; 0 is no label
unfoldable pub place_in : ℕ → ℕ → List ℕ → ℕ
place_in label occupied pairs =
    let place = first_with label (reached occupied pairs) in
    cond (eqb label 0) (length pairs) (cond (ltb place (length (reached occupied pairs))) place (length pairs))

-- the label was found, or the discriminator is there in the label's party; nobody asks for the discriminator 0
unfoldable pub rival_in : List ℕ → ℕ → ℕ → ℕ → ℕ → Bool
rival_in pairs occupied place label discriminator =
    cond (ltb place (length pairs)) true
    (cond (eqb discriminator 0) false (any (λ p. eqb (key_in false p) (own_number label discriminator)) (reached occupied pairs)))
