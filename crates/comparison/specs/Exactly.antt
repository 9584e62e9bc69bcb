-- What the list of differences is to say, asked of one record number and one code, and the order that it is to have. Nothing here is taken from the list.
-- Assumes nothing.
use Rattle.std.specs.Prelude.{ℕ, zero, suc, ◌+◌, ◌-◌, ◌%◌, Bool, true, false, not, cond, ◌&&◌, ◌||◌, List, [], ◌∷◌, eqb, leb}
use Rattle.std.proofs.Math.Option.{Option, none, some}
use Rattle.capture.specs.Raws.{Raw}
use Rattle.comparison.specs.Differences.{same_octets, differ}

abbrev pub contains : ℕ → List ℕ → Bool
contains x [] = false
contains x (y ∷ ys) = eqb x y || contains x ys

abbrev pub behind : List Raw → ℕ → Option Raw
behind [] k = none
behind (x ∷ xs) zero = some x
behind (x ∷ xs) (suc k) = behind xs k

-- the record with the number n, the first having 1
abbrev pub numbered : ℕ → List Raw → Option Raw
numbered zero xs = none
numbered (suc n) xs = behind xs n

-- the field with the code f differs
unfoldable pub field_differs : ℕ → Raw → Raw → Bool
field_differs f a b =
    cond (eqb f 0) (differ a.time b.time)
    (cond (eqb f 1) (differ a.label b.label)
    (cond (eqb f 2) (differ a.kind b.kind)
    (cond (eqb f 3) (differ a.size b.size)
    (cond (eqb f 4) (not (same_octets a.body b.body)) false))))

-- the code f is to be listed of two records at the same position: a field of both that differs, or whose the only one is
abbrev pub to_list : ℕ → Option Raw → Option Raw → Bool
to_list f none none = false
to_list f none (some b) = eqb f 6
to_list f (some a) none = eqb f 5
to_list f (some a) (some b) = field_differs f a b

-- each number is above the one before, and the first is k at least
abbrev pub rising_from : ℕ → List ℕ → Bool
rising_from k [] = true
rising_from k (x ∷ xs) = leb k x && rising_from (suc x) xs

-- an entry where the captures are exchanged: 5 and 6 change places
abbrev pub exchanged : ℕ → ℕ
exchanged e = cond (eqb (e % 8) 5) (e + 1) (cond (eqb (e % 8) 6) (e - 1) e)
