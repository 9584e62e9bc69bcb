-- An index file as a whole: where an entry stands, what the file says of itself, and the three lists that `ask_of` speaks about.
-- Assumes nothing.
use Rattle.std.specs.Prelude.{ℕ, zero, suc, min, ◌+◌, ◌*◌, Bool, cond, ◌&&◌, List, [], ◌∷◌, length, drop, eqb}
use Rattle.octets.specs.Numbers.{number_at}
use Rattle.session.specs.declared.Session.{Session}
use Rattle.indexing.specs.declared.IndexHead.{IndexHead}
use Rattle.index_file.specs.declared.Entry.{Entry}
use Rattle.index_file.specs.Octets.{mark_octets, head_in, entry_in}

-- where entry k stands; there are at most 256
abbrev pub place_of : ℕ → ℕ
place_of k = 24 + 252 * min k 256

-- the mark, and as many octets as the entries that are counted take
abbrev pub mark_of : ℕ
mark_of = number_at 8 (mark_octets []) 0

unfoldable pub file_fits : List ℕ → Bool
file_fits s = eqb (number_at 8 s 0) mark_of && eqb (length s) (24 + 252 * (head_in s).count)

-- a file of another form is an index without entries
abbrev pub no_head : IndexHead
no_head = record { length = 0; label = 0; count = 0 }

unfoldable pub head_of : List ℕ → IndexHead
head_of s = cond (file_fits s) (head_in s) no_head

abbrev pub entry_at : List ℕ → ℕ → Entry
entry_at s k = entry_in (drop (place_of k) s)

abbrev pub clock_at : List ℕ → ℕ → ℕ
clock_at s k = number_at 8 (drop (place_of k) s) 0

-- f of n places, from k on
unfoldable pub each : {A : Type 0} → (ℕ → A) → ℕ → ℕ → List A
each f k zero = []
each f k (suc n) = f k ∷ each f (suc k) n

-- the clocks, the places and the records of 256 entries; what is not in the file is noughts
abbrev pub clocks_in : List ℕ → List ℕ
clocks_in s = each (clock_at s) 0 256

abbrev pub places_in : List ℕ → List ℕ
places_in s = each (λ k. (entry_at s k).place) 0 256

abbrev pub records_in : List ℕ → List Session
records_in s = each (λ k. (entry_at s k).session) 0 256
