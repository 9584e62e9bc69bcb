-- Entries of document 004, 3.2: a 16-bit type, a 16-bit length, a value of so many octets, and padding to a multiple of four that the length does not count.
-- "A TLV holds a list of TLVs, and a list holds TLVs, down to three levels."
-- Assumes nothing.
use Rattle.std.specs.Prelude.{ℕ, zero, suc, ◌+◌, ◌*◌, ◌/◌, List, [], ◌∷◌, ◌++◌, Bool, cond, not, ◌&&◌, ◌||◌, length, take, drop, ltb, leb, eqb}
use Rattle.octets.specs.Numbers.{number_at}

-- an entry: the levels left where it stands, which say who holds it; its type and its length; whether it runs past its holder's end, padding included; what is there of its value
pub record Entry : Type 0 where
  pub levels : ℕ
  pub kind : ℕ
  pub size : ℕ
  pub past : Bool
  pub value : List ℕ

-- the length that stands in the entry at the front
abbrev pub size_of : List ℕ → ℕ
size_of xs = number_at 2 xs 2

-- "each entry is padded to four bytes, its length not counting that": the octets of an entry whose value has n
unfoldable pub padded_size : ℕ → ℕ
padded_size n = 4 + (n + 3) / 4 * 4

-- the entry at the front of a list, which ends where its holder does
unfoldable pub entry_at : ℕ → List ℕ → Entry
entry_at l xs =
    record {
      levels = l;
      kind = number_at 2 xs 0;
      size = size_of xs;
      past = ltb (length xs) (padded_size (size_of xs));
      value = take (size_of xs) (drop 4 xs);
    }

-- the entries of a list one behind the other, at most k of them; octets left over that are too few for type and length begin one that runs past the end
unfoldable pub following : ℕ → ℕ → List ℕ → List Entry
following zero l xs = []
following (suc k) l [] = []
following (suc k) l (x ∷ xs) = entry_at l (x ∷ xs) ∷ following k l (drop (padded_size (size_of (x ∷ xs))) (x ∷ xs))

-- no entry is empty: a list has at most as many as octets
abbrev pub entries_of : ℕ → List ℕ → List Entry
entries_of l xs = following (length xs) l xs

-- "type numbers are read by their holder": with three levels left that is the lent list, with two OAM Functions, with one BFD Configuration
abbrev pub named : ℕ → ℕ → Entry → Bool
named levels kind e = eqb e.levels levels && eqb e.kind kind

abbrev pub is_functions : Entry → Bool
is_functions = named 3 16

abbrev pub is_configuration : Entry → Bool
is_configuration = named 2 1

abbrev pub is_discriminator : Entry → Bool
is_discriminator = named 1 1

abbrev pub is_timers : Entry → Bool
is_timers = named 1 2

-- the draft suggests no number for BFD Authentication: its type is a setting
abbrev pub is_authentication : ℕ → Entry → Bool
is_authentication authentication = named 1 authentication

-- the two that hold a list, behind four octets of flags
abbrev pub is_holder : Entry → Bool
is_holder e = is_functions e || is_configuration e

-- a holder that ends where its own holder does or before, and has its flags
abbrev pub holds_list : Entry → Bool
holds_list e = is_holder e && (not e.past && leb 4 e.size)

abbrev pub inside : Entry → List ℕ
inside e = drop 4 e.value

unfoldable pub each : (Entry → List Entry) → List Entry → List Entry
each f [] = []
each f (e ∷ es) = f e ++ each f es

-- "a TLV holds a list of TLVs": the entry and, where it holds a list, every TLV of that with all it holds, one level less left
unfoldable pub with_held : ℕ → Entry → List Entry
with_held zero e = []
with_held (suc l) e = e ∷ cond (holds_list e) (each (λ f. with_held l f) (entries_of l (inside e))) []

-- "and a list holds TLVs": one behind the other, each with all it holds
unfoldable pub entries_in : ℕ → List ℕ → List Entry
entries_in l xs = each (with_held l) (entries_of l xs)
