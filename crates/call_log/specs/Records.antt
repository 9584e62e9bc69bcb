-- A log: a capture with the mark `TPL` and, in each record, the 16-bit answer that was given, put before the body and not counted in its length.
-- Assumes nothing.
use Rattle.std.specs.Prelude.{ℕ, zero, suc, ◌+◌, Bool, not, cond, ◌&&◌, List, [], ◌∷◌, length, get_or, take, drop, eqb, leb}
use Rattle.octets.specs.Numbers.{number_at}
use Rattle.rules.specs.Calls.{Call}
use Rattle.capture.specs.Records.{record_in, call_of}

-- `TPL`, 16-bit version 1, three zero bytes
abbrev pub header_is : ℕ → ℕ → ℕ → ℕ → ℕ → ℕ → ℕ → Bool
header_is first second third version x y z =
    eqb first 84 && eqb second 80 && eqb third 76 && eqb version 1 && eqb x 0 && eqb y 0 && eqb z 0

unfoldable pub header_fits : List ℕ → Bool
header_fits s = leb 8 (length s) && header_is (get_or s 0 0) (get_or s 1 0) (get_or s 2 0) (number_at 2 s 3) (get_or s 5 0) (get_or s 6 0) (get_or s 7 0)

-- of the octets from a record's first on: time, label, kind and length as in a capture, the answer, and the body
abbrev pub answer_in : List ℕ → ℕ
answer_in s = number_at 2 s 16

abbrev pub body_in : List ℕ → ℕ → List ℕ
body_in s size = take size (drop 18 s)

-- the octets of a record
abbrev pub size_in : List ℕ → ℕ
size_in s = 18 + (record_in s).size

-- a whole record: its 18 octets, a kind up to 8, a body up to 2,048 octets, and the body
abbrev pub whole_of : ℕ → ℕ → ℕ → Bool
whole_of octets kind size = leb 18 octets && leb kind 8 && leb size 2048 && leb (18 + size) octets

unfoldable pub is_whole : List ℕ → Bool
is_whole s = whole_of (length s) (record_in s).kind (record_in s).size

-- cut: something is left that is no whole record
unfoldable pub is_cut : List ℕ → Bool
is_cut s = not (eqb (length s) 0) && not (is_whole s)

-- what is behind the first record
unfoldable pub behind : List ℕ → List ℕ
behind s = drop (size_in s) s

-- a record of a log: the call, and the answer that was given
pub record Logged : Type 0 where
  pub call : Call
  pub answer : ℕ

abbrev pub logged_in : List ℕ → Logged
logged_in s = record { call = call_of (record_in s) (body_in s (record_in s).size); answer = answer_in s }

-- the whole records, one behind the other, no more than n
unfoldable pub logged_by : ℕ → List ℕ → List Logged
logged_by zero s = []
logged_by (suc n) s = cond (is_whole s) (logged_in s ∷ logged_by n (behind s)) []
