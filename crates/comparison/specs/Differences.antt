-- Two captures compared record by record at the same position, over all fields: what differs, as a list of numbers.
-- Assumes nothing.
use Rattle.std.specs.Prelude.{ℕ, suc, ◌+◌, ◌*◌, Bool, true, false, not, cond, ◌&&◌, ◌||◌, List, [], ◌∷◌, ◌++◌, Result, Ok, Err, map, eqb, ltb, length, drop}
use Rattle.octets.specs.declared.refusals.Refusal.{Refusal}
use Rattle.octets.specs.Choice.{bar}
use Rattle.octets.specs.Refusals.{number_of}
use Rattle.capture.specs.Records.{header_fits}
use Rattle.capture.specs.Raws.{Raw, raws_in}

-- two octet strings are the same; those of different length are not
abbrev pub same_octets : List ℕ → List ℕ → Bool
same_octets [] [] = true
same_octets [] (y ∷ ys) = false
same_octets (x ∷ xs) [] = false
same_octets (x ∷ xs) (y ∷ ys) = eqb x y && same_octets xs ys

-- two numbers are not the same
abbrev pub differ : ℕ → ℕ → Bool
differ x y = not (eqb x y)

-- n alone where the test holds, else nothing
abbrev pub only : Bool → ℕ → List ℕ
only test n = cond test (n ∷ []) []

-- the fields in which two records differ, in the order named: 0 time, 1 label, 2 kind, 3 length, 4 body
unfoldable pub fields_of : Raw → Raw → List ℕ
fields_of a b =
    only (differ a.time b.time) 0
    ++ (only (differ a.label b.label) 1
    ++ (only (differ a.kind b.kind) 2
    ++ (only (differ a.size b.size) 3
    ++ only (not (same_octets a.body b.body)) 4)))

-- an entry: a code of the record with the number n
abbrev pub entry : ℕ → ℕ → ℕ
entry n code = 8 * n + code

-- the entries of the records from the number n on: each field that differs, then the extra records, 5 for one that only the first has, 6 for one of the second
unfoldable pub differences : ℕ → List Raw → List Raw → List ℕ
differences n [] [] = []
differences n [] (y ∷ ys) = entry n 6 ∷ differences (suc n) [] ys
differences n (x ∷ xs) [] = entry n 5 ∷ differences (suc n) xs []
differences n (x ∷ xs) (y ∷ ys) = map (entry n) (fields_of x y) ++ differences (suc n) xs ys

-- the records behind the header
unfoldable pub records_of : List ℕ → List Raw
records_of capture = (raws_in 16 (drop 8 capture)).raws

-- a capture is bad by its header, or cut: something is left that is no whole record
unfoldable pub bad_capture : List ℕ → Bool
bad_capture capture = not (header_fits capture) || not (eqb (length (raws_in 16 (drop 8 capture)).rest) 0)

-- records are numbered from 1
unfoldable pub list_of : List ℕ → List ℕ → List ℕ
list_of first second = differences 1 (records_of first) (records_of second)

-- 22 first capture bad, 23 second, 13 a lent list that cannot hold all
abbrev pub refusal : List ℕ → List ℕ → ℕ → ℕ
refusal first second room = bar (bad_capture first) 22 (bar (bad_capture second) 23 (bar (ltb room (length (list_of first second))) 13 0))

-- the answer, how many entries, and the whole lent list afterwards
pub record Listed : Type 0 where
  pub answer : ℕ
  pub count : ℕ
  pub list : List ℕ

-- beside a refusal there is no entry, and nothing is written
abbrev pub listed_by : ℕ → List ℕ → List ℕ → Listed
listed_by n entries list =
    cond (eqb n 0)
    (record { answer = n; count = length entries; list = entries ++ drop (length entries) list })
    (record { answer = n; count = 0; list = list })

-- as the code says it: how many entries, or a refusal
abbrev pub listed_in : Result ℕ Refusal → List ℕ → Listed
listed_in (Ok n) list = record { answer = 0; count = n; list = list }
listed_in (Err r) list = record { answer = number_of r; count = 0; list = list }

unfoldable pub compared : List ℕ → List ℕ → List ℕ → Listed
compared first second list = listed_by (refusal first second (length list)) (list_of first second) list
