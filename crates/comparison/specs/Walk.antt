-- What the walk over two captures does at one pair of records, on the octets from these on. The lists of `Differences` and the place of `Rest` are proved from it.
-- Assumes nothing.
use Rattle.std.specs.Prelude.{ℕ, ◌+◌, ◌≡◌, Bool, true, false, not, cond, ◌&&◌, List, ◌++◌, length}
use Rattle.std.proofs.lemmas.List.Edits.{sets}
use Rattle.capture.specs.Raws.{Raw, raw_in, raw_size, stands_in}
use Rattle.comparison.specs.Differences.{same_octets, differ, only, entry}
use Rattle.comparison.specs.Rest.{alike}
use Rattle.comparison.specs.declared.Marks.{Marks}

-- the octets of the whole record that stands there; where none does, 0
unfoldable pub step_of : List ℕ → ℕ
step_of s = cond (stands_in 16 s) (raw_size 16 s) 0

-- the fields in which two records differ
abbrev pub marks_between : Raw → Raw → Marks
marks_between a b =
    record {
      time = differ a.time b.time;
      label = differ a.label b.label;
      kind = differ a.kind b.kind;
      size = differ a.size b.size;
      body = not (same_octets a.body b.body);
      first = false;
      second = false;
    }

-- a record that only one has
abbrev pub extra : Bool → Bool → Marks
extra first second = record { time = false; label = false; kind = false; size = false; body = false; first = first; second = second }

unfoldable pub marks_of : List ℕ → List ℕ → Marks
marks_of s t =
    cond (stands_in 16 s)
    (cond (stands_in 16 t) (marks_between (raw_in 16 s) (raw_in 16 t)) (extra true false))
    (extra false (stands_in 16 t))

-- the entries of record n
unfoldable pub marked : ℕ → Marks → List ℕ
marked n m =
    only m.time (entry n 0)
    ++ (only m.label (entry n 1)
    ++ (only m.kind (entry n 2)
    ++ (only m.size (entry n 3)
    ++ (only m.body (entry n 4)
    ++ (only m.first (entry n 5)
    ++ only m.second (entry n 6))))))

-- no field differs
abbrev pub unmarked : Marks → Bool
unmarked m = not m.time && (not m.label && (not m.kind && (not m.size && not m.body)))

-- both have a whole record there, and the same one
unfoldable pub alike_in : List ℕ → List ℕ → Bool
alike_in s t = stands_in 16 s && (stands_in 16 t && alike (raw_in 16 s) (raw_in 16 t))

-- numbers put into a list one behind the other; those past its end are dropped, but counted
pub record Put (list : List ℕ) (at : ℕ) (numbers : List ℕ) (put : List ℕ) (behind : ℕ) : Type 0 where
  pub list-is : put ≡ sets list at numbers
  pub behind-is : behind ≡ at + length numbers
