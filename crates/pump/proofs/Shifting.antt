-- Octets moved to the front of their own buffer, one by one; and octets read behind those that are there.
-- Assumes nothing.
use Prim.Native.Nat.{ℕ, ◌+◌, ◌-◌, ◌≤◌, ◌<◌, min}
use native.Mathlib.Omega.{arith}
use native.Mathlib.Nat.{zero-add}
use mathlib.Core.Path.{◌≡◌, sym, ap, ◌∙◌}
use mathlib.Core.List.{List, ◌++◌}
use lib.ListN.{length, get_or, set, take, drop, length-drop, length-append}
use lib.Seq.{sets, get_or-drop, get_or-take, get_or-append-add, length-take-le, take_all, take-append-add}
use Rattle.octets.proofs.Runs.{front, more}

-- the octets from a place to another
abbrev pub between : List ℕ → ℕ → ℕ → List ℕ
between l from to = drop from (take to l)

module _ (l : List ℕ) (from to : ℕ) (fits : to ≤ length l) where
  pub between-length : length (between l from to) ≡ to - from
  between-length = omega (arith, length-drop from (take to l), length-take-le to l fits)

  -- the octet that is moved next is still as it was
  not_yet : (i : ℕ) → from + i < to → get_or (sets l 0 (take i (between l from to))) (from + i) 0 ≡ get_or (between l from to) i 0
  not_yet i h =
      let xs = take i (between l from to) in
      let n : length xs ≡ i = length-take-le i (between l from to) (omega (arith, between-length)) in
      let place : from + i ≡ length xs + from = omega arith in
      ap (λ (s : List ℕ). get_or s (from + i) 0) (front xs l (omega arith))
      ∙ ap (λ (k : ℕ). get_or (xs ++ drop (length xs) l) k 0) place
      ∙ get_or-append-add xs (drop (length xs) l) from 0
      ∙ get_or-drop (length xs) l from 0
      ∙ ap (λ (k : ℕ). get_or l k 0) (sym place)
      ∙ sym (get_or-take to l (from + i) 0 h)
      ∙ sym (get_or-drop from (take to l) i 0)

  pub move-one : (i : ℕ) → from + i < to
      → set (sets l 0 (take i (between l from to))) i (get_or (sets l 0 (take i (between l from to))) (from + i) 0) ≡ sets l 0 (take (i + 1) (between l from to))
  move-one i h =
      ap (set (sets l 0 (take i (between l from to))) i) (not_yet i h)
      ∙ ap (λ (k : ℕ). set (sets l 0 (take i (between l from to))) k (get_or (between l from to) i 0)) (sym (zero-add i))
      ∙ more (between l from to) l 0 i (omega (arith, between-length))

  -- all are moved
  pub moved_all : (i : ℕ) → to ≤ from + i → sets l 0 (take i (between l from to)) ≡ sets l 0 (between l from to)
  moved_all i h = ap (sets l 0) (take_all i (between l from to) (omega (arith, between-length)))

-- ---- octets that a read brought stand behind those that were there
abbrev pub joined : ℕ → List ℕ → List ℕ → List ℕ
joined have buf part = take have buf ++ part

module _ (have : ℕ) (buf : List ℕ) (n : ℕ) (part : List ℕ) (there : have ≤ length buf) (room : length part ≡ length buf - have) (few : n ≤ length part) where
  pub joined_length : length (joined have buf part) ≡ length buf
  joined_length = omega (arith, length-append (take have buf) part, length-take-le have buf there)

  pub so-many : min (have + n) (length (joined have buf part)) ≡ have + n
  so-many = omega (arith, joined_length)

  pub read-in : take (min (have + n) (length (joined have buf part))) (joined have buf part) ≡ take have buf ++ take n part
  read-in =
      ap (λ (k : ℕ). take k (joined have buf part)) so-many
      ∙ ap (λ (k : ℕ). take (k + n) (joined have buf part)) (sym (length-take-le have buf there))
      ∙ take-append-add (take have buf) part n
