-- The list holds exactly what differs, rising; the captures exchanged give the same list with 5 and 6 exchanged.
-- Assumes nothing.
use Prim.Native.Nat.{ℕ, zero, suc, ◌+◌, ◌*◌, ◌%◌, ◌≤◌, ◌<◌}
use native.Mathlib.Omega.{arith}
use native.Mathlib.Nat.{add-zero}
use mathlib.Core.Path.{◌≡◌, refl, sym, ap, ◌∙◌}
use mathlib.Core.Bool.{Bool, true, false, not, cond, ◌&&◌, ◌||◌}
use mathlib.Core.List.{List, [], ◌∷◌, ◌++◌, map, map-append}
use lib.Dec.{eqb, leb}
use borrow.Author.Tests.{eq-eqb, ne_eqb, le-leb, eqb-true, leb-true}
use Rattle.rules.proofs.Bools.{same_test, both_true}
use Rattle.octets.proofs.Chain.{and_both}
use Rattle.capture.specs.Raws.{Raw}
use Rattle.comparison.specs.Differences.{same_octets, differ, only, fields_of, entry, differences, records_of, list_of}
use Rattle.comparison.specs.Exactly.{contains, behind, numbered, field_differs, to_list, rising_from, exchanged}

-- ---- what a list holds
or-false : (b : Bool) → b || false ≡ b
or-false true = refl
or-false false = refl

or_assoc : (a b c : Bool) → (a || b) || c ≡ a || (b || c)
or_assoc true b c = refl
or_assoc false b c = refl

holds-joined : (x : ℕ) (l k : List ℕ) → contains x (l ++ k) ≡ (contains x l || contains x k)
holds-joined x [] k = refl
holds-joined x (y ∷ l) k = rw (holds-joined x l k) (sym (or_assoc (eqb x y) (contains x l) (contains x k)))

-- entries of one record
same-entry : (n f c : ℕ) → eqb (entry n f) (entry n c) ≡ eqb f c
same-entry n f c =
    same_test (eqb (entry n f) (entry n c)) (eqb f c)
    (λ e. let h = eqb-true (entry n f) (entry n c) e in eq-eqb f c (omega arith))
    (λ e. let h = eqb-true f c e in eq-eqb (entry n f) (entry n c) (omega arith))

holds-code : (n f : ℕ) (l : List ℕ) → contains (entry n f) (map (entry n) l) ≡ contains f l
holds-code n f [] = refl
holds-code n f (c ∷ l) = rw (same-entry n f c, holds-code n f l)

holds-only : (f : ℕ) (b : Bool) (c : ℕ) (l : List ℕ) → contains f (only b c ++ l) ≡ (eqb f c && b) || contains f l
holds-only f true c l = ap (λ (x : Bool). x || contains f l) (sym (and-true (eqb f c)))
  where
    and-true : (x : Bool) → x && true ≡ x
    and-true true = refl
    and-true false = refl
holds-only f false c l = ap (λ (x : Bool). x || contains f l) (sym (and-false (eqb f c)))
  where
    and-false : (x : Bool) → x && false ≡ false
    and-false true = refl
    and-false false = refl

-- the first of some tests that has the number
picked : (t d rest : Bool) → (t ≡ true → rest ≡ false) → (t && d) || rest ≡ cond t d rest
picked true d rest h = rw (h refl) (or-false d)
picked false d rest h = refl

no_more : (f c : ℕ) (b : Bool) → (f ≡ c → ⊥) → (l : List ℕ) → contains f l ≡ false → contains f (only b c ++ l) ≡ false
no_more f c b h l e = holds-only f b c l ∙ rw (ne_eqb f c h, e)

module _ (a b : Raw) where
  abbrev fourth : List ℕ
  fourth = only (not (same_octets a.body b.body)) 4 ++ []

  abbrev third : List ℕ
  third = only (differ a.size b.size) 3 ++ fourth

  abbrev second : List ℕ
  second = only (differ a.kind b.kind) 2 ++ third

  abbrev first : List ℕ
  first = only (differ a.label b.label) 1 ++ second

  tail-is : (x : Bool) → only x 4 ≡ only x 4 ++ []
  tail-is true = refl
  tail-is false = refl

  fields-are : fields_of a b ≡ only (differ a.time b.time) 0 ++ first
  unfolding fields_of
  fields-are =
      ap (λ (l : List ℕ). only (differ a.time b.time) 0 ++ (only (differ a.label b.label) 1 ++ (only (differ a.kind b.kind) 2 ++ (only (differ a.size b.size) 3 ++ l))))
      (tail-is (not (same_octets a.body b.body)))

  -- the codes of two records are those of the fields that differ
  fields-hold : (f : ℕ) → contains f (fields_of a b) ≡ field_differs f a b
  unfolding field_differs
  fields-hold f =
      let d4 = not (same_octets a.body b.body) in
      let e4 : contains f fourth ≡ cond (eqb f 4) d4 false = holds-only f d4 4 [] ∙ picked (eqb f 4) d4 false (λ e. refl) in
      let n3 : eqb f 3 ≡ true → contains f fourth ≡ false = λ e. let h = eqb-true f 3 e in no_more f 4 d4 (λ z. omega arith) [] refl in
      let e3 : contains f third ≡ cond (eqb f 3) (differ a.size b.size) (contains f fourth) =
      holds-only f (differ a.size b.size) 3 fourth ∙ picked (eqb f 3) (differ a.size b.size) (contains f fourth) n3 in
      let n2 : eqb f 2 ≡ true → contains f third ≡ false =
      λ e. let h = eqb-true f 2 e in
      no_more f 3 (differ a.size b.size) (λ z. omega arith) fourth (no_more f 4 d4 (λ z. omega arith) [] refl) in
      let e2 : contains f second ≡ cond (eqb f 2) (differ a.kind b.kind) (contains f third) =
      holds-only f (differ a.kind b.kind) 2 third ∙ picked (eqb f 2) (differ a.kind b.kind) (contains f third) n2 in
      let n1 : eqb f 1 ≡ true → contains f second ≡ false =
      λ e. let h = eqb-true f 1 e in
      no_more f 2 (differ a.kind b.kind) (λ z. omega arith) third
      (no_more f 3 (differ a.size b.size) (λ z. omega arith) fourth (no_more f 4 d4 (λ z. omega arith) [] refl)) in
      let e1 : contains f first ≡ cond (eqb f 1) (differ a.label b.label) (contains f second) =
      holds-only f (differ a.label b.label) 1 second ∙ picked (eqb f 1) (differ a.label b.label) (contains f second) n1 in
      let n0 : eqb f 0 ≡ true → contains f first ≡ false =
      λ e. let h = eqb-true f 0 e in
      no_more f 1 (differ a.label b.label) (λ z. omega arith) second
      (no_more f 2 (differ a.kind b.kind) (λ z. omega arith) third
      (no_more f 3 (differ a.size b.size) (λ z. omega arith) fourth (no_more f 4 d4 (λ z. omega arith) [] refl))) in
      ap (contains f) fields-are
      ∙ holds-only f (differ a.time b.time) 0 first
      ∙ picked (eqb f 0) (differ a.time b.time) (contains f first) n0
      ∙ rw (e1, e2, e3, e4)

  -- and no number of another record
  fields-far : (n x : ℕ) → ((c : ℕ) → c < 8 → x ≡ entry n c → ⊥) → contains x (map (entry n) (fields_of a b)) ≡ false
  fields-far n x h =
      ap (λ (l : List ℕ). contains x (map (entry n) l)) fields-are
      ∙ far-only (differ a.time b.time) 0 first (omega arith)
      (far-only (differ a.label b.label) 1 second (omega arith)
      (far-only (differ a.kind b.kind) 2 third (omega arith)
      (far-only (differ a.size b.size) 3 fourth (omega arith)
      (far-only (not (same_octets a.body b.body)) 4 [] (omega arith) refl))))
    where
      far-only : (t : Bool) (c : ℕ) (l : List ℕ) → c < 8 → contains x (map (entry n) l) ≡ false → contains x (map (entry n) (only t c ++ l)) ≡ false
      far-only true c l m e = rw (ne_eqb x (entry n c) (h c m), e)
      far-only false c l m e = e

-- ---- the records behind
-- nothing of a record before
before : (n m f : ℕ) (xs ys : List Raw) → m < n → f < 8 → contains (entry m f) (differences n xs ys) ≡ false
unfolding differences
before n m f [] [] l k = refl
before n m f [] (y ∷ ys) l k = rw (ne_eqb (entry m f) (entry n 6) (λ z. omega arith)) (before (suc n) m f [] ys (omega arith) k)
before n m f (x ∷ xs) [] l k = rw (ne_eqb (entry m f) (entry n 5) (λ z. omega arith)) (before (suc n) m f xs [] (omega arith) k)
before n m f (x ∷ xs) (y ∷ ys) l k =
    holds-joined (entry m f) (map (entry n) (fields_of x y)) (differences (suc n) xs ys)
    ∙ rw (fields-far x y n (entry m f) (λ c b z. omega arith), before (suc n) m f xs ys (omega arith) k)

of_number : (n k f : ℕ) (xs ys : List Raw) → f < 8 → contains (entry (n + k) f) (differences n xs ys) ≡ to_list f (behind xs k) (behind ys k)
unfolding differences
of_number n k f [] [] l = refl
of_number n zero f [] (y ∷ ys) l =
    ap (λ (m : ℕ). contains (entry m f) (differences n [] (y ∷ ys))) (add-zero n)
    ∙ rw (same-entry n f 6, before (suc n) n f [] ys (omega arith) l) (or-false (eqb f 6))
of_number n (suc k) f [] (y ∷ ys) l =
    let e : n + suc k ≡ suc n + k = omega arith in
    rw (ne_eqb (entry (n + suc k) f) (entry n 6) (λ z. omega arith))
    (ap (λ (m : ℕ). contains (entry m f) (differences (suc n) [] ys)) e ∙ of_number (suc n) k f [] ys l)
of_number n zero f (x ∷ xs) [] l =
    ap (λ (m : ℕ). contains (entry m f) (differences n (x ∷ xs) [])) (add-zero n)
    ∙ rw (same-entry n f 5, before (suc n) n f xs [] (omega arith) l) (or-false (eqb f 5))
of_number n (suc k) f (x ∷ xs) [] l =
    let e : n + suc k ≡ suc n + k = omega arith in
    rw (ne_eqb (entry (n + suc k) f) (entry n 5) (λ z. omega arith))
    (ap (λ (m : ℕ). contains (entry m f) (differences (suc n) xs [])) e ∙ of_number (suc n) k f xs [] l)
of_number n zero f (x ∷ xs) (y ∷ ys) l =
    ap (λ (m : ℕ). contains (entry m f) (differences n (x ∷ xs) (y ∷ ys))) (add-zero n)
    ∙ holds-joined (entry n f) (map (entry n) (fields_of x y)) (differences (suc n) xs ys)
    ∙ rw (holds-code n f (fields_of x y), before (suc n) n f xs ys (omega arith) l) (or-false (contains f (fields_of x y)) ∙ fields-hold x y f)
of_number n (suc k) f (x ∷ xs) (y ∷ ys) l =
    let e : n + suc k ≡ suc n + k = omega arith in
    holds-joined (entry (n + suc k) f) (map (entry n) (fields_of x y)) (differences (suc n) xs ys)
    ∙ rw (fields-far x y n (entry (n + suc k) f) (λ c b z. omega arith))
    (ap (λ (m : ℕ). contains (entry m f) (differences (suc n) xs ys)) e ∙ of_number (suc n) k f xs ys l)

-- ---- the theorems
-- 8 n + f is listed exactly if record n of both is there and field f differs, or n is in one only and f says whose. Every number is 8 n + f for one n and
-- one f below 8
pub listed-exactly : (first second : List ℕ) (n f : ℕ) → f < 8
    → contains (8 * n + f) (list_of first second) ≡ to_list f (numbered n (records_of first)) (numbered n (records_of second))
unfolding list_of
listed-exactly first second zero f l = before 1 0 f (records_of first) (records_of second) (omega arith) l
listed-exactly first second (suc n) f l =
    let e : suc n ≡ 1 + n = omega arith in
    rw e (of_number 1 n f (records_of first) (records_of second) l)

-- ---- the order
from_less : (k j : ℕ) (l : List ℕ) → k ≤ j → rising_from j l ≡ true → rising_from k l ≡ true
from_less k j [] h e = refl
from_less k j (x ∷ l) h e =
    let p = and_both (leb j x) (rising_from (suc x) l) e in
    let q = leb-true j x p.0 in
    both_true (le-leb k x (omega arith)) p.1

rising-only : (n : ℕ) (b : Bool) (c : ℕ) (l : List ℕ) → rising_from (entry n (suc c)) l ≡ true → rising_from (entry n c) (only b (entry n c) ++ l) ≡ true
rising-only n true c l e =
    both_true (le-leb (entry n c) (entry n c) (omega arith)) (from_less (suc (entry n c)) (entry n (suc c)) l (omega arith) e)
rising-only n false c l e = from_less (entry n c) (entry n (suc c)) l (omega arith) e

only-joined : (n : ℕ) (b : Bool) (c : ℕ) (l k m : List ℕ) → map (entry n) l ++ k ≡ m → map (entry n) (only b c ++ l) ++ k ≡ only b (entry n c) ++ m
only-joined n true c l k m e = ap (λ (z : List ℕ). entry n c ∷ z) e
only-joined n false c l k m e = e

rising-list : (n : ℕ) (xs ys : List Raw) → rising_from (8 * n) (differences n xs ys) ≡ true
unfolding differences
rising-list n [] [] = refl
rising-list n [] (y ∷ ys) =
    both_true (le-leb (8 * n) (entry n 6) (omega arith)) (from_less (suc (entry n 6)) (8 * suc n) (differences (suc n) [] ys) (omega arith) (rising-list (suc n) [] ys))
rising-list n (x ∷ xs) [] =
    both_true (le-leb (8 * n) (entry n 5) (omega arith)) (from_less (suc (entry n 5)) (8 * suc n) (differences (suc n) xs []) (omega arith) (rising-list (suc n) xs []))
rising-list n (x ∷ xs) (y ∷ ys) =
    let k = differences (suc n) xs ys in
    let made =
    ap (λ (l : List ℕ). map (entry n) l ++ k) (fields-are x y)
    ∙ only-joined n (differ x.time y.time) 0 (first x y) k _
    (only-joined n (differ x.label y.label) 1 (second x y) k _
    (only-joined n (differ x.kind y.kind) 2 (third x y) k _
    (only-joined n (differ x.size y.size) 3 (fourth x y) k _
    (only-joined n (not (same_octets x.body y.body)) 4 [] k k refl)))) in
    from_less (8 * n) (entry n 0) (map (entry n) (fields_of x y) ++ k) (omega arith)
    (rw made
    (rising-only n (differ x.time y.time) 0 _
    (rising-only n (differ x.label y.label) 1 _
    (rising-only n (differ x.kind y.kind) 2 _
    (rising-only n (differ x.size y.size) 3 _
    (rising-only n (not (same_octets x.body y.body)) 4 _ (from_less (entry n 5) (8 * suc n) k (omega arith) (rising-list (suc n) xs ys))))))))

-- the list is strictly rising, from the first code of record 1 on: in order, and each once
pub rising : (first second : List ℕ) → rising_from 8 (list_of first second) ≡ true
unfolding list_of
rising first second = rising-list 1 (records_of first) (records_of second)

-- ---- the captures exchanged
differ-turned : (x y : ℕ) → differ x y ≡ differ y x
differ-turned x y =
    ap not (same_test (eqb x y) (eqb y x) (λ e. eq-eqb y x (sym (eqb-true x y e))) (λ e. eq-eqb x y (sym (eqb-true y x e))))

same-turned : (a b : List ℕ) → same_octets a b ≡ same_octets b a
same-turned [] [] = refl
same-turned [] (y ∷ ys) = refl
same-turned (x ∷ xs) [] = refl
same-turned (x ∷ xs) (y ∷ ys) =
    let e : eqb x y ≡ eqb y x = same_test (eqb x y) (eqb y x) (λ e. eq-eqb y x (sym (eqb-true x y e))) (λ e. eq-eqb x y (sym (eqb-true y x e))) in
    rw (e, same-turned xs ys)

fields-turned : (a b : Raw) → fields_of a b ≡ fields_of b a
unfolding fields_of
fields-turned a b =
    rw (differ-turned a.time b.time, differ-turned a.label b.label, differ-turned a.kind b.kind, differ-turned a.size b.size, same-turned a.body b.body)

kept : (n c : ℕ) → c < 5 → exchanged (entry n c) ≡ entry n c
kept n c l = rw (ne_eqb (entry n c % 8) 5 (λ z. omega arith), ne_eqb (entry n c % 8) 6 (λ z. omega arith))

first-turned : (n : ℕ) → exchanged (entry n 5) ≡ entry n 6
first-turned n = rw (eq-eqb (entry n 5 % 8) 5 (omega arith)) (omega arith)

second-turned : (n : ℕ) → exchanged (entry n 6) ≡ entry n 5
second-turned n = rw (ne_eqb (entry n 6 % 8) 5 (λ z. omega arith), eq-eqb (entry n 6 % 8) 6 (omega arith)) (omega arith)

kept-only : (n : ℕ) (b : Bool) (c : ℕ) (l : List ℕ) → c < 5 → map exchanged (map (entry n) l) ≡ map (entry n) l
    → map exchanged (map (entry n) (only b c ++ l)) ≡ map (entry n) (only b c ++ l)
kept-only n true c l h e = rw (kept n c h, e)
kept-only n false c l h e = e

kept-fields : (n : ℕ) (a b : Raw) → map exchanged (map (entry n) (fields_of a b)) ≡ map (entry n) (fields_of a b)
kept-fields n a b =
    rw (fields-are a b)
    (kept-only n (differ a.time b.time) 0 (first a b) (omega arith)
    (kept-only n (differ a.label b.label) 1 (second a b) (omega arith)
    (kept-only n (differ a.kind b.kind) 2 (third a b) (omega arith)
    (kept-only n (differ a.size b.size) 3 (fourth a b) (omega arith)
    (kept-only n (not (same_octets a.body b.body)) 4 [] (omega arith) refl)))))

turned : (n : ℕ) (xs ys : List Raw) → map exchanged (differences n xs ys) ≡ differences n ys xs
unfolding differences
turned n [] [] = refl
turned n [] (y ∷ ys) = rw (second-turned n, turned (suc n) [] ys)
turned n (x ∷ xs) [] = rw (first-turned n, turned (suc n) xs [])
turned n (x ∷ xs) (y ∷ ys) =
    map-append exchanged (map (entry n) (fields_of x y)) (differences (suc n) xs ys)
    ∙ rw (kept-fields n x y, turned (suc n) xs ys) (ap (λ (l : List ℕ). map (entry n) l ++ differences (suc n) ys xs) (fields-turned x y))

-- the captures exchanged give the same list, 5 and 6 exchanged
pub swapped : (first second : List ℕ) → map exchanged (list_of first second) ≡ list_of second first
unfolding list_of
swapped first second = turned 1 (records_of first) (records_of second)
