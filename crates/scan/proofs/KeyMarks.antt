-- The keys of the first pairs, one more at a time; the marks and the kept numbers, which stand for every one that was there; the search among the pairs before; how many pairs
-- are counted; and the first place of a label.
-- Assumes nothing.
use mathlib.Core.Path.{◌≡◌, refl, sym, ap, ◌∙◌, subst}
use mathlib.Core.Bool.{Bool, true, false, ◌&&◌, ◌||◌}
use mathlib.Core.List.{List, [], ◌∷◌, ◌++◌, map, map-append, append-nil}
use mathlib.Core.Logic.{◌⊎◌, inl, inr, ⊎_elim}
use Prim.Native.Nat.{ℕ, zero, suc, ◌+◌, ◌/◌, ◌%◌, ◌≤◌, ◌<◌, min}
use native.Mathlib.Omega.{arith}
use native.Mathlib.Numerals.{add-one}
use lib.ListN.{length, length-set, get_or, set, take, drop, replicate, length-replicate, take-append-drop}
use lib.Seq.{take-suc, take_all, take-take, drop-cons, get_or-set_same, get_or-set_other}
use lib.Dec.{eqb, leb}
use borrow.Author.Tests.{eqb-true, eqb-false, eq-eqb, ne_eqb, leb-true, leb-false, lt-ltb, le-ltb}
use Rattle.rules.specs.Parties.{own_number}
use Rattle.rules.specs.Lists.{any, only, once}
use Rattle.rules.proofs.Bools.{split, no_way, or_cases, or_left, or_right, refuted, true-false}
use Rattle.rules.proofs.Lists.{Inserted, any-inserted, once-inserted, once-head, once-rest, once-cons, numbers-alike}
use Rattle.rules.proofs.Counting.{one_if, count, count-inserted}
use Rattle.rules.proofs.TwoParties.{party-most}
use Rattle.scan.specs.Distinct.{key_in, key_stands, filled, keys, distinct_in, reach_of, reached, first_with, place_in}

-- ---- lists of numbers

pub at-end : (x : ℕ) (xs : List ℕ) → Inserted x xs (xs ++ (x ∷ []))
at-end x [] = Inserted.here
at-end x (y ∷ ys) = Inserted.there (at-end x ys)

-- a front has nothing that the whole has not
any-front : (p : ℕ → Bool) (xs ys : List ℕ) → any p (xs ++ ys) ≡ false → any p xs ≡ false
unfolding any
any-front p [] ys e = refl
any-front p (x ∷ xs) ys e =
    let f : p x ≡ false = refuted (p x) (λ z. true-false (or_left (any p (xs ++ ys)) z) e) in
    rw f (any-front p xs ys (rw f at e))

pub once-front : (xs ys : List ℕ) → once eqb (xs ++ ys) ≡ true → once eqb xs ≡ true
unfolding once
once-front [] ys e = refl
once-front (x ∷ xs) ys e =
    once-cons eqb numbers-alike x xs (any-front (eqb x) xs ys (once-head eqb numbers-alike x (xs ++ ys) e))
    (once-front xs ys (once-rest eqb numbers-alike x (xs ++ ys) e))

-- one element more is looked at, and in the end all
pub any-take-none : (p : ℕ → Bool) (xs : List ℕ) → any p (take 0 xs) ≡ false
unfolding any
any-take-none p xs = refl

pub any-take-more : (p : ℕ → Bool) (xs : List ℕ) (i : ℕ) → i < length xs → any p (take (i + 1) xs) ≡ p (get_or xs i 0) || any p (take i xs)
any-take-more p xs i h = rw (add-one, take-suc xs i 0 h) (any-inserted p (at-end (get_or xs i 0) (take i xs)))

pub any-take-all : (p : ℕ → Bool) (xs : List ℕ) (i : ℕ) → length xs ≤ i → any p (take i xs) ≡ any p xs
any-take-all p xs i h = ap (any p) (take_all i xs h)

-- a list has no more elements than it is long
pub take-most : (xs : List ℕ) (count : ℕ) → take (min count (length xs)) xs ≡ take count xs
take-most xs count =
    split (leb (length xs) count)
    (λ t. let h : length xs ≤ count = leb-true (length xs) count t in take_all (min count (length xs)) xs (omega arith) ∙ sym (take_all count xs h))
    (λ t. let h : count < length xs = leb-false (length xs) count t in
    let e : min count (length xs) ≡ count = omega arith in ap (λ (n : ℕ). take n xs) e)

-- an element that passes the test
any_here : (p : ℕ → Bool) (xs : List ℕ) (i : ℕ) → i < length xs → p (get_or xs i 0) ≡ true → any p xs ≡ true
unfolding any
any_here p [] i h e = absurd (omega arith)
any_here p (x ∷ xs) zero h e = or_left (any p xs) e
any_here p (x ∷ xs) (suc i) h e = or_right (p x) (any_here p xs i (omega arith) e)

first-set : (v x r : Bool) → (v || r) || x ≡ v || (x || r)
first-set true x r = refl
first-set false true true = refl
first-set false true false = refl
first-set false false true = refl
first-set false false false = refl

later-set : (v x s g r : Bool) → s || g ≡ v || r → (x || s) || g ≡ v || (x || r)
later-set true true s g r e = refl
later-set false true s g r e = refl
later-set true false s g r e = e
later-set false false s g r e = e

-- one element put in the place of another
any-set : (p : ℕ → Bool) (xs : List ℕ) (i v : ℕ) → i < length xs → any p (set xs i v) || p (get_or xs i 0) ≡ p v || any p xs
unfolding any
any-set p [] i v h = absurd (omega arith)
any-set p (x ∷ xs) zero v h = first-set (p v) (p x) (any p xs)
any-set p (x ∷ xs) (suc i) v h = later-set (p v) (p x) (any p (set xs i v)) (p (get_or xs i 0)) (any p xs) (any-set p xs i v (omega arith))

-- ---- the keys of the first pairs

pub filled-append : (xs ys : List ℕ) → filled (xs ++ ys) ≡ filled xs ++ filled ys
unfolding filled
filled-append [] ys = refl
filled-append (x ∷ xs) ys = split (eqb x 0) (λ e. rw e (filled-append xs ys)) (λ e. rw e (ap (λ (l : List ℕ). x ∷ l) (filled-append xs ys)))

module _ (labels : Bool) (pairs : List ℕ) where
  abbrev keys_of : List ℕ → List ℕ
  keys_of ps = map (key_in labels) (filled ps)

  keys-append : (xs ys : List ℕ) → keys_of (xs ++ ys) ≡ keys_of xs ++ keys_of ys
  keys-append xs ys = ap (map (key_in labels)) (filled-append xs ys) ∙ map-append (key_in labels) (filled xs) (filled ys)

  keys_step : (i : ℕ) → i < length pairs → keys labels (i + 1) pairs ≡ keys labels i pairs ++ keys_of (get_or pairs i 0 ∷ [])
  keys_step i h = rw (add-one, take-suc pairs i 0 h) (keys-append (take i pairs) (get_or pairs i 0 ∷ []))

  -- a place where none was noted, and one pair more
  pub keys-same : (i : ℕ) → i < length pairs → get_or pairs i 0 ≡ 0 → keys labels (i + 1) pairs ≡ keys labels i pairs
  unfolding filled
  keys-same i h e = keys_step i h ∙ rw (eq-eqb (get_or pairs i 0) 0 e) (append-nil (keys labels i pairs))

  pub keys-more : (i : ℕ) → i < length pairs → (get_or pairs i 0 ≡ 0 → ⊥) → keys labels (i + 1) pairs ≡ keys labels i pairs ++ (key_in labels (get_or pairs i 0) ∷ [])
  unfolding filled
  keys-more i h e = keys_step i h ∙ rw (ne_eqb (get_or pairs i 0) 0 e)

  -- there are no more keys than pairs
  keys-all : (count : ℕ) → keys labels (min count (length pairs)) pairs ≡ keys labels count pairs
  keys-all count = ap keys_of (take-most pairs count)

  -- a key that was there, or is 0
  pub twice : (i count : ℕ) → i < length pairs → i < count → (get_or pairs i 0 ≡ 0 → ⊥)
      → any (eqb (key_in labels (get_or pairs i 0))) (0 ∷ keys labels i pairs) ≡ true → distinct_in labels count pairs ≡ false
  unfolding distinct_in
  twice i count h k d t =
      refuted (once eqb (0 ∷ keys labels count pairs))
      (λ z. true-false (front z) (once-inserted eqb numbers-alike (at-end (key_in labels (get_or pairs i 0)) (0 ∷ keys labels i pairs)) ∙ rw t))
    where
      cut : keys labels count pairs ≡ (keys labels i pairs ++ (key_in labels (get_or pairs i 0) ∷ [])) ++ keys_of (drop (i + 1) (take count pairs))
      cut =
          ap keys_of (sym (take-append-drop (i + 1) (take count pairs)))
          ∙ keys-append (take (i + 1) (take count pairs)) (drop (i + 1) (take count pairs))
          ∙ ap (λ (l : List ℕ). keys_of l ++ keys_of (drop (i + 1) (take count pairs))) (take-take (i + 1) count pairs (omega arith))
          ∙ ap (λ (l : List ℕ). l ++ keys_of (drop (i + 1) (take count pairs))) (keys-more i h d)

      front : once eqb (0 ∷ keys labels count pairs) ≡ true → once eqb ((0 ∷ keys labels i pairs) ++ (key_in labels (get_or pairs i 0) ∷ [])) ≡ true
      front z = once-front ((0 ∷ keys labels i pairs) ++ (key_in labels (get_or pairs i 0) ∷ [])) (keys_of (drop (i + 1) (take count pairs))) (rw cut at z)

  pub distinct-all : (count : ℕ) → once eqb (0 ∷ keys labels (min count (length pairs)) pairs) ≡ true → distinct_in labels count pairs ≡ true
  unfolding distinct_in
  distinct-all count o = ap (λ (l : List ℕ). once eqb (0 ∷ l)) (sym (keys-all count)) ∙ o

-- there are no more places than 64
pub reach-most : (occupied : ℕ) → reach_of occupied ≤ 64
unfolding reach_of
reach-most occupied = omega arith

-- ---- marks and kept keys

pub and-false : (a : Bool) {b : Bool} → b ≡ false → false ≡ a && b
and-false true e = sym e
and-false false e = refl

pub neither : (a b : Bool) → a || b ≡ false → (a ≡ false) × (b ≡ false)
neither true b e = no_way refl e
neither false b e = (refl, e)

set-stays : (marks : List Bool) (at j : ℕ) → at < length marks → get_or marks j false ≡ true → get_or (set marks at true) j false ≡ true
set-stays marks at j h e =
    split (eqb j at)
    (λ t. ap (λ (k : ℕ). get_or (set marks at true) k false) (eqb-true j at t) ∙ get_or-set_same marks at true false h)
    (λ f. get_or-set_other marks at j true false (eqb-false j at f) ∙ e)

-- of the numbers so far the marks of all are set, 0's too; each is kept, and from place i on nothing is
pub record Seen (ks : List ℕ) (i : ℕ) (marks : List Bool) (kept : List ℕ) : Type 0 where
  pub size : length marks ≡ 1024
  pub room : length kept ≡ 64
  pub marked : (x : ℕ) → any (eqb x) (0 ∷ ks) ≡ true → get_or marks (x % 1024) false ≡ true
  pub holds : (x : ℕ) → any (eqb x) kept || eqb x 0 ≡ any (eqb x) (0 ∷ ks)
  pub free : (j : ℕ) → i ≤ j → get_or kept j 0 ≡ 0

-- of noughts, none but 0 is kept
any-noughts : (n x : ℕ) → any (eqb x) (replicate n 0) || eqb x 0 ≡ eqb x 0 || false
unfolding any
any-noughts zero x = split (eqb x 0) (λ e. rw e) (λ e. rw e)
any-noughts (suc n) x = let rest = any-noughts n x in split (eqb x 0) (λ e. rw e) (λ e. rw e (rw e at rest))

nought-at : (n j : ℕ) → ◌≡◌ {A = ℕ} (get_or (replicate n 0) j 0) 0
nought-at zero j = refl
nought-at (suc n) zero = refl
nought-at (suc n) (suc j) = nought-at n j

pub seen_none : Seen [] 0 (set (replicate 1024 false) 0 true) (replicate 64 0)
unfolding any
seen_none = record {
  size = length-set (replicate 1024 false) 0 true ∙ length-replicate {A = Bool} 1024 false;
  room = length-replicate {A = ℕ} 64 0;
  marked = λ x z. ⊎_elim
      (λ q. ap (λ (y : ℕ). get_or (set (replicate 1024 false) 0 true) (y % 1024) false) (eqb-true x 0 q))
      (λ q. no_way q refl)
      (or_cases (eqb x 0) false z);
  holds = any-noughts 64;
  free = λ j _. nought-at 64 j;
}

module _ (ks : List ℕ) (i : ℕ) (marks : List Bool) (kept : List ℕ) (s : Seen ks i marks kept) where
  -- a number without its mark is a new one
  pub seen-new : (x : ℕ) → get_or marks (x % 1024) false ≡ false → any (eqb x) (0 ∷ ks) ≡ false
  seen-new x f = refuted (any (eqb x) (0 ∷ ks)) (λ z. true-false (s.marked x z) f)

  -- where a place is free, a search finds just the numbers so far, and 0
  pub found-kept : (x : ℕ) → i < 64 → any (eqb x) kept ≡ any (eqb x) (0 ∷ ks)
  found-kept x h =
      split (eqb x 0)
      (λ e.
      let here : any (eqb x) kept ≡ true = any_here (eqb x) kept i (omega (arith, s.room)) (rw (s.free i (omega arith)) e) in
      here ∙ sym (sym (s.holds x) ∙ or_left (eqb x 0) here))
      (λ e. or-none (any (eqb x) kept) e ∙ s.holds x)
    where
      or-none : (a : Bool) {b : Bool} → b ≡ false → a ≡ a || b
      or-none true p = refl
      or-none false p = sym p

  -- a place where none was noted
  pub seen_same : Seen ks (i + 1) marks kept
  seen_same = record {
    size = s.size;
    room = s.room;
    marked = s.marked;
    holds = s.holds;
    free = λ j h. s.free j (omega (arith, h));
  }

  -- one number more
  pub seen_more : (x : ℕ) → i < 64 → Seen (ks ++ (x ∷ [])) (i + 1) (set marks (x % 1024) true) (set kept i x)
  seen_more x h = record {
    size = length-set marks (x % 1024) true ∙ s.size;
    room = length-set kept i x ∙ s.room;
    marked = marked_more;
    holds = holds_more;
    free = λ j g. get_or-set_other kept i j x 0 (λ e. omega (arith, g, e)) ∙ s.free j (omega (arith, g));
  }
    where
      at : x % 1024 < length marks
      at = omega (arith, s.size)

      marked_more : (y : ℕ) → any (eqb y) (0 ∷ (ks ++ (x ∷ []))) ≡ true → get_or (set marks (x % 1024) true) (y % 1024) false ≡ true
      marked_more y e =
          ⊎_elim
          (λ q. ap (λ (k : ℕ). get_or (set marks (x % 1024) true) (k % 1024) false) (eqb-true y x q) ∙ get_or-set_same marks (x % 1024) true false at)
          (λ q. set-stays marks (x % 1024) (y % 1024) at (s.marked y q))
          (or_cases (eqb y x) (any (eqb y) (0 ∷ ks)) (sym (any-inserted (eqb y) (at-end x (0 ∷ ks))) ∙ e))

      holds_more : (y : ℕ) → any (eqb y) (set kept i x) || eqb y 0 ≡ any (eqb y) (0 ∷ (ks ++ (x ∷ [])))
      holds_more y =
          ap (λ (n : ℕ). any (eqb y) (set kept i x) || eqb y n) (sym (s.free i (omega arith)))
          ∙ any-set (eqb y) kept i x (omega (arith, s.room))
          ∙ ap (λ (b : Bool). eqb y x || b) (found-kept y h)
          ∙ sym (any-inserted (eqb y) (at-end x (0 ∷ ks)))

-- the same as the code has it: by what is known of its numbers and of its lists
pub seen-still : (ks ks' : List ℕ) (i : ℕ) (marks marks' : List Bool) (kept kept' : List ℕ) → Seen ks i marks kept → ks' ≡ ks → marks' ≡ marks → kept' ≡ kept → Seen ks' (i + 1) marks' kept'
seen-still ks ks' i marks marks' kept kept' s e f g = rw (e, f, g) (seen_same ks i marks kept s)

pub seen_next : (ks ks' : List ℕ) (i : ℕ) (marks marks' : List Bool) (kept kept' : List ℕ) (x z : ℕ) → Seen ks i marks kept → i < 64
    → z ≡ x → ks' ≡ ks ++ (x ∷ []) → marks' ≡ set marks (z % 1024) true → kept' ≡ set kept i z → Seen ks' (i + 1) marks' kept'
seen_next ks ks' i marks marks' kept kept' x z s h d e f g = rw (e, f, g, d) (seen_more ks i marks kept s x h)

-- keys that are apart from each other and from 0, with one more that is a new one
pub apart_more : (ks ks' : List ℕ) (x : ℕ) → once eqb (0 ∷ ks) ≡ true → any (eqb x) (0 ∷ ks) ≡ false → ks' ≡ ks ++ (x ∷ []) → once eqb (0 ∷ ks') ≡ true
apart_more ks ks' x o new e = rw e (once-inserted eqb numbers-alike (at-end x (0 ∷ ks)) ∙ rw new o)

-- the discriminators of the first pairs, whosever they are
unfoldable pub numbers : ℕ → List ℕ → List ℕ
numbers count pairs = map (λ p. p / 4294967296) (filled (take count pairs))

module _ (pairs : List ℕ) where
  numbers-step : (i : ℕ) → i < length pairs → numbers (i + 1) pairs ≡ numbers i pairs ++ map (λ p. p / 4294967296) (filled (get_or pairs i 0 ∷ []))
  unfolding numbers
  numbers-step i h =
      rw (add-one, take-suc pairs i 0 h)
      (ap (map (λ p. p / 4294967296)) (filled-append (take i pairs) (get_or pairs i 0 ∷ [])) ∙ map-append (λ p. p / 4294967296) (filled (take i pairs)) (filled (get_or pairs i 0 ∷ [])))

  pub numbers-same : (i : ℕ) → i < length pairs → get_or pairs i 0 ≡ 0 → numbers (i + 1) pairs ≡ numbers i pairs
  unfolding filled
  numbers-same i h e = numbers-step i h ∙ rw (eq-eqb (get_or pairs i 0) 0 e) (append-nil (numbers i pairs))

  pub numbers_more : (i : ℕ) → i < length pairs → (get_or pairs i 0 ≡ 0 → ⊥) → numbers (i + 1) pairs ≡ numbers i pairs ++ (get_or pairs i 0 / 4294967296 ∷ [])
  unfolding filled
  numbers_more i h e = numbers-step i h ∙ rw (ne_eqb (get_or pairs i 0) 0 e)

-- who has a discriminator within a party has the discriminator
same_number : (x q : ℕ) → eqb (key_in false q) x ≡ true → eqb (q / 4294967296) (x / 2) ≡ true
same_number x q e =
    eq-eqb (q / 4294967296) (x / 2) (omega (arith, party-most (q % 4294967296), eqb-true (key_in false q) x e))

-- a discriminator that is not there is not there in any party
pub none_within : (l d : ℕ) (ps : List ℕ) → any (λ p. eqb (p / 4294967296) d) ps ≡ false → any (λ p. eqb (key_in false p) (own_number l d)) ps ≡ false
unfolding any
none_within l d [] e = refl
none_within l d (p ∷ ps) e =
    let f = neither (eqb (p / 4294967296) d) (any (λ q. eqb (q / 4294967296) d) ps) e in
    let unlike : eqb (key_in false p) (own_number l d) ≡ false =
    ne_eqb (key_in false p) (own_number l d) (λ z. eqb-false (p / 4294967296) d f.0 (omega (arith, party-most (p % 4294967296), party-most l, z))) in
    rw unlike (none_within l d ps f.1)

among-numbers : (x : ℕ) (ps : List ℕ) → any (eqb x) (map (key_in false) ps) ≡ true → any (eqb (x / 2)) (map (λ p. p / 4294967296) ps) ≡ true
unfolding any
among-numbers x [] e = no_way e refl
among-numbers x (p ∷ ps) e =
    ⊎_elim
    (λ q. or_left _ (numbers-alike.back (x / 2) (p / 4294967296) ∙ same_number x p (numbers-alike.back (key_in false p) x ∙ q)))
    (λ q. or_right (eqb (x / 2) (p / 4294967296)) (among-numbers x ps q))
    (or_cases (eqb x (key_in false p)) (any (eqb x) (map (key_in false) ps)) e)

-- so a discriminator that is new is new within its party
pub new-within : (pairs : List ℕ) (i q : ℕ) → any (eqb (q / 4294967296)) (0 ∷ numbers i pairs) ≡ false → any (eqb (key_in false q)) (0 ∷ keys false i pairs) ≡ false
unfolding any numbers
new-within pairs i q f =
    refuted (any (eqb (key_in false q)) (0 ∷ keys false i pairs))
    (λ z. true-false (there (or_cases (eqb (key_in false q) 0) (any (eqb (key_in false q)) (keys false i pairs)) z)) f)
  where
    half : key_in false q / 2 ≡ q / 4294967296
    half = omega (arith, party-most (q % 4294967296))

    there : (eqb (key_in false q) 0 ≡ true) ⊎ (any (eqb (key_in false q)) (keys false i pairs) ≡ true) → any (eqb (q / 4294967296)) (0 ∷ numbers i pairs) ≡ true
    there (inl z) = or_left _ (eq-eqb (q / 4294967296) 0 (omega (arith, eqb-true (key_in false q) 0 z)))
    there (inr z) =
        or_right (eqb (q / 4294967296) 0)
        (subst (λ (n : ℕ). any (eqb n) (map (λ p. p / 4294967296) (filled (take i pairs))) ≡ true) half (among-numbers (key_in false q) (filled (take i pairs)) z))

-- ---- the search among the pairs before

-- a key among the pairs is among their keys, and 0 is one of these
any-key : (labels : Bool) (x : ℕ) (ps : List ℕ) → eqb x 0 || any (λ p. eqb (key_in labels p) x) ps ≡ any (eqb x) (0 ∷ map (key_in labels) (filled ps))
unfolding any filled
any-key labels x [] = refl
any-key labels x (p ∷ ps) =
    let rest = any-key labels x ps in
    split (eqb x 0)
    (λ z. rw z)
    (λ z.
    let after = rw z at rest in
    split (eqb p 0)
    (λ e.
    let none : eqb (key_in labels p) x ≡ false =
    ap (λ (n : ℕ). eqb (key_in labels n) x) (eqb-true p 0 e) ∙ nought labels x (eqb-false x 0 z) in
    rw (z, e, none) after)
    (λ e. rw (z, e) (λ i. numbers-alike.back (key_in labels p) x i || after i)))
  where
    nought : (labels : Bool) (x : ℕ) → (x ≡ 0 → ⊥) → eqb (key_in labels 0) x ≡ false
    nought true x d = ne_eqb 0 x (λ z. d (sym z))
    nought false x d = ne_eqb 0 x (λ z. d (sym z))

four : (a b c d : Bool) → (a || b) || (c || d) ≡ (a || c) || (b || d)
four true b c d = refl
four false true true d = refl
four false true false d = refl
four false false c d = refl

any-either : (p q : ℕ → Bool) (xs : List ℕ) → any (λ x. p x || q x) xs ≡ any p xs || any q xs
unfolding any
any-either p q [] = refl
any-either p q (x ∷ xs) = ap (λ (b : Bool). (p x || q x) || b) (any-either p q xs) ∙ four (p x) (q x) (any p xs) (any q xs)

-- so it finds just the keys of the pairs so far, and 0
pub stands-either : (pairs : List ℕ) (i q : ℕ)
    → key_stands (take i pairs) q ≡ any (eqb (key_in true q)) (0 ∷ keys true i pairs) || any (eqb (key_in false q)) (0 ∷ keys false i pairs)
unfolding key_stands
stands-either pairs i q =
    ap (λ (b : Bool). (eqb (key_in true q) 0 || eqb (key_in false q) 0) || b)
    (any-either (λ p. eqb (key_in true p) (key_in true q)) (λ p. eqb (key_in false p) (key_in false q)) (take i pairs))
    ∙ four (eqb (key_in true q) 0) (eqb (key_in false q) 0) _ _
    ∙ (λ j. any-key true (key_in true q) (take i pairs) j || any-key false (key_in false q) (take i pairs) j)

-- ---- how many are counted

pub count-take-none : (q : ℕ → Bool) (xs : List ℕ) → ◌≡◌ {A = ℕ} (count q (take 0 xs)) 0
count-take-none q xs = unfold only in refl

pub count-take-more : (q : ℕ → Bool) (xs : List ℕ) (i : ℕ) → i < length xs → count q (take (i + 1) xs) ≡ one_if (q (get_or xs i 0)) (count q (take i xs))
count-take-more q xs i h = rw (add-one, take-suc xs i 0 h) (count-inserted q (at-end (get_or xs i 0) (take i xs)))

-- ---- the first place of a label

-- the places before i have it not
pub with_none : (label : ℕ) (pairs : List ℕ) → first_with label pairs ≡ 0 + first_with label (drop 0 pairs)
with_none label pairs = omega arith

pub with-here : (label : ℕ) (pairs : List ℕ) (i : ℕ) → i < length pairs → key_in true (get_or pairs i 0) ≡ label → first_with label (drop i pairs) ≡ 0
unfolding first_with
with-here label pairs i h e = ap (first_with label) (drop-cons pairs i 0 h) ∙ rw (eq-eqb (key_in true (get_or pairs i 0)) label e)

pub with-later : (label : ℕ) (pairs : List ℕ) (i : ℕ) → i < length pairs → (key_in true (get_or pairs i 0) ≡ label → ⊥)
    → first_with label (drop i pairs) ≡ suc (first_with label (drop (i + 1) pairs))
unfolding first_with
with-later label pairs i h d = ap (first_with label) (drop-cons pairs i 0 h) ∙ rw (ne_eqb (key_in true (get_or pairs i 0)) label d, add-one)

-- what the search for a label gives: a place that the set reaches, or none
pub place_found : (label occupied : ℕ) (pairs : List ℕ) (n : ℕ) → (label ≡ 0 → ⊥) → first_with label (reached occupied pairs) ≡ n → n < length (reached occupied pairs) → place_in label occupied pairs ≡ n
unfolding place_in
place_found label occupied pairs n d e h = rw (ne_eqb label 0 d, e, lt-ltb n (length (reached occupied pairs)) h)

pub place_none : (label occupied : ℕ) (pairs : List ℕ) → (label ≡ 0 → ⊥) → length (reached occupied pairs) ≤ first_with label (reached occupied pairs) → place_in label occupied pairs ≡ length pairs
unfolding place_in
place_none label occupied pairs d h = rw (ne_eqb label 0 d, le-ltb (first_with label (reached occupied pairs)) (length (reached occupied pairs)) h)

pub place-zero : (label occupied : ℕ) (pairs : List ℕ) → label ≡ 0 → place_in label occupied pairs ≡ length pairs
unfolding place_in
place-zero label occupied pairs e = rw (eq-eqb label 0 e)
