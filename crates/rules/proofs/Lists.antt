-- Tests over lists: witnesses, one element more or less, and lists that hold the same, each once.
-- Assumes nothing.
use mathlib.Core.Path.{◌≡◌, refl, sym, ap, ◌∙◌}
use mathlib.Core.Bool.{Bool, true, false, cond, not, ◌&&◌, ◌||◌}
use mathlib.Core.List.{List, [], ◌∷◌, Memᴰ}
use mathlib.Core.Logic.{◌⊎◌, inl, inr, ⊎_elim}
use Prim.Native.Nat.{ℕ, suc}
use lib.ListN.{length}
use lib.Dec.{eqb}
use borrow.Author.Tests.{not-true, eqb-true, eq-eqb}
use Rattle.octets.proofs.Chain.{and_both}
use Rattle.rules.specs.Lists.{any, only, once, without}
use Rattle.rules.proofs.Bools.{split, both_true, or_cases, or_left, or_right, no_way, refuted, true-false, same_test}
use Rattle.rules.proofs.Failing.{and_right}

-- one element more than a list, anywhere in it
pub data Inserted {A : Type 0} (n : A) : List A → List A → Type 0 where
  here : {xs : List A} → Inserted n xs (n ∷ xs)
  there : {x : A} {xs ys : List A} → Inserted n xs ys → Inserted n (x ∷ xs) (x ∷ ys)

or_swap : (a b c : Bool) → a || (b || c) ≡ b || (a || c)
or_swap true true c = refl
or_swap true false c = refl
or_swap false b c = refl

not-or : (a b : Bool) → not (a || b) ≡ not a && not b
not-or true b = refl
not-or false b = refl

and-shuffle : (a b c d : Bool) → (a && b) && (c && d) ≡ (c && a) && (b && d)
and-shuffle true true true d = refl
and-shuffle true true false d = refl
and-shuffle true false true d = refl
and-shuffle true false false d = refl
and-shuffle false b true d = refl
and-shuffle false b false d = refl

joined : (a b c : Bool) → (not a && not b) && c ≡ not (b || a) && c
joined true true c = refl
joined true false c = refl
joined false true c = refl
joined false false c = refl

module _ {A : Type 0} where
  pub any-inserted : (p : A → Bool) {n : A} {xs ys : List A} → Inserted n xs ys → any p ys ≡ p n || any p xs
  unfolding any
  any-inserted p here = refl
  any-inserted p {n} (there {x = x} {xs = xs} i) = ap (λ (b : Bool). p x || b) (any-inserted p i) ∙ or_swap (p x) (p n) (any p xs)

  pub length_inserted : {n : A} {xs ys : List A} → Inserted n xs ys → length ys ≡ suc (length xs)
  length_inserted here = refl
  length_inserted (there i) = ap suc (length_inserted i)

  -- an element of a list that passes a test, and back
  pub any_at : (p : A → Bool) {x : A} {xs : List A} → Memᴰ x xs → p x ≡ true → any p xs ≡ true
  unfolding any
  any_at p (Memᴰ.head {x = y} {xs} e) q = or_left (any p xs) (ap p (sym e) ∙ q)
  any_at p (Memᴰ.tail {x = y} {xs} m) q = or_right (p y) (any_at p m q)

  pub any-who : (p : A → Bool) (xs : List A) → any p xs ≡ true → (x : A) × Memᴰ x xs × (p x ≡ true)
  unfolding any
  any-who p [] e = no_way e refl
  any-who p (x ∷ xs) e =
      ⊎_elim (λ q. (x, Memᴰ.head refl, q)) (λ q. let m = any-who p xs q in (m.0, Memᴰ.tail m.1, m.2)) (or_cases (p x) (any p xs) e)

  -- the same test, element by element
  pub any_same : (p q : A → Bool) → ((x : A) → p x ≡ q x) → (xs : List A) → any p xs ≡ any q xs
  unfolding any
  any_same p q h [] = refl
  any_same p q h (x ∷ xs) = λ i. h x i || any_same p q h xs i

  pub none_only : (p : A → Bool) (xs : List A) → any p xs ≡ false → only p xs ≡ []
  unfolding any only
  none_only p [] e = refl
  none_only p (x ∷ xs) e =
      let f : p x ≡ false = refuted (p x) (λ z. true-false (or_left (any p xs) z) e) in
      let g : any p xs ≡ false = refuted (any p xs) (λ z. true-false (or_right (p x) z) e) in
      rw f (none_only p xs g)

-- an equivalence on what a list holds
pub record Alike {A : Type 0} (same : A → A → Bool) : Type 0 where
  pub itself : (a : A) → same a a ≡ true
  pub back : (a b : A) → same a b ≡ same b a
  pub through : (a b c : A) → same a b ≡ true → same b c ≡ true → same a c ≡ true

-- a list with one element more holds each once, if the list does and the element is new: of any test that does not ask which comes first
pub inserted-once : {A : Type 0} (same : A → A → Bool) → ((a b : A) → same a b ≡ same b a) → {n : A} {xs ys : List A} → Inserted n xs ys
    → once same ys ≡ not (any (same n) xs) && once same xs
unfolding once any
inserted-once same back here = refl
inserted-once same back {n} (there {x = x} {xs = xs} {ys = ys} i) =
    (λ j. not (any-inserted (same x) i j) && inserted-once same back i j)
    ∙ (λ j. not-or (same x n) (any (same x) xs) j && (not (any (same n) xs) && once same xs))
    ∙ and-shuffle (not (same x n)) (not (any (same x) xs)) (not (any (same n) xs)) (once same xs)
    ∙ ap (λ (b : Bool). (not (any (same n) xs) && not b) && (not (any (same x) xs) && once same xs)) (back x n)
    ∙ joined (any (same n) xs) (same n x) (not (any (same x) xs) && once same xs)

module _ {A : Type 0} (same : A → A → Bool) (alike : Alike same) where
  -- alike elements are alike to the same
  pub swap-same : (a b k : A) → same a b ≡ true → same k a ≡ same k b
  swap-same a b k e =
      same_test (same k a) (same k b) (λ z. alike.through k a b z e) (λ z. alike.through k b a z (sym (alike.back a b) ∙ e))

  pub once-head : (x : A) (xs : List A) → once same (x ∷ xs) ≡ true → any (same x) xs ≡ false
  unfolding once
  once-head x xs e = not-true _ (and_both (not (any (same x) xs)) (once same xs) e).0

  pub once-rest : (x : A) (xs : List A) → once same (x ∷ xs) ≡ true → once same xs ≡ true
  unfolding once
  once-rest x xs e = (and_both (not (any (same x) xs)) (once same xs) e).1

  pub once-cons : (x : A) (xs : List A) → any (same x) xs ≡ false → once same xs ≡ true → once same (x ∷ xs) ≡ true
  unfolding once
  once-cons x xs h o = rw h o

  pub once-inserted : {n : A} {xs ys : List A} → Inserted n xs ys → once same ys ≡ not (any (same n) xs) && once same xs
  once-inserted i = inserted-once same alike.back i

  -- what is left where one element is dropped
  pub any-without-other : (k m : A) (xs : List A) → same k m ≡ false → any (same m) (without same k xs) ≡ any (same m) xs
  unfolding any without
  any-without-other k m [] d = refl
  any-without-other k m (x ∷ xs) d =
      split (same k x)
      (λ e. let f : same m x ≡ false = refuted (same m x) (λ z. true-false (alike.through k x m e (alike.back x m ∙ z)) d) in rw (e, f))
      (λ e. rw e (ap (λ (b : Bool). same m x || b) (any-without-other k m xs d)))

  pub any-without-same : (k : A) (xs : List A) → once same xs ≡ true → any (same k) (without same k xs) ≡ false
  unfolding any without
  any-without-same k [] o = refl
  any-without-same k (x ∷ xs) o =
      split (same k x)
      (λ e. rw e (any-alike k x xs e ∙ once-head x xs o))
      (λ e. rw (e, e) (any-without-same k xs (once-rest x xs o)))
    where
      any-alike : (a b : A) (ys : List A) → same a b ≡ true → any (same a) ys ≡ any (same b) ys
      any-alike a b ys e = any_same (same a) (same b) (λ y. alike.back a y ∙ swap-same a b y e ∙ alike.back y b) ys

  pub once-without : (k : A) (xs : List A) → once same xs ≡ true → once same (without same k xs) ≡ true
  unfolding without
  once-without k [] o = o
  once-without k (x ∷ xs) o =
      split (same k x)
      (λ e. rw e (once-rest x xs o))
      (λ e. rw e (once-cons x (without same k xs) (any-without-other k x xs e ∙ once-head x xs o) (once-without k xs (once-rest x xs o))))

  pub length_without : (k : A) (xs : List A) → any (same k) xs ≡ true → suc (length (without same k xs)) ≡ length xs
  unfolding any without
  length_without k [] h = no_way h refl
  length_without k (x ∷ xs) h = split (same k x) (λ e. rw e) (λ e. rw e (ap suc (length_without k xs (rw e at h))))

  -- two lists that hold the same, each once, have one length
  pub same_length : (xs ys : List A) → once same xs ≡ true → once same ys ≡ true → ((k : A) → any (same k) xs ≡ any (same k) ys) → length xs ≡ length ys
  unfolding any
  same_length [] [] o p h = refl
  same_length [] (y ∷ ys) o p h = no_way (or_left (any (same y) ys) (alike.itself y)) (sym (h y))
  same_length (x ∷ xs) ys o p h =
      ap suc (same_length xs (without same x ys) (once-rest x xs o) (once-without x ys p) below)
      ∙ length_without x ys (sym (h x) ∙ or_left (any (same x) xs) (alike.itself x))
    where
      below : (m : A) → any (same m) xs ≡ any (same m) (without same x ys)
      below m =
          split (same x m)
          (λ e.
          (any_same (same m) (same x) (λ y. alike.back m y ∙ sym (swap-same x m y e) ∙ alike.back y x) xs ∙ once-head x xs o)
          ∙ sym
          (any_same (same m) (same x) (λ y. alike.back m y ∙ sym (swap-same x m y e) ∙ alike.back y x) (without same x ys) ∙ any-without-same x ys p))
          (λ e. (rw (alike.back m x ∙ e) at (h m)) ∙ sym (any-without-other x m ys e))

  -- those that pass a test which alike elements pass alike
  module _ (p : A → Bool) (fair : (a b : A) → same a b ≡ true → p a ≡ p b) where
    pub any-only : (k : A) (xs : List A) → any (same k) (only p xs) ≡ any (same k) xs && p k
    unfolding any only
    any-only k [] = refl
    any-only k (x ∷ xs) =
        split (same k x)
        (λ e. split (p x)
        (λ q. rw (q, e) (sym (fair k x e ∙ q)))
        (λ q. let z : p k ≡ false = fair k x e ∙ q in rw (q, e) (any-only k xs ∙ and_right (any (same k) xs) z ∙ sym z)))
        (λ e. split (p x) (λ q. rw (q, e) (any-only k xs)) (λ q. rw (q, e) (any-only k xs)))

    pub once-only : (xs : List A) → once same xs ≡ true → once same (only p xs) ≡ true
    unfolding only
    once-only [] o = o
    once-only (x ∷ xs) o =
        split (p x)
        (λ q. rw q
        (once-cons x (only p xs) (any-only x xs ∙ ap (λ (b : Bool). b && p x) (once-head x xs o)) (once-only xs (once-rest x xs o))))
        (λ q. rw q (once-only xs (once-rest x xs o)))

-- numbers that are equal
pub numbers-alike : Alike eqb
numbers-alike =
    record {
      itself = λ a. eq-eqb a a refl;
      back = λ a b. same_test (eqb a b) (eqb b a) (λ e. eq-eqb b a (sym (eqb-true a b e))) (λ e. eq-eqb a b (sym (eqb-true b a e)));
      through = λ a b c p q. eq-eqb a c (eqb-true a b p ∙ eqb-true b c q);
    }
