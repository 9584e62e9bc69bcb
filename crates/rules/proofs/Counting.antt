-- How many elements of a list pass a test: with one more, with one less, and with those that do not pass.
-- Assumes nothing.
use Prim.Native.Nat.{ℕ, suc, ◌+◌}
use native.Mathlib.Omega.{arith}
use mathlib.Core.Path.{◌≡◌, refl, sym, ap, ◌∙◌}
use mathlib.Core.Bool.{Bool, true, false, cond, not}
use mathlib.Core.List.{List, [], ◌∷◌}
use lib.ListN.{length}
use Rattle.rules.specs.Lists.{any, only, without}
use Rattle.rules.proofs.Bools.{split, no_way}
use Rattle.rules.proofs.Lists.{Inserted, here, there}

-- one more where a test is passed
abbrev pub one_if : Bool → ℕ → ℕ
one_if b n = cond b (suc n) n

one-swap : (a b : Bool) (n : ℕ) → one_if a (one_if b n) ≡ one_if b (one_if a n)
one-swap true true n = refl
one-swap true false n = refl
one-swap false b n = refl

module _ {A : Type 0} (q : A → Bool) where
  abbrev pub count : List A → ℕ
  count xs = length (only q xs)

  pub count-cons : (x : A) (xs : List A) → count (x ∷ xs) ≡ one_if (q x) (count xs)
  unfolding only
  count-cons x xs = split (q x) (λ e. rw e) (λ e. rw e)

  pub count-inserted : {n : A} {xs ys : List A} → Inserted n xs ys → count ys ≡ one_if (q n) (count xs)
  count-inserted {n} {xs} here = count-cons n xs
  count-inserted {n} (there {x = x} {xs = xs} {ys = ys} i) =
      count-cons x ys ∙ ap (one_if (q x)) (count-inserted i) ∙ one-swap (q x) (q n) (count xs) ∙ ap (one_if (q n)) (sym (count-cons x xs))

  -- those that pass and those that do not are all
  pub count-both : (xs : List A) → count xs + length (only (λ x. not (q x)) xs) ≡ length xs
  unfolding only
  count-both [] = refl
  count-both (x ∷ xs) = let rest = count-both xs in split (q x) (λ e. rw e (omega (arith, rest))) (λ e. rw e (omega (arith, rest)))

  -- an element dropped, where what is the same passes the same tests
  pub count-without : (same : A → A → Bool) → ((a b : A) → same a b ≡ true → q a ≡ q b) → (k : A) (xs : List A) → any (same k) xs ≡ true
      → one_if (q k) (count (without same k xs)) ≡ count xs
  unfolding any without
  count-without same like k [] h = no_way h refl
  count-without same like k (x ∷ xs) h =
      split (same k x)
      (λ e. rw e (ap (λ (b : Bool). one_if b (count xs)) (like k x e) ∙ sym (count-cons x xs)))
      (λ e. rw e
      (ap (one_if (q k)) (count-cons x (without same k xs)) ∙ one-swap (q k) (q x) (count (without same k xs))
      ∙ ap (one_if (q x)) (count-without same like k xs (rw e at h)) ∙ sym (count-cons x xs)))

-- one test in place of another
pub count_same : {A : Type 0} (p q : A → Bool) → ((x : A) → p x ≡ q x) → (xs : List A) → count p xs ≡ count q xs
count_same p q h [] = unfold only in refl
count_same p q h (x ∷ xs) = count-cons p x xs ∙ (λ i. one_if (h x i) (count_same p q h xs i)) ∙ sym (count-cons q x xs)
