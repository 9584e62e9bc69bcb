-- The list of what a function gives at each of n places.
-- Assumes nothing.
use Prim.Native.Nat.{ℕ, zero, suc, ◌+◌, ◌<◌, ◌≤◌}
use native.Mathlib.Omega.{arith}
use mathlib.Core.Path.{◌≡◌, refl, sym, ap, ◌∙◌}
use mathlib.Core.List.{List}
use lib.ListN.{length, get_or, set, length-set}
use lib.Seq.{ext_get_or, get_or-set_same, get_or-set_other}
use lib.Dec.{eqb}
use borrow.Author.Tests.{eqb-true, eqb-false}
use Rattle.rules.proofs.Bools.{split}
use Rattle.index_file.specs.Files.{each}

module _ {A : Type 0} (f : ℕ → A) where
  pub each-length : (k n : ℕ) → length (each f k n) ≡ n
  unfolding each
  each-length k zero = refl
  each-length k (suc n) = ap suc (each-length (suc k) n)

  each_from : (k n i : ℕ) (d : A) → i < n → get_or (each f k n) i d ≡ f (k + i)
  unfolding each
  each_from k zero i d h = absurd (omega arith)
  each_from k (suc n) zero d h = let e : k ≡ k + 0 = omega arith in ap f e
  each_from k (suc n) (suc i) d h = let e : suc k + i ≡ k + suc i = omega arith in each_from (suc k) n i d (omega arith) ∙ ap f e

  pub each_at : (n i : ℕ) (d : A) → i < n → get_or (each f 0 n) i d ≡ f i
  each_at n i d h = let e : 0 + i ≡ i = omega arith in each_from 0 n i d h ∙ ap f e

-- ---- numbers filled in one behind the other
-- those before place k are there
pub record Filled (f : ℕ → ℕ) (n k : ℕ) (s : List ℕ) : Type 0 where
  pub size : length s ≡ n
  pub there : (i : ℕ) → i < k → get_or s i 0 ≡ f i

pub filled_none : (f : ℕ → ℕ) (n : ℕ) (s : List ℕ) → length s ≡ n → Filled f n 0 s
filled_none f n s e = record { size = e; there = λ i h. absurd (omega arith) }

pub filled_more : (f : ℕ → ℕ) (n k : ℕ) (s : List ℕ) (v : ℕ) → k < n → v ≡ f k → Filled f n k s → Filled f n (k + 1) (set s k v)
filled_more f n k s v h e w =
    record {
      size = length-set s k v ∙ w.size;
      there = λ i b. split (eqb i k)
          (λ q. let same = eqb-true i k q in
          ap (λ (j : ℕ). get_or (set s k v) j 0) same ∙ get_or-set_same s k v 0 (omega (arith, w.size)) ∙ e ∙ ap f (sym same))
          (λ q. let apart = eqb-false i k q in
          get_or-set_other s k i v 0 apart ∙ w.there i (omega arith));
    }

pub filled-all : (f : ℕ → ℕ) (n k : ℕ) (s : List ℕ) → n ≤ k → Filled f n k s → s ≡ each f 0 n
filled-all f n k s h w =
    ext_get_or 0 s (each f 0 n) (w.size ∙ sym (each-length f 0 n))
    (λ i b. let c : i < n = omega (arith, w.size) in w.there i (omega arith) ∙ sym (each_at f n i 0 c))
