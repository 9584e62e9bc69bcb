-- The entry that is used, as the code comes to it.
-- Assumes nothing.
use Prim.Native.Nat.{ℕ, min, ◌≤◌, ◌<◌}
use mathlib.Core.Path.{◌≡◌, refl, sym, ap, ◌∙◌}
use mathlib.Core.Bool.{Bool, true, false}
use mathlib.Core.List.{List}
use lib.ListN.{length}
use lib.Dec.{ltb}
use borrow.Author.Tests.{eq-eqb, ne_eqb}
use Rattle.octets.specs.Choice.{need}
use Rattle.octets.proofs.Chain.{need-passed, bar-passed}
use Rattle.rules.specs.Times.{latest}
use Rattle.halving.specs.declared.Found.{Found}
use Rattle.halving.specs.Search.{found}
use Rattle.indexing.specs.declared.IndexHead.{IndexHead}
use Rattle.indexing.specs.Asking.{head_fits}
use Rattle.indexing.proofs.Looks.{head_passed}
use Rattle.index_file.specs.declared.Entry.{Entry}
use Rattle.index_file.specs.Files.{head_of, clock_at, clocks_in, entry_at}
use Rattle.indexing.specs.Judging.{judged_of}
use Rattle.index_file.specs.Seeking.{Sought, fits_in, seek_refusal, refused_by, used_in, sought_by, sought_in}
use Rattle.index_file.proofs.Lists.{each-length}

-- a head that is not refused: 1 to 256 entries
pub head_few : (h : IndexHead) (marked : Bool) (size l u : ℕ) → seek_refusal h marked size l u ≡ 0 → (0 < h.count) × (h.count ≤ 256)
head_few h marked size l u e =
    let fits = need (head_fits h l size 256) 20 0 in
    let a = bar-passed (ltb latest u) 0 (need marked 19 fits) e in
    let b = need-passed marked 18 fits a.1 in
    let c = need-passed (head_fits h l size 256) 19 0 b.1 in
    let p = head_passed h l size 256 c.0 in
    (p.0, p.1.0)

module _ (s : List ℕ) (count size l u : ℕ) (clocks : List ℕ) (ec : clocks ≡ clocks_in s) (f : Found) (ef : f ≡ found clocks u 0 (min count (length clocks)))
    (b : Bool) (eb : b ≡ judged_of (fits_in s l size) f.place 0 count) where
  found-is : f ≡ found (clocks_in s) u 0 (min count 256)
  found-is =
      ef ∙ (λ i. found (ec i) u 0 (min count (length (ec i)))) ∙ ap (λ (n : ℕ). found (clocks_in s) u 0 (min count n)) (each-length (clock_at s) 0 256)

  pub sought-used : b ≡ true → (e : Entry) → e ≡ entry_at s f.place → ◌≡◌ {A = Sought} (record { entry = e; looked = f.looked; answer = 0 }) (sought_by s count size l u)
  unfolding sought_by
  sought-used t e ee =
      let used : used_in s count size l f ≡ record { entry = entry_at s f.place; looked = f.looked; answer = 0 } = rw (sym eb ∙ t) refl in
      (λ i. record { entry = ee i; looked = f.looked; answer = 0 }) ∙ sym used ∙ ap (used_in s count size l) found-is

  pub sought-out : b ≡ false → (r : Sought) → r ≡ refused_by 20 → r ≡ sought_by s count size l u
  unfolding sought_by
  sought-out t r er =
      let used : used_in s count size l f ≡ refused_by 20 = rw (sym eb ∙ t) refl in
      er ∙ sym used ∙ ap (used_in s count size l) found-is

module _ (s : List ℕ) (marked : Bool) (size l u : ℕ) (h : IndexHead) (eh : h ≡ head_of s) (n : ℕ) (en : n ≡ seek_refusal h marked size l u) where
  refusal_is : n ≡ seek_refusal (head_of s) marked size l u
  refusal_is = en ∙ ap (λ (x : IndexHead). seek_refusal x marked size l u) eh

  pub sought-good : n ≡ 0 → (r : Sought) → r ≡ sought_by s h.count size l u → r ≡ sought_in s marked size l u
  unfolding sought_in
  sought-good z r er =
      rw (eq-eqb (seek_refusal (head_of s) marked size l u) 0 (sym refusal_is ∙ z)) (er ∙ ap (λ (x : IndexHead). sought_by s x.count size l u) eh)

  pub sought-refused : (n ≡ 0 → ⊥) → (r : Sought) → r ≡ refused_by n → r ≡ sought_in s marked size l u
  unfolding sought_in
  sought-refused z r er =
      rw (ne_eqb (seek_refusal (head_of s) marked size l u) 0 (λ e. z (refusal_is ∙ e))) (er ∙ ap refused_by refusal_is)
