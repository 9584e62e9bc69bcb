-- The file that is built: each entry stands at its place, and the head before them.
-- Assumes nothing.
use Prim.Native.Nat.{ℕ, zero, suc, ◌+◌, ◌*◌, ◌-◌, ◌≤◌, ◌<◌}
use native.Mathlib.Omega.{arith}
use native.Mathlib.Nat.{min-eq_left}
use mathlib.Core.Path.{◌≡◌, refl, sym, ap, ◌∙◌}
use mathlib.Core.List.{List, [], ◌∷◌, ◌++◌, append_assoc}
use lib.ListN.{length, set, take, drop}
use lib.Seq.{sets, sets-eq, length-sets, length-take-le, take-set-le, drop-set-lt, take-take, take_at, drop_at}
use lib.Dec.{eqb}
use borrow.Author.Tests.{eqb-true, eqb-false}
use Rattle.rules.proofs.Bools.{split}
use Rattle.index_file.specs.Octets.{entry_octets}
use Rattle.index_file.specs.Files.{place_of}
use Rattle.index_file.specs.Blocks.{entry_for}
use Rattle.index_file.proofs.Windows.{drop-take}
use Rattle.index_file.proofs.Entire.{entry_before, put_from}

-- octets put behind a place, and before one
take-sets : (vs l : List ℕ) (i n : ℕ) → n ≤ i → take n (sets l i vs) ≡ take n l
take-sets [] l i n h = refl
take-sets (v ∷ vs) l i n h = take-sets vs (set l i v) (suc i) n (omega arith) ∙ take-set-le n l i v h

pub drop-sets : (vs l : List ℕ) (i n : ℕ) → i + length vs ≤ n → drop n (sets l i vs) ≡ drop n l
drop-sets [] l i n h = refl
drop-sets (v ∷ vs) l i n h = drop-sets vs (set l i v) (suc i) n (omega arith) ∙ drop-set-lt n l i v (omega arith)

-- so many octets from a place on
abbrev pub stretch : ℕ → ℕ → List ℕ → List ℕ
stretch size p l = take size (drop p l)

stretch-front : (size p : ℕ) (l : List ℕ) → stretch size p l ≡ drop p (take (p + size) l)
stretch-front size p l = let e : size ≡ p + size - p = omega arith in ap (λ (n : ℕ). take n (drop p l)) e ∙ sym (drop-take p (p + size) l (omega arith))

pub stretch-sets : (vs l : List ℕ) (p size : ℕ) → length vs ≡ size → p + size ≤ length l → stretch size p (sets l p vs) ≡ vs
stretch-sets vs l p size e h =
    let all : sets l p vs ≡ take p l ++ (vs ++ drop (p + length vs) l) = sets-eq vs l p (omega arith) ∙ append_assoc (take p l) vs (drop (p + length vs) l) in
    ap (stretch size p) all ∙ ap (take size) (drop_at (take p l) (vs ++ drop (p + length vs) l) p (length-take-le p l (omega arith)))
    ∙ take_at vs (drop (p + length vs) l) size e

stretch-before : (vs l : List ℕ) (p size i : ℕ) → p + size ≤ i → stretch size p (sets l i vs) ≡ stretch size p l
stretch-before vs l p size i h = stretch-front size p (sets l i vs) ∙ ap (drop p) (take-sets vs l i (p + size) h) ∙ sym (stretch-front size p l)

pub stretch-take : (size p n : ℕ) (l : List ℕ) → p + size ≤ n → stretch size p (take n l) ≡ stretch size p l
stretch-take size p n l h = ap (take size) (drop-take p n l (omega arith)) ∙ take-take size (n - p) (drop p l) (omega arith)

place_is : (k : ℕ) → k ≤ 256 → place_of k ≡ 24 + 252 * k
place_is k h = ap (λ (n : ℕ). 24 + 252 * n) (min-eq_left h)

module _ (log : List ℕ) (l : ℕ) where
  abbrev octets : ℕ → List ℕ
  octets k = entry_octets (entry_for (entry_before log l k)) []

  abbrev put_one : ℕ → List ℕ → List ℕ
  put_one k out = sets out (place_of k) (octets k)

  put_next : (n k : ℕ) (out : List ℕ) → put_from log l (suc n) k out ≡ put_from log l n (suc k) (put_one k out)
  unfolding put_from
  put_next n k out = refl

  put-none : (k : ℕ) (out : List ℕ) → put_from log l 0 k out ≡ out
  unfolding put_from
  put-none k out = refl

  pub put-length : (n k : ℕ) (out : List ℕ) → length (put_from log l n k out) ≡ length out
  put-length zero k out = ap length (put-none k out)
  put-length (suc n) k out = ap length (put_next n k out) ∙ put-length n (suc k) (put_one k out) ∙ length-sets out (place_of k) (octets k)

  -- entries put later leave an entry as it is
  earlier : (n k i : ℕ) (out : List ℕ) → i < k → k + n ≤ 256 → stretch 252 (24 + 252 * i) (put_from log l n k out) ≡ stretch 252 (24 + 252 * i) out
  earlier zero k i out h few = ap (stretch 252 (24 + 252 * i)) (put-none k out)
  earlier (suc n) k i out h few =
      ap (stretch 252 (24 + 252 * i)) (put_next n k out) ∙ earlier n (suc k) i (put_one k out) (omega arith) (omega arith)
      ∙ stretch-before (octets k) out (24 + 252 * i) 252 (place_of k) (omega (arith, place_is k (omega arith)))

  -- each entry stands at its place
  pub put-there : (n k i : ℕ) (out : List ℕ) → k ≤ i → i < k + n → k + n ≤ 256 → 64536 ≤ length out → stretch 252 (24 + 252 * i) (put_from log l n k out) ≡ octets i
  put-there zero k i out a b few room = absurd (omega arith)
  put-there (suc n) k i out a b few room =
      let kept = length-sets out (place_of k) (octets k) in
      split (eqb i k)
      (λ q.
      let e = eqb-true i k q in
      let p = place_is k (omega arith) in
      ap (stretch 252 (24 + 252 * i)) (put_next n k out) ∙ earlier n (suc k) i (put_one k out) (omega arith) (omega arith)
      ∙ ap (λ (j : ℕ). stretch 252 (24 + 252 * j) (put_one k out)) e ∙ ap (λ (j : ℕ). stretch 252 j (put_one k out)) (sym p)
      ∙ stretch-sets (octets k) out (place_of k) 252 refl (omega (arith, p)) ∙ ap octets (sym e))
      (λ q.
      let apart = eqb-false i k q in
      ap (stretch 252 (24 + 252 * i)) (put_next n k out) ∙ put-there n (suc k) i (put_one k out) (omega (arith, apart, a)) (omega arith) (omega arith) (omega (arith, kept, room)))
