-- A search among the entries: on which side of each entry it went on. What passes before the entries are looked at.
-- Assumes nothing.
use Prim.Native.Nat.{ℕ, zero, suc, ◌+◌, ◌-◌, ◌/◌, ◌≤◌, ◌<◌}
use native.Mathlib.Omega.{arith}
use mathlib.Core.Path.{◌≡◌, refl}
use mathlib.Core.Bool.{true, false, not, ◌&&◌}
use mathlib.Core.List.{List}
use lib.Dec.{eqb, ltb, leb}
use lib.ListN.{length, get_or}
use borrow.Author.Tests.{eqb-false, ltb-false, le-ltb, le-leb, lt-leb, leb-true, not-true}
use Rattle.octets.proofs.Chain.{need-passed, bar-passed, and_both}
use Rattle.rules.specs.Times.{latest}
use Rattle.rules.proofs.Bools.{split}
use Rattle.session.specs.declared.Session.{Session}
use Rattle.halving.specs.Search.{halving}
use Rattle.call_log.specs.Records.{header_fits}
use Rattle.indexing.specs.declared.IndexHead.{IndexHead}
use Rattle.indexing.specs.Asking.{head_fits, ask_refusal}

-- ---- the answer from n candidates
module _ (log clocks places : List ℕ) (records : List Session) (l u : ℕ) where
  -- what is found is one of the candidates
  inside : (k first n : ℕ) → 0 < n → (first ≤ (halving k clocks u first n).place) × ((halving k clocks u first n).place < first + n)
  unfolding halving
  inside zero first n h = (omega arith, omega arith)
  inside (suc k) first n h =
      split (ltb n 2) (λ e. rw e (omega arith, omega arith))
      (λ e. let two : 2 ≤ n = ltb-false n 2 e in
      rw e (split (leb (get_or clocks (first + n / 2) 0) u)
      (λ d. rw d (let i = inside k (first + n / 2) (n - n / 2) (omega arith) in (omega (arith, i.0), omega (arith, i.1))))
      (λ d. rw d (let i = inside k first (n / 2) (omega arith) in (omega (arith, i.0), omega (arith, i.1))))))

  -- the search went on from an entry exactly if what it found is not before it
  pub way : (k first n : ℕ) → 2 ≤ n → leb (get_or clocks (first + n / 2) 0) u ≡ leb (first + n / 2) ((halving (suc k) clocks u first n).place)
  unfolding halving
  way k first n two =
      split (leb (get_or clocks (first + n / 2) 0) u)
      (λ d. rw (le-ltb n 2 two, d, le-leb (first + n / 2) ((halving k clocks u (first + n / 2) (n - n / 2)).place) (inside k (first + n / 2) (n - n / 2) (omega arith)).0) refl)
      (λ d. rw (le-ltb n 2 two, d, lt-leb (first + n / 2) ((halving k clocks u first (n / 2)).place) (inside k first (n / 2) (omega arith)).1) refl)

-- ---- the start
-- an index that is not refused has 1 to 256 entries
pub head_passed : (h : IndexHead) (l size room : ℕ) → head_fits h l size room ≡ true → (0 < h.count) × ((h.count ≤ 256) × (h.count ≤ room))
head_passed h l size room e =
    let c = h.count in
    let own = eqb h.label l && eqb h.length size in
    let a = and_both (own && not (eqb c 0) && leb c 256) (leb c room) e in
    let b = and_both (own && not (eqb c 0)) (leb c 256) a.0 in
    let some = eqb-false c 0 (not-true (eqb c 0) (and_both own (not (eqb c 0)) b.0).1) in
    (omega (arith, some), (leb-true c 256 b.1, leb-true c room a.1))

pub ask-passed : (log : List ℕ) (h : IndexHead) (l u room : ℕ) → ask_refusal log h l u room ≡ 0 → (ltb latest u ≡ false) × ((header_fits log ≡ true) × (head_fits h l (length log) room ≡ true))
unfolding ask_refusal
ask-passed log h l u room e =
    let a = bar-passed _ 0 _ e in
    let b = need-passed _ 18 _ a.1 in
    let c = need-passed _ 19 _ b.1 in
    (a.0, (b.0, c.0))
