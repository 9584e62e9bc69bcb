-- Fronts of two captures: where 2,064 octets are there, or all that are left, the next pair of records is that of the whole. And its lines are those of its entries.
-- Assumes nothing.
use Prim.Native.Nat.{ℕ, ◌+◌, ◌-◌, ◌/◌, ◌%◌, ◌≤◌, ◌<◌}
use native.Mathlib.Omega.{arith}
use mathlib.Core.Path.{◌≡◌, refl, sym, ap, ◌∙◌}
use mathlib.Core.Logic.{◌⊎◌, inl, inr}
use mathlib.Core.Bool.{Bool, true, false, not, ◌||◌}
use mathlib.Core.List.{List, [], ◌∷◌, ◌++◌, append-nil, append_assoc}
use lib.Dec.{ltb, leb}
use lib.ListN.{length, take, length-take}
use lib.Seq.{take_all}
use borrow.Author.Tests.{leb-true, le-leb, ltb-false}
use Rattle.octets.proofs.Chain.{and_both}
use Rattle.rules.proofs.Bools.{split, no_way, both_true, refuted}
use Rattle.capture.specs.declared.Record.{Record}
use Rattle.capture.specs.Records.{record_in, is_broken}
use Rattle.capture.specs.Raws.{Raw, raw_in, raw_size, stands_in}
use Rattle.capture.specs.Lines.{decimal}
use Rattle.comparison.specs.declared.Marks.{Marks}
use Rattle.comparison.specs.Differences.{only, entry}
use Rattle.comparison.specs.Walk.{step_of, marks_of, marked}
use Rattle.comparison.specs.Words.{code_text, entry_line, lines_of, mark_line, pair_text}
use Rattle.comparison.proofs.Pairs.{step-stands, step-none}
use Rattle.comparison.proofs.Agreement.{record-cut, cut_stands, cut-raw}

-- ---- a front
sound-size : (kind size : ℕ) → not (is_broken kind size) ≡ true → size ≤ 2048
sound-size kind size e = ltb-false 2048 size (second (ltb 8 kind) (ltb 2048 size) e)
  where
    second : (a b : Bool) → not (a || b) ≡ true → b ≡ false
    second true b h = no_way refl (sym h)
    second false true h = no_way refl (sym h)
    second false false h = refl

length_front : (k : ℕ) (s : List ℕ) → length (take k s) ≤ length s
length_front k s = simp length-take (omega arith)

short-step : (s : List ℕ) → stands_in 16 s ≡ true → step_of s ≤ 2064
unfolding stands_in
short-step s e =
    let r = record_in s in
    let sound = (and_both (not (is_broken r.kind r.size)) (leb (raw_size 16 s) (length s)) e).0 in
    omega (arith, step-stands s e, sound-size r.kind r.size sound)

-- no record of a front that the whole has not
no_other : (k : ℕ) (s : List ℕ) → 16 ≤ k → stands_in 16 (take k s) ≡ true → stands_in 16 s ≡ true
unfolding stands_in
no_other k s h e =
    let u = take k s in
    let same = record-cut k s h in
    let p = and_both (not (is_broken (record_in u).kind (record_in u).size)) (leb (raw_size 16 u) (length u)) e in
    let l = leb-true (raw_size 16 u) (length u) p.1 in
    both_true (ap (λ (r : Record). not (is_broken r.kind r.size)) (sym same) ∙ p.0)
    (le-leb (raw_size 16 s) (length s) (omega (arith, l, length_front k s, ap (λ (r : Record). r.size) same)))

module _ (s : List ℕ) (k : ℕ) where
  pub front-stands : (2064 ≤ k) ⊎ (length s ≤ k) → stands_in 16 (take k s) ≡ stands_in 16 s
  front-stands (inl h) =
      split (stands_in 16 s)
      (λ e.
      let n : k ≡ step_of s + (k - step_of s) = omega (arith, short-step s e) in
      ap (λ (j : ℕ). stands_in 16 (take j s)) n ∙ cut_stands s (k - step_of s) e ∙ sym e)
      (λ e. refuted (stands_in 16 (take k s)) (λ f. no_way (no_other k s (omega arith) f) e) ∙ sym e)
  front-stands (inr h) = ap (stands_in 16) (take_all k s h)

  pub front-raw : (2064 ≤ k) ⊎ (length s ≤ k) → stands_in 16 s ≡ true → raw_in 16 (take k s) ≡ raw_in 16 s
  front-raw (inl h) e =
      let n : k ≡ step_of s + (k - step_of s) = omega (arith, short-step s e) in
      ap (λ (j : ℕ). raw_in 16 (take j s)) n ∙ cut-raw s (k - step_of s) e
  front-raw (inr h) e = ap (raw_in 16) (take_all k s h)

  same_size : (2064 ≤ k) ⊎ (length s ≤ k) → stands_in 16 s ≡ true → (record_in (take k s)).size ≡ (record_in s).size
  unfolding raw_in
  same_size h e = ap (λ (r : Raw). r.size) (front-raw h e)

  -- the octets of the next record
  pub front-step : (2064 ≤ k) ⊎ (length s ≤ k) → step_of (take k s) ≡ step_of s
  front-step h =
      split (stands_in 16 s)
      (λ e.
      step-stands (take k s) (front-stands h ∙ e) ∙ ap (λ (n : ℕ). 16 + n) (same_size h e) ∙ sym (step-stands s e))
      (λ e. step-none (take k s) (front-stands h ∙ e) ∙ sym (step-none s e))

-- what is marked of the next records of two fronts is what is marked of those of the whole
pub front-marks : (s t : List ℕ) (k j : ℕ) → (2064 ≤ k) ⊎ (length s ≤ k) → (2064 ≤ j) ⊎ (length t ≤ j) → marks_of (take k s) (take j t) ≡ marks_of s t
unfolding marks_of
front-marks s t k j a b =
    split (stands_in 16 s)
    (λ e. split (stands_in 16 t)
    (λ f. rw (front-stands s k a, front-stands t j b, e, f, front-raw s k a e, front-raw t j b f))
    (λ f. rw (front-stands s k a, front-stands t j b, e, f)))
    (λ e. rw (front-stands s k a, front-stands t j b, e))

-- ---- the lines
entry-line : (n c : ℕ) → c < 8 → entry_line (entry n c) ≡ decimal n ++ code_text c
unfolding entry_line
entry-line n c h =
    let d : entry n c / 8 ≡ n = omega arith in
    let m : entry n c % 8 ≡ c = omega arith in
    ap (λ (x : ℕ). decimal x ++ code_text (entry n c % 8)) d ∙ ap (λ (x : ℕ). decimal n ++ code_text x) m

lines-only : (n : ℕ) (b : Bool) (c : ℕ) → c < 8 → lines_of (only b (entry n c)) ≡ mark_line n b c
unfolding lines_of
lines-only n true c h = append-nil (entry_line (entry n c)) ∙ entry-line n c h
lines-only n false c h = refl

lines-first : (n : ℕ) (b : Bool) (c : ℕ) (l k : List ℕ) → c < 8 → lines_of l ≡ k → lines_of (only b (entry n c) ++ l) ≡ mark_line n b c ++ k
unfolding lines_of
lines-first n true c l k h e = ap (λ (x : List ℕ). x ++ lines_of l) (entry-line n c h) ∙ ap (λ (x : List ℕ). (decimal n ++ code_text c) ++ x) e
lines-first n false c l k h e = e

-- the lines of a pair are those of its entries
pub pair-lines : (n : ℕ) (m : Marks) → lines_of (marked n m) ≡ pair_text n m
unfolding marked pair_text
pair-lines n m =
    lines-first n m.time 0 _ _ (omega arith)
    (lines-first n m.label 1 _ _ (omega arith)
    (lines-first n m.kind 2 _ _ (omega arith)
    (lines-first n m.size 3 _ _ (omega arith)
    (lines-first n m.body 4 _ _ (omega arith)
    (lines-first n m.first 5 _ _ (omega arith) (lines-only n m.second 6 (omega arith)))))))

-- the lines of two lists of entries, one behind the other
pub lines-joined : (l k : List ℕ) → lines_of (l ++ k) ≡ lines_of l ++ lines_of k
unfolding lines_of
lines-joined [] k = refl
lines-joined (e ∷ l) k = ap (λ (x : List ℕ). entry_line e ++ x) (lines-joined l k) ∙ sym (append_assoc (entry_line e) (lines_of l) (lines_of k))
