-- An index file built from windows of a log: a block is what the whole log from its place on gives, and the entry behind it is the one that building in one call fills in.
-- Assumes nothing.
use Prim.Native.Nat.{ℕ, min, ◌+◌, ◌-◌, ◌≤◌}
use native.Mathlib.Omega.{arith}
use native.Mathlib.Nat.{min-eq_left}
use mathlib.Core.Path.{◌≡◌, refl, ap, ◌∙◌}
use mathlib.Core.Bool.{true, false, cond}
use mathlib.Core.List.{List}
use lib.ListN.{length, drop, length-drop}
use lib.Dec.{eqb, ltb}
use borrow.Author.Tests.{eqb-true, eqb-false, ne_eqb}
use Rattle.rules.proofs.Bools.{split}
use Rattle.call_log.specs.declared.Ended.{Ended}
use Rattle.call_log.specs.Reading.{read_to, never}
use Rattle.call_log.proofs.Turns.{left-most}
use Rattle.indexing.specs.declared.Filling.{Filling}
use Rattle.indexing.specs.Filling.{reads_for, read_for, filled_by}
use Rattle.index_file.specs.Windows.{window_size, window_of}
use Rattle.index_file.specs.Blocks.{Indexing, further, refused_at, after_block, block_of}
use Rattle.index_file.proofs.Windows.{Alike, alike}

-- what the records behind an entry come to, with the whole log
abbrev pub step_of : List ℕ → Indexing → Ended → Indexing
step_of log x e =
    cond (eqb e.spare 0)
    (cond (ltb x.count 255)
    (record { point = e.point; place = length log - e.left; count = min x.count 255 + 1; label = x.label; answer = 0; more = true })
    (refused_at x))
    (cond (eqb e.left 0)
    (record { point = x.point; place = length log; count = min x.count 255 + 1; label = x.label; answer = 0; more = false })
    (refused_at x))

-- the place behind the records gone through
reached : (place left size top : ℕ) → place + left ≤ size → size ≤ top → min (place + (size - place - left)) top ≡ size - left
reached place left size top h t = let e : place + (size - place - left) ≡ size - left = omega arith in ap (λ (n : ℕ). min n top) e ∙ min-eq_left (omega arith)

module _ (log : List ℕ) (x : Indexing) (small : length log ≤ 18446744073709551615) (inside : x.place ≤ length log) where
  abbrev rest : List ℕ
  rest = drop x.place log

  abbrev whole : Ended
  whole = read_to 256 x.label never rest x.point

  abbrev near : Ended
  near = read_to 256 x.label never (window_of log x.place) x.point

  abbrev size : ℕ
  size = length (window_of log x.place)

  same : Alike near size whole (length rest)
  same = alike 256 window_size x.label never rest x.point (omega arith)

  low : x.place + whole.left ≤ length log
  low = omega (arith, left-most x.label never 256 rest x.point, length-drop x.place log, inside)

  place-on : further x.place (size - near.left) ≡ length log - whole.left
  place-on =
      let g : size - near.left ≡ length log - x.place - whole.left = same.gone ∙ ap (λ (n : ℕ). n - whole.left) (length-drop x.place log) in
      ap (further x.place) g ∙ reached x.place whole.left (length log) 18446744073709551615 low small

  place-over : near.left ≡ 0 → whole.left ≡ 0 → further x.place size ≡ length log
  place-over a b =
      let n : size ≡ size - near.left = omega arith in
      let z : length log - whole.left ≡ length log = omega arith in
      ap (further x.place) n ∙ place-on ∙ z

  -- a block from a window is the block from all that is left of the log
  pub block-step : (out : List ℕ) → (block_of out x (window_of log x.place)).indexing ≡ step_of log x whole
  unfolding block_of after_block
  block-step out =
      let count = min x.count 255 + 1 in
      let spare : eqb near.spare 0 ≡ eqb whole.spare 0 = ap (λ (n : ℕ). eqb n 0) same.spare in
      split (eqb whole.spare 0)
      (λ e. rw (spare ∙ e, e)
      (λ i. cond (ltb x.count 255) (record { point = same.point i; place = place-on i; count = count; label = x.label; answer = 0; more = true }) (refused_at x)))
      (λ e.
      let none = eqb-false near.spare 0 (spare ∙ e) in
      let end : eqb near.left 0 ≡ eqb whole.left 0 = same.over (omega (arith, none)) in
      split (eqb whole.left 0)
      (λ f. let over = place-over (eqb-true near.left 0 (end ∙ f)) (eqb-true whole.left 0 f) in
      rw (spare ∙ e, e, end ∙ f, f) (λ i. record { point = x.point; place = over i; count = count; label = x.label; answer = 0; more = false }))
      (λ f. rw (spare ∙ e, e, end ∙ f, f) refl))

  -- the entry behind it is the one that building in one call fills in next
  pub entry-filled : (y : Filling) → y.point ≡ x.point → y.place ≡ x.place → y.label ≡ x.label → (y.at ≡ 0 → ⊥)
      → ((filled_by y log).point ≡ whole.point) × ((filled_by y log).place ≡ length log - whole.left)
  entry-filled y p q l some =
      let all : reads_for y ≡ 256 = rw (ne_eqb y.at 0 some) in
      let e : read_for y log ≡ whole = λ i. read_to (all i) (l i) never (drop (q i) log) (p i) in
      (ap (λ (z : Ended). z.point) e, ap (λ (z : Ended). length log - z.left) e)
