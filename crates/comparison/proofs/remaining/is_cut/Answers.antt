use mathlib.Core.Path.{◌≡◌, sym, ap, ◌∙◌}
use mathlib.Core.Bool.{not, true}
use mathlib.Core.List.{List}
use Prim.Native.Nat.{ℕ, ◌-◌, ◌<◌}
use native.Mathlib.Omega.{arith}
use lib.Dec.{eqb}
use lib.ListN.{length, take, drop}
use Rattle.capture.specs.Raws.{raws_in, stands_in}
use Rattle.comparison.proofs.Pairs.{passed, fewer, left_there, left-away}
use Rattle.comparison.specs.Walk.{step_of}
use Rattle.comparison.proofs.remaining.is_cut.Goals as goal

less : (s : List ℕ) (a : ℕ) → a ≡ step_of s → stands_in 16 s ≡ true → length (take (length s - a) (drop a s)) < length s
less s a e h = omega (arith, ap length (passed s a e), fewer s h)

again : (s : List ℕ) (a : ℕ) → a ≡ step_of s → stands_in 16 s ≡ true → (raws_in 16 s).rest ≡ (raws_in 16 (take (length s - a) (drop a s))).rest
again s a e h = left_there s h ∙ ap (λ (t : List ℕ). (raws_in 16 t).rest) (sym (passed s a e))

pub loop-left-smaller : goal.loop-left-smaller
loop-left-smaller c = less c.loop-left.left.now c.step_of.result c.step_of.ensures.0 (sym c.stands.ensures ∙ c.loop-left-test.true)

pub loop-left-preserved : goal.loop-left-preserved
loop-left-preserved c = c.loop-left.invariant ∙ again c.loop-left.left.now c.step_of.result c.step_of.ensures.0 (sym c.stands.ensures ∙ c.loop-left-test.true)

pub returns : goal.returns
returns c =
    let e = sym (c.loop-left.invariant ∙ left-away c.loop-left.left.now (sym c.stands.ensures ∙ c.loop-left-test.false)) in
    ap not c.is_empty.ensures ∙ ap (λ (t : List ℕ). not (eqb (length t) 0)) e
