use Prim.Native.Nat.{ℕ, ◌<◌, ◌≤◌}
use mathlib.Core.Path.{◌≡◌, sym, subst, ◌∙◌}
use mathlib.Core.List.{List}
use native.Mathlib.Omega.{arith}
use lib.ListN.{length}
use Rattle.scan.specs.Distinct.{first_with}
use Rattle.scan.proofs.KeyMarks.{with_none, with-here, with-later, place_found, place_none, place-zero}
use Rattle.scan.proofs.keys.place_in.Goals as goal

pub returns-then-label-eq0 : goal.returns-then-label-eq0
returns-then-label-eq0 c = sym (place-zero c.args.label c.args.occupied c.args.pairs.now c.if-label-eq0.true)

pub loop-i-init : goal.loop-i-init
loop-i-init c = with_none c.args.label c.reached-reached.result.now

pub returns-then-label_in-label : goal.returns-then-label_in-label
returns-then-label_in-label c = let a = c.args in
    let l = c.loop-i in
    let ps = c.reached-reached.result.now in
    let e = with-here a.label ps l.i c.loop-i-test.true (sym c.label_in.ensures ∙ c.if-label_in-label.true) in
    let at : first_with a.label ps ≡ l.i = omega (arith, l.invariant, e) in
    let s = c.reached-reached.ensures in
    sym (place_found a.label a.occupied a.pairs.now l.i c.if-label-eq0.false
    (subst (λ (qs : List ℕ). first_with a.label qs ≡ l.i) s at)
    (subst (λ (qs : List ℕ). l.i < length qs) s c.loop-i-test.true))

pub loop-i-preserved : goal.loop-i-preserved
loop-i-preserved c = let a = c.args in
    let l = c.loop-i in
    let ps = c.reached-reached.result.now in
    let e = with-later a.label ps l.i c.loop-i-test.true (λ z. c.if-label_in-label.false (c.label_in.ensures ∙ z)) in
    omega (arith, l.invariant, e)

pub returns : goal.returns
returns c = let a = c.args in
    let l = c.loop-i in
    let ps = c.reached-reached.result.now in
    let past : length ps ≤ first_with a.label ps = omega (arith, l.invariant) in
    sym (place_none a.label a.occupied a.pairs.now c.if-label-eq0.false
    (subst (λ (qs : List ℕ). length qs ≤ first_with a.label qs) c.reached-reached.ensures past))
