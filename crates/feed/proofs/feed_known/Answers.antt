use Prim.Native.Nat.{ℕ, ◌-◌, ◌<◌}
use native.Mathlib.Omega.{arith}
use mathlib.Core.Path.{◌≡◌, sym, subst, ◌∙◌}
use mathlib.Core.Bool.{Bool, true}
use mathlib.Core.List.{List}
use lib.Dec.{T as Holds}
use lib.ListN.{length}
use Rattle.feed.specs.declared.Fed.{Fed}
use Rattle.feed.specs.Feeding.{more_of, turn_of, go_on}
use Rattle.feed.proofs.Going
use Rattle.feed.proofs.Turns.{flow, order-of, used-of, end-of, more-says, turn-mark, stops, goes_on_lem, begins}
use Rattle.feed.proofs.feed_known.Goals as goal

module _ (input : List ℕ) (f : Fed) (room : ℕ) (more : more_of f input room ≡ true) where
  there : f.used < length input
  there = omega (arith, (more-says f input room (subst (λ (b : Bool). Holds b) (sym more) tt)).0)

  less : (g : Fed) → f.used < g.used → length input - g.used < length input - f.used
  less g takes = omega (arith, there, takes)

pub loop-row-init : goal.loop-row-init
loop-row-init c = let a = c.args in
    Going.at_first (length a.input.now) used-of order-of (go_on a.input.now) (end-of a.input.now) a.sound (flow a.row.now a.from a.out.now) (begins a.row.now a.from a.input.now a.out.now)

pub loop-row-smaller : goal.loop-row-smaller
loop-row-smaller c = let l = c.loop-row in
    let e = sym c.more.ensures ∙ c.loop-row-test.true in
    less c.args.input.now l.f (length l.out) e c.turn-f.result (c.turn-f.ensures e).0

pub loop-row-preserved : goal.loop-row-preserved
loop-row-preserved c = let a = c.args in
    let l = c.loop-row in
    let i = a.input.now in
    let x = flow l.row l.f l.out in
    let e = sym c.more.ensures ∙ c.loop-row-test.true in
    let turned = c.turn-f.ensures e in
    Going.goes_one (length i) used-of order-of (go_on i) (end-of i) a.sound (turn_of i) x (flow c.turn-f.new.row c.turn-f.result c.turn-f.new.out)
    (there i l.f (length l.out) e) turned.0 turned.1 (turn-mark i x) (λ n. goes_on_lem i n x e) (flow a.row.now a.from a.out.now) l.invariant

pub returns : goal.returns
returns c = let a = c.args in
    let l = c.loop-row in
    let i = a.input.now in
    let x = flow l.row l.f l.out in
    let e = sym c.more.ensures ∙ c.loop-row-test.false in
    Going.at-end (length i) used-of order-of (go_on i) (end-of i) a.sound (flow a.row.now a.from a.out.now) x l.invariant (λ n. stops i n x e)
