use Prim.Native.Nat.{◌-◌}
use native.Mathlib.Omega.{arith}
use mathlib.Core.Path.{refl, sym, ap, ◌∙◌}
use lib.ListN.{length, set, length-set}
use borrow.Author.Tests.{ltb-true}
use Rattle.indexing.specs.declared.Filling.{Filling}
use Rattle.indexing.specs.Filling.{notes_of}
use Rattle.indexing.proofs.Fills.{next-less, notes-stay, notes-on}
use Rattle.indexing.proofs.numbers.fill_numbers.Goals as goal

pub loop-next-init : goal.loop-next-init
loop-next-init c = (refl, (refl, refl))

pub loop-next-smaller : goal.loop-next-smaller
loop-next-smaller c =
    let x = c.loop-next.x in
    let go = sym c.is_unfilled.ensures ∙ c.loop-next-test.true in
    omega (
      arith,
      ap (λ (f : Filling). f.count - f.at) c.next_entry-next.ensures,
      next-less x c.args.log.now go,
      ltb-true x.at x.count go,
    )

pub loop-next-preserved : goal.loop-next-preserved
loop-next-preserved c =
    let x = c.loop-next.x in
    let clocks = c.loop-next.clocks in
    let places = c.loop-next.places in
    let log = c.args.log.now in
    let inv = c.loop-next.invariant in
    let go = sym c.is_unfilled.ensures ∙ c.loop-next-test.true in
    let e = c.next_entry-next.ensures in
    let put = c.put_at.ensures in
    let put₂ = c.put_at-in-loop-next.ensures in
    let first = put ∙ ap (λ (f : Filling). set clocks x.at f.point.clock) e in
    let second = put₂ ∙ ap (λ (f : Filling). set places x.at f.place) e in (
      (λ i. notes_of ((e i).count - (e i).at) log (record { filling = e i; clocks = first i; places = second i }))
          ∙ notes-on log (record { filling = x; clocks = clocks; places = places }) go ∙ inv.0,
      (ap length put ∙ length-set clocks x.at _ ∙ inv.1.0, ap length put₂ ∙ length-set places x.at _ ∙ inv.1.1),
    )

pub shape_of-clocks : goal.shape_of-clocks
shape_of-clocks c = c.loop-next.invariant.1.0

pub shape_of-places : goal.shape_of-places
shape_of-places c = c.loop-next.invariant.1.1

pub returns : goal.returns
returns c =
    let l = c.loop-next in
    sym (notes-stay _ c.args.log.now (record { filling = l.x; clocks = l.clocks; places = l.places }) (sym c.is_unfilled.ensures ∙ c.loop-next-test.false)) ∙ l.invariant.0
