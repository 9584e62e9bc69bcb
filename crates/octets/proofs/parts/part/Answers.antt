use borrow.Author.Rules.{rules}
use mathlib.Core.Path.{sym, ap, ◌∙◌}
use native.Mathlib.Omega.{arith}
use lib.ListN.{take}
use lib.Seq.{take_all, length-take-le}
use Rattle.octets.proofs.parts.part.Goals as goal

pub returns-then-rest-size : goal.returns-then-rest-size
returns-then-rest-size c = let size = c.args.size in
    sym (take_all size c.from_place-rest.result.now c.if-rest-size.true) ∙ ap (take size) c.from_place-rest.ensures

pub slice_bounds-result-end : goal.slice_bounds-result-end
slice_bounds-result-end c = let size = c.args.size in
    sym (length-take-le size c.from_place-rest.result.now (omega (arith, c.if-rest-size.false)))

pub returns : goal.returns
returns c = ap (take c.args.size) c.from_place-rest.ensures
