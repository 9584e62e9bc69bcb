use native.Mathlib.Omega.{arith}
use mathlib.Core.Path.{ap, ◌∙◌}
use Rattle.halving.specs.Search.{found}
use Rattle.halving.proofs.find.Goals as goal

pub returns-then-clocks-count : goal.returns-then-clocks-count
returns-then-clocks-count c = let a = c.args in
    c.halve.ensures ∙ ap (found a.clocks.now a.at 0) (omega (arith, c.if-clocks-count.true))

pub returns : goal.returns
returns c = let a = c.args in
    c.halve-2.ensures ∙ ap (found a.clocks.now a.at 0) (omega (arith, c.if-clocks-count.false))
