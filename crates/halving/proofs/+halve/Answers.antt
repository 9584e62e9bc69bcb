use mathlib.Core.Path.{sym}
use native.Mathlib.Omega.{arith}
use Rattle.halving.proofs.Halves.{found-few, looked-of, said-later, said-earlier}
use Rattle.halving.proofs.+halve.Goals as goal

pub returns-then-n-lt2 : goal.returns-then-n-lt2
returns-then-n-lt2 t c = sym (found-few _ _ _ _ c.if-n-lt2.true)

pub overflow_add-result : goal.overflow_add-result
overflow_add-result t c = let a = c.args in
    omega (arith, looked-of a.clocks.now a.at _ _ _ c.halve-later.ensures)

pub returns-then-clocks-middle : goal.returns-then-clocks-middle
returns-then-clocks-middle t c = let a = c.args in
    said-later a.clocks.now a.at c.halve-later.result a.first a.n c.if-n-lt2.false c.if-clocks-middle.true c.halve-later.ensures

pub overflow_add-result-2 : goal.overflow_add-result-2
overflow_add-result-2 t c = let a = c.args in
    omega (arith, looked-of a.clocks.now a.at _ _ _ c.halve-earlier.ensures)

pub returns : goal.returns
returns t c = let a = c.args in
    said-earlier a.clocks.now a.at c.halve-earlier.result a.first a.n c.if-n-lt2.false c.if-clocks-middle.false c.halve-earlier.ensures
