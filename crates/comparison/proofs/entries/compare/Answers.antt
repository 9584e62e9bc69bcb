use mathlib.Core.Path.{sym, ◌∙◌}
use native.Mathlib.Omega.{arith}
use Rattle.comparison.proofs.Whole.{listed-all}
use Rattle.comparison.proofs.entries.compare.Goals as goal

pub returns : goal.returns
returns c = let a = c.args in
    listed-all a.first.now a.second.now a.list.now (sym c.bad_capture.ensures ∙ c.if-bad_capture.false)
    (sym c.bad_capture-2.ensures ∙ c.if-bad_capture-2.false) (omega (arith, c.if-list-put_list.false, c.put_list.ensures.behind-is)) _ _ c.put_list-2.ensures
