use mathlib.Core.Path.{sym, ◌∙◌}
use Rattle.call_log.proofs.Turns.{again}
use Rattle.call_log.proofs.reading.read_to.Goals as goal

pub loop-point-preserved : goal.loop-point-preserved
loop-point-preserved c = let a = c.args in
    let l = c.loop-point in
    again a.label a.until l.left l.rest.now l.point _ _ _ (sym c.more.ensures ∙ c.loop-point-test.true) c.size_in.ensures c.follow-point.ensures l.invariant
