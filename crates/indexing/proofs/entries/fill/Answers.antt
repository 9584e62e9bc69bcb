use mathlib.Core.Path.{sym, ◌∙◌}
use Rattle.indexing.proofs.Fills.{stays, turned}
use Rattle.indexing.proofs.entries.fill.Goals as goal

pub loop-records-smaller : goal.loop-records-smaller
loop-records-smaller c =
    let l = c.loop-records in
    (turned c.args.log.now l.records c.fill_one-x.new.records l.x c.fill_one-x.result (sym c.is_unfilled.ensures ∙ c.loop-records-test.true) c.fill_one-x.ensures).1

pub loop-records-preserved : goal.loop-records-preserved
loop-records-preserved c =
    let l = c.loop-records in
    (turned c.args.log.now l.records c.fill_one-x.new.records l.x c.fill_one-x.result (sym c.is_unfilled.ensures ∙ c.loop-records-test.true) c.fill_one-x.ensures).0
    ∙ l.invariant

pub returns : goal.returns
returns c =
    let l = c.loop-records in
    sym (stays _ c.args.log.now (record { outcome = l.x; row = l.records }) (sym c.is_unfilled.ensures ∙ c.loop-records-test.false)) ∙ l.invariant
