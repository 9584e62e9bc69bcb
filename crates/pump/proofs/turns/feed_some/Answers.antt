use mathlib.Core.Path.{◌∙◌}
use Rattle.pump.proofs.Turning.{lines, took-none}
use Rattle.pump.proofs.turns.feed_some.Goals as goal

pub returns-then-used-gt0 : goal.returns-then-used-gt0
returns-then-used-gt0 c =
    let s = c.args in
    lines s.p s.buf.now s.out.now c.within-n.result c.within-n.ensures c.at_front.result c.feed-table.result c.feed-table.new.out c.at_front.ensures c.feed-table.ensures
    c.if-used-gt0.true c.shift-have.result c.shift-have.new.buf c.shift-have.ensures

pub returns : goal.returns
returns c =
    let s = c.args in
    c.unfed.ensures
    ∙ took-none s.p s.buf.now s.out.now c.within-n.result c.within-n.ensures c.at_front.result c.feed-table.result c.feed-table.new.out c.at_front.ensures c.feed-table.ensures
    c.if-used-gt0.false
