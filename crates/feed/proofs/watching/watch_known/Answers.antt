use Rattle.std.proofs.Common.{sym, ◌∙◌}
use Rattle.feed.proofs.Watched.{trail, at_first, goes-nearer, goes_one, at-end}
use Rattle.feed.proofs.watching.watch_known.Goals as goal

pub loop-row-init : goal.loop-row-init
loop-row-init g c = let a = c.args in at_first g.met.W.Watch.laws a.input.now a.sound (trail a.row.now a.from a.kept.now)

pub loop-row-smaller : goal.loop-row-smaller
loop-row-smaller g c =
    let a = c.args in
    let l = c.loop-row in
    let n = c.watch_turn-x in
    goes-nearer g.met.W.Watch.laws a.input.now l.x (sym c.more.ensures ∙ c.loop-row-test.true) l.row n.new.row l.kept n.new.kept a.sound n.result n.ensures

pub loop-row-preserved : goal.loop-row-preserved
loop-row-preserved g c =
    let a = c.args in
    let l = c.loop-row in
    let n = c.watch_turn-x in
    goes_one g.met.W.Watch.laws a.input.now l.x (sym c.more.ensures ∙ c.loop-row-test.true) l.row n.new.row l.kept n.new.kept a.sound n.result n.ensures (trail a.row.now a.from a.kept.now) l.invariant

pub returns : goal.returns
returns g c =
    let a = c.args in
    let l = c.loop-row in
    at-end g.met.W.Watch.laws a.input.now a.sound (trail a.row.now a.from a.kept.now) (trail l.row l.x l.kept) l.invariant (sym c.more.ensures ∙ c.loop-row-test.false)
