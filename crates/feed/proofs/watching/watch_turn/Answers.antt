use Rattle.std.proofs.Common.{arith}
use borrow.Author.Tests.{eq-eqb, ne_eqb}
use Rattle.feed.proofs.Watched.{made}
use Rattle.feed.proofs.watching.watch_turn.Goals as goal

pub returns-then-r-eq5 : goal.returns-then-r-eq5
returns-then-r-eq5 g c more =
    let a = c.args in
    made g.met.W.Watch.laws a.input.now a.x more a.row.now a.kept.now a.sound (omega arith) (omega arith) _ c.fed-f.ensures _ c.record_at-r.ensures _ c.body_at-body.ensures _ c.note_before-n.ensures
    _ _ (c.receive_call-o.ensures (eq-eqb c.record_at-r.result.kind 5 c.if-r-eq5.true)) _ c.fed_on.ensures _ _ c.keep.ensures

pub returns : goal.returns
returns g c more =
    let a = c.args in
    made g.met.W.Watch.laws a.input.now a.x more a.row.now a.kept.now a.sound (omega arith) (omega arith) _ c.fed-f.ensures _ c.record_at-r.ensures _ c.body_at-body.ensures _ c.note_before-n.ensures
    _ _ (c.other_call-o.ensures (ne_eqb c.record_at-r.result.kind 5 c.if-r-eq5.false)) _ c.fed_on-2.ensures _ _ c.keep-2.ensures
