use mathlib.Core.Path.{sym, ◌∙◌}
use Rattle.pump.proofs.Turning.{writes-first, no_more, turn-rests, turn-feeds}
use Rattle.pump.proofs.turn.Goals as goal

pub returns-then-not-is_ready : goal.returns-then-not-is_ready
returns-then-not-is_ready c =
    let s = c.args in
    turn-rests s.p s.buf.now s.out.now c.if-p.false c.if-p-2.false _ c.begin-q.ensures (sym c.is_ready.ensures ∙ c.if-not-is_ready.true)

pub returns : goal.returns
returns c =
    let s = c.args in
    turn-feeds s.p s.buf.now s.out.now c.if-p.false c.if-p-2.false _ c.begin-q.ensures (sym c.is_ready.ensures ∙ c.if-not-is_ready.false) _ c.feed_on.ensures
