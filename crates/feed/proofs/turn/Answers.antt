use native.Mathlib.Omega.{arith}
use borrow.Author.Tests.{eq-eqb, ne_eqb}
use Rattle.feed.proofs.Turns.{turned}
use Rattle.feed.proofs.turn.Goals as goal

pub returns-then-r-eq5 : goal.returns-then-r-eq5
returns-then-r-eq5 c more =
    let a = c.args in
    let kind = eq-eqb c.record_at-r.result.kind 5 c.if-r-eq5.true in
    turned a.input.now a.row.now a.f a.out.now a.sound more (omega arith) (omega arith) _ c.record_at-r.ensures _ _ (c.receive_call-o.ensures kind) _ _ (c.message_line.ensures kind)

pub returns : goal.returns
returns c more =
    let a = c.args in
    turned a.input.now a.row.now a.f a.out.now a.sound more (omega arith) (omega arith) _ c.record_at-r.ensures _ _ (c.other_call-o.ensures (ne_eqb c.record_at-r.result.kind 5 c.if-r-eq5.false)) _ _ c.answer_line.ensures
