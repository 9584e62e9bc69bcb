use mathlib.Core.Path.{sym, ap, ◌∙◌}
use Rattle.pump.specs.Pumping.{is_over}
use Rattle.pump.proofs.Turning.{ends, stays}
use Rattle.pump.proofs.turns.unfed.Goals as goal

pub returns-then-is_over : goal.returns-then-is_over
returns-then-is_over c =
    let s = c.args in
    ends s.p s.buf.now s.out.now c.within-n.result c.within-n.ensures
    (sym (c.is_over.ensures ∙ ap (is_over s.p.closed) c.next_record.ensures) ∙ c.if-is_over.true) c.end.result c.end.new.out c.end.ensures

pub returns : goal.returns
returns c =
    let s = c.args in
    stays s.p s.buf.now s.out.now c.within-n.result c.within-n.ensures
    (sym (c.is_over.ensures ∙ ap (is_over s.p.closed) c.next_record.ensures) ∙ c.if-is_over.false)
