use mathlib.Core.Path.{sym, ap, ◌∙◌}
use Rattle.capture.specs.Records.{is_whole}
use Rattle.pump.proofs.Turning.{none-fed}
use Rattle.pump.proofs.turns.feed_on.Goals as goal

pub returns : goal.returns
returns c =
    let s = c.args in
    c.unfed.ensures
    ∙ none-fed s.p s.buf.now s.out.now c.within-n.result c.within-n.ensures
    (sym (c.is_whole.ensures ∙ ap is_whole c.next_record.ensures) ∙ c.if-is_whole.false)
