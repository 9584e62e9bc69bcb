use mathlib.Core.Path.{refl, sym, ◌∙◌}
use borrow.Author.Rules.{rules}
use Rattle.reply.proofs.Whole.{unfit, answers}
use Rattle.reply.proofs.why.Goals as goal

pub returns-then-not-header_fits : goal.returns-then-not-header_fits
returns-then-not-header_fits c = let s = c.args in
    unfit s.capture.now s.label s.thing (sym c.header_fits.ensures ∙ c.if-not-header_fits.true)

pub returns : goal.returns
returns c = let s = c.args in
    answers s.capture.now _ _ s.label s.thing (sym c.header_fits.ensures ∙ c.if-not-header_fits.false)
    _ (refl, search rules) c.begin.result c.begin.ensures c.trace-t.result c.trace-t.ensures
    c.record_asked.result c.record_asked.ensures c.answer_from.result c.answer_from.ensures
