use mathlib.Core.Path.{sym, ap, ◌∙◌}
use Rattle.account.specs.Accounts.{spaced_in, finished_of}
use Rattle.lateness.proofs.Whole.{unfit, spaces}
use Rattle.lateness.proofs.spacing.Goals as goal

pub returns-then-not-header_fits : goal.returns-then-not-header_fits
returns-then-not-header_fits c =
    let s = c.args in
    c.finish.ensures
    ∙ ap finished_of c.nothing.ensures
    ∙ unfit s.capture.now s.label (sym c.header_fits.ensures ∙ c.if-not-header_fits.true)

pub returns : goal.returns
returns c =
    let s = c.args in
    spaces s.capture.now s.label (sym c.header_fits.ensures ∙ c.if-not-header_fits.false)
    c.begin.result c.begin.ensures c.pace-t.result c.pace-t.ensures
    (spaced_in c.finish-2.result) c.finish-2.ensures
