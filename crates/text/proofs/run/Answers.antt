use mathlib.Core.Path.{sym, ◌∙◌}
use borrow.Author.Tests.{not-true, not-false}
use Rattle.text.proofs.Finishing.{bad, long, done}
use Rattle.text.proofs.run.Goals as goal

pub returns-then-not-header_fits : goal.returns-then-not-header_fits
returns-then-not-header_fits c = let a = c.args in
    let h = c.header_fits in
    c.bad_header.ensures ∙ bad a.capture.now a.out.now (sym h.ensures ∙ c.if-not-header_fits.true)

pub returns-then-not-count : goal.returns-then-not-count
returns-then-not-count c = let a = c.args in
    let h = c.header_fits in
    let p = c.put_lines-count in
    long a.capture.now a.out.now _ p.result p.new.out p.ensures (sym h.ensures ∙ c.if-not-header_fits.false)
    (not-true p.result.fits c.if-not-count.true)

pub returns : goal.returns
returns c = let a = c.args in
    let h = c.header_fits in
    let p = c.put_lines-count in
    let q = c.put_lines-put in
    done a.capture.now a.out.now _ p.result p.new.out p.ensures (sym h.ensures ∙ c.if-not-header_fits.false)
    (not-false p.result.fits c.if-not-count.false) q.result q.new.out q.ensures
