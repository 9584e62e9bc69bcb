use mathlib.Core.Path.{refl, sym, ◌∙◌}
use Rattle.gauge.specs.Gauging.{settled, header_read}
use Rattle.gauge.proofs.OneRead.{already, not-begun, waits, wrong, right}
use Rattle.gauge.proofs.input.begin.Goals as goal

pub returns-then-g : goal.returns-then-g
returns-then-g c = let s = c.args in already s.g s.buf.now c.if-g.true

pub returns-then-n-lt8 : goal.returns-then-n-lt8
returns-then-n-lt8 c =
    let s = c.args in
    waits s.g s.buf.now c.within-n.result c.within-n.ensures c.if-n-lt8.true ∙ not-begun s.g s.buf.now c.if-g.false

pub returns-then-not-header_fits : goal.returns-then-not-header_fits
returns-then-not-header_fits c =
    let s = c.args in
    wrong s.g s.buf.now c.within-n.result c.within-n.ensures c.if-n-lt8.false
    (sym c.header_fits.ensures ∙ c.if-not-header_fits.true) (settled s.g) refl
    ∙ not-begun s.g s.buf.now c.if-g.false

pub returns : goal.returns
returns c =
    let s = c.args in
    right s.g s.buf.now c.within-n.result c.within-n.ensures c.if-n-lt8.false
    (sym c.header_fits.ensures ∙ c.if-not-header_fits.false) c.shift.result c.shift.new.buf c.shift.ensures
    (header_read s.g c.shift.result) refl
    ∙ not-begun s.g s.buf.now c.if-g.false
