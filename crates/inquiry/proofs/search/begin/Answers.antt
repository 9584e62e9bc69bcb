use mathlib.Core.Path.{refl, sym, ◌∙◌}
use Rattle.inquiry.specs.Searching.{header_read}
use Rattle.inquiry.proofs.OneRead.{already, not-begun, waits, wrong, right}
use Rattle.inquiry.proofs.search.begin.Goals as goal

pub returns-then-s : goal.returns-then-s
returns-then-s c = let s = c.args in already s.s s.buf.now c.if-s.true

pub returns-then-n-lt8 : goal.returns-then-n-lt8
returns-then-n-lt8 c = let s = c.args in
    waits s.s s.buf.now c.within-n.result c.within-n.ensures c.if-n-lt8.true ∙ not-begun s.s s.buf.now c.if-s.false

pub returns-then-not-header_fits : goal.returns-then-not-header_fits
returns-then-not-header_fits c = let s = c.args in
    wrong s.s s.buf.now c.within-n.result c.within-n.ensures c.if-n-lt8.false
    (sym c.header_fits.ensures ∙ c.if-not-header_fits.true) c.bad_one.result c.bad_one.ensures
    ∙ not-begun s.s s.buf.now c.if-s.false

pub returns : goal.returns
returns c = let s = c.args in
    right s.s s.buf.now c.within-n.result c.within-n.ensures c.if-n-lt8.false
    (sym c.header_fits.ensures ∙ c.if-not-header_fits.false) c.shift.result c.shift.new.buf c.shift.ensures
    (header_read s.s c.shift.result) refl
    ∙ not-begun s.s s.buf.now c.if-s.false
