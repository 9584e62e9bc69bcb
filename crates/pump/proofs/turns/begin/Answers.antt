use mathlib.Core.Path.{sym, ◌∙◌}
use Rattle.pump.proofs.Turning.{already, not-begun, waits, wrong, right}
use Rattle.pump.proofs.turns.begin.Goals as goal

pub returns-then-p : goal.returns-then-p
returns-then-p c = let s = c.args in already s.p s.buf.now s.out.now c.if-p.true

pub returns-then-is_waiting : goal.returns-then-is_waiting
returns-then-is_waiting c =
    let s = c.args in
    waits s.p s.buf.now s.out.now c.within-n.result c.within-n.ensures (sym c.is_waiting.ensures ∙ c.if-is_waiting.true)
    ∙ not-begun s.p s.buf.now s.out.now c.if-p.false

pub returns-then-not-header_fits : goal.returns-then-not-header_fits
returns-then-not-header_fits c =
    let s = c.args in
    wrong s.p s.buf.now s.out.now c.within-n.result c.within-n.ensures (sym c.is_waiting.ensures ∙ c.if-is_waiting.false)
    (sym c.header_fits.ensures ∙ c.if-not-header_fits.true) c.finish.result c.finish.new.out c.finish.ensures
    ∙ not-begun s.p s.buf.now s.out.now c.if-p.false

pub returns : goal.returns
returns c =
    let s = c.args in
    right s.p s.buf.now s.out.now c.within-n.result c.within-n.ensures (sym c.is_waiting.ensures ∙ c.if-is_waiting.false)
    (sym c.header_fits.ensures ∙ c.if-not-header_fits.false) c.shift-have.result c.shift-have.new.buf c.shift-have.ensures
    c.behind_header.result c.behind_header.ensures
    ∙ not-begun s.p s.buf.now s.out.now c.if-p.false
