use mathlib.Core.Path.{refl, ◌∙◌}
use Rattle.gauge.specs.Gauging.{Gauged, holding}
use Rattle.gauge.proofs.OneRead.{paces, rests, no_more, goes_on_lem}
use Rattle.gauge.proofs.input.got.Goals as goal

pub returns-then-g : goal.returns-then-g
returns-then-g c = let s = c.args in no_more s.g s.n s.buf.now c.if-g.true

pub returns-then-begun : goal.returns-then-begun
returns-then-begun c =
    let s = c.args in
    let began : Gauged = record { gauge = c.begin-begun.result; buf = c.begin-begun.new.buf } in
    c.pace_on.ensures ∙ paces began c.if-begun.true
    ∙ goes_on_lem s.g s.n s.buf.now c.if-g.false c.advance.result c.advance.ensures (holding s.g c.advance.result) refl began c.begin-begun.ensures

pub returns : goal.returns
returns c =
    let s = c.args in
    let began : Gauged = record { gauge = c.begin-begun.result; buf = c.begin-begun.new.buf } in
    rests began c.if-begun.false
    ∙ goes_on_lem s.g s.n s.buf.now c.if-g.false c.advance.result c.advance.ensures (holding s.g c.advance.result) refl began c.begin-begun.ensures
