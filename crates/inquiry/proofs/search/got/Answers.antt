use mathlib.Core.Path.{refl, ◌∙◌}
use Rattle.inquiry.specs.Searching.{Begun, holding}
use Rattle.inquiry.proofs.OneRead.{traces, rests, no_more, goes_on_lem}
use Rattle.inquiry.proofs.search.got.Goals as goal

pub returns-then-s : goal.returns-then-s
returns-then-s c = let s = c.args in no_more s.s s.n s.buf.now s.kept.now c.if-s.true

pub returns-then-begun : goal.returns-then-begun
returns-then-begun c = let s = c.args in
    let began : Begun = record { search = c.begin-begun.result; buf = c.begin-begun.new.buf } in
    c.trace_on.ensures ∙ traces began s.kept.now c.if-begun.true
    ∙ goes_on_lem s.s s.n s.buf.now s.kept.now c.if-s.false c.advance.result c.advance.ensures (holding s.s c.advance.result) refl began c.begin-begun.ensures

pub returns : goal.returns
returns c = let s = c.args in
    let began : Begun = record { search = c.begin-begun.result; buf = c.begin-begun.new.buf } in
    rests began s.kept.now c.if-begun.false
    ∙ goes_on_lem s.s s.n s.buf.now s.kept.now c.if-s.false c.advance.result c.advance.ensures (holding s.s c.advance.result) refl began c.begin-begun.ensures
