use native.Mathlib.Omega.{arith}
use mathlib.Core.Path.{sym, ap, ◌∙◌}
use lib.ListN.{get_or}
use Rattle.std.proofs.lemmas.Result.{err_from_is_err_and}
use Rattle.session.specs.declared.Session.{Session}
use Rattle.indexing.specs.Asking.{ask_refusal, answer_at}
use Rattle.indexing.proofs.Asked.{ask-refused, ask-few, ask-out, ask-used}
use Rattle.indexing.proofs.looking.ask.Goals as goal

pub returns-in_err-ask_refusal : goal.returns-in_err-ask_refusal
returns-in_err-ask_refusal c =
    let a = c.args in
    let p = err_from_is_err_and c.from_residual.result c.from_residual.ensures.1 in
    rw (p.1, p.2)
    (ask-refused a.log.now a.head a.clocks.now a.places.now a.records.now a.label a.reading c.in_err-ask_refusal.field-0.0 c.room_of-room.result c.room_of-room.ensures c.in_err-ask_refusal.ensures)

pub returns-then-not-judged : goal.returns-then-not-judged
returns-then-not-judged c =
    let a = c.args in
    let passed = sym (c.in_ok-ask_refusal.ensures ∙ ap (ask_refusal a.log.now a.head a.label a.reading) c.room_of-room.ensures) in
    ask-out a.log.now a.head a.clocks.now a.places.now a.records.now a.label a.reading passed c.find-f.result c.find-f.ensures c.judged.result c.judged.ensures c.if-not-judged.true

pub returns : goal.returns
returns c =
    let a = c.args in
    let passed = sym (c.in_ok-ask_refusal.ensures ∙ ap (ask_refusal a.log.now a.head a.label a.reading) c.room_of-room.ensures) in
    let s = c.get_at-s.ensures ∙ ap (λ (x : Session). get_or a.records.now c.find-f.result.place x) c.absent.ensures in
    c.answer_at.ensures
    ∙ (λ i. answer_at a.log.now (c.get_at-place.ensures i) (s i) (c.get_at-clock.ensures i) a.label a.reading c.find-f.result.looked)
    ∙ ask-used a.log.now a.head a.clocks.now a.places.now a.records.now a.label a.reading passed c.find-f.result c.find-f.ensures c.judged.result c.judged.ensures c.if-not-judged.false
