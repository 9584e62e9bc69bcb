use mathlib.Core.Path.{◌≡◌, sym, ap, ◌∙◌}
use Rattle.octets.specs.Choice.{Answer, accepted}
use Rattle.octets.specs.Refusals.{answer_in}
use Rattle.capture.specs.Typing.{Put, typed}
use Rattle.cause.specs.declared.Cause.{Cause}
use Rattle.cause.specs.FromMarks.{cause_from}
use Rattle.inquiry.specs.Words.{telling}
use Rattle.inquiry.specs.Telling.{words_from}
use Rattle.inquiry.proofs.words.put_answer.Goals as goal

pub returns-in-Ok : goal.returns-in-Ok
unfolding telling
returns-in-Ok c = let s = c.args in
    let x = s.x in
    let p : Put = record { buffer = s.out.now; at = s.at } in
    let answer : accepted _ ≡ cause_from x.marks s.r x.clock x.thing = ap answer_in (sym c.in-Ok.is) ∙ c.cause_from.ensures in
    c.put_because.ensures ∙ ap (λ (o : Answer Cause). typed p (telling o (words_from x.marks s.r x.clock x.kept.now x.thing) x.label x.thing)) answer
