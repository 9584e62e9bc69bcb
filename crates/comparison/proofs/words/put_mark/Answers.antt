use Rattle.capture.specs.Typing.{Put, typed}
use Rattle.capture.proofs.Typing.{typed-none}
use mathlib.Core.Path.{sym, ap, ◌∙◌}
use mathlib.Core.Bool.{Bool}
use Rattle.comparison.specs.Words.{mark_line}
use Rattle.comparison.proofs.words.put_mark.Goals as goal

pub returns-then-not-test : goal.returns-then-not-test
returns-then-not-test c = let s = c.args in
    let p : Put = record { buffer = s.out.now; at = s.at } in
    typed-none p ∙ ap (λ (b : Bool). typed p (mark_line s.n b s.code)) (sym c.if-not-test.true)
