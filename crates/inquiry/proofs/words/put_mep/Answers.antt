use native.Mathlib.Omega.{arith}
use borrow.Author.Tests.{ne_eqb}
use Rattle.capture.specs.Typing.{Put}
use Rattle.capture.proofs.Typing.{then}
use Rattle.inquiry.specs.Words.{mep_words}
use Rattle.inquiry.proofs.words.put_mep.Goals as goal

pub returns-in_default : goal.returns-in_default
unfolding mep_words
returns-in_default c = let s = c.args in
    let p : Put = record { buffer = s.out.now; at = s.at } in
    rw (ne_eqb s.id.kind 0 (λ e. absurd (omega arith)), ne_eqb s.id.kind 1 (λ e. absurd (omega arith)))
    (then p _ _ c.put_node-c.ensures c.put_decimal-in_default.ensures)
