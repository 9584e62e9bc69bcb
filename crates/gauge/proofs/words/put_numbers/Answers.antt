use borrow.Author.Rules.{rules}
use Rattle.capture.specs.Typing.{Put}
use Rattle.capture.proofs.Typing.{then}
use Rattle.gauge.specs.Words.{numbers_line}
use Rattle.gauge.proofs.Signs.{as-bound, as_sums}
use Rattle.gauge.proofs.words.put_numbers.Goals as goal

pub returns : goal.returns
unfolding numbers_line
returns c =
    let s = c.args in
    let p : Put = record { buffer = s.out.now; at = s.at } in
    then p _ _ (then p _ _ (then p _ _ c.put_decimal-a.ensures (as-bound s.s.least (search rules) _ _ _ c.put_bound-b.ensures)) (as-bound s.s.greatest (search rules) _ _ _ c.put_bound-c.ensures)) (as_sums s.s.sum (search rules) _ _ s.s.sizes c.put_sums.ensures)
