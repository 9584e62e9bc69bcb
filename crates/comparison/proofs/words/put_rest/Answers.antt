use Rattle.capture.proofs.Typing.{then}
use Rattle.comparison.specs.Words.{rest_line}
use Rattle.comparison.proofs.words.put_rest.Goals as goal

pub returns : goal.returns
unfolding rest_line
returns c = let s = c.args in then (record { buffer = s.out.now; at = s.at }) _ _ c.put_words-next.ensures c.put_last.ensures
