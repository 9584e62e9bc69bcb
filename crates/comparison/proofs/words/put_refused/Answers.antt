use Rattle.capture.proofs.Typing.{then}
use Rattle.comparison.specs.Words.{refused_line}
use Rattle.comparison.proofs.words.put_refused.Goals as goal

pub returns : goal.returns
unfolding refused_line
returns c = let s = c.args in then (record { buffer = s.out.now; at = s.at }) _ _ c.put_words-next.ensures c.put_last.ensures
