use Rattle.capture.specs.Typing.{Put}
use Rattle.capture.proofs.Typing.{then}
use Rattle.index_file.specs.Words.{told_line}
use Rattle.index_file.proofs.words.put_told.Goals as goal

pub returns : goal.returns
unfolding told_line
returns c = let a = c.args in
    let p : Put = record { buffer = a.out.now; at = a.at } in
    then p _ _ c.put_words-a.ensures (then _ _ _ c.put_report-b.ensures (then _ _ _ c.put_spaced-c.ensures c.put_words.ensures))
