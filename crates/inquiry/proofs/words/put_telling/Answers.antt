use Rattle.inquiry.specs.Words.{telling}
use Rattle.inquiry.specs.Telling.{telling_from}
use Rattle.inquiry.proofs.words.put_telling.Goals as goal

pub returns-else-f : goal.returns-else-f
unfolding telling_from telling
returns-else-f c = rw c.if-f.false c.put_refused.ensures
