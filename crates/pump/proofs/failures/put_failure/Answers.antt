use Rattle.pump.proofs.Failing.{six}
use Rattle.pump.proofs.failures.put_failure.Goals as goal

pub returns : goal.returns
returns c =
    let s = c.args in
    six (record { buffer = s.out.now; at = 0 }) s.name.now s.writing s.error s.number
    c.put_words-a.ensures
    c.put_call-b.ensures
    c.put_decimal-c.ensures
    c.put_words-d.ensures
    c.put_decimal-e.ensures
    c.put_words.ensures
