use Rattle.syscall.proofs.Answers.{reads-more, left-room}
use Rattle.watch.proofs.Calling.{read_made}
use Rattle.watch.proofs.read_on.Goals as goal

pub after_read-requires : goal.after_read-requires
after_read-requires c =
    let a = c.args in
    reads-more c.read-got.result c.read-got.new.buf _
    (left-room a.core.have a.buf.now c.read-got.new.buf c.within-at.result c.within-at.ensures c.read-got.auto.buf)
    c.read-got.ensures.bound

pub returns : goal.returns
returns c out =
    let a = c.args in
    read_made a.core a.buf.now c.read-got.new.buf c.within-at.result c.within-at.ensures c.read-got.auto.buf c.requires out c.after_read.result
    c.read-got.result c.read-got.ensures.bound c.after_read.ensures
