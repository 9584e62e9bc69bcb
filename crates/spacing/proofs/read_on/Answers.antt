use Rattle.gauge.specs.Gauging.{Gauged}
use Rattle.syscall.proofs.Answers.{reads-more, left-room}
use Rattle.spacing.proofs.Reading.{read_made}
use Rattle.spacing.proofs.read_on.Goals as goal

pub after_read-requires : goal.after_read-requires
after_read-requires c =
    let a = c.args in
    reads-more c.read-got.result c.read-got.new.buf _
    (left-room a.g.have a.buf.now c.read-got.new.buf c.within-at.result c.within-at.ensures c.read-got.auto.buf)
    c.read-got.ensures.bound

pub returns : goal.returns
returns c =
    let a = c.args in
    let x : Gauged = record { gauge = a.g; buf = a.buf.now } in
    read_made x c.read-got.new.buf c.within-at.result c.within-at.ensures c.read-got.auto.buf c.requires c.after_read.result _ c.read-got.result
    c.read-got.ensures.bound c.after_read.ensures
