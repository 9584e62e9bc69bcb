use Rattle.inquiry.specs.Searching.{Searched}
use Rattle.syscall.proofs.Answers.{reads-more, left-room}
use Rattle.why.proofs.Reading.{read_made}
use Rattle.why.proofs.read_on.Goals as goal

pub after_read-requires : goal.after_read-requires
after_read-requires c =
    let a = c.args in
    reads-more c.read-got.result c.read-got.new.buf _
    (left-room a.s.have a.buf.now c.read-got.new.buf c.within-at.result c.within-at.ensures c.read-got.auto.buf)
    c.read-got.ensures.bound

pub returns : goal.returns
returns c =
    let a = c.args in
    let x : Searched = record { search = a.s; buf = a.buf.now; kept = a.kept.now } in
    read_made x c.read-got.new.buf c.within-at.result c.within-at.ensures c.read-got.auto.buf c.requires c.after_read.result _ _ c.read-got.result
    c.read-got.ensures.bound c.after_read.ensures
