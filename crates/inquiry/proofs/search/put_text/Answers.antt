use Rattle.capture.specs.Typing.{Put}
use Rattle.inquiry.proofs.OneRead.{bad-text, good-text}
use Rattle.inquiry.proofs.search.put_text.Goals as goal

pub returns-then-s : goal.returns-then-s
returns-then-s c = let s = c.args in
    let p : Put = record { buffer = s.out.now; at = 0 } in
    bad-text s.s s.buf.now s.kept.now s.thing p _ _ c.record_asked-f.result c.record_asked-f.ensures c.put_telling-at.ensures c.if-s.true c.put_bad_header.ensures

pub returns : goal.returns
returns c = let s = c.args in
    let p : Put = record { buffer = s.out.now; at = 0 } in
    good-text s.s s.buf.now s.kept.now s.thing p _ _ c.record_asked-f.result c.record_asked-f.ensures c.put_telling-at.ensures c.if-s.false
    c.within-n.result c.within-n.ensures c.next_record.result c.next_record.ensures c.put_note.ensures
