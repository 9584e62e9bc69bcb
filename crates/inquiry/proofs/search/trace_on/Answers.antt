use mathlib.Core.Path.{sym, ap}
use lib.Seq.{length-take-le}
use Rattle.trace.specs.declared.Tracing.{Tracing}
use Rattle.trace.specs.declared.asked.Asked.{Asked}
use Rattle.inquiry.proofs.OneRead.{moved-fits, traced}
use Rattle.inquiry.proofs.search.trace_on.Goals as goal

-- what is left fits into the buffer that it was moved in
pub slice_bounds-next_record-end : goal.slice_bounds-next_record-end
slice_bounds-next_record-end c = moved-fits _ _ _ _ _ c.within-n.ensures.fits c.shift-have.ensures

pub slice_bounds-next_record-end-2 : goal.slice_bounds-next_record-end-2
slice_bounds-next_record-end-2 c = sym (length-take-le c.shift-have.result c.shift-have.new.buf (moved-fits _ _ _ _ _ c.within-n.ensures.fits c.shift-have.ensures))

pub returns : goal.returns
returns c = let s = c.args in
    let front : Tracing → Asked = λ (x : Tracing). record { row = s.s.asked.row; tracing = x } in
    traced s.s s.buf.now c.within-n.result c.within-n.ensures s.kept.now (front c.at_front.result) c.trace-asked.result c.trace-asked.new.kept (ap front c.at_front.ensures) c.trace-asked.ensures
    c.shift-have.result c.shift-have.new.buf c.shift-have.ensures c.next_record.result c.next_record.ensures c.is_settled-over.result c.is_settled-over.ensures
