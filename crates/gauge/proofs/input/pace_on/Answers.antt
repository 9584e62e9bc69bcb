use mathlib.Core.Path.{sym, ap}
use lib.Seq.{length-take-le}
use Rattle.pace.specs.declared.Pacing.{Pacing}
use Rattle.pace.specs.declared.asked.Asked.{Asked}
use Rattle.gauge.proofs.OneRead.{moved-fits, paced}
use Rattle.gauge.proofs.input.pace_on.Goals as goal

-- what is left fits into the buffer that it was moved in
pub slice_bounds-next_record-end : goal.slice_bounds-next_record-end
slice_bounds-next_record-end c =
    moved-fits _ _ _ _ _ c.within-n.ensures.fits c.shift-have.ensures

pub slice_bounds-next_record-end-2 : goal.slice_bounds-next_record-end-2
slice_bounds-next_record-end-2 c =
    sym (length-take-le c.shift-have.result c.shift-have.new.buf (moved-fits _ _ _ _ _ c.within-n.ensures.fits c.shift-have.ensures))

pub returns : goal.returns
returns c =
    let s = c.args in
    let front : Pacing → Asked = λ (x : Pacing). record { row = s.g.asked.row; pacing = x } in
    paced s.g s.buf.now c.within-n.result c.within-n.ensures (front c.at_front.result) c.pace-asked.result (ap front c.at_front.ensures) c.pace-asked.ensures
    c.shift-have.result c.shift-have.new.buf c.shift-have.ensures c.next_record.result c.next_record.ensures c.cannot_mend-over.result c.cannot_mend-over.ensures
