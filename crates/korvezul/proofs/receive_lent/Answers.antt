-- `korvezul::receive_lent`: a message that arrives is one step of the table.
use Rattle.std.proofs.Common.{arith}
use Rattle.korvezul.specs.Calling.{meant_by}
use Rattle.korvezul.proofs.OneStep.{receive-call}
use Rattle.korvezul.proofs.receive_lent.Goals as goal

pub returns : goal.returns
returns c =
    receive-call c.args.row.now c.args.head.now (omega arith) (meant_by c.args.circuit) c.args.message.now c.args.reading _ c.aimed_by.ensures _ c.scan_row-s.ensures _ c.arrival-x.ensures _ _ c.receive_at-o.ensures _ c.number.ensures
