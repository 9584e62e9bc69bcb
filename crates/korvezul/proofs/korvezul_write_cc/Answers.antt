-- `korvezul::korvezul_write_cc`: the lent call is one step of the table, and the buffer has what its outcome tells.
use Rattle.std.proofs.Common.{arith, refl, ap}
use Rattle.rules.specs.Calls.{WriteCc, writes}
use Rattle.korvezul.specs.Calling.{meant_by}
use Rattle.korvezul.proofs.OneStep.{act-call}
use Rattle.korvezul.proofs.korvezul_write_cc.Goals as goal

pub returns : goal.returns
returns c =
    let l = meant_by c.args.circuit in
    act-call c.args.row.now c.args.head.now (omega arith) l (WriteCc c.args.buffer.now) refl _ c.write_cc_request-q.ensures _ _ _ c.obey_lent-o.ensures _ (ap writes c.put_cc.ensures)
