-- `korvezul::korvezul_lock`: the lent call is one step of the table.
use Rattle.std.proofs.Common.{arith, refl, ap}
use Rattle.rules.specs.Calls.{On, Lock, number_only}
use Rattle.korvezul.specs.Calling.{meant_by}
use Rattle.korvezul.proofs.OneStep.{act-call}
use Rattle.korvezul.proofs.korvezul_lock.Goals as goal

pub returns : goal.returns
returns c =
    let l = meant_by c.args.circuit in
    act-call c.args.row.now c.args.head.now (omega arith) l (Lock c.args.reading) refl _ c.lock_request-q.ensures _ _ _ c.obey_lent-o.ensures _ (ap (number_only (On l (Lock c.args.reading))) c.number.ensures)
