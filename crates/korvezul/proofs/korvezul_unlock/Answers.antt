-- `korvezul::korvezul_unlock`: the lent call is one step of the table.
use Rattle.std.proofs.Common.{arith, refl, ap}
use Rattle.rules.specs.Calls.{On, Unlock, number_only}
use Rattle.korvezul.specs.Calling.{meant_by}
use Rattle.korvezul.proofs.OneStep.{act-call}
use Rattle.korvezul.proofs.korvezul_unlock.Goals as goal

pub returns : goal.returns
returns c =
    let l = meant_by c.args.circuit in
    act-call c.args.row.now c.args.head.now (omega arith) l (Unlock c.args.reading) refl _ c.unlock_request-q.ensures _ _ _ c.obey_lent-o.ensures _ (ap (number_only (On l (Unlock c.args.reading))) c.number.ensures)
