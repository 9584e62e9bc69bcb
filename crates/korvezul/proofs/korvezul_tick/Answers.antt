-- `korvezul::korvezul_tick`: the lent call is one step of the table.
use Rattle.std.proofs.Common.{arith, ap}
use Rattle.rules.specs.Calls.{Tick, number_only}
use Rattle.korvezul.proofs.OneStep.{tick-call}
use Rattle.korvezul.proofs.korvezul_tick.Goals as goal

pub returns : goal.returns
returns c =
    tick-call c.args.row.now c.args.head.now (omega arith) c.args.reading _ c.tick_request-q.ensures _ _ _ c.obey_lent-o.ensures _ (ap (number_only (Tick c.args.reading)) c.number.ensures)
