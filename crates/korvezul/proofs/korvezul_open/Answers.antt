-- `korvezul::korvezul_open`: the lent open is one step of the table.
use Rattle.std.proofs.Common.{arith, ap}
use Rattle.rules.specs.Calls.{Open, number_only}
use Rattle.korvezul.specs.Calling.{own_settings}
use Rattle.korvezul.proofs.OneStep.{open-call}
use Rattle.korvezul.proofs.korvezul_open.Goals as goal

pub returns : goal.returns
returns c =
    let s = own_settings c.args.opening in
    open-call c.args.row.now c.args.head.now (omega arith) s c.args.reading _ c.opening-g.ensures _ _ _ c.open_lent-o.ensures _ (ap (number_only (Open s c.args.reading)) c.number.ensures)
