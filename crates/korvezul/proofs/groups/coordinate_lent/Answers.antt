-- `korvezul::coordinate_lent`: the lent call is one command of the table.
use Rattle.std.proofs.Common.{arith, refl}
use Rattle.grouping.specs.Commands.{Coordinate}
use Rattle.korvezul.specs.Calling.{meant_by}
use Rattle.korvezul.proofs.OneCommand.{group-command}
use Rattle.korvezul.proofs.groups.coordinate_lent.Goals as goal

pub returns : goal.returns
returns c =
    group-command c.args.row.now c.args.head.now (omega arith) (Coordinate (meant_by c.args.circuit) c.args.message.now c.args.reading) refl _ c.dhc_request-q.ensures _ _ _ c.group_lent-o.ensures _ c.group_number.ensures
