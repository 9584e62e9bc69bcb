-- `korvezul::korvezul_return_group`: the lent call is one command of the table.
use Rattle.std.proofs.Common.{arith, refl}
use Rattle.grouping.specs.Commands.{ReturnGroup}
use Rattle.korvezul.proofs.OneCommand.{group-command}
use Rattle.korvezul.proofs.groups.korvezul_return_group.Goals as goal

pub returns : goal.returns
returns c =
    group-command c.args.row.now c.args.head.now (omega arith) (ReturnGroup c.args.group.party c.args.group.id c.args.reading) refl _ c.return_request-q.ensures _ _ _ c.group_lent-o.ensures _ c.group_number.ensures
