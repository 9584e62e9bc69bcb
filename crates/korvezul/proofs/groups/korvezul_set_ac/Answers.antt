-- `korvezul::korvezul_set_ac`: the lent call is one command of the table.
use Rattle.std.proofs.Common.{arith, refl}
use Rattle.grouping.specs.Commands.{SetAc}
use Rattle.korvezul.proofs.OneCommand.{group-command}
use Rattle.korvezul.proofs.groups.korvezul_set_ac.Goals as goal

pub returns : goal.returns
returns c =
    group-command c.args.row.now c.args.head.now (omega arith) (SetAc c.args.ac.group.party c.args.ac.group.id c.args.ac.ac c.args.reading) refl _ c.ac_request-q.ensures _ _ _ c.group_lent-o.ensures _ c.group_number.ensures
