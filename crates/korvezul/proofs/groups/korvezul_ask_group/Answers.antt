-- `korvezul::korvezul_ask_group`: asking of the group, then for the report on its DNI-PW, tells what the table tells.
use Rattle.std.proofs.Common.{arith}
use Rattle.korvezul.proofs.OneCommand.{group-told}
use Rattle.korvezul.proofs.groups.korvezul_ask_group.Goals as goal

pub returns : goal.returns
returns c =
    group-told c.args.row.now c.args.head.now (omega arith) c.args.group.party c.args.group.id _ c.ask_request-q.ensures _ _ _ c.group_lent-o.ensures _ c.dni_request-p.ensures _ _ _ c.obey_lent-x.ensures _ c.group_answer.ensures
