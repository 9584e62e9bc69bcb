-- `korvezul::korvezul_report`: the lent call is one step of the table, and the answer says what its outcome says.
use Rattle.std.proofs.Common.{arith, refl}
use Rattle.rules.specs.Calls.{ReportOn}
use Rattle.korvezul.specs.Calling.{meant_by}
use Rattle.korvezul.proofs.OneStep.{act-call, report-says}
use Rattle.korvezul.proofs.korvezul_report.Goals as goal

pub returns : goal.returns
returns c =
    let l = meant_by c.args.circuit in
    act-call c.args.row.now c.args.head.now (omega arith) l ReportOn refl _ c.report_request-q.ensures _ _ _ c.obey_lent-o.ensures _ (report-says l c.obey_lent-o.result _ c.reported.ensures)
