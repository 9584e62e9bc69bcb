use mathlib.Core.Path.{◌≡◌}
use Rattle.table.specs.Table.{in_order}
use Rattle.scan.specs.declared.Target.{Target}
use Rattle.scan.specs.Passing.{summary_of}
use Rattle.scan.proofs.Scanned.{summary-sound}
use Rattle.step.specs.Stepping.{table_of}
use Rattle.feed.proofs.asking.is_ordered.Goals as goal

-- the scan's mark is right
pub returns : goal.returns
returns c =
    let a = c.args in
    let nothing : Target = record { label = 0; discriminator = 0 } in
    let right : (summary_of a.row.now a.head nothing).sound ≡ in_order (table_of a.row.now a.head) = summary-sound a.row.now a.head nothing in
    cc
