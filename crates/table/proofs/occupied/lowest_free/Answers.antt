use native.Mathlib.Omega.{arith}
use Rattle.table.proofs.OccupiedSet.{lowest-free-zeros}
use Rattle.table.proofs.occupied.lowest_free.Goals as goal

pub returns : goal.returns
returns c = lowest-free-zeros 64 c.args.occupied (omega arith)
