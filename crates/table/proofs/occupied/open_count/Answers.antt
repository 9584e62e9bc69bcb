use native.Mathlib.Omega.{arith}
use Rattle.table.proofs.OccupiedSet.{occupied-ones}
use Rattle.table.proofs.occupied.open_count.Goals as goal

pub returns : goal.returns
returns c = occupied-ones 64 c.args.occupied (omega arith)
