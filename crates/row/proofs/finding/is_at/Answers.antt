use mathlib.Core.Path.{◌≡◌, refl}
use mathlib.Core.Bool.{Bool, true, false, ◌&&◌}
use native.Mathlib.Omega.{arith}
use lib.Dec.{ltb}
use Rattle.table.proofs.OccupiedSet.{free-past}
use Rattle.row.proofs.finding.is_at.Goals as goal

-- one test of three has failed
none : (a b c : Bool) → b ≡ false → false ≡ a && b && c
none true b c e = rw e
none false b c e = refl

pub returns-then-at-ge64 : goal.returns-then-at-ge64
returns-then-at-ge64 c = none (ltb c.args.at c.args.records) _ _ (free-past 64 c.args.occupied c.args.at (omega arith) c.if-at-ge64.true)
