use mathlib.Core.Path.{sym, ◌∙◌}
use native.Mathlib.Omega.{arith}
use borrow.Author.Tests.{le-ltb}
use Rattle.table.proofs.OccupiedSet.{free-past}
use Rattle.table.proofs.occupied.is_occupied.Goals as goal

pub returns-else-place-lt64 : goal.returns-else-place-lt64
returns-else-place-lt64 c = le-ltb c.args.place 64 c.if-place-lt64.false ∙ sym (free-past 64 c.args.occupied c.args.place (omega arith) c.if-place-lt64.false)
