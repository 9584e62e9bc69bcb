use mathlib.Core.Path.{sym, ◌∙◌}
use native.Mathlib.Omega.{arith}
use Rattle.table.proofs.OccupiedSet.{free-past, occupied-within, shifted_one, without-free}
use Rattle.table.proofs.occupied.without_place.Goals as goal
use Rattle.table.proofs.occupied.without_place.Goals.{else-place-lt64-via-then-place-lt64+else-is_occupied, else-place-lt64-via-else-place-lt64}

pub overflow_sub-result : goal.overflow_sub-result
overflow_sub-result c =
    omega (arith, shifted_one 64 c.args.place c.if-place-lt64.true, occupied-within c.args.occupied c.args.place (sym c.is_occupied.ensures ∙ c.if-is_occupied.true))

pub returns-else-place-lt64 : goal.returns-else-place-lt64
returns-else-place-lt64 c =
    without-free c.args.occupied c.args.place
    (elim c.else-place-lt64.branch [
      | else-place-lt64-via-then-place-lt64+else-is_occupied w ↦ sym w.is_occupied.ensures ∙ w.if-is_occupied.false
      | else-place-lt64-via-else-place-lt64 w ↦ free-past 64 c.args.occupied c.args.place (omega arith) w.if-place-lt64.false
    ])
