use mathlib.Core.Path.{◌≡◌, sym, ◌∙◌}
use mathlib.Core.Bool.{false}
use native.Mathlib.Omega.{arith}
use Rattle.table.specs.Places.{occupied_at}
use Rattle.table.proofs.OccupiedSet.{taken-fits, shifted_one}
use Rattle.table.proofs.occupied.with_place.Goals as goal

pub overflow_add-result : goal.overflow_add-result
overflow_add-result c =
    let f : occupied_at c.args.occupied c.args.place ≡ false = sym c.is_occupied.ensures ∙ c.if-not-is_occupied.true in
    omega (
      arith,
      shifted_one 64 c.args.place c.if-place-lt64.true,
      taken-fits 64 c.args.occupied c.args.place (omega arith) c.if-place-lt64.true f,
    )
