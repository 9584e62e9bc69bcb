use Rattle.std.proofs.lemmas.Result.{err_from_is_err_and}
use Rattle.indexing.proofs.Builds.{build-refused, build-done}
use Rattle.indexing.proofs.building.build.Goals as goal

pub returns-in_err-from : goal.returns-in_err-from
returns-in_err-from c =
    let a = c.args in
    let p = err_from_is_err_and c.from_residual.result c.from_residual.ensures.1 in
    rw (p.1, p.2)
    (build-refused a.log.now a.label a.clocks.now a.places.now a.records.now c.room_of-room.result c.room_of-room.ensures c.in_err-from.field-0.0 c.in_err-from.ensures)

pub returns : goal.returns
returns c =
    let a = c.args in
    build-done a.log.now a.label a.clocks.now a.places.now a.records.now c.room_of-room.result c.room_of-room.ensures c.in_ok-from.from c.in_ok-from.ensures
    _ _ _ c.fill_numbers.ensures _ _ c.fill.ensures c.min.result c.min.ensures
