use mathlib.Core.Path.{◌≡◌}
use Rattle.table.specs.Hints.{Placed, placed_by}
use Rattle.feed.specs.Calling.{sought_in}
use Rattle.feed.proofs.Calling.{receive-calls}
use Rattle.feed.proofs.calls.receive_call.Goals as goal

pub returns : goal.returns
returns c k =
    let a = c.args in
    let p = c.place_known-place.result in
    let hs = c.place_known-place.new.hints in
    let at : ◌≡◌ {A = Placed} (record { place = p; hints = hs }) (placed_by a.row.now a.hints.now (sought_in a.f a.r) a.r.label) = cc in
    receive-calls a.row.now a.f a.r a.input.now a.sound a.hints.now p hs at k _ c.arrival_in.ensures c.receive_at.result c.receive_at.new.row c.receive_at.ensures
