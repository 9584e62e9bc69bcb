use mathlib.Core.Path.{◌≡◌}
use borrow.Author.Tests.{ne_eqb}
use Rattle.table.specs.Hints.{Placed, placed_by}
use Rattle.feed.specs.Calling.{sought_in}
use Rattle.feed.proofs.Calling.{request-calls}
use Rattle.feed.proofs.calls.other_call.Goals as goal

pub returns : goal.returns
returns c k₅ =
    let a = c.args in
    let p = c.place_known-place.result in
    let hs = c.place_known-place.new.hints in
    let at : ◌≡◌ {A = Placed} (record { place = p; hints = hs }) (placed_by a.row.now a.hints.now (sought_in a.f a.r) a.r.label) = cc in
    request-calls a.row.now a.f a.r a.input.now a.sound a.hints.now p hs at (ne_eqb a.r.kind 1 c.if-r-eq1.false) k₅ _ c.seen_at.ensures _ c.request_in.ensures
    c.obey_at.result c.obey_at.new.row c.obey_at.ensures
