use mathlib.Core.Path.{◌≡◌, sym, ◌∙◌}
use mathlib.Core.Bool.{false, ◌||◌}
use Rattle.comparison.specs.Differences.{bad_capture}
use Rattle.comparison.proofs.Whole.{rest-begins}
use Rattle.comparison.proofs.remaining.rest_place.Goals as goal

pub returns : goal.returns
returns c = let a = c.args in
    let e : bad_capture a.first.now || bad_capture a.second.now ≡ false =
    rw (sym c.bad_capture.ensures ∙ c.if-bad_capture.false) (sym c.bad_capture-else-bad_capture.ensures ∙ c.if-bad_capture-2.false) in
    rest-begins a.first.now a.second.now e _ _ c.from_place.ensures c.from_place-2.ensures c.agreeing_octets.result c.agreeing_octets.ensures
