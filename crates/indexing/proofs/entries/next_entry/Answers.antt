use Prim.Native.Nat.{◌-◌}
use native.Mathlib.Omega.{arith}
use mathlib.Core.Path.{ap, ◌∙◌}
use lib.ListN.{length, length-drop}
use Rattle.call_log.specs.declared.Ended.{Ended}
use Rattle.call_log.specs.Reading.{read_to, never}
use Rattle.call_log.proofs.Turns.{left-most}
use Rattle.indexing.proofs.entries.next_entry.Goals as goal

pub overflow_sub-result : goal.overflow_sub-result
overflow_sub-result c = let a = c.args in
    let rest = c.from_place-rest in
    omega (
      arith,
      ap (λ (e : Ended). e.left) c.read_to-e.ensures,
      left-most a.x.label never c.reads_for.result rest.result.now a.x.point,
      ap length rest.ensures,
      length-drop a.x.place a.log.now,
    )

pub returns : goal.returns
returns c = let a = c.args in
    let e = c.read_to-e.ensures ∙ (λ i. read_to (c.reads_for.ensures i) a.x.label never (c.from_place-rest.ensures i) a.x.point) in
    λ i. record { point = (e i).point; place = length a.log.now - (e i).left; at = c.onward.ensures i; count = a.x.count; label = a.x.label }
