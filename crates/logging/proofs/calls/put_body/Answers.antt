use mathlib.Core.Path.{refl, ap, ◌∙◌}
use mathlib.Core.List.{List}
use Prim.Native.Nat.{ℕ, ◌+◌}
use native.Mathlib.Omega.{arith}
use lib.ListN.{get_or, set, length-set}
use lib.Seq.{sets, take_all}
use Rattle.octets.proofs.Runs.{more}
use Rattle.logging.proofs.calls.put_body.Goals as goal

pub loop-i-init : goal.loop-i-init
loop-i-init c = (refl, refl)

pub loop-i-preserved : goal.loop-i-preserved
loop-i-preserved c = let a = c.args in
    let l = c.loop-i in
    let place = a.at + l.i in (
      length-set l.b place _ ∙ l.invariant.0,
      ap (λ (x : List ℕ). set x place (get_or a.body.now l.i 0)) l.invariant.1 ∙ more a.body.now a.b.now a.at l.i (omega arith),
    )

pub returns : goal.returns
returns c = let a = c.args in
    let l = c.loop-i in
    l.invariant.1 ∙ ap (sets a.b.now a.at) (take_all l.i a.body.now (omega arith))
