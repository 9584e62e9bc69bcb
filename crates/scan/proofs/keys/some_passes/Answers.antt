use Rattle.std.proofs.Common.{◌≡◌}
use mathlib.Core.Path.{sym, ◌∙◌}
use native.Mathlib.Omega.{arith}
use lib.ListN.{get_or, take}
use Rattle.rules.specs.Lists.{any}
use Rattle.rules.proofs.Bools.{or_left}
use Rattle.scan.proofs.KeyMarks.{any-take-none, any-take-more, any-take-all}
use Rattle.scan.proofs.keys.some_passes.Goals as goal
use Rattle.scan.proofs.keys.some_passes.Goals.{then-test, else-test}

pub loop-key-init : goal.loop-key-init
loop-key-init g c = λ p e. sym (any-take-none p c.args.keys.now)

pub loop-key-preserved : goal.loop-key-preserved
loop-key-preserved g c = λ p e.
    let l = c.loop-key in
    let keys = c.args.keys.now in
    let this : c.test.result ≡ p (get_or keys l.key-index 0) = e _ _ (c.type_inv.keys l.key-index).fits c.test.ensures in
    let more = any-take-more p keys l.key-index c.loop-key-test.true in
    elim c.if-test.branch [
      | then-test w ↦ w.found-is ∙ sym (more ∙ or_left (any p (take l.key-index keys)) (sym this ∙ w.if-test.true))
      | else-test w ↦ w.found-is ∙ l.invariant p e ∙ sym (more ∙ rw (sym this ∙ w.if-test.false))
    ]

pub returns : goal.returns
returns g c = λ p e. c.loop-key.invariant p e ∙ any-take-all p c.args.keys.now c.loop-key.key-index (omega arith)
