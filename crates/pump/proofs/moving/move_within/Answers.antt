use mathlib.Core.Path.{◌≡◌, refl, ap, ◌∙◌}
use mathlib.Core.List.{List}
use Prim.Native.Nat.{ℕ, ◌-◌}
use native.Mathlib.Omega.{arith}
use lib.ListN.{length, length-set}
use Rattle.pump.proofs.Shifting.{between, between-length, move-one, moved_all}
use Rattle.pump.proofs.moving.move_within.Goals as goal

pub loop-i-init : goal.loop-i-init
loop-i-init c = (refl, refl)

pub loop-i-preserved : goal.loop-i-preserved
loop-i-preserved c = let l = c.loop-i in
    let a = c.args in
    (length-set l.buf l.i _ ∙ l.invariant.0, rw l.invariant.1 (move-one a.buf.now a.from a.to c.requires l.i (omega arith)))

pub returns : goal.returns
returns c = let l = c.loop-i in
    let a = c.args in
    let n = between-length a.buf.now a.from a.to c.requires in
    record { count = omega (arith, n); moved = l.invariant.1 ∙ moved_all a.buf.now a.from a.to c.requires l.i (omega arith) }
