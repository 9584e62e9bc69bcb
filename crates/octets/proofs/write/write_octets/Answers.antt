use Prim.Native.Nat.{◌≤◌}
use mathlib.Core.Path.{sym}
use native.Mathlib.Omega.{arith}
use lib.ListN.{length}
use Rattle.octets.proofs.Runs.{front}
use Rattle.octets.proofs.Writing.{short, fits}
use Rattle.octets.proofs.write.write_octets.Goals as goal

pub returns-then-b-o : goal.returns-then-b-o
returns-then-b-o c = let a = c.args in sym (short a.o.now a.b.now c.if-b-o.true)

pub returns : goal.returns
returns c = let a = c.args in
    let h : length a.o.now ≤ length a.b.now = omega arith in
    rw (fits a.o.now a.b.now h, c.put_octets.ensures, front a.o.now a.b.now h)
