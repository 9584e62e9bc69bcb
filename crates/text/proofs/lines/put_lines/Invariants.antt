use Prim.Native.Nat.{◌-◌}
use lib.ListN.{length}
use Rattle.text.proofs.Going.{Invariant}
use Rattle.text.proofs.lines.put_lines.Given as goal

abbrev pub invariant-loop-c : goal.invariant-loop-c
invariant-loop-c l = Invariant l.capture l.initial.out l.out l.room l.t l.c

abbrev pub decreases-loop-c : goal.decreases-loop-c
decreases-loop-c l = length l.capture - l.t.fed.used
