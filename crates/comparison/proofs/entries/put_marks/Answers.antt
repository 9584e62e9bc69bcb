use native.Mathlib.Omega.{arith}
use native.Mathlib.Nat.{add-zero}
use mathlib.Core.Path.{sym}
use Prim.Native.Nat.{◌*◌}
use Rattle.comparison.specs.Walk.{marked}
use Rattle.comparison.proofs.Octets.{put_then, put_as}
use Rattle.comparison.proofs.entries.put_marks.Goals as goal

pub returns : goal.returns
unfolding marked
returns c = (
  put_then (put_as c.args.m.time (sym (add-zero (8 * c.args.n))) c.put_only-a.ensures.0)
      (put_then c.put_only-b.ensures.0
      (put_then c.put_only-c.ensures.0
      (put_then c.put_only-d.ensures.0
      (put_then c.put_only-e.ensures.0
      (put_then c.put_only-f.ensures.0 c.put_only.ensures.0))))),
  omega arith,
)
