use Prim.Native.Nat.{ℕ, ◌-◌, ◌+◌}
use native.Mathlib.Omega.{arith}
use mathlib.Core.Path.{◌≡◌, sym, ap, ◌∙◌}
use mathlib.Core.List.{List}
use borrow.Rule.Slice.PartMut.{put_mid}
use Rattle.octets.proofs.Runs.{past, written_over}
use Rattle.octets.proofs.write.put_octets.Goals as goal

pub returns-then-s-at : goal.returns-then-s-at
returns-then-s-at c = let a = c.args in sym (past a.o.now a.s.now a.at c.if-s-at.true)

pub returns : goal.returns
returns c = let a = c.args in
    let n = c.min-n.result in
    ap (put_mid a.at (a.at + n - a.at) a.s.now) c.copy_from_slice.ensures.after
    ∙ written_over a.o.now a.s.now a.at n (a.at + n - a.at) (omega arith) (omega arith) c.min-n.ensures
