use mathlib.Core.Path.{subst}
use mathlib.Core.List.{List}
use Prim.Native.Nat.{ℕ}
use Rattle.std.specs.Io.{WritesAtMost}
use Rattle.watch.proofs.Calling.{write-made}
use Rattle.watch.proofs.write_on.Goals as goal

pub after_write-requires : goal.after_write-requires
after_write-requires c = c.write-took.ensures.bound

pub returns : goal.returns
returns c buf =
    let a = c.args in
    write-made a.core buf a.out.now c.requires c.after_write.result c.write-took.result
    (subst (λ (l : List ℕ). WritesAtMost c.write-took.result l) c.pending-part.ensures c.write-took.ensures.bound)
    c.after_write.ensures
