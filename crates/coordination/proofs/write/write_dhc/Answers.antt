use mathlib.Core.Path.{◌≡◌}
use Prim.Native.Nat.{ℕ, ◌+◌}
use lib.ListN.{take}
use Rattle.coordination.specs.Octets.{total_of, all_octets, dhc_octets}
use Rattle.coordination.proofs.Octets.{front}
use Rattle.coordination.proofs.write.write_dhc.Goals as goal

pub returns : goal.returns
returns c = let d = c.args.d in
    let e : take (12 + total_of d) (all_octets d) ≡ dhc_octets d = front d in
    cc
