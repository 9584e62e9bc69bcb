use mathlib.Core.Path.{◌≡◌}
use Prim.Native.Nat.{ℕ, ◌+◌}
use lib.ListN.{take}
use Rattle.fault.specs.Octets.{total_of, all_octets, fault_octets}
use Rattle.fault.proofs.Octets.{front}
use Rattle.fault.proofs.write.write_fault.Goals as goal

pub returns : goal.returns
returns c = let f = c.args.f in
    let e : take (9 + total_of f) (all_octets f) ≡ fault_octets f = front f in
    cc
