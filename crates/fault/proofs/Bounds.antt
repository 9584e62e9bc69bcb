-- No refusal of a fault message is above 8.
-- Assumes nothing.
use Prim.Native.Nat.{ℕ, ◌/◌, ◌≤◌}
use native.Mathlib.Omega.{arith}
use mathlib.Core.List.{List}
use lib.ListN.{length, get_or}
use lib.Dec.{ltb, leb, eqb}
use Rattle.octets.proofs.Chain.{need-most, bar-most}
use Rattle.gach.specs.Header.{fault_channel, channel_refusal}
use Rattle.gach.proofs.Says.{channel-most}
use Rattle.fault.specs.Message.{range_refusal, head_refusal, tlvs_in, tlvs_end, refusal_with, fault_refusal}

head-most : (m : List ℕ) → head_refusal m ≤ 8
unfolding head_refusal range_refusal
head-most m =
    need-most 8 (eqb (get_or m 4 0 / 16) 1) (omega arith)
    (need-most 8 (leb 1 (get_or m 5 0)) (omega arith)
    (need-most 8 (leb (get_or m 5 0) 2) (omega arith)
    (need-most 8 (leb 1 (get_or m 7 0)) (omega arith) (need-most 8 (leb (get_or m 7 0) 20) (omega arith) (omega arith)))))

pub fault-most : (m : List ℕ) → fault_refusal m ≤ 8
unfolding fault_refusal refusal_with
fault-most m =
    need-most 8 (eqb (channel_refusal fault_channel m) 0) (omega (arith, channel-most fault_channel m))
    (bar-most 8 (ltb (length m) 9) (omega arith)
    (need-most 8 (eqb (head_refusal m) 0) (head-most m)
    (bar-most 8 (ltb (length m) (tlvs_end m)) (omega arith) (need-most 8 (eqb (tlvs_in m).bad 0) (omega arith) (omega arith)))))
