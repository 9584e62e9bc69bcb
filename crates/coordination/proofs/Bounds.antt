-- No refusal of a DHC message is above 25.
-- Assumes nothing.
use Prim.Native.Nat.{ℕ, ◌≤◌}
use native.Mathlib.Omega.{arith}
use mathlib.Core.List.{List}
use lib.ListN.{length}
use lib.Dec.{ltb, eqb}
use Rattle.octets.proofs.Chain.{need-most, bar-most}
use Rattle.gach.specs.Header.{channel_refusal}
use Rattle.gach.proofs.Says.{channel-most}
use Rattle.coordination.specs.Message.{dhc_channel, tlvs_end, tlvs_in, neither, tlvs_refusal, refusal_with, dhc_refusal}

pub dhc-most : (m : List ℕ) → dhc_refusal m ≤ 25
unfolding dhc_refusal refusal_with tlvs_refusal
dhc-most m =
    need-most 25 (eqb (channel_refusal dhc_channel m) 0) (omega (arith, channel-most dhc_channel m))
    (bar-most 25 (ltb (length m) 12) (omega arith)
    (bar-most 25 (ltb (length m) (tlvs_end m)) (omega arith)
    (bar-most 25 (tlvs_in m).bad (omega arith) (bar-most 25 (neither (tlvs_in m)) (omega arith) (omega arith)))))
