-- What a message that is not refused is: its fields in the ranges that a record asks.
-- Assumes nothing.
use Prim.Native.Nat.{ℕ, ◌≤◌}
use native.Mathlib.Omega.{arith}
use mathlib.Core.Path.{◌≡◌, sym, ◌∙◌}
use mathlib.Core.Bool.{Bool, true, false, cond}
use mathlib.Core.List.{List}
use lib.Dec.{eqb}
use Rattle.octets.proofs.Chain.{or_else-passed}
use Rattle.gach.specs.Header.{cc_channel, cv_channel, channel_of, header_refusal}
use Rattle.gach.specs.Kinds.{kind_refusal}
use Rattle.bfd.specs.Packet.{packet_of}
use Rattle.bfd.specs.Reception.{cc_refusal}
use Rattle.bfd.proofs.Says.{cc-says}
use Rattle.cv.specs.MepId.{mep_id_at}
use Rattle.cv.specs.Cv.{cv_refusal, mep_part}
use Rattle.fault.specs.Message.{fault_refusal, fault_of, fields_with}
use Rattle.fault.proofs.Says.{fault-says}
use Rattle.message.specs.declared.Message.{Message}
use Rattle.message.specs.declared.Message.TheVariants.{ContinuityCheck, ConnectivityVerification, FaultManagement}
use Rattle.message.specs.Message.{by_channel, three_refusal, message_refusal, message_of}
use Rattle.message.proofs.Dhc.{other-refused, dhc-refused}

-- a multiplier, a diagnostic, a discriminator; a type and a refresh
abbrev pub InRange : Message → Type 0
InRange (ContinuityCheck p) = (1 ≤ p.multiplier) × (p.diagnostic ≤ 31) × (p.my ≡ 0 → ⊥)
InRange (ConnectivityVerification p id) = Unit {0}
InRange (FaultManagement f) = (f.kind ≡ 0 → ⊥) × (f.kind ≤ 2) × (1 ≤ f.refresh) × (f.refresh ≤ 20)

cc-in-range : (m : List ℕ) → cc_refusal m ≡ 0 → InRange (ContinuityCheck (packet_of m))
unfolding packet_of
cc-in-range m e =
    let s = cc-says m e in
    let mult = s.control.multiplier in
    (omega arith, omega arith, s.control.my)

fault-in-range : (m : List ℕ) → fault_refusal m ≡ 0 → InRange (FaultManagement (fault_of m))
unfolding fault_of fields_with
fault-in-range m e =
    let r = (fault-says m e).range in
    (λ z. omega (arith, r.kind_low), r.kind_high, r.refresh_low, r.refresh_high)

-- whichever kind the channel says
kind-in-range : (is_cc is_cv : Bool) (m : List ℕ) → cond is_cc (cc_refusal m) (cond is_cv (cv_refusal m) (fault_refusal m)) ≡ 0
    → InRange
    (cond is_cc (ContinuityCheck (packet_of m))
    (cond is_cv (ConnectivityVerification (packet_of m) (mep_id_at (mep_part m) 0)) (FaultManagement (fault_of m))))
kind-in-range true is_cv m e = cc-in-range m e
kind-in-range false true m e = tt
kind-in-range false false m e = fault-in-range m e

pub read-in-range : (m : List ℕ) → message_refusal m ≡ 0 → InRange (message_of m)
unfolding message_of
read-in-range m e =
    let three : three_refusal m ≡ 0 = sym (other-refused m (λ dhc. dhc-refused m dhc e)) ∙ e in
    let a = or_else-passed (kind_refusal (header_refusal m) (channel_of m)) (by_channel (channel_of m) (cc_refusal m) (cv_refusal m) (fault_refusal m)) three in
    kind-in-range (eqb (channel_of m) cc_channel) (eqb (channel_of m) cv_channel) m a.1
