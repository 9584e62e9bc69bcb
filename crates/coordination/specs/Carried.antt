-- The two TLVs that a DHC message carries, each there or not.
-- Assumes nothing.
use Rattle.std.specs.Prelude.{ℕ, Bool, Option, Some, None}
use Rattle.coordination.specs.declared.PwStatus.{PwStatus}
use Rattle.coordination.specs.declared.NodeSwitching.{NodeSwitching}

abbrev pub OptionalStatus : Type 0
OptionalStatus = Option PwStatus

abbrev pub OptionalSwitching : Type 0
OptionalSwitching = Option NodeSwitching

-- a PW Status by its Destination and Source Node_ID, DNI-PW ID, P, D and F, and none
abbrev pub AStatus : ℕ → ℕ → ℕ → Bool → Bool → Bool → Option PwStatus
AStatus destination source pw protection degrade fail =
    Some (record { destination = destination; source = source; pw = pw; protection = protection; degrade = degrade; fail = fail })

pattern abbrev pub NoStatus : Option PwStatus
NoStatus = None

-- a Dual-Node Switching by its Destination and Source Node_ID, DNI-PW ID, S and P, and none
abbrev pub ASwitching : ℕ → ℕ → ℕ → Bool → Bool → Option NodeSwitching
ASwitching destination source pw switch protection =
    Some (record { destination = destination; source = source; pw = pw; switch = switch; protection = protection })

pattern abbrev pub NoSwitching : Option NodeSwitching
NoSwitching = None
