-- 24 of a DHC message, in the request's words: no group of its ID with this label as DNI-PW, or a TLV's source not the peer.
-- Assumes nothing.
use Rattle.std.specs.Prelude.{ℕ, ◌≡◌}
use Rattle.coordination.specs.declared.Dhc.{Dhc}
use Rattle.std.specs.Prelude.{Some}
use Rattle.coordination.specs.Carried.{OptionalStatus}
use Rattle.coordination.specs.Carried.{NoStatus, AStatus}
use Rattle.coordination.specs.Carried.{OptionalSwitching}
use Rattle.coordination.specs.Carried.{NoSwitching, ASwitching}
use Rattle.homing.specs.declared.Group.{Group}

-- the source of a TLV that is there is another than this node
abbrev pub StrayStatus : ℕ → OptionalStatus → Type 0
StrayStatus peer NoStatus = ⊥
StrayStatus peer (Some st) = st.source ≡ peer → ⊥

abbrev pub StraySwitching : ℕ → OptionalSwitching → Type 0
StraySwitching peer NoSwitching = ⊥
StraySwitching peer (Some sw) = sw.source ≡ peer → ⊥

-- of a message on a label and a group
pub data Stray (label : ℕ) (d : Dhc) (g : Group) : Type 0 where
  none_set : (g.set ≡ 1 → ⊥) → Stray label d g
  other_id : (g.id ≡ d.id → ⊥) → Stray label d g
  other_label : (g.dni ≡ label → ⊥) → Stray label d g
  status_source : StrayStatus g.peer d.status → Stray label d g
  switching_source : StraySwitching g.peer d.switching → Stray label d g
