-- What a DHC message is to a group: whether it is taken (24 where it is not), and what it makes of the PW. Nothing else in a message counts.
-- Assumes nothing.
use Rattle.std.specs.Prelude.{ℕ, Bool, true, false, cond, ◌&&◌, ◌||◌, eqb}
use Rattle.coordination.specs.declared.Dhc.{Dhc}
use Rattle.std.specs.Prelude.{Some}
use Rattle.coordination.specs.Carried.{OptionalStatus}
use Rattle.coordination.specs.Carried.{NoStatus, AStatus}
use Rattle.coordination.specs.Carried.{OptionalSwitching}
use Rattle.coordination.specs.Carried.{NoSwitching, ASwitching}
use Rattle.homing.specs.declared.Group.{Group}
use Rattle.homing.specs.Groups.{standby, active, is_working, with_pw}

-- a group is there and has this ID
abbrev pub has_id : ℕ → Group → Bool
has_id id g = eqb g.set 1 && eqb g.id id

-- the source of a TLV that is there is the peer
abbrev pub status_from_peer : ℕ → OptionalStatus → Bool
status_from_peer peer NoStatus = true
status_from_peer peer (Some st) = eqb st.source peer

abbrev pub switching_from_peer : ℕ → OptionalSwitching → Bool
switching_from_peer peer NoSwitching = true
switching_from_peer peer (Some sw) = eqb sw.source peer

-- a message on a label is taken by the group of its ID: the label is the DNI-PW's, and no TLV's source is another than the peer
abbrev pub takes_from : ℕ → Dhc → Group → Bool
takes_from label d g =
    has_id d.id g && (eqb g.dni label && (status_from_peer g.peer d.status && switching_from_peer g.peer d.switching))

-- a status of signal fail (F)
abbrev pub fails : OptionalStatus → Bool
fails NoStatus = false
fails (Some st) = st.fail

-- a switch bit naming the protection PW (S)
abbrev pub switches : OptionalSwitching → Bool
switches NoSwitching = false
switches (Some sw) = sw.switch

-- a working PE makes its PW standby at the switch bit; a protection PE makes its own active at that bit or a status of signal fail
abbrev pub switched_pw : Bool → Bool → ℕ → ℕ → ℕ
switched_pw switch fail role pw = cond (is_working role) (cond switch standby pw) (cond (switch || fail) active pw)

-- what a message that is taken makes of the group
abbrev pub coordinated : Dhc → Group → Group
coordinated d g = with_pw (switched_pw (switches d.switching) (fails d.status) g.role g.pw) g
