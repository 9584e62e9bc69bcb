-- What tells one fault condition from another, and which ones a session follows.
-- Assumes nothing.
use Rattle.std.specs.Prelude.{ℕ, Bool, cond, not, ◌&&◌, ◌||◌, eqb}
use Rattle.fault.specs.declared.Fault.{Fault}
use Rattle.fault.specs.Identifiers.{OptionalIfId}
use Rattle.fault.specs.Identifiers.{NoIfId}
use Rattle.std.specs.Prelude.{Some}
use Rattle.fault.specs.Identifiers.{OptionalGlobalId}
use Rattle.fault.specs.Identifiers.{NoGlobalId, AGlobalId}
use Rattle.rules.specs.Modes.{moved_in}
use Rattle.rules.specs.declared.Settings.{Settings}
use Rattle.rules.specs.declared.Key.{Key}
use Rattle.rules.specs.declared.Mode.{Mode}
use Rattle.rules.specs.declared.State.{State}
use Rattle.rules.specs.declared.Input.{Input}
use Rattle.rules.specs.declared.Input.TheVariants.{LinkDown, LockReport}

-- an IF_ID in numbers: a mark that is 1 where there is one, and its Node and Interface, 0 where there is none
abbrev pub if_id_mark : OptionalIfId → ℕ
if_id_mark NoIfId = 0
if_id_mark (Some i) = 1

abbrev pub node_of : OptionalIfId → ℕ
node_of NoIfId = 0
node_of (Some i) = i.node

abbrev pub interface_of : OptionalIfId → ℕ
interface_of NoIfId = 0
interface_of (Some i) = i.interface

-- a Global_ID likewise
abbrev pub global_id_mark : OptionalGlobalId → ℕ
global_id_mark NoGlobalId = 0
global_id_mark (AGlobalId global) = 1

abbrev pub global_of : OptionalGlobalId → ℕ
global_of NoGlobalId = 0
global_of (AGlobalId global) = global

-- the key of this type and IF_ID, with the number and the mark of a Global_ID
abbrev pub key_at : ℕ → OptionalIfId → ℕ → ℕ → Key
key_at kind interface global carrier =
    record {
      node = node_of interface;
      interface = interface_of interface;
      global = global;
      kind = kind;
      present = if_id_mark interface;
      carrier = carrier;
    }

abbrev pub key_with : ℕ → OptionalIfId → OptionalGlobalId → Key
key_with kind interface id = key_at kind interface (global_of id) (global_id_mark id)

-- the key of a message
abbrev pub key_of : Fault → Key
key_of f = key_with f.kind f.interface f.global

-- IF_IDs that are both absent or equal
unfoldable pub same_if_id : Key → Key → Bool
same_if_id a b = eqb a.present b.present && (eqb a.present 0 || eqb a.node b.node && eqb a.interface b.interface)

-- Global_IDs that are both absent or equal
unfoldable pub same_global_id : Key → Key → Bool
same_global_id a b = eqb a.carrier b.carrier && (eqb a.carrier 0 || eqb a.global b.global)

-- one key: the same type, the same IF_ID and the same Global_ID
unfoldable pub same_key : Key → Key → Bool
same_key a b = eqb a.kind b.kind && same_if_id a b && same_global_id a b

-- a session follows AIS with L set if it follows link-down, and LKR if it follows lock
unfoldable pub follows_with : ℕ → ℕ → ℕ → Bool → Bool
follows_with followlink followlock kind linkdown = cond (eqb kind 1) (linkdown && eqb followlink 1) (eqb followlock 1)

abbrev pub follows : Settings → ℕ → Bool → Bool
follows s kind linkdown = follows_with s.followlink s.followlock kind linkdown

-- LDI or LKR
abbrev pub fault_input : ℕ → Input
fault_input kind = cond (eqb kind 1) LinkDown LockReport

-- an accepted fault message moves the session where R is clear and the session follows it
abbrev pub acts_on : Settings → Fault → Bool
acts_on settings f = not f.removed && follows settings f.kind f.linkdown

abbrev pub fault_state : Mode → Bool → State → ℕ → State
fault_state mode acts from kind = cond acts (moved_in mode from (fault_input kind)) from
