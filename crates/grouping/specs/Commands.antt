-- What may be called on a table with dual-homing groups: every call that there was before, the operator's calls on groups, each with the party that calls, and a
-- DHC message that comes on a label.
-- Assumes nothing.
use Rattle.std.specs.Prelude.{ℕ, Bool, cond, ◌&&◌, List, [], eqb}
use Rattle.gach.specs.Header.{channel_of, header_refusal}
use Rattle.coordination.specs.Message.{dhc_channel}
use Rattle.rules.specs.Calls.{Call, On, Receive, Said, no_report}
use Rattle.homing.specs.declared.GroupSettings.{GroupSettings}

pub data Command : Type 0 where
  Ordinary : (call : Call) → Command
  SetGroup : (party : ℕ) (settings : GroupSettings) (reading : ℕ) → Command
  SetAc : (party id ac reading : ℕ) → Command
  ReturnGroup : (party id reading : ℕ) → Command
  Coordinate : (label : ℕ) (message : List ℕ) (reading : ℕ) → Command

-- a message that is received is a DHC message by its header: it is taken by a group, and by no session; every other one is received as ever
abbrev pub is_dhc : List ℕ → Bool
is_dhc m = eqb (header_refusal m) 0 && eqb (channel_of m) dhc_channel

abbrev pub received_on : ℕ → List ℕ → ℕ → Command
received_on l m u = cond (is_dhc m) (Coordinate l m u) (Ordinary (On l (Receive m u)))

-- a number alone is said: no report, and no buffer is lent
abbrev pub silent : ℕ → Said
silent n = record { number = n; report = no_report; buffer = [] }
