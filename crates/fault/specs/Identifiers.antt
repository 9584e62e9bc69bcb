-- The two identifiers of a fault message, each there or not.
-- Assumes nothing.
use Rattle.std.specs.Prelude.{ℕ, Option, Some, None}
use Rattle.fault.specs.declared.IfId.{IfId}

abbrev pub OptionalIfId : Type 0
OptionalIfId = Option IfId

abbrev pub OptionalGlobalId : Type 0
OptionalGlobalId = Option ℕ

-- an IF_ID by its Node and Interface, and none
abbrev pub AnIfId : ℕ → ℕ → Option IfId
AnIfId node interface = Some (record { node = node; interface = interface })

pattern abbrev pub NoIfId : Option IfId
NoIfId = None

-- a Global_ID, and none
pattern abbrev pub AGlobalId : ℕ → Option ℕ
AGlobalId global = Some global

pattern abbrev pub NoGlobalId : Option ℕ
NoGlobalId = None
