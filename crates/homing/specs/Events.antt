-- What may happen to a group between its setting and its end, one after another. All other messages, lock, unlock, a crossing that lapses
-- and a loss that ends are none of these.
-- Assumes nothing.
use Rattle.std.specs.Prelude.{ℕ, ◌≡◌, Bool, true, false, ◌||◌, List, [], ◌∷◌}
use Rattle.coordination.specs.declared.Dhc.{Dhc}
use Rattle.homing.specs.declared.Group.{Group}
use Rattle.homing.specs.Groups.{ac_set, returned, fallen, crossed_by}
use Rattle.homing.specs.Messages.{fails, switches, coordinated}

-- TIMER is given, with a loss or without; a crossed message on the service PW; a DHC message that is taken; the AC is set; return, while a
-- loss or a crossing stands or not
pub data Event : Type 0 where
  Timer : (loss : Bool) → Event
  Crossed : Event
  Message : (d : Dhc) → Event
  Ac : (ac : ℕ) → Event
  Return : (loss crossing : Bool) → Event

abbrev pub after : Event → Group → Group
after (Timer loss) g = fallen loss g
after Crossed g = crossed_by g
after (Message d) g = coordinated d g
after (Ac ac) g = ac_set ac g
after (Return loss crossing) g = returned loss crossing g

-- the first of the list first
abbrev pub after_all : List Event → Group → Group
after_all [] g = g
after_all (e ∷ es) g = after_all es (after e g)

-- the events of which a rule speaks
abbrev pub is_return : Event → Bool
is_return (Timer loss) = false
is_return Crossed = false
is_return (Message d) = false
is_return (Ac ac) = false
is_return (Return loss crossing) = true

-- a message with the switch bit, or with a status of signal fail
abbrev pub is_calling : Event → Bool
is_calling (Timer loss) = false
is_calling Crossed = false
is_calling (Message d) = switches d.switching || fails d.status
is_calling (Ac ac) = false
is_calling (Return loss crossing) = false

-- a test holds of no event of a list
abbrev pub none : (Event → Bool) → List Event → Type 0
none test [] = Unit {0}
none test (e ∷ es) = (test e ≡ false) × none test es

abbrev pub is_ac : Event → Bool
is_ac (Timer loss) = false
is_ac Crossed = false
is_ac (Message d) = false
is_ac (Ac ac) = true
is_ac (Return loss crossing) = false

-- what no event touches: whether there is a group, its ID, peer, DNI-PW and role
pub record SameGroup (g h : Group) : Type 0 where
  pub id : g.id ≡ h.id
  pub peer : g.peer ≡ h.peer
  pub dni : g.dni ≡ h.dni
  pub set : g.set ≡ h.set
  pub role : g.role ≡ h.role
