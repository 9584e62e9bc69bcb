-- Two conditions of one key, in the words of the rules paper: the same type, IF_IDs that are both absent or equal, and Global_IDs that are both
-- absent or equal.
-- Assumes nothing.
use Rattle.std.specs.Prelude.{◌≡◌, ◌⊎◌}
use Rattle.fault.specs.declared.Fault.{Fault}
use Rattle.rules.specs.declared.Key.{Key}

pub record OneKey (a b : Key) : Type 0 where
  pub kind : a.kind ≡ b.kind
  pub present : a.present ≡ b.present
  pub place : (a.present ≡ 0) ⊎ ((a.node ≡ b.node) × (a.interface ≡ b.interface))
  pub carrier : a.carrier ≡ b.carrier
  pub global : (a.carrier ≡ 0) ⊎ (a.global ≡ b.global)

-- two fault messages that agree in what makes a key: type, IF_ID and Global_ID, each of the two absent in both or the same in both
pub record OneCause (f g : Fault) : Type 0 where
  pub kind : f.kind ≡ g.kind
  pub interface : f.interface ≡ g.interface
  pub global : f.global ≡ g.global
