-- What the code's types say of the keys in four places: Node and Global_ID are below 2 to the 32.
-- Assumes nothing.
use mathlib.Core.List.{List}
use Prim.Native.Nat.{ℕ, ◌<◌}
use mir.Val.{Val}
use denote.Laws.{Is}
use denote.Struct.Laws.{owed}
use Rattle.rules.specs.declared.Key.{Key}
use Rattle.rules.specs.contracts.Key as Key'
use Rattle.rules.proofs.Key.TheLaws as Key''
use Rattle.conditions.specs.declared.Condition.{Condition}
use Rattle.conditions.specs.declared.Conditions.{Conditions}
use Rattle.conditions.specs.contracts.Condition as Condition'
use Rattle.conditions.proofs.Condition.TheLaws as Condition''
use Rattle.conditions.specs.contracts.Conditions as Conditions'
use Rattle.conditions.proofs.Conditions.TheLaws as Conditions''

pub record KeyHeld (k : Key) : Type 0 where
  pub node : k.node < 4294967296
  pub global : k.global < 4294967296

key-held : (k : Key) (vs : List Val) → Is Key'.the_row k vs → KeyHeld k
key-held k vs is = let p = owed Key'.the_type Key''.the_laws k vs is in record { node = p.0.1; global = p.1.1.0.1 }

place-held : (c : Condition) (vs : List Val) → Is Condition'.the_row c vs → KeyHeld c.key
place-held c vs is = key-held c.key _ (owed Condition'.the_type Condition''.the_laws c vs is).1.0

pub record KeysHeld (cs : Conditions) : Type 0 where
  pub first : KeyHeld cs.first.key
  pub second : KeyHeld cs.second.key
  pub third : KeyHeld cs.third.key
  pub fourth : KeyHeld cs.fourth.key

pub keys-held : (cs : Conditions) (vs : List Val) → Is Conditions'.the_row cs vs → KeysHeld cs
keys-held cs vs is =
    let p = owed Conditions'.the_type Conditions''.the_laws cs vs is in
    record {
      first = place-held cs.first _ p.0;
      second = place-held cs.second _ p.1.0;
      third = place-held cs.third _ p.1.1.0;
      fourth = place-held cs.fourth _ p.1.1.1.0;
    }
