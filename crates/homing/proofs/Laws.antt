-- The PW of a group: each rule over every group. No rule touches anything else.
-- Assumes nothing.
use Prim.Native.Nat.{ℕ}
use mathlib.Core.Path.{◌≡◌, refl, ◌∙◌}
use mathlib.Core.Bool.{Bool, true, false, cond, ◌||◌}
use mathlib.Core.List.{List, [], ◌∷◌}
use borrow.Author.Tests.{eq-eqb, ne_eqb}
use Rattle.rules.proofs.Bools.{no_way}
use Rattle.coordination.specs.declared.Dhc.{Dhc}
use Rattle.homing.specs.declared.Group.{Group}
use Rattle.homing.specs.declared.GroupSettings.{GroupSettings}
use Rattle.homing.specs.Groups.{standby, active, is_working, with_pw, grouped, ac_set, returned, fallen, crossed_by}
use Rattle.homing.specs.Messages.{fails, switches, coordinated}
use Rattle.homing.specs.Events.{Event, Timer, Crossed, Message, Ac, Return, after, after_all, is_ac, SameGroup}

-- setting
pub set-working : (s : GroupSettings) (loss crossing : Bool) → s.role ≡ 0 → (grouped s loss crossing).pw ≡ cond (loss || crossing) standby active
set-working s loss crossing e = rw (eq-eqb s.role 0 e)

pub set-protection : (s : GroupSettings) (loss crossing : Bool) → (s.role ≡ 0 → ⊥) → (grouped s loss crossing).pw ≡ standby
set-protection s loss crossing n = rw (ne_eqb s.role 0 n)

-- a working PE
module _ (g : Group) (w : is_working g.role ≡ true) where
  pub returned-working : (loss crossing : Bool) → (returned loss crossing g).pw ≡ cond (loss || crossing) standby active
  returned-working loss crossing = rw w

  pub fallen-working : (fallen true g).pw ≡ standby
  fallen-working = rw w

  pub crossed-working : (crossed_by g).pw ≡ standby
  crossed-working = rw w

  pub switched-working : (d : Dhc) → switches d.switching ≡ true → (coordinated d g).pw ≡ standby
  switched-working d s = rw (w, s)

  -- signal fail alone, or neither
  pub unswitched-working : (d : Dhc) → switches d.switching ≡ false → (coordinated d g).pw ≡ g.pw
  unswitched-working d s = rw (w, s)

-- a protection PE
module _ (g : Group) (p : is_working g.role ≡ false) where
  pub returned-protection : (loss crossing : Bool) → (returned loss crossing g).pw ≡ standby
  returned-protection loss crossing = rw p

  pub fallen-protection : (loss : Bool) → (fallen loss g).pw ≡ g.pw
  fallen-protection true = rw p
  fallen-protection false = refl

  pub crossed-protection : (crossed_by g).pw ≡ g.pw
  crossed-protection = rw p

  pub called-protection : (d : Dhc) → switches d.switching || fails d.status ≡ true → (coordinated d g).pw ≡ active
  called-protection d s = rw (p, s)

  pub uncalled-protection : (d : Dhc) → switches d.switching || fails d.status ≡ false → (coordinated d g).pw ≡ g.pw
  uncalled-protection d s = rw (p, s)

-- of either: no loss, and the AC
pub no-loss : (g : Group) → fallen false g ≡ g
no-loss g = refl

pub ac-alone : (ac : ℕ) (g : Group) → (ac_set ac g).pw ≡ g.pw
ac-alone ac g = refl

-- nothing but the AC's own call touches the AC, and nothing else touches anything but the PW
pub pw-alone : (e : Event) (g : Group) → is_ac e ≡ false → after e g ≡ with_pw (after e g).pw g
pw-alone (Timer loss) g n = refl
pw-alone Crossed g n = refl
pw-alone (Message d) g n = refl
pw-alone (Ac ac) g n = no_way refl n
pw-alone (Return loss crossing) g n = refl

pub keeps : (e : Event) (g : Group) → SameGroup g (after e g)
keeps (Timer loss) g = record { id = refl; peer = refl; dni = refl; set = refl; role = refl }
keeps Crossed g = record { id = refl; peer = refl; dni = refl; set = refl; role = refl }
keeps (Message d) g = record { id = refl; peer = refl; dni = refl; set = refl; role = refl }
keeps (Ac ac) g = record { id = refl; peer = refl; dni = refl; set = refl; role = refl }
keeps (Return loss crossing) g = record { id = refl; peer = refl; dni = refl; set = refl; role = refl }

pub keeps-all : (es : List Event) (g : Group) → SameGroup g (after_all es g)
keeps-all [] g = record { id = refl; peer = refl; dni = refl; set = refl; role = refl }
keeps-all (e ∷ es) g =
    let a = keeps e g in
    let b = keeps-all es (after e g) in
    record {
      id = a.id ∙ b.id;
      peer = a.peer ∙ b.peer;
      dni = a.dni ∙ b.dni;
      set = a.set ∙ b.set;
      role = a.role ∙ b.role;
    }
