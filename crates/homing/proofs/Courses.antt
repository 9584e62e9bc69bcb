-- The PW of a group over every list of what may happen to it: what makes it active, and what standby.
-- Assumes nothing.
use Prim.Native.Nat.{◌≤◌}
use native.Mathlib.Omega.{arith}
use mathlib.Core.Path.{◌≡◌, refl, sym, ap, ◌∙◌}
use mathlib.Core.Bool.{Bool, true, false, ◌||◌}
use mathlib.Core.List.{List, [], ◌∷◌}
use Rattle.rules.proofs.Bools.{no_way, split}
use Rattle.homing.specs.declared.Group.{Group}
use Rattle.homing.specs.Groups.{standby, active, is_working}
use Rattle.homing.specs.Messages.{fails, switches}
use Rattle.homing.specs.Events.{Event, Timer, Crossed, Message, Ac, Return, after, after_all, is_return, is_calling, none}
use Rattle.homing.proofs.Laws.{fallen-working, crossed-working, switched-working, unswitched-working, returned-protection, fallen-protection, crossed-protection, called-protection, uncalled-protection, keeps}

role-after : (e : Event) (g : Group) {b : Bool} → is_working g.role ≡ b → is_working (after e g).role ≡ b
role-after e g w = ap is_working (sym (keeps e g).role) ∙ w

-- a working PE: all but return only lower its PW
lowered_by : (e : Event) (g : Group) → is_working g.role ≡ true → is_return e ≡ false → (after e g).pw ≤ g.pw
lowered_by (Timer true) g w n = omega (arith, fallen-working g w)
lowered_by (Timer false) g w n = omega arith
lowered_by Crossed g w n = omega (arith, crossed-working g w)
lowered_by (Message d) g w n =
    split (switches d.switching) (λ s. omega (arith, switched-working g w d s)) (λ s. omega (arith, unswitched-working g w d s))
lowered_by (Ac ac) g w n = omega arith
lowered_by (Return loss crossing) g w n = no_way refl n

pub only-lowered : (es : List Event) (g : Group) → is_working g.role ≡ true → none is_return es → (after_all es g).pw ≤ g.pw
only-lowered [] g w n = omega arith
only-lowered (e ∷ es) g w n = omega (arith, lowered_by e g w n.0, only-lowered es (after e g) (role-after e g w) n.1)

-- so a working PE's PW that is standby becomes active by return alone
pub only-returned : (es : List Event) (g : Group) → is_working g.role ≡ true → none is_return es → g.pw ≡ standby → (after_all es g).pw ≡ standby
only-returned es g w n s = omega (arith, only-lowered es g w n, s)

-- a protection PE: all but return leave its PW, or make it active
raised_by : (e : Event) (g : Group) → is_working g.role ≡ false → is_return e ≡ false → g.pw ≡ active → (after e g).pw ≡ active
raised_by (Timer loss) g p n s = fallen-protection g p loss ∙ s
raised_by Crossed g p n s = crossed-protection g p ∙ s
raised_by (Message d) g p n s =
    split (switches d.switching || fails d.status) (called-protection g p d) (λ f. uncalled-protection g p d f ∙ s)
raised_by (Ac ac) g p n s = s
raised_by (Return loss crossing) g p n s = no_way refl n

-- so return alone makes it standby
pub stays-active : (es : List Event) (g : Group) → is_working g.role ≡ false → none is_return es → g.pw ≡ active → (after_all es g).pw ≡ active
stays-active [] g p n s = s
stays-active (e ∷ es) g p n s = stays-active es (after e g) (role-after e g p) n.1 (raised_by e g p n.0 s)

-- and a message with the switch bit or signal fail alone makes it active
uncalled-by : (e : Event) (g : Group) → is_working g.role ≡ false → is_calling e ≡ false → g.pw ≡ standby → (after e g).pw ≡ standby
uncalled-by (Timer loss) g p n s = fallen-protection g p loss ∙ s
uncalled-by Crossed g p n s = crossed-protection g p ∙ s
uncalled-by (Message d) g p n s = uncalled-protection g p d n ∙ s
uncalled-by (Ac ac) g p n s = s
uncalled-by (Return loss crossing) g p n s = returned-protection g p loss crossing

pub only-called : (es : List Event) (g : Group) → is_working g.role ≡ false → none is_calling es → g.pw ≡ standby → (after_all es g).pw ≡ standby
only-called [] g p n s = s
only-called (e ∷ es) g p n s = only-called es (after e g) (role-after e g p) n.1 (uncalled-by e g p n.0 s)
