-- A DHC message is not taken exactly where the words for 24 hold.
-- Assumes nothing.
use Prim.Native.Nat.{ℕ}
use mathlib.Core.Path.{◌≡◌, refl}
use mathlib.Core.Bool.{Bool, true, false, ◌&&◌}
use mathlib.Core.Logic.{◌↔◌}
use borrow.Author.Tests.{eqb-false, ne_eqb}
use Rattle.rules.proofs.Bools.{no_way}
use Rattle.rules.proofs.Failing.{one-fails, and-false}
use Rattle.coordination.specs.declared.Dhc.{Dhc}
use Rattle.std.specs.Prelude.{Some}
use Rattle.coordination.specs.Carried.{OptionalStatus}
use Rattle.coordination.specs.Carried.{NoStatus, AStatus}
use Rattle.coordination.specs.Carried.{OptionalSwitching}
use Rattle.coordination.specs.Carried.{NoSwitching, ASwitching}
use Rattle.homing.specs.declared.Group.{Group}
use Rattle.homing.specs.Messages.{status_from_peer, switching_from_peer, takes_from}
use Rattle.homing.specs.Stray.{StrayStatus, StraySwitching, Stray, none_set, other_id, other_label, status_source, switching_source}

status-strays : (peer : ℕ) (s : OptionalStatus) → (status_from_peer peer s ≡ false) ↔ StrayStatus peer s
status-strays peer NoStatus = (λ e. no_way refl e, λ w. absurd w)
status-strays peer (Some st) = (eqb-false st.source peer, ne_eqb st.source peer)

switching-strays : (peer : ℕ) (s : OptionalSwitching) → (switching_from_peer peer s ≡ false) ↔ StraySwitching peer s
switching-strays peer NoSwitching = (λ e. no_way refl e, λ w. absurd w)
switching-strays peer (Some sw) = (eqb-false sw.source peer, ne_eqb sw.source peer)

module _ (label : ℕ) (d : Dhc) (g : Group) where
  told : takes_from label d g ≡ false → Stray label d g
  told =
      one-fails (one-fails (λ e. none_set (eqb-false _ _ e)) (λ e. other_id (eqb-false _ _ e)))
      (one-fails (λ e. other_label (eqb-false _ _ e))
      (one-fails (λ e. status_source ((status-strays g.peer d.status).0 e)) (λ e. switching_source ((switching-strays g.peer d.switching).0 e))))

  untold : Stray label d g → takes_from label d g ≡ false
  untold (none_set h) = rw (ne_eqb g.set 1 h)
  untold (other_id h) = simp (ne_eqb g.id d.id h, and-false)
  untold (other_label h) = simp (ne_eqb g.dni label h, and-false)
  untold (status_source h) = simp ((status-strays g.peer d.status).1 h, and-false)
  untold (switching_source h) = simp ((switching-strays g.peer d.switching).1 h, and-false)

  pub strays-exactly : (takes_from label d g ≡ false) ↔ Stray label d g
  strays-exactly = (told, untold)
