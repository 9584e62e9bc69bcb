-- A record without its group: every query but those of the group is that of the record, and every step of it is the step without the group.
-- Assumes nothing.
use Prim.Native.Nat.{ℕ}
use mathlib.Core.Path.{◌≡◌, refl, sym, ap}
use mathlib.Core.Bool.{Bool, true, false}
use mathlib.Core.List.{List}
use Rattle.bfd.specs.declared.Packet.{Packet}
use Rattle.fault.specs.declared.Fault.{Fault}
use Rattle.message.specs.Message.{message_of}
use Rattle.rules.specs.declared.Settings.{Settings}
use Rattle.rules.specs.declared.Received.{Received}
use Rattle.rules.specs.declared.Received.TheVariants.{CrossedMessage, HeardCc, HeardCv, FaultMessage}
use Rattle.rules.specs.Received.{received_as}
use Rattle.homing.specs.declared.Group.{Group}
use Rattle.homing.specs.Groups.{no_group, fallen, crossed_by}
use Rattle.session.specs.declared.Session.{Session}
use Rattle.session.specs.Queries.{loss_at, crossing_at, defect_at, held_at, state_at, group_at, report_at, diagnostic_at, packet_at, cc_octets_at, cv_octets_at}
use Rattle.session.specs.Steps.{new_session, settled, locked_at, unlocked_at, heard_cc, heard_cv, crossed_at, fault_taken, reply_settled}
use Rattle.session.specs.Reception.{received_answer, received_by}
use Rattle.session.specs.Soundness.{ungrouped_sound, own_fits}
use Rattle.table.specs.Table.{receiving}
use Rattle.grouping.specs.Grouped.{with_group}
use Rattle.grouping.specs.Bare.{bare}

-- queries

pub bare-settings : (r : Session) → (bare r).settings ≡ r.settings
unfolding bare with_group
bare-settings r = refl

pub bare-loss : (r : Session) (now : ℕ) → loss_at (bare r) now ≡ loss_at r now
unfolding bare with_group loss_at
bare-loss r now = refl

pub bare-crossing : (r : Session) (now : ℕ) → crossing_at (bare r) now ≡ crossing_at r now
unfolding bare with_group crossing_at
bare-crossing r now = refl

pub bare-report : (r : Session) (now : ℕ) → report_at (bare r) now ≡ report_at r now
unfolding bare with_group report_at state_at crossing_at loss_at
bare-report r now = refl

pub bare-cc : (r : Session) (now : ℕ) → cc_octets_at (bare r) now ≡ cc_octets_at r now
unfolding bare with_group cc_octets_at packet_at diagnostic_at state_at crossing_at loss_at
bare-cc r now = refl

pub bare-cv : (r : Session) (now : ℕ) → cv_octets_at (bare r) now ≡ cv_octets_at r now
unfolding bare with_group cv_octets_at packet_at diagnostic_at state_at crossing_at loss_at
bare-cv r now = refl

pub bare-ungrouped : (r : Session) (clock : ℕ) → ungrouped_sound (bare r) clock ≡ ungrouped_sound r clock
unfolding bare with_group ungrouped_sound own_fits
bare-ungrouped r clock = refl

pub bare-received-answer : (r : Session) (u : ℕ) (x : Received) → received_answer (bare r) u x ≡ received_answer r u x
unfolding bare with_group
bare-received-answer r u CrossedMessage = refl
bare-received-answer r u (HeardCc p) = refl
bare-received-answer r u HeardCv = refl
bare-received-answer r u (FaultMessage f) = refl

-- whatever group a record is given, it is the same without it
pub bare-regrouped : (g : Group) (r : Session) → bare (with_group g r) ≡ bare r
unfolding bare with_group
bare-regrouped g r = refl

-- where there is no group a loss and a crossed message find none
none-falls : (loss : Bool) → fallen loss no_group ≡ no_group
none-falls true = refl
none-falls false = refl

module _ (r : Session) (u : ℕ) where
  none_then : no_group ≡ group_at (bare r) u
  unfolding bare with_group group_at
  none_then = sym (none-falls (loss_at (bare r) u))

  -- steps

  pub bare-settled : bare (settled r u) ≡ settled (bare r) u
  unfolding bare with_group settled state_at loss_at
  bare-settled = ap (λ (g : Group). with_group g (settled r u)) none_then

  pub bare-locked : bare (locked_at r u) ≡ locked_at (bare r) u
  unfolding bare with_group locked_at
  bare-locked = ap (λ (g : Group). with_group g (locked_at r u)) none_then

  pub bare-unlocked : bare (unlocked_at r u) ≡ unlocked_at (bare r) u
  unfolding bare with_group unlocked_at state_at loss_at
  bare-unlocked = ap (λ (g : Group). with_group g (unlocked_at r u)) none_then

  pub bare-heard-cc : (p : Packet) → bare (heard_cc r u p) ≡ heard_cc (bare r) u p
  unfolding bare with_group heard_cc state_at loss_at held_at defect_at crossing_at
  bare-heard-cc p = ap (λ (g : Group). with_group g (heard_cc r u p)) none_then

  pub bare-heard-cv : bare (heard_cv r u) ≡ heard_cv (bare r) u
  unfolding bare with_group heard_cv state_at loss_at
  bare-heard-cv = ap (λ (g : Group). with_group g (heard_cv r u)) none_then

  pub bare-crossed : bare (crossed_at r u) ≡ crossed_at (bare r) u
  unfolding bare with_group crossed_at state_at loss_at
  bare-crossed = ap (λ (g : Group). with_group (crossed_by g) (crossed_at r u)) none_then

  pub bare-fault : (f : Fault) → bare (fault_taken r u f) ≡ fault_taken (bare r) u f
  unfolding bare with_group fault_taken state_at loss_at
  bare-fault f = ap (λ (g : Group). with_group g (fault_taken r u f)) none_then

  pub bare-received : (x : Received) → bare (received_by r u x) ≡ received_by (bare r) u x
  bare-received CrossedMessage = bare-crossed
  bare-received (HeardCc p) = bare-heard-cc p
  bare-received HeardCv = bare-heard-cv
  bare-received (FaultMessage f) = bare-fault f

  pub bare-receiving : (m : List ℕ) → bare (receiving m u r) ≡ receiving m u (bare r)
  unfolding bare with_group
  bare-receiving m = bare-received (received_as r.settings (message_of m))

pub bare-written : (r : Session) → bare (reply_settled r) ≡ reply_settled (bare r)
unfolding bare with_group reply_settled
bare-written r = refl

pub bare-new : (g : Settings) (u : ℕ) → bare (new_session g u) ≡ new_session g u
unfolding bare with_group new_session
bare-new g u = refl
