-- The group that lies in a record at a clock: what looking for a loss and each of the record's own calls make of it.
-- Assumes nothing.
use Prim.Native.Nat.{ℕ, ◌+◌, ◌≤◌}
use native.Mathlib.Omega.{arith}
use mathlib.Core.Path.{◌≡◌, refl, sym, ap, ◌∙◌}
use mathlib.Core.Bool.{Bool, true, false, cond, not, ◌&&◌}
use mathlib.Core.Option.{Option, none, some, map}
use lib.Dec.{eqb}
use borrow.Author.Tests.{le-ltb}
use Rattle.bfd.specs.declared.Packet.{Packet}
use Rattle.fault.specs.declared.Fault.{Fault}
use Rattle.rules.specs.declared.Mode.{Mode}
use Rattle.rules.specs.declared.State.{State}
use Rattle.rules.specs.declared.State.TheVariants.{Down}
use Rattle.rules.specs.declared.Received.{Received}
use Rattle.rules.specs.declared.Received.TheVariants.{CrossedMessage, HeardCc, HeardCv, FaultMessage}
use Rattle.rules.specs.Times.{past, detection_time}
use Rattle.rules.specs.States.{is_locked}
use Rattle.rules.specs.Modes.{mode_in, is_source_up}
use Rattle.rules.specs.Conditions.{acts_on, fault_state, fault_input}
use Rattle.rules.proofs.Bools.{split}
use Rattle.rules.proofs.Failing.{and_right}
use Rattle.rules.proofs.States.{state-stored, moved-locked, source-still, by_link_down, by_lock_report}
use Rattle.homing.specs.declared.Group.{Group}
use Rattle.homing.specs.Groups.{fallen, crossed_by}
use Rattle.homing.proofs.Orders.{loss-loss, looked-later}
use Rattle.session.specs.declared.Session.{Session}
use Rattle.session.specs.Queries.{locked_in, source_up_in, loss_at, state_at, group_at}
use Rattle.session.specs.Steps.{settled, locked_at, unlocked_at, heard_cc, heard_cv, crossed_at, fault_taken, reply_settled}
use Rattle.session.specs.Reception.{received_by}
use Rattle.session.proofs.Settling.{loss-later, settled-loss, settled-group}
use Rattle.session.proofs.Received.{received-group}
use Rattle.table.specs.Table.{has_group}
use Rattle.meaning.specs.Stories.{Story, is_crossed}
use Rattle.meaning.specs.Standing.{loss}
use Rattle.meaning.proofs.Fits.{same-loss}
use Rattle.meaning.proofs.Sim.{Fit}
use Rattle.switching.specs.Groups.{loss_by, changed, changed_if}
use Rattle.switching.specs.Switching.{group_in}

-- a loss that is looked for again, where it was looked for at the same reading
pub looked-twice : (x loss : Bool) (g : Group) → (x ≡ true → loss ≡ true) → fallen x (fallen loss g) ≡ fallen loss g
looked-twice true loss g k = rw (k refl) (loss-loss true true g)
looked-twice false loss g k = refl

-- after a crossed message no loss is seen in the group
looked-crossed : (x : Bool) (g : Group) → fallen x (crossed_by g) ≡ crossed_by g
looked-crossed true g = loss-loss true true g
looked-crossed false g = refl

-- looking for a loss at every reading is looking for it at the last
pub group-later : {now : ℕ} (u : ℕ) → now ≤ u → (o : Option Session) (p : Option Story) → Fit now o p → changed (fallen (loss_by u p)) (group_in now o) ≡ group_in u o
unfolding group_at
group-later u h none none f = refl
group-later u h none (some s) f = absurd f
group-later u h (some r) none f = absurd f
group-later {now} u h (some r) (some s) f =
    split (has_group r)
    (λ e. rw e
    (ap some
    (ap (λ (b : Bool). fallen b (fallen (loss_at r now) r.group)) (sym (same-loss f u))
    ∙ looked-later (loss_at r now) (loss_at r u) (loss-later r now u h) r.group)))
    (λ e. rw e)

-- nothing is past at the reading that it is timed from
past-none : (u span : ℕ) → past u span u ≡ false
unfolding past
past-none u span = le-ltb (u + span) u (omega arith)

module _ (r : Session) (u : ℕ) where
  locked-group : group_at (locked_at r u) u ≡ group_at r u
  unfolding group_at locked_at loss_at
  locked-group = refl

  unlocked-settled : locked_in r ≡ false → unlocked_at r u ≡ settled r u
  unfolding unlocked_at settled
  unlocked-settled e = rw e

  unlocked-timed : locked_in r ≡ true → loss_at (unlocked_at r u) u ≡ false
  unfolding unlocked_at loss_at
  unlocked-timed e = rw e (and_right (not (is_source_up (mode_in r.settings) Down)) (past-none u (detection_time r.settings.period 3)))

  unlocked-group : group_at (unlocked_at r u) u ≡ group_at r u
  unlocked-group =
      split (locked_in r)
      (λ e. unfold group_at in ap (λ (b : Bool). fallen b (unlocked_at r u).group) (unlocked-timed e) ∙ (unfold unlocked_at group_at in refl))
      (λ e. ap (λ (x : Session). group_at x u) (unlocked-settled e) ∙ settled-group r u u (omega arith))

  written-group : group_at (reply_settled r) u ≡ group_at r u
  unfolding group_at reply_settled loss_at
  written-group = refl

  heard-cc-group : (p : Packet) → group_at (heard_cc r u p) u ≡ group_at r u
  unfolding group_at heard_cc loss_at
  heard-cc-group p =
      ap (λ (b : Bool). fallen b (group_at r u))
      (and_right (not (locked_in (heard_cc r u p))) (and_right (not (source_up_in (heard_cc r u p))) (past-none u (detection_time r.settings.period p.multiplier))))

  heard-cv-group : group_at (heard_cv r u) u ≡ group_at r u
  unfolding group_at heard_cv loss_at
  heard-cv-group =
      ap (λ (b : Bool). fallen b (group_at r u))
      (and_right (not (locked_in (heard_cv r u))) (and_right (not (source_up_in (heard_cv r u))) (past-none u (detection_time r.settings.period r.peer.multiplier))))

  crossed-group : group_at (crossed_at r u) u ≡ crossed_by (group_at r u)
  unfolding group_at crossed_at
  crossed-group = looked-crossed (loss_at (crossed_at r u) u) (group_at r u)

-- a fault message neither locks nor unlocks, and makes no source UP nor takes it from there
fault-locked : (m : Mode) (acts : Bool) (x : State) (kind : ℕ) → is_locked (fault_state m acts x kind) ≡ is_locked x
fault-locked m true x kind = moved-locked m x (fault_input kind)
fault-locked m false x kind = refl

fault-source : (m : Mode) (acts : Bool) (x : State) (kind : ℕ) → is_source_up m (fault_state m acts x kind) ≡ is_source_up m x
fault-source m true x kind = split (eqb kind 1) (λ e. rw e (source-still m x by_link_down)) (λ e. rw e (source-still m x by_lock_report))
fault-source m false x kind = refl

-- so it leaves the loss
module _ (r : Session) (u : ℕ) (f : Fault) where
  abbrev faulted : State
  faulted = fault_state (mode_in r.settings) (acts_on r.settings f) (state_at r u) f.kind

  taken-locked : locked_in (fault_taken r u f) ≡ locked_in (settled r u)
  unfolding fault_taken settled
  taken-locked =
      ap is_locked (state-stored faulted)
      ∙ fault-locked (mode_in r.settings) (acts_on r.settings f) (state_at r u) f.kind
      ∙ sym (ap is_locked (state-stored (state_at r u)))

  taken-source : source_up_in (fault_taken r u f) ≡ source_up_in (settled r u)
  unfolding fault_taken settled
  taken-source =
      ap (is_source_up (mode_in r.settings)) (state-stored faulted)
      ∙ fault-source (mode_in r.settings) (acts_on r.settings f) (state_at r u) f.kind
      ∙ sym (ap (is_source_up (mode_in r.settings)) (state-stored (state_at r u)))

  fault-loss : loss_at (fault_taken r u f) u ≡ loss_at (settled r u) u
  unfolding loss_at fault_taken settled
  fault-loss = λ i. not (taken-locked i) && (not (taken-source i) && past r.timed (detection_time r.settings.period r.peer.multiplier) u)

  fault-group : group_at (fault_taken r u f) u ≡ group_at r u
  unfolding group_at fault_taken
  fault-group = looked-twice (loss_at (fault_taken r u f) u) (loss_at r u) r.group (λ e. sym (fault-loss ∙ settled-loss r u u) ∙ e)

-- a record altered that has the group that it had
kept_in : (u : ℕ) (f : Session → Session) → ((r : Session) → has_group (f r) ≡ has_group r) → ((r : Session) → group_at (f r) u ≡ group_at r u) → (o : Option Session)
    → group_in u o ≡ group_in u (map f o)
kept_in u f j k none = refl
kept_in u f j k (some r) = λ i. cond (sym (j r) i) (some (sym (k r) i)) none

pub locked-in : (u : ℕ) (o : Option Session) → group_in u o ≡ group_in u (map (λ r. locked_at r u) o)
locked-in u o = kept_in u (λ r. locked_at r u) (λ r. unfold locked_at group_at in refl) (λ r. locked-group r u) o

pub unlocked-in : (u : ℕ) (o : Option Session) → group_in u o ≡ group_in u (map (λ r. unlocked_at r u) o)
unlocked-in u o = kept_in u (λ r. unlocked_at r u) (λ r. unfold unlocked_at group_at in refl) (λ r. unlocked-group r u) o

pub written_in : (u : ℕ) (o : Option Session) → group_in u o ≡ group_in u (map reply_settled o)
written_in u o = kept_in u reply_settled (λ r. unfold reply_settled in refl) (λ r. written-group r u) o

-- and one that has received a message
received-at : (r : Session) (u : ℕ) (x : Received) → group_at (received_by r u x) u ≡ cond (is_crossed x) (crossed_by (group_at r u)) (group_at r u)
received-at r u CrossedMessage = crossed-group r u
received-at r u (HeardCc p) = heard-cc-group r u p
received-at r u HeardCv = heard-cv-group r u
received-at r u (FaultMessage f) = fault-group r u f

pub received-in : (r : Session) (u : ℕ) (x : Received) → changed_if (is_crossed x) crossed_by (group_in u (some r)) ≡ group_in u (some (received_by r u x))
received-in r u x =
    split (has_group r)
    (λ e. rw e (split (is_crossed x) (λ c. rw c (ap some (sym (received-at r u x ∙ rw c)) ∙ shown e)) (λ c. rw c (ap some (sym (received-at r u x ∙ rw c)) ∙ shown e))))
    (λ e. rw e (split (is_crossed x) (λ c. rw c (hidden e)) (λ c. rw c (hidden e))))
  where
    has : has_group (received_by r u x) ≡ has_group r
    has = ap (λ (n : ℕ). eqb n 1) (received-group r u x).0

    shown : has_group r ≡ true → some (group_at (received_by r u x) u) ≡ group_in u (some (received_by r u x))
    shown e = ap (λ (b : Bool). cond b (some (group_at (received_by r u x) u)) none) (sym (has ∙ e))

    hidden : has_group r ≡ false → none ≡ group_in u (some (received_by r u x))
    hidden e = ap (λ (b : Bool). cond b (some (group_at (received_by r u x) u)) none) (sym (has ∙ e))
