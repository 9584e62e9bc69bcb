-- A DHC message on a group's DNI-PW, and another message on its service PW or another DHC message, of one reading: what they make of the
-- group's record they make of it in either order.
-- Assumes nothing.
use Prim.Native.Nat.{ℕ, ◌+◌}
use native.Mathlib.Omega.{arith}
use mathlib.Core.Path.{◌≡◌, refl, sym, ap, ◌∙◌}
use mathlib.Core.Bool.{Bool, true, false, not, ◌&&◌}
use mathlib.Core.List.{List}
use lib.Dec.{eqb}
use borrow.Author.Tests.{le-ltb}
use Rattle.coordination.specs.declared.Dhc.{Dhc}
use Rattle.bfd.specs.declared.Packet.{Packet}
use Rattle.fault.specs.declared.Fault.{Fault}
use Rattle.message.specs.Message.{message_of}
use Rattle.rules.specs.declared.Received.{Received}
use Rattle.rules.specs.declared.Received.TheVariants.{CrossedMessage, HeardCc, HeardCv, FaultMessage}
use Rattle.rules.specs.Received.{received_as}
use Rattle.rules.specs.declared.Settings.{Settings}
use Rattle.rules.specs.declared.State.{State}
use Rattle.rules.specs.declared.Input.TheVariants.{Timer, Crossed}
use Rattle.rules.specs.Times.{past, detection_time}
use Rattle.rules.specs.States.{is_locked, stored, state_of}
use Rattle.rules.specs.Modes.{mode_in, moved_in, is_source_up}
use Rattle.rules.specs.Conditions.{acts_on, fault_input, fault_state}
use Rattle.rules.proofs.Bools.{split, no_way}
use Rattle.rules.proofs.Failing.{and_right}
use Rattle.rules.proofs.States.{state-stored, moved-locked, by_timer, by_link_down, by_lock_report, by_crossed, source-still}
use Rattle.homing.specs.declared.Group.{Group}
use Rattle.homing.specs.Groups.{fallen, crossed_by}
use Rattle.homing.specs.Messages.{coordinated}
use Rattle.homing.specs.Events.{SameGroup}
use Rattle.homing.proofs.Orders.{message-loss, message-message, meets-heard, meets-crossed}
use Rattle.session.specs.declared.Session.{Session}
use Rattle.session.specs.Queries.{locked_in, source_up_in, loss_at, crossing_at, defect_at, held_at, state_at, group_at}
use Rattle.session.specs.Steps.{heard_cc, heard_cv, crossed_at, fault_taken}
use Rattle.session.specs.Reception.{received_answer, received_by}
use Rattle.table.specs.Table.{receiving}
use Rattle.grouping.specs.Grouped.{with_group, coordinated_in}

module _ (r : Session) (u : ℕ) where
  -- TIMER neither locks nor unlocks, and makes no source UP nor takes it from there
  state-locked : is_locked (state_at r u) ≡ locked_in r
  unfolding state_at
  state-locked = split (loss_at r u) (λ e. rw e (moved-locked (mode_in r.settings) (state_of r.state) Timer)) (λ e. rw e)

  state-source : is_source_up (mode_in r.settings) (state_at r u) ≡ source_up_in r
  unfolding state_at
  state-source = split (loss_at r u) (λ e. rw e (source-still (mode_in r.settings) (state_of r.state) by_timer)) (λ e. rw e)

  -- a state that keeps both, with the dates as they were, keeps the loss
  abbrev loss_in : State → Bool
  loss_in s =
      not (is_locked s)
      && (not (is_source_up (mode_in r.settings) s) && past r.timed (detection_time r.settings.period r.peer.multiplier) u)

  loss-kept : (s : State) → is_locked s ≡ is_locked (state_at r u) → is_source_up (mode_in r.settings) s ≡ is_source_up (mode_in r.settings) (state_at r u)
      → loss_in (state_of (stored s)) ≡ loss_at r u
  unfolding loss_at
  loss-kept s a b =
      ap loss_in (state-stored s)
      ∙ (λ i. not ((a ∙ state-locked) i) && (not ((b ∙ state-source) i) && past r.timed (detection_time r.settings.period r.peer.multiplier) u))

  crossed-loss-kept : loss_at (crossed_at r u) u ≡ loss_at r u
  unfolding crossed_at
  crossed-loss-kept =
      unfold loss_at in
      loss-kept (moved_in (mode_in r.settings) (state_at r u) Crossed) (moved-locked (mode_in r.settings) (state_at r u) Crossed)
      (source-still (mode_in r.settings) (state_at r u) by_crossed)

  fault-locked : (acts : Bool) (s : State) (kind : ℕ) → is_locked (fault_state (mode_in r.settings) acts s kind) ≡ is_locked s
  fault-locked true s kind = moved-locked (mode_in r.settings) s (fault_input kind)
  fault-locked false s kind = refl

  fault-source : (acts : Bool) (s : State) (kind : ℕ)
      → is_source_up (mode_in r.settings) (fault_state (mode_in r.settings) acts s kind) ≡ is_source_up (mode_in r.settings) s
  fault-source true s kind =
      split (eqb kind 1)
      (λ e. rw e (source-still (mode_in r.settings) s by_link_down))
      (λ e. rw e (source-still (mode_in r.settings) s by_lock_report))
  fault-source false s kind = refl

  fault-loss-kept : (f : Fault) → loss_at (fault_taken r u f) u ≡ loss_at r u
  unfolding fault_taken
  fault-loss-kept f =
      unfold loss_at in
      loss-kept (fault_state (mode_in r.settings) (acts_on r.settings f) (state_at r u) f.kind)
      (fault-locked (acts_on r.settings f) (state_at r u) f.kind)
      (fault-source (acts_on r.settings f) (state_at r u) f.kind)

  -- a message that is heard leaves none at its own reading
  past-none : (span : ℕ) → past u span u ≡ false
  unfolding past
  past-none span = le-ltb (u + span) u (omega arith)

  heard-cc-none : (p : Packet) → loss_at (heard_cc r u p) u ≡ false
  unfolding heard_cc loss_at
  heard-cc-none p =
      and_right (not (locked_in (heard_cc r u p)))
      (and_right (not (source_up_in (heard_cc r u p))) (past-none (detection_time r.settings.period p.multiplier)))

  heard-cv-none : loss_at (heard_cv r u) u ≡ false
  unfolding heard_cv loss_at
  heard-cv-none =
      and_right (not (locked_in (heard_cv r u)))
      (and_right (not (source_up_in (heard_cv r u))) (past-none (detection_time r.settings.period r.peer.multiplier)))

  -- a loss that is found behind a message was there before
  pub found_before : (x : Received) → loss_at (received_by r u x) u ≡ true → loss_at r u ≡ true
  found_before CrossedMessage e = sym crossed-loss-kept ∙ e
  found_before (HeardCc p) e = no_way e (heard-cc-none p)
  found_before HeardCv e = no_way e heard-cv-none
  found_before (FaultMessage f) e = sym (fault-loss-kept f) ∙ e

  -- no record's group is looked at by a message that it receives, but to move it
  module _ (d : Dhc) where
    abbrev taken : Session
    taken = coordinated_in d u r

    -- the group that is left where the DHC message came first
    abbrev meeting : Group
    meeting = fallen (loss_at r u) (coordinated d (fallen (loss_at r u) r.group))

    crossed-regrouped : crossed_at taken u ≡ with_group (crossed_by meeting) (crossed_at r u)
    unfolding crossed_at coordinated_in with_group state_at loss_at group_at
    crossed-regrouped = refl

    heard-cc-regrouped : (p : Packet) → heard_cc taken u p ≡ with_group meeting (heard_cc r u p)
    unfolding heard_cc coordinated_in with_group state_at loss_at group_at held_at defect_at crossing_at
    heard-cc-regrouped p = refl

    heard-cv-regrouped : heard_cv taken u ≡ with_group meeting (heard_cv r u)
    unfolding heard_cv coordinated_in with_group state_at loss_at group_at
    heard-cv-regrouped = refl

    fault-regrouped : (f : Fault) → fault_taken taken u f ≡ with_group meeting (fault_taken r u f)
    unfolding fault_taken coordinated_in with_group state_at loss_at group_at
    fault-regrouped f = refl

    -- and the one that is left where it came second
    abbrev second : Received → Group
    second x = coordinated d (group_at (received_by r u x) u)

    second-crossed : second CrossedMessage ≡ crossed_by meeting
    unfolding group_at crossed_at
    second-crossed = meets-crossed d (loss_at r u) (loss_at (crossed_at r u) u) (found_before CrossedMessage) r.group

    second-heard-cc : (p : Packet) → second (HeardCc p) ≡ meeting
    unfolding group_at heard_cc
    second-heard-cc p = meets-heard d (loss_at r u) (loss_at (heard_cc r u p) u) (found_before (HeardCc p)) r.group

    second-heard-cv : second HeardCv ≡ meeting
    unfolding group_at heard_cv
    second-heard-cv = meets-heard d (loss_at r u) (loss_at (heard_cv r u) u) (found_before HeardCv) r.group

    second-fault : (f : Fault) → second (FaultMessage f) ≡ meeting
    unfolding group_at fault_taken
    second-fault f = meets-heard d (loss_at r u) (loss_at (fault_taken r u f) u) (found_before (FaultMessage f)) r.group

    -- so one record is left
    pub received-coordinated : (x : Received) → received_by (coordinated_in d u r) u x ≡ coordinated_in d u (received_by r u x)
    received-coordinated CrossedMessage =
        crossed-regrouped ∙ ap (λ (g : Group). with_group g (crossed_at r u)) (sym second-crossed) ∙ (unfold coordinated_in in refl)
    received-coordinated (HeardCc p) =
        heard-cc-regrouped p ∙ ap (λ (g : Group). with_group g (heard_cc r u p)) (sym (second-heard-cc p)) ∙ (unfold coordinated_in in refl)
    received-coordinated HeardCv =
        heard-cv-regrouped ∙ ap (λ (g : Group). with_group g (heard_cv r u)) (sym second-heard-cv) ∙ (unfold coordinated_in in refl)
    received-coordinated (FaultMessage f) =
        fault-regrouped f ∙ ap (λ (g : Group). with_group g (fault_taken r u f)) (sym (second-fault f)) ∙ (unfold coordinated_in in refl)

    -- what it is answered is no matter of its group either
    pub answer-coordinated : (x : Received) → received_answer (coordinated_in d u r) u x ≡ received_answer r u x
    unfolding coordinated_in with_group
    answer-coordinated CrossedMessage = refl
    answer-coordinated (HeardCc p) = refl
    answer-coordinated HeardCv = refl
    answer-coordinated (FaultMessage f) = refl

    pub coordinated-settings : (coordinated_in d u r).settings ≡ r.settings
    unfolding coordinated_in with_group
    coordinated-settings = refl

    pub coordinated-same : SameGroup r.group (coordinated_in d u r).group
    unfolding coordinated_in with_group group_at
    coordinated-same = record { id = refl; peer = refl; dni = refl; set = refl; role = refl }

  -- two DHC messages: with TIMER before each
  messages-looked : (d f : Dhc) (loss : Bool) (g : Group) → coordinated d (fallen loss (coordinated f (fallen loss g))) ≡ coordinated d (coordinated f (fallen loss (fallen loss g)))
  messages-looked d f loss g = ap (coordinated d) (sym (message-loss f loss (fallen loss g)))

  pub coordinated-coordinated : (d f : Dhc) → coordinated_in d u (coordinated_in f u r) ≡ coordinated_in f u (coordinated_in d u r)
  unfolding coordinated_in with_group loss_at group_at
  coordinated-coordinated d f =
      ap (λ (g : Group). with_group g r)
      (messages-looked d f (loss_at r u) r.group
      ∙ message-message d f (fallen (loss_at r u) (fallen (loss_at r u) r.group))
      ∙ sym (messages-looked f d (loss_at r u) r.group))

  pub received-same : (x : Received) → SameGroup r.group (received_by r u x).group
  unfolding group_at
  received-same CrossedMessage = unfold crossed_at in record { id = refl; peer = refl; dni = refl; set = refl; role = refl }
  received-same (HeardCc p) = unfold heard_cc in record { id = refl; peer = refl; dni = refl; set = refl; role = refl }
  received-same HeardCv = unfold heard_cv in record { id = refl; peer = refl; dni = refl; set = refl; role = refl }
  received-same (FaultMessage f) = unfold fault_taken in record { id = refl; peer = refl; dni = refl; set = refl; role = refl }

-- a message as its octets, to the session of its label
pub receiving-coordinated : (m : List ℕ) (d : Dhc) (u : ℕ) (r : Session) → receiving m u (coordinated_in d u r) ≡ coordinated_in d u (receiving m u r)
receiving-coordinated m d u r =
    ap (λ (g : Settings). received_by (coordinated_in d u r) u (received_as g (message_of m))) (coordinated-settings r u d)
    ∙ received-coordinated r u d (received_as r.settings (message_of m))
