-- A log has no call on a group: of a record that has none, every record of a log leaves one that has none.
-- Assumes nothing.
use Prim.Native.Nat.{ℕ}
use mathlib.Core.Path.{◌≡◌, refl, ap, ◌∙◌}
use mathlib.Core.Bool.{Bool, true, false}
use mathlib.Core.List.{List}
use lib.Dec.{eqb}
use Rattle.message.specs.Message.{message_of}
use Rattle.rules.specs.declared.Received.{Received}
use Rattle.rules.specs.declared.Received.TheVariants.{CrossedMessage, HeardCc, HeardCv, FaultMessage}
use Rattle.rules.specs.Received.{received_as}
use Rattle.rules.proofs.Bools.{split}
use Rattle.homing.specs.Groups.{no_group, fallen, crossed_by}
use Rattle.session.specs.declared.Session.{Session}
use Rattle.session.specs.Queries.{loss_at, group_at}
use Rattle.session.specs.Steps.{new_session, locked_at, unlocked_at, heard_cc, heard_cv, crossed_at, fault_taken, reply_settled}
use Rattle.session.specs.Reception.{received_by}
use Rattle.session.specs.Live.{received_number, received_record}
use Rattle.table.specs.Table.{absent}
use Rattle.capture.specs.declared.Record.{Record}
use Rattle.own.specs.Records.{effect_by, own_by, record_after}

-- a loss makes nothing of no group
fallen-none : (loss : Bool) → fallen loss no_group ≡ no_group
fallen-none true = refl
fallen-none false = refl

-- the record has no group
abbrev pub Ungrouped : Session → Type 0
Ungrouped s = s.group ≡ no_group

pub absent-ungrouped : Ungrouped absent
unfolding new_session
absent-ungrouped = refl

module _ (s : Session) (none : Ungrouped s) where
  at_none : (u : ℕ) → group_at s u ≡ no_group
  unfolding group_at
  at_none u = ap (fallen (loss_at s u)) none ∙ fallen-none (loss_at s u)

  -- a message that is received
  received_none : (u : ℕ) (x : Received) → Ungrouped (received_by s u x)
  received_none u CrossedMessage = unfold crossed_at in ap crossed_by (at_none u)
  received_none u (HeardCc p) = unfold heard_cc in at_none u
  received_none u HeardCv = unfold heard_cv in at_none u
  received_none u (FaultMessage f) = unfold fault_taken in at_none u

  message-none : (m : List ℕ) (u : ℕ) → Ungrouped (received_record s m u)
  unfolding received_record
  message-none m u =
      split (eqb (received_number s m u) 0)
      (λ e. rw e (received_none u (received_as s.settings (message_of m))))
      (λ e. rw e none)

  module _ (r : Record) (body : List ℕ) where
    -- an act on an open session
    effect-none : Ungrouped (effect_by s r body)
    unfolding effect_by
    effect-none =
        split (eqb r.kind 3)
        (λ e. rw e (unfold locked_at in at_none r.time))
        (λ three. split (eqb r.kind 4)
        (λ e. rw (three, e) (unfold unlocked_at in at_none r.time))
        (λ four. split (eqb r.kind 5)
        (λ e. rw (three, four, e) (message-none body r.time))
        (λ five. split (eqb r.kind 7)
        (λ e. rw (three, four, five, e) (unfold reply_settled in none))
        (λ seven. rw (three, four, five, seven) none))))

    -- a record of the label, no tick
    own-none : Ungrouped (own_by s r body)
    unfolding own_by
    own-none =
        split (eqb r.kind 1)
        (λ e. rw e (unfold new_session in refl))
        (λ one. split (eqb r.kind 2)
        (λ e. rw (one, e) absent-ungrouped)
        (λ two. split (eqb s.settings.label 0)
        (λ e. rw (one, two, e) none)
        (λ h. rw (one, two, h) effect-none)))

    -- any record of a log
    pub record-ungrouped : (l : ℕ) → Ungrouped (record_after r body l s)
    unfolding record_after
    record-ungrouped l =
        split (eqb r.kind 0)
        (λ e. rw e none)
        (λ zero. split (eqb r.label l) (λ e. rw (zero, e) own-none) (λ e. rw (zero, e) none))
