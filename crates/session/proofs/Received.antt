-- A message that is not refused keeps a sound record sound at its reading, and its settings as they were.
-- Assumes nothing.
use Prim.Native.Nat.{ℕ, ◌≤◌}
use mathlib.Core.Path.{◌≡◌, refl}
use mathlib.Core.Bool.{true, not, ◌||◌}
use Rattle.cv.specs.MepId.{same_mep_id}
use Rattle.message.specs.declared.Message.{Message}
use Rattle.message.specs.declared.Message.TheVariants.{ContinuityCheck, ConnectivityVerification, FaultManagement}
use Rattle.message.proofs.Read.{InRange}
use Rattle.rules.specs.declared.Received.{Received}
use Rattle.rules.specs.declared.Received.TheVariants.{CrossedMessage, HeardCc, HeardCv, FaultMessage}
use Rattle.rules.specs.Received.{foreign, received_as}
use Rattle.rules.proofs.Bools.{split}
use Rattle.session.specs.declared.Session.{Session}
use Rattle.session.specs.Steps.{heard_cc, heard_cv, crossed_at, fault_taken}
use Rattle.session.specs.Queries.{group_at}
use Rattle.session.specs.Reception.{received_by}
use Rattle.session.specs.Soundness.{session_sound}
use Rattle.session.proofs.Sound.{heard-cc-sound, heard-cv-sound, crossed-sound, fault-sound}

pub received-sound : (s : Session) (clock reading : ℕ) → clock ≤ reading → session_sound s clock ≡ true → (m : Message) → InRange m
    → session_sound (received_by s reading (received_as s.settings m)) reading ≡ true
unfolding received_as
received-sound s clock reading h sound (ContinuityCheck p) g =
    split (foreign s.settings.discriminator p.your)
    (λ a. rw a (crossed-sound s clock reading h sound))
    (λ a. rw a (heard-cc-sound s clock reading h sound p g.0 g.1 g.2))
received-sound s clock reading h sound (ConnectivityVerification p id) g =
    split (foreign s.settings.discriminator p.your || not (same_mep_id id s.settings.expected))
    (λ a. rw a (crossed-sound s clock reading h sound))
    (λ a. rw a (heard-cv-sound s clock reading h sound))
received-sound s clock reading h sound (FaultManagement f) g = fault-sound s clock reading h sound f g.1 g.2 g.3

pub received-keeps : (s : Session) (reading : ℕ) (x : Received) → (received_by s reading x).settings ≡ s.settings
received-keeps s reading CrossedMessage = unfold crossed_at in refl
received-keeps s reading (HeardCc p) = unfold heard_cc in refl
received-keeps s reading HeardCv = unfold heard_cv in refl
received-keeps s reading (FaultMessage f) = unfold fault_taken in refl

-- and whether it has a group, and of which ID
pub received-group : (s : Session) (reading : ℕ) (x : Received)
    → ((received_by s reading x).group.set ≡ s.group.set) × ((received_by s reading x).group.id ≡ s.group.id)
received-group s reading CrossedMessage = unfold crossed_at group_at in (refl, refl)
received-group s reading (HeardCc p) = unfold heard_cc group_at in (refl, refl)
received-group s reading HeardCv = unfold heard_cv group_at in (refl, refl)
received-group s reading (FaultMessage f) = unfold fault_taken group_at in (refl, refl)
