-- What a message notes by its channel: a CC and a CV as crossed or heard, any other as a fault message.
-- Assumes nothing.
use Prim.Native.Nat.{ℕ}
use mathlib.Core.Path.{◌≡◌, refl}
use mathlib.Core.Bool.{Bool, true, false, cond, not, ◌||◌}
use mathlib.Core.List.{List}
use lib.ListN.{length}
use borrow.Author.Tests.{eq-eqb, ne_eqb}
use Rattle.octets.specs.Numbers.{number_at}
use Rattle.gach.specs.Header.{cc_channel, cv_channel, channel_of}
use Rattle.bfd.specs.declared.Packet.{Packet}
use Rattle.bfd.specs.Packet.{packet_of}
use Rattle.cv.specs.MepId.{mep_id_at, same_mep_id}
use Rattle.cv.specs.Cv.{mep_part}
use Rattle.fault.specs.Message.{fault_of}
use Rattle.message.specs.Message.{message_of}
use Rattle.rules.specs.Conditions.{key_of}
use Rattle.rules.specs.Received.{foreign, received_as}
use Rattle.rules.specs.declared.Received.TheVariants.{CrossedMessage, HeardCc, HeardCv}
use Rattle.conditions.specs.Taking.{taken_in}
use Rattle.session.specs.declared.Session.{Session}
use Rattle.cause.specs.declared.Marks.{Marks}
use Rattle.cause.specs.declared.Noted.{Noted}
use Rattle.cause.specs.Noting.{placed_by}
use Rattle.cause.specs.Records.{marks_only, bfd_noted, message_noted}

-- where Your stands in a CC or CV
pub your-at : (b : List ℕ) → number_at 4 b 12 ≡ (packet_of b).your
unfolding packet_of
your-at b = refl

module _ (s : Session) (m : Marks) (n t : ℕ) where
  by-cc : (size : ℕ) (p : Packet) (x : Bool) → message_noted s m n t size (cond x CrossedMessage (HeardCc p)) ≡ bfd_noted m n size x 2
  by-cc size p true = refl
  by-cc size p false = refl

  by-cv : (size : ℕ) (x : Bool) → message_noted s m n t size (cond x CrossedMessage HeardCv) ≡ bfd_noted m n size x 3
  by-cv size true = refl
  by-cv size false = refl

  abbrev whole_noted : List ℕ → Noted
  whole_noted b = message_noted s m n t (length b) (received_as s.settings (message_of b))

  pub cc-noted : (b : List ℕ) → channel_of b ≡ cc_channel → whole_noted b ≡ bfd_noted m n (length b) (foreign s.settings.discriminator (packet_of b).your) 2
  unfolding message_of received_as
  cc-noted b e = rw (eq-eqb (channel_of b) cc_channel e) (by-cc (length b) (packet_of b) (foreign s.settings.discriminator (packet_of b).your))

  pub cv-noted :
      (b : List ℕ) → (channel_of b ≡ cc_channel → ⊥) → channel_of b ≡ cv_channel
      → whole_noted b
      ≡ bfd_noted m n (length b) (foreign s.settings.discriminator (packet_of b).your || not (same_mep_id (mep_id_at (mep_part b) 0) s.settings.expected)) 3
  unfolding message_of received_as
  cv-noted b d e =
      rw (ne_eqb (channel_of b) cc_channel d, eq-eqb (channel_of b) cv_channel e)
      (by-cv (length b) (foreign s.settings.discriminator (packet_of b).your || not (same_mep_id (mep_id_at (mep_part b) 0) s.settings.expected)))

  pub fault-noted :
      (b : List ℕ) → (channel_of b ≡ cc_channel → ⊥) → (channel_of b ≡ cv_channel → ⊥)
      → whole_noted b ≡ marks_only (placed_by m (taken_in s.conditions (fault_of b) t) (key_of (fault_of b)) n)
  unfolding message_of received_as
  fault-noted b d e = rw (ne_eqb (channel_of b) cc_channel d, ne_eqb (channel_of b) cv_channel e)
