-- What a message that was read is to the session of its label: crossed, heard, or a fault message.
-- Assumes nothing.
use Rattle.std.specs.Prelude.{ℕ, Bool, not, ◌&&◌, ◌||◌, cond, eqb}
use Rattle.cv.specs.declared.MepId.{MepId}
use Rattle.cv.specs.MepId.{same_mep_id}
use Rattle.message.specs.declared.Message.{Message}
use Rattle.message.specs.declared.Message.TheVariants.{ContinuityCheck, ConnectivityVerification, FaultManagement}
use Rattle.rules.specs.declared.Settings.{Settings}
use Rattle.rules.specs.declared.Received.{Received}
use Rattle.rules.specs.declared.Received.TheVariants.{CrossedMessage, HeardCc, HeardCv, FaultMessage}

-- a Your Discriminator that is neither 0 nor the session's own
abbrev pub foreign : ℕ → ℕ → Bool
foreign own your = not (eqb your 0) && not (eqb your own)

-- a CC or CV is crossed if its Your Discriminator is foreign, or if a CV's MEP-ID is not the expected one; else it is heard
unfoldable pub received_as : Settings → Message → Received
received_as s (ContinuityCheck p) = cond (foreign s.discriminator p.your) CrossedMessage (HeardCc p)
received_as s (ConnectivityVerification p id) =
    cond (foreign s.discriminator p.your || not (same_mep_id id s.expected)) CrossedMessage HeardCv
received_as s (FaultManagement f) = FaultMessage f
