-- The story of a session: its opening, and the accepted calls on its label since that alter something, the latest last; and what each
-- message was to it.
-- Assumes nothing.
use Rattle.std.specs.Prelude.{ℕ, Bool, true, false}
use Rattle.message.specs.declared.Message.{Message}
use Rattle.rules.specs.declared.Settings.{Settings}
use Rattle.rules.specs.declared.Received.{Received}
use Rattle.rules.specs.declared.Received.TheVariants.{CrossedMessage, HeardCc, HeardCv, FaultMessage}
use Rattle.rules.specs.Received.{received_as}

pub data Story : Type 0 where
  opened : (settings : Settings) (reading : ℕ) → Story
  lock : Story → (reading : ℕ) → Story
  unlock : Story → (reading : ℕ) → Story
  got : Story → (message : Message) (reading : ℕ) → Story
  wrote_cc : Story → Story

-- the opening gives the settings
unfoldable pub settings_of : Story → Settings
settings_of (opened g t) = g
settings_of (lock s t) = settings_of s
settings_of (unlock s t) = settings_of s
settings_of (got s m t) = settings_of s
settings_of (wrote_cc s) = settings_of s

-- crossed, heard CC, heard CV or fault, by the session's settings
abbrev pub was_to : Story → Message → Received
was_to s m = received_as (settings_of s) m

abbrev pub is_crossed : Received → Bool
is_crossed CrossedMessage = true
is_crossed (HeardCc p) = false
is_crossed HeardCv = false
is_crossed (FaultMessage f) = false

-- heard: any accepted BFD message that is not crossed
abbrev pub is_heard : Received → Bool
is_heard CrossedMessage = false
is_heard (HeardCc p) = true
is_heard HeardCv = true
is_heard (FaultMessage f) = false
