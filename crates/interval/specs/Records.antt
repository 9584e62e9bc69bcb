-- What the record of a capture is to the label that is asked about, by value: from the session's record before it, as the code has it. It counts only where the call is
-- accepted.
-- Assumes nothing.
use Rattle.std.specs.Prelude.{ℕ, Bool, cond, ◌||◌, List, eqb}
use Rattle.message.specs.Message.{message_of}
use Rattle.rules.specs.Received.{received_as}
use Rattle.session.specs.declared.Session.{Session}
use Rattle.capture.specs.declared.Record.{Record}
use Rattle.interval.specs.Spacing.{Event, Nothing, Forgotten, Heard, if_heard_cc}

-- a CC that is crossed, or heard
abbrev pub cc_event : Bool → ℕ → ℕ → Event
cc_event crossed t period = cond crossed Nothing (Heard t period)

-- a message of octets
abbrev pub message_event : Session → ℕ → List ℕ → Event
message_event before t body = if_heard_cc t before.settings.period (received_as before.settings (message_of body))

-- a record of the label, by its kind: 1 open, 2 close, 3 lock, 5 receive
unfoldable pub own_event : Session → Record → List ℕ → Event
own_event before r body =
    cond (eqb r.kind 1) Forgotten
    (cond (eqb r.kind 2) Forgotten
    (cond (eqb r.kind 3) Forgotten
    (cond (eqb r.kind 5) (message_event before r.time body) Nothing)))

-- a record of any label
unfoldable pub record_event : Session → ℕ → Record → List ℕ → Event
record_event before label r body = cond (eqb r.label label) (own_event before r body) Nothing
