-- What the record of a capture notes, by value: from the session's record before it, as the code has it. It is noted only where the call is accepted.
-- Assumes nothing.
use Rattle.std.specs.Prelude.{ℕ, Bool, true, false, cond, List, eqb, length}
use Rattle.message.specs.Message.{message_of}
use Rattle.rules.specs.Received.{received_as}
use Rattle.rules.specs.declared.Received.{Received}
use Rattle.session.specs.declared.Session.{Session}
use Rattle.session.specs.Queries.{locked_in}
use Rattle.meaning.specs.Stories.{is_crossed}
use Rattle.capture.specs.declared.Record.{Record}
use Rattle.cause.specs.declared.Marks.{Marks}
use Rattle.cause.specs.declared.Noted.{Noted}
use Rattle.cause.specs.declared.Timed.TheVariants.{Unlock as ByUnlock}
use Rattle.cause.specs.Noting.{anew, timed_under, timed_by, crossed_by, received_noted}

-- marks alone: no message is to be kept
abbrev pub marks_only : Marks → Noted
marks_only m = record { marks = m; crossed = false }

-- a CC or CV of so many octets: crossed, or heard
abbrev pub bfd_noted : Marks → ℕ → ℕ → Bool → ℕ → Noted
bfd_noted m n size crossed by = cond crossed (record { marks = crossed_by m n size; crossed = true }) (marks_only (timed_under m n by))

-- a message, by what it is to the session
abbrev pub message_noted : Session → Marks → ℕ → ℕ → ℕ → Received → Noted
message_noted before m n t size x = record { marks = received_noted m n before t size x; crossed = is_crossed x }

-- a record of the label, by its kind: 1 open, 4 unlock, 5 receive
unfoldable pub own_noted : Session → Marks → ℕ → Record → List ℕ → Noted
own_noted before m n r body =
    cond (eqb r.kind 1) (marks_only (anew n))
    (cond (eqb r.kind 4) (marks_only (cond (locked_in before) (timed_by m n ByUnlock) m))
    (cond (eqb r.kind 5) (message_noted before m n r.time (length body) (received_as before.settings (message_of body))) (marks_only m)))

-- a record of any label
unfoldable pub record_noted : Session → ℕ → Marks → ℕ → Record → List ℕ → Noted
record_noted before label m n r body = cond (eqb r.label label) (own_noted before m n r body) (marks_only m)
