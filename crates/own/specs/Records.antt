-- The record of a label kept by itself, and what an accepted record of a log makes of it. This is what the code is proved to do; `proofs/Followed.antt` says that it is
-- what the table's step leaves of the label.
-- Assumes nothing.
use Rattle.std.specs.Prelude.{ℕ, cond, List, eqb}
use Rattle.std.proofs.Math.Option.{Option, none, some}
use Rattle.session.specs.declared.Session.{Session}
use Rattle.session.specs.Steps.{new_session, locked_at, unlocked_at, reply_settled}
use Rattle.session.specs.Live.{received_record}
use Rattle.table.specs.Table.{absent}
use Rattle.capture.specs.declared.Record.{Record}
use Rattle.capture.specs.Records.{settings_in}

-- a record whose label is 0 is none: no session has that label
abbrev pub held_in : Session → Option Session
held_in s = cond (eqb s.settings.label 0) none (some s)

-- an act on an open session, by its kind: 3 lock, 4 unlock, 5 receive, 7 write CC. A report and a write CV leave it
unfoldable pub effect_by : Session → Record → List ℕ → Session
effect_by s r body =
    cond (eqb r.kind 3) (locked_at s r.time)
    (cond (eqb r.kind 4) (unlocked_at s r.time)
    (cond (eqb r.kind 5) (received_record s body r.time)
    (cond (eqb r.kind 7) (reply_settled s) s)))

-- a record of the label: 1 open, 2 close; of none an act leaves none
unfoldable pub own_by : Session → Record → List ℕ → Session
own_by s r body =
    cond (eqb r.kind 1) (new_session (settings_in r.label body) r.time)
    (cond (eqb r.kind 2) absent
    (cond (eqb s.settings.label 0) s (effect_by s r body)))

-- any record: a tick, kind 0, and what is called on another label leave it
unfoldable pub record_after : Record → List ℕ → ℕ → Session → Session
record_after r body l s = cond (eqb r.kind 0) s (cond (eqb r.label l) (own_by s r body) s)
