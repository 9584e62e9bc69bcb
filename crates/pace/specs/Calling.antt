-- One record of a pacing by its parts: what is kept, and what is known behind it. This is what the code is proved to do.
-- Assumes nothing.
use Rattle.std.specs.Prelude.{ℕ, Bool, cond, ◌&&◌, ◌||◌, List, eqb}
use Rattle.session.specs.declared.Session.{Session}
use Rattle.capture.specs.declared.Record.{Record}
use Rattle.feed.specs.declared.Fed.{Fed}
use Rattle.feed.specs.Watching.{Carried, Behind}
use Rattle.interval.specs.declared.Pace.{Pace}
use Rattle.interval.specs.declared.Event.TheVariants.{Forgotten}
use Rattle.interval.specs.Records.{record_event}
use Rattle.interval.specs.Pacing.{paced_by, paced}
use Rattle.pace.specs.declared.Pacing.{Pacing}
use Rattle.pace.specs.Pacing.{more_of}

-- the pacing as a loop over the records of one label: the buffer stays as it is
abbrev pub pacing_by : Carried Pacing
pacing_by =
    record {
      fed = λ x. x.fed;
      label = λ x. x.label;
      more = more_of;
      after = λ x f t c. record { fed = f; pace = paced x.label x.pace t c; label = x.label };
      kept = λ x kept t c. kept;
    }

-- what is kept of the label where the record is accepted
abbrev pub note_of : Pacing → Session → Record → List ℕ → Pace
note_of x before r body = paced_by x.pace (record_event before x.label r body)

-- an open, a close or a lock of the label
unfoldable pub forgets_of : ℕ → Record → Bool
forgets_of l r = eqb r.label l && (eqb r.kind 1 || (eqb r.kind 2 || eqb r.kind 3))

-- the same of a record that brings no message, from the record alone
unfoldable pub plain_note : Pacing → Record → Pace
plain_note x r = cond (forgets_of x.label r) (paced_by x.pace Forgotten) x.pace

-- what is known behind a record
unfoldable pub kept_by : Pacing → Fed → ℕ → Pace → List ℕ → List ℕ → Behind Pacing
kept_by x f answer n body kept = record { carried = record { fed = f; pace = cond (eqb answer 0) n x.pace; label = x.label }; kept = kept }
