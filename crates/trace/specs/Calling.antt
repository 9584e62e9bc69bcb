-- One record of a tracing by its parts: what is noted, and what is known behind it. This is what the code is proved to do.
-- Assumes nothing.
use Rattle.std.specs.Prelude.{ℕ, cond, ◌&&◌, List, eqb}
use Rattle.std.proofs.lemmas.List.Edits.{sets}
use Rattle.session.specs.declared.Session.{Session}
use Rattle.capture.specs.declared.Record.{Record}
use Rattle.capture.specs.Lines.{numbered}
use Rattle.feed.specs.declared.Fed.{Fed}
use Rattle.feed.specs.Watching.{Carried, Behind}
use Rattle.cause.specs.declared.Noted.{Noted}
use Rattle.cause.specs.Noting.{noted, kept_after}
use Rattle.cause.specs.Records.{record_noted}
use Rattle.trace.specs.declared.Tracing.{Tracing}
use Rattle.trace.specs.Tracing.{more_of}

-- the tracing as a loop over the records of one label
abbrev pub traced : Carried Tracing
traced =
    record {
      fed = λ x. x.fed;
      label = λ x. x.label;
      more = more_of;
      after = λ x f t c. record { fed = f; upto = x.upto; marks = noted x.label x.marks (numbered x.fed.number) t c; label = x.label };
      kept = λ x kept t c. kept_after x.label kept t c;
    }

-- what the record notes where it is accepted
abbrev pub note_of : Tracing → Session → Record → List ℕ → Noted
note_of x before r body = record_noted before x.label x.marks (numbered x.fed.number) r body

-- what is known behind a record, and what is kept
unfoldable pub kept_by : Tracing → Fed → ℕ → Noted → List ℕ → List ℕ → Behind Tracing
kept_by x f answer n body kept =
    record {
      carried = record { fed = f; upto = x.upto; marks = cond (eqb answer 0) n.marks x.marks; label = x.label };
      kept = cond (eqb answer 0 && n.crossed) (sets kept 0 body) kept;
    }
