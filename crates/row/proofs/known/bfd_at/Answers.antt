-- The calls come to `at_place`, at what this message does with a record.
use Prim.Native.Nat.{ℕ}
use mathlib.Core.List.{List}
use Rattle.session.specs.declared.Session.{Session}
use Rattle.session.specs.declared.acts.Acted.{Acted}
use Rattle.session.specs.Live.{bfd_acted, with_live}
use Rattle.step.specs.declared.Arrival.{Arrival}
use Rattle.step.specs.declared.Outcome.{Outcome}
use Rattle.step.specs.Arriving.{message_in, met_at, unmet_of, received_of}
use Rattle.table.specs.Table.{absent}
use Rattle.walks.proofs.AtPlace.{unmet-there, done-there}
use Rattle.row.proofs.known.bfd_at.Goals as goal

abbrev act : Session → Arrival → List ℕ → Acted
act r y octets = bfd_acted r (message_in y octets) y.reading

abbrev said : Arrival → Acted → Outcome
said y a = received_of y a.answer

pub returns-then-place-row : goal.returns-then-place-row
returns-then-place-row c =
    unmet-there met_at unmet_of act with_live said absent c.args.row.now c.args.x c.args.m.now c.met_at-place.result c.met_at-place.ensures c.if-place-row.true c.unmet.result c.unmet.ensures

pub returns : goal.returns
returns c =
    done-there met_at unmet_of act with_live said absent c.args.row.now c.args.x c.args.m.now c.met_at-place.result c.met_at-place.ensures c.if-place-row.false _
    c.bfd_met-a.result c.bfd_met-a.ensures c.with_live.result c.with_live.ensures c.bfd_said.result c.bfd_said.ensures
