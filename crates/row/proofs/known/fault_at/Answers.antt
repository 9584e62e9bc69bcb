-- The calls come to `at_place`, at what this message does with a record.
use Prim.Native.Nat.{ℕ}
use mathlib.Core.List.{List}
use Rattle.session.specs.declared.Session.{Session}
use Rattle.session.specs.declared.acts.Faulted.{Faulted}
use Rattle.session.specs.Live.{fault_acted, with_fault}
use Rattle.step.specs.declared.Arrival.{Arrival}
use Rattle.step.specs.declared.Outcome.{Outcome}
use Rattle.step.specs.Arriving.{message_in, met_at, unmet_of, received_of}
use Rattle.table.specs.Table.{absent}
use Rattle.walks.proofs.AtPlace.{unmet-there, done-there}
use Rattle.row.proofs.known.fault_at.Goals as goal

abbrev act : Session → Arrival → List ℕ → Faulted
act r y octets = fault_acted r (message_in y octets) y.reading

abbrev said : Arrival → Faulted → Outcome
said y f = received_of y f.answer

pub returns-then-place-row : goal.returns-then-place-row
returns-then-place-row c =
    unmet-there met_at unmet_of act with_fault said absent c.args.row.now c.args.x c.args.m.now c.met_at-place.result c.met_at-place.ensures c.if-place-row.true c.unmet.result c.unmet.ensures

pub returns : goal.returns
returns c =
    done-there met_at unmet_of act with_fault said absent c.args.row.now c.args.x c.args.m.now c.met_at-place.result c.met_at-place.ensures c.if-place-row.false _
    c.fault_met-f.result c.fault_met-f.ensures c.with_fault.result c.with_fault.ensures c.fault_said.result c.fault_said.ensures
