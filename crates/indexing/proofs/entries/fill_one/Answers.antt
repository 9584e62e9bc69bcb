use mathlib.Core.Path.{refl}
use Rattle.table.specs.Table.{absent}
use Rattle.session.specs.declared.Session.{Session}
use Rattle.indexing.specs.declared.Filling.{Filling}
use Rattle.indexing.specs.Filling.{entry_at, stopped, filled_by}
use Rattle.walks.proofs.AtPlace.{unmet-there, done-there}
use Rattle.indexing.proofs.entries.fill_one.Goals as goal

pub returns-then-x-records : goal.returns-then-x-records
returns-then-x-records c = let a = c.args in
    unmet-there entry_at stopped (λ (s : Session) (y : Filling) log. filled_by y log) (λ s (d : Filling). d.point.session) (λ y d. d) absent a.records.now a.x a.log.now
    a.x.at refl c.if-x-records.true c.stopped.result c.stopped.ensures

pub returns : goal.returns
returns c = let a = c.args in
    done-there entry_at stopped (λ (s : Session) (y : Filling) log. filled_by y log) (λ s (d : Filling). d.point.session) (λ y d. d) absent a.records.now a.x a.log.now
    a.x.at refl c.if-x-records.false absent c.next_entry-d.result c.next_entry-d.ensures c.next_entry-d.result.point.session refl c.next_entry-d.result refl
