use mathlib.Core.Path.{sym, ap, ◌∙◌}
use Rattle.pump.specs.Pumping.{Pumped}
use Rattle.watch.specs.declared.Called.{Called}
use Rattle.watch.proofs.Calling.{call-stayed, stops, unchanged}
use Rattle.watch.proofs.call.Goals as goal

pub read_on-requires : goal.read_on-requires
read_on-requires c = sym c.wants-wanted.ensures ∙ c.in-Read.is

pub write_on-requires : goal.write_on-requires
write_on-requires c = sym c.wants-wanted.ensures ∙ c.in-Write.is

pub returns-in-Read : goal.returns-in-Read
returns-in-Read c = c.read_on.ensures c.args.out.now

pub returns-in-Write : goal.returns-in-Write
returns-in-Write c = c.write_on.ensures c.args.buf.now

pub returns-in-Nothing : goal.returns-in-Nothing
returns-in-Nothing c = let a = c.args in
    let x : Pumped = record { pump = a.core; buf = a.buf.now; out = a.out.now } in
    let e = c.behind.ensures in
    call-stayed x c.behind.result _ (ap (λ (r : Called). r.core) e, stops c.behind.result (ap (λ (r : Called). r.next) e)) (λ n. ap (λ (r : Called). r.next) e) (unchanged x)
