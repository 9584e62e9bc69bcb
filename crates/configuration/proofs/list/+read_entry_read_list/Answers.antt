use native.Mathlib.Omega.{arith}
use Rattle.configuration.specs.Entries.{entry_at}
use Rattle.configuration.proofs.Walk.{less, turned, over, entry-none, entry-list, entry-leaf}
use Rattle.configuration.proofs.list.+read_entry_read_list.Goals as goal

pub read_entry-returns-then-levels-eq0 : goal.read_entry-returns-then-levels-eq0
read_entry-returns-then-levels-eq0 t c = let a = c.args in
    entry-none a.authentication a.levels (entry_at a.levels a.rest.now) a.seen c.if-levels-eq0.true

pub read_entry-read_list-requires : goal.read_entry-read_list-requires
read_entry-read_list-requires t c = (omega arith, tt)

pub read_entry-returns-then-holds_list : goal.read_entry-returns-then-holds_list
read_entry-returns-then-holds_list t c = let a = c.args in
    entry-list a.authentication a.levels a.rest.now a.seen c.if-levels-eq0.false c.get_u16-kind.ensures c.get_u16-size.ensures
    c.padded_size.ensures c.part-value.ensures c.note-met.ensures c.holds_list.ensures
    c.if-holds_list.true c.from_place.ensures c.read_list.ensures

pub read_entry-returns : goal.read_entry-returns
read_entry-returns t c = let a = c.args in
    entry-leaf a.authentication a.levels a.rest.now a.seen c.if-levels-eq0.false c.get_u16-kind.ensures c.get_u16-size.ensures
    c.padded_size.ensures c.part-value.ensures c.note-met.ensures c.holds_list.ensures
    c.if-holds_list.false

pub read_list-read_entry-met-requires : goal.read_list-read_entry-met-requires
read_list-read_entry-met-requires t c = (omega arith, tt)

pub read_list-loop-rest-smaller : goal.read_list-loop-rest-smaller
read_list-loop-rest-smaller t c = less c.loop-rest.rest.now c.loop-rest-test.true c.next_place-next.ensures

pub read_list-loop-rest-preserved : goal.read_list-loop-rest-preserved
read_list-loop-rest-preserved t c =
    turned c.args.authentication c.args.levels c.loop-rest.rest.now c.loop-rest.met _ _
    c.loop-rest-test.true c.next_place-next.ensures c.read_entry-met.ensures c.loop-rest.invariant

pub read_list-returns : goal.read_list-returns
read_list-returns t c =
    over c.args.authentication c.args.levels c.loop-rest.rest.now c.loop-rest.met _ c.loop-rest-test.false c.loop-rest.invariant
