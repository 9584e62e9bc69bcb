use mathlib.Core.Path.{◌≡◌, sym, ap, ◌∙◌}
use mathlib.Core.Bool.{false}
use lib.ListN.{drop}
use lib.Seq.{length-take-le}
use borrow.Author.Tests.{not-true, not-false}
use Rattle.rules.proofs.Bools.{no_way}
use Rattle.capture.specs.Records.{next_in, is_whole}
use Rattle.text.proofs.Going.{begins, part-within, turn, turn-uses, ends, stopped}
use Rattle.text.proofs.lines.put_lines.Goals as goal
use Rattle.text.proofs.lines.put_lines.Goals.{then-loop-c-test+else-is_whole, else-loop-c-test}

pub loop-c-init : goal.loop-c-init
loop-c-init c = let a = c.args in rw c.empty_table-t.ensures (begins a.capture.now a.out.now a.room)

pub slice_bounds-lines-end : goal.slice_bounds-lines-end
slice_bounds-lines-end c =
    part-within c.loop-c.invariant c.loop-c-test.true c.requires c.rewind.ensures c.feed-t.result c.feed-t.new.out c.feed-t.ensures

pub slice_bounds-put_part-end : goal.slice_bounds-put_part-end
slice_bounds-put_part-end c = sym (length-take-le c.feed-t.result.fed.written c.feed-t.new.out
    (part-within c.loop-c.invariant c.loop-c-test.true c.requires c.rewind.ensures c.feed-t.result c.feed-t.new.out c.feed-t.ensures))

pub loop-c-smaller : goal.loop-c-smaller
loop-c-smaller c =
    let whole = ap is_whole (sym c.next_record.ensures) ∙ sym c.is_whole.ensures ∙ c.if-is_whole.true in
    turn-uses c.loop-c.invariant c.loop-c-test.true c.requires c.rewind.ensures c.feed-t.result c.feed-t.new.out c.feed-t.ensures whole

pub loop-c-preserved : goal.loop-c-preserved
loop-c-preserved c = let p = c.put_part-c in
    turn c.loop-c.invariant c.loop-c-test.true c.requires c.rewind.ensures c.feed-t.result c.feed-t.new.out c.feed-t.ensures p.result p.new.out p.ensures

pub returns-then-not-c : goal.returns-then-not-c
returns-then-not-c c = let l = c.loop-c in
    stopped l.invariant (not-true l.c.fits c.if-not-c.true)

pub returns : goal.returns
returns c = let p = c.put_end in
    let l = c.loop-c in
    let fits = not-false l.c.fits c.if-not-c.false in
    let whole : is_whole (next_in (drop l.t.fed.used c.args.capture.now)) ≡ false =
    elim c.loop-c-test.branch [
      | then-loop-c-test+else-is_whole w ↦ ap is_whole (sym w.next_record.ensures) ∙ sym w.is_whole.ensures ∙ w.if-is_whole.false
      | else-loop-c-test w ↦ no_way fits w.loop-c-test.false
    ]
    in
    ends l.invariant fits c.requires whole p.result p.new.out p.ensures
