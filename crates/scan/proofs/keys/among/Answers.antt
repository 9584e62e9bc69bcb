use mathlib.Core.Path.{sym, ◌∙◌}
use native.Mathlib.Omega.{arith}
use lib.ListN.{get_or, take}
use lib.Dec.{eqb}
use borrow.Author.Tests.{eq-eqb, ne_eqb}
use Rattle.rules.specs.Lists.{any}
use Rattle.rules.proofs.Bools.{or_left}
use Rattle.scan.proofs.KeyMarks.{any-take-none, any-take-more, any-take-all}
use Rattle.scan.proofs.keys.among.Goals as goal
use Rattle.scan.proofs.keys.among.Goals.{then-n-number, else-n-number}

pub loop-n-init : goal.loop-n-init
loop-n-init c = sym (any-take-none (eqb c.args.number) c.args.numbers.now)

pub loop-n-preserved : goal.loop-n-preserved
loop-n-preserved c = let a = c.args in
    let l = c.loop-n in
    let more = any-take-more (eqb a.number) a.numbers.now l.n-index c.loop-n-test.true in
    elim c.if-n-number.branch [
      | then-n-number w ↦ w.found-is ∙ sym (more ∙ or_left (any (eqb a.number) (take l.n-index a.numbers.now)) (eq-eqb a.number (get_or a.numbers.now l.n-index 0) (sym w.if-n-number.true)))
      | else-n-number w ↦ w.found-is ∙ l.invariant ∙ sym (more ∙ rw (ne_eqb a.number (get_or a.numbers.now l.n-index 0) (λ z. w.if-n-number.false (sym z))))
    ]

pub returns : goal.returns
returns c = c.loop-n.invariant ∙ any-take-all (eqb c.args.number) c.args.numbers.now c.loop-n.n-index (omega arith)
