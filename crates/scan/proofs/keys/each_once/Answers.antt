use mathlib.Core.Path.{◌≡◌, refl, sym, ap, ◌∙◌}
use borrow.Author.Rules.{rules}
use native.Mathlib.Omega.{arith}
use lib.ListN.{get_or}
use lib.Seq.{take_all}
use lib.Dec.{eqb}
use Rattle.rules.specs.Lists.{any, once}
use Rattle.scan.specs.Distinct.{filled, once_in}
use Rattle.scan.proofs.Noted.{still-once, once_more, twice-noted}
use Rattle.scan.proofs.keys.each_once.Goals as goal
use Rattle.scan.proofs.keys.each_once.Goals.{else-key-ne0-via-then-key-ne0+else-some_passes, else-key-ne0-via-else-key-ne0}

pub loop-i-init : goal.loop-i-init
loop-i-init c = unfold filled once in refl

pub returns-then-some_passes : goal.returns-then-some_passes
returns-then-some_passes c = let a = c.args in
    let l = c.loop-i in
    let key = get_or a.keys.now l.i 0 in
    let asked : c.some_passes.result ≡ any (eqb key) c.first_of.result.now = c.some_passes.ensures (eqb key) (λ x r h e. search rules) in
    sym (twice-noted a.keys.now l.i c.loop-i-test.true c.if-key-ne0.true
    (ap (any (eqb key)) (sym c.first_of.ensures) ∙ sym asked ∙ c.if-some_passes.true))

pub loop-i-preserved : goal.loop-i-preserved
loop-i-preserved c = let a = c.args in
    let l = c.loop-i in
    let key = get_or a.keys.now l.i 0 in
    elim c.else-key-ne0.branch [
      | else-key-ne0-via-then-key-ne0+else-some_passes w ↦
          let asked : w.some_passes.result ≡ any (eqb key) w.first_of.result.now = w.some_passes.ensures (eqb key) (λ x r h e. search rules) in
          once_more a.keys.now l.i c.loop-i-test.true w.if-key-ne0.true
          (ap (any (eqb key)) (sym w.first_of.ensures) ∙ sym asked ∙ w.if-some_passes.false) l.invariant
      | else-key-ne0-via-else-key-ne0 w ↦ still-once a.keys.now l.i c.loop-i-test.true w.if-key-ne0.false l.invariant
    ]

pub returns : goal.returns
unfolding once_in
returns c = let a = c.args in
    let l = c.loop-i in
    sym (ap (λ ks. once eqb (filled ks)) (sym (take_all l.i a.keys.now (omega arith))) ∙ l.invariant)
