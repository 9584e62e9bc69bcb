use mathlib.Core.Path.{◌≡◌, sym, ap, ◌∙◌}
use mathlib.Core.Bool.{true}
use Prim.Native.Nat.{◌+◌, ◌*◌, ◌-◌}
use native.Mathlib.Omega.{arith}
use lib.ListN.{get_or}
use borrow.Author.Tests.{eqb-true, eq-eqb}
use Rattle.rules.proofs.Bools.{no_way}
use Rattle.inquiry.specs.Questions.{no_number, within, up_to, numbered}
use Rattle.inquiry.proofs.Reading.{some-octets, no-octets, digit-read, none_read, all_read, too_large, none-over, some-fits}
use Rattle.inquiry.proofs.question.number_in.Goals as goal

pub returns-then-is_empty : goal.returns-then-is_empty
returns-then-is_empty c = let a = c.args in sym (no-octets a.most a.s.now (eqb-true _ _ (sym c.is_empty.ensures ∙ c.if-is_empty.true)))

pub loop-d-init : goal.loop-d-init
loop-d-init c = let a = c.args in
    (omega arith, some-octets a.most a.s.now (λ e. no_way (c.is_empty.ensures ∙ eq-eqb _ _ e) c.if-is_empty.false))

pub returns-then-not-is_digit : goal.returns-then-not-is_digit
returns-then-not-is_digit c = let a = c.args in
    let x = c.loop-d in
    let none = none_read x.n x.d-index a.s.now (omega arith) (sym c.is_digit.ensures ∙ c.if-not-is_digit.true) in
    sym (x.invariant.1 ∙ ap (up_to a.most) none)

pub returns-in_err-n : goal.returns-in_err-n
returns-in_err-n c = let a = c.args in
    let x = c.loop-d in
    let digit = digit-read x.n x.d-index a.s.now (omega arith) (sym c.is_digit.ensures ∙ c.if-not-is_digit.false) in
    let found : no_number ≡ within a.most (x.n * 10 + (get_or a.s.now x.d-index 0 - 48)) = ap numbered (sym c.in_err-n.was) ∙ c.one_more.ensures in
    ap numbered c.from_residual.ensures ∙ sym (x.invariant.1 ∙ ap (up_to a.most) digit ∙ too_large a.most _ _ (none-over a.most _ found))

pub loop-d-preserved : goal.loop-d-preserved
loop-d-preserved c = let a = c.args in
    let x = c.loop-d in
    let digit = digit-read x.n x.d-index a.s.now (omega arith) (sym c.is_digit.ensures ∙ c.if-not-is_digit.false) in
    let found : record { value = c.in_ok-n.n; good = true } ≡ within a.most (x.n * 10 + (get_or a.s.now x.d-index 0 - 48)) = ap numbered (sym c.in_ok-n.was) ∙ c.one_more.ensures in
    let fits = some-fits a.most _ _ found in
    (omega (arith, fits.0, fits.1), rw fits.1 (x.invariant.1 ∙ ap (up_to a.most) digit))

pub returns : goal.returns
returns c = let a = c.args in
    let x = c.loop-d in
    sym (x.invariant.1 ∙ all_read a.most x.n x.d-index a.s.now x.invariant.0 c.loop-d-test.false)
