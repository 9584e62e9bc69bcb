use mathlib.Core.Path.{◌∙◌}
use mathlib.Core.Bool.{not}
use native.Mathlib.Omega.{arith}
use lib.Dec.{eqb}
use borrow.Author.Rules.{rules}
use borrow.Author.Tests.{lt-ltb, le-ltb}
use mir.Syntax.{w64}
use mir.Val.{SFits}
use mir.ValLaws.{to_z-of_z}
use Rattle.account.specs.Accounts.{numbers_of}
use Rattle.account.proofs.Integers.{fits-true}
use Rattle.account.proofs.Kept.{all_three}
use Rattle.account.proofs.Made.{fit-pairs, fit-sizes, fit-three, finished-over, finished-not, finished-yes}
use Rattle.account.proofs.finish.Goals as goal

pub returns-then-a : goal.returns-then-a
returns-then-a c = finished-over c.args.a c.if-a.true

pub returns-then-a-gt-MOST : goal.returns-then-a-gt-MOST
returns-then-a-gt-MOST c = let a = c.args.a in
    finished-not a c.if-a.false (fit-pairs (numbers_of a) (le-ltb a.pairs 9223372036854775808 (omega arith)))

pub returns-then-a-gt-MOST-2 : goal.returns-then-a-gt-MOST-2
returns-then-a-gt-MOST-2 c = let a = c.args.a in
    finished-not a c.if-a.false (fit-sizes (numbers_of a) (le-ltb a.sizes 9223372036854775808 (omega arith)))

pub returns : goal.returns
returns c =
    let a = c.args.a in
    let fl : SFits w64 a.least = search rules in
    let fg : SFits w64 a.greatest = search rules in
    let fs : SFits w64 a.sum = search rules in
    (λ i. record {
      answer = 0;
      pairs = a.pairs;
      least = to_z-of_z w64 a.least fl i;
      greatest = to_z-of_z w64 a.greatest fg i;
      sum = to_z-of_z w64 a.sum fs i;
      sizes = a.sizes;
      paired = not (eqb a.pairs 0);
    })
    ∙ finished-yes a c.if-a.false
    (fit-three (numbers_of a) (fits-true _ fl) (fits-true _ fg)
    ∙ all_three _ _ _ (lt-ltb a.pairs 9223372036854775808 (omega arith)) (fits-true _ fs) (lt-ltb a.sizes 9223372036854775808 (omega arith)))
