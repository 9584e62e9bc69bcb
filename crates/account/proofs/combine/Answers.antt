use mathlib.Core.Path.{◌≡◌, ◌∙◌}
use mathlib.Core.Bool.{false}
use borrow.Author.Rules.{rules}
use lib.IntN.{ℤ, ◌+ℤ◌}
use mir.Syntax.{w64}
use mir.Val.{SFits, to_z, of_z}
use mir.ValLaws.{to_z-of_z}
use Rattle.account.specs.Figures.{lesser, greater, chosen}
use Rattle.account.specs.Accounts.{signed, signed_in, made}
use Rattle.account.proofs.Integers.{small}
use Rattle.account.proofs.Made.{combined-over, combined-other, combined-made}
use Rattle.account.proofs.combine.Goals as goal

pub returns-then-a : goal.returns-then-a
returns-then-a c = c.overrun.ensures ∙ combined-over c.args.a c.args.b c.if-a.true

pub returns-then-b : goal.returns-then-b
returns-then-b c =
    c.overrun-then-b.ensures ∙ combined-other c.args.a c.args.b c.if-a.false c.if-b.true

pub returns : goal.returns
returns c =
    let a = c.args.a in
    let b = c.args.b in
    let al : SFits w64 a.least = search rules in
    let bl : SFits w64 b.least = search rules in
    let ag : SFits w64 a.greatest = search rules in
    let bg : SFits w64 b.greatest = search rules in
    let least : ◌≡◌ {A = ℤ} (to_z w64 (of_z w64 c.least_of-least.result)) (chosen lesser a.pairs a.least b.pairs b.least) =
    to_z-of_z w64 _ (small _ c.least_of-least.type_inv) ∙ c.least_of-least.ensures ∙ rw (to_z-of_z w64 a.least al, to_z-of_z w64 b.least bl) in
    let greatest : ◌≡◌ {A = ℤ} (to_z w64 (of_z w64 c.greatest_of-greatest.result)) (chosen greater a.pairs a.greatest b.pairs b.greatest) =
    to_z-of_z w64 _ (small _ c.greatest_of-greatest.type_inv) ∙ c.greatest_of-greatest.ensures ∙ rw (to_z-of_z w64 a.greatest ag, to_z-of_z w64 b.greatest bg) in
    let ao : a.over ≡ false = search rules in
    let bo : b.over ≡ false = search rules in
    let fa : SFits w64 a.sum = search rules in
    let fb : SFits w64 b.sum = search rules in
    let sum : signed_in c.sum_in-sum.result ≡ signed (a.sum +ℤ b.sum) = c.sum_in-sum.ensures ∙ rw (to_z-of_z w64 a.sum fa, to_z-of_z w64 b.sum fb) in
    c.make.ensures
    ∙ (λ i. made (c.total-pairs.ensures i) (least i) (greatest i) (sum i) (c.total-sizes.ensures i))
    ∙ combined-made a b ao bo al bl ag bg
