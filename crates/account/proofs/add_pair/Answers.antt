use mathlib.Core.Path.{◌≡◌, sym, ap, ◌∙◌}
use mathlib.Core.Bool.{true}
use lib.IntN.{ℤ, pos}
use mir.Syntax.{w64}
use mir.Val.{SFits}
use mir.ValLaws.{to_z-of_z}
use borrow.Author.Rules.{rules}
use Rattle.account.specs.declared.Account.{Account}
use Rattle.account.specs.Figures.{error_of, one, fits}
use Rattle.account.specs.Accounts.{Signed, signed, kept, combined}
use Rattle.account.proofs.Kept.{cond_yes}
use Rattle.account.proofs.Made.{added-single, added-over}
use Rattle.account.proofs.add_pair.Goals as goal

pub returns-in-Some : goal.returns-in-Some
returns-in-Some c =
    let a = c.args in
    let e = c.in-Some.e in
    let z = error_of a.later a.earlier a.period in
    let is : ◌≡◌ {A = Signed} (record { value = e; fits = true }) (signed z) = c.in-Some.ensures in
    let f : SFits w64 e = search rules in
    let fit : fits z ≡ true = sym (ap (λ (x : Signed). x.fits) is) in
    let value : e ≡ z = ap (λ (x : Signed). x.value) is ∙ cond_yes z (pos 0) fit in
    c.combine.ensures
    ∙ ap (λ (b : Account). combined a.a b) (c.single.ensures ∙ ap (λ (x : ℤ). kept (one x)) (to_z-of_z w64 e f ∙ value))
    ∙ added-single a.a z

pub returns-in-None : goal.returns-in-None
returns-in-None c = let a = c.args in
    c.overrun.ensures ∙ added-over a.a (error_of a.later a.earlier a.period) (sym (ap (λ (x : Signed). x.fits) c.in-None.ensures))
