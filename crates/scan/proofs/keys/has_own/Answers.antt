use Prim.Native.Nat.{ℕ, ◌/◌}
use mathlib.Core.Path.{◌≡◌, sym, ap, ◌∙◌}
use mathlib.Core.Bool.{false}
use borrow.Author.Rules.{rules}
use lib.Dec.{eqb}
use Rattle.rules.specs.Parties.{own_number}
use Rattle.rules.specs.Lists.{any}
use Rattle.scan.specs.Distinct.{key_in}
use Rattle.scan.proofs.KeyMarks.{none_within}
use Rattle.scan.proofs.keys.has_own.Goals as goal

pub returns-else-some_passes : goal.returns-else-some_passes
returns-else-some_passes c = let a = c.args in
    let asked : c.some_passes.result ≡ any (λ (p : ℕ). eqb (p / 4294967296) a.discriminator) c.reached-reached.result.now = c.some_passes.ensures (λ (p : ℕ). eqb (p / 4294967296) a.discriminator) (λ x r h e. search rules) in
    let none = sym asked ∙ c.if-some_passes.false in
    c.if-some_passes.false
    ∙ sym (ap (any (λ p. eqb (key_in false p) (own_number a.label a.discriminator))) (sym c.reached-reached.ensures) ∙ none_within a.label a.discriminator c.reached-reached.result.now none)
