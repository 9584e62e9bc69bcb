-- What is answered at a stage, whatever it is that has the refusal's number, which is never 0.
-- Assumes nothing.
use mathlib.Core.Path.{◌≡◌, refl}
use mathlib.Core.Bool.{true, false}
use native.Mathlib.Omega.{arith}
use Prim.Native.Nat.{ℕ, ◌<◌}
use lib.Dec.{eqb}
use borrow.Author.Tests.{ne_eqb}
use Rattle.index_file.specs.declared.Stage.{Stage}
use Rattle.index_file.specs.declared.Stage.TheVariants.{More, Over, Refused}
use Rattle.index_file.specs.Blocks.{answer_at}

module _ {N : Type 0} (number : N → ℕ) (told : (r : N) → 0 < number r) where
  pub refused_stage : (s : Stage N) (r : N) → s ≡ Refused r → eqb (answer_at number s) 0 ≡ false
  refused_stage s r e = rw (e, ne_eqb (number r) 0 (λ z. omega (arith, told r, z)))

  pub other_stage : (s : Stage N) → ((r : N) → s ≡ Refused r → ⊥) → eqb (answer_at number s) 0 ≡ true
  other_stage More h = refl
  other_stage Over h = refl
  other_stage (Refused r) h = absurd (h r refl)
