-- No refusal is told as 0.
-- Assumes nothing.
use native.Mathlib.Omega.{arith}
use Rattle.std.specs.Prelude.{◌<◌}
use Rattle.octets.specs.declared.refusals.Refusal.{Refusal}
use Rattle.octets.specs.Refusals.{number_of}
use Rattle.indexing.proofs.Refused.{some_number}

pub refusal_told : (r : Refusal) → 0 < number_of r
refusal_told r = omega (arith, some_number r)
