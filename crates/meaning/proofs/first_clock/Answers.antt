use mathlib.Core.Path.{refl}
use Rattle.meaning.specs.Histories.{clock_of}
use Rattle.meaning.proofs.first_clock.Goals as goal

pub returns : goal.returns
unfolding clock_of
returns c = refl
