use mathlib.Core.Path.{refl}
use Rattle.meaning.specs.Histories.{clock_of}
use Rattle.switching.specs.Groups.{plain}
use Rattle.switching.proofs.first_clock.Goals as goal

pub returns : goal.returns
unfolding clock_of plain
returns c = refl
