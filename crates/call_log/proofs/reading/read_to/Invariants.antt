use mathlib.Core.Path.{◌≡◌}
use Rattle.call_log.specs.Reading.{read_to}
use Rattle.call_log.proofs.reading.read_to.Given as goal

abbrev pub invariant-loop-point : goal.invariant-loop-point
invariant-loop-point l = read_to l.left l.label l.until l.rest l.point ≡ read_to l.most l.label l.until l.log l.initial.point

abbrev pub decreases-loop-point : goal.decreases-loop-point
decreases-loop-point l = l.left
