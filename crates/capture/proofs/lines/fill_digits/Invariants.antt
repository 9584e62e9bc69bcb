use mathlib.Core.Path.{◌≡◌}
use Rattle.capture.proofs.Digits.{filled}
use Rattle.capture.proofs.lines.fill_digits.Given as goal

abbrev pub invariant-loop-left : goal.invariant-loop-left
invariant-loop-left l = filled l.left l.at l.rest l.out ≡ filled l.count l.at l.n l.initial.out
