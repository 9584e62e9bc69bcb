use native.Mathlib.Omega.{arith}
use mathlib.Core.Path.{sym, ap, ◌∙◌}
use Rattle.inquiry.specs.Questions.{numbered}
use Rattle.inquiry.proofs.Reading.{found-most}
use Rattle.inquiry.proofs.question.small_in.Goals as goal

pub overflow_cast-result : goal.overflow_cast-result
overflow_cast-result c = omega (arith, found-most _ c.args.s.now c.in_ok-n.n (ap numbered (sym c.in_ok-n.was) ∙ c.number_in.ensures))
