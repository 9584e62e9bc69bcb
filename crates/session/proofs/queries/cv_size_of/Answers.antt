use native.Mathlib.Omega.{arith}
use Rattle.cv.proofs.Forms.{length-within}
use Rattle.session.proofs.queries.cv_size_of.Goals as goal

pub overflow_add-result : goal.overflow_add-result
overflow_add-result c = let id = c.args.s.settings.own in omega (arith, c.mep_size.ensures, (length-within id.kind id.size).1)
