use mathlib.Core.Path.{sym, ◌∙◌}
use Rattle.comparison.proofs.Pairs.{step-read}
use Rattle.comparison.proofs.pair.step_of.Goals as goal

pub returns-then-stands : goal.returns-then-stands
returns-then-stands c = step-read c.args.s.now c.record_at.result c.record_at.ensures (sym c.stands.ensures ∙ c.if-stands.true)
