use mathlib.Core.Path.{◌≡◌}
use mathlib.Core.Bool.{false}
use lib.ListN.{length}
use Rattle.spacing.specs.declared.Next.TheVariants.{Read}
use Rattle.spacing.specs.Reads.{looking, Reached}
use Rattle.spacing.proofs.run.Given as goal

abbrev pub invariant-loop-turn : goal.invariant-loop-turn
invariant-loop-turn l =
    (length l.buf ≡ length l.initial.buf) × (l.x.next ≡ Read → l.x.gauge.over ≡ false) × Reached l.label (looking l.x l.buf)
