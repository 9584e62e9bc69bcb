use mathlib.Core.Path.{◌≡◌}
use mathlib.Core.Bool.{false}
use lib.ListN.{length}
use Rattle.why.specs.declared.Next.TheVariants.{Read}
use Rattle.why.specs.Reads.{looking, Reached}
use Rattle.why.proofs.run.Given as goal

abbrev pub invariant-loop-turn : goal.invariant-loop-turn
invariant-loop-turn l =
    (length l.buf ≡ length l.initial.buf) × (length l.kept ≡ length l.initial.kept) × (l.x.next ≡ Read → l.x.search.over ≡ false) × Reached l.label l.upto l.initial.kept (looking l.x l.buf l.kept)
