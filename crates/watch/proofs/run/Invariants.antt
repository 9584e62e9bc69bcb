use mathlib.Core.Path.{◌≡◌}
use lib.ListN.{length}
use Rattle.watch.specs.Calls.{Reached}
use Rattle.watch.proofs.run.Given as goal

abbrev pub invariant-loop-turn : goal.invariant-loop-turn
invariant-loop-turn l =
    (length l.buf ≡ length l.initial.buf) × (length l.out ≡ length l.initial.out) × Reached l.initial.buf l.initial.out (record { pump = l.core; buf = l.buf; out = l.out })
