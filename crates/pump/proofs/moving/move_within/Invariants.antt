use mathlib.Core.Path.{◌≡◌}
use lib.ListN.{length, take}
use lib.Seq.{sets}
use Rattle.pump.proofs.Shifting.{between}
use Rattle.pump.proofs.moving.move_within.Given as goal

-- i octets are moved
abbrev pub invariant-loop-i : goal.invariant-loop-i
invariant-loop-i l = (length l.buf ≡ length l.initial.buf) × (l.buf ≡ sets l.initial.buf 0 (take l.i (between l.initial.buf l.from l.to)))
