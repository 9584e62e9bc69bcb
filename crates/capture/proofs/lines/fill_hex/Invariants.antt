use Prim.Native.Nat.{◌+◌, ◌*◌}
use mathlib.Core.Path.{◌≡◌}
use lib.ListN.{take}
use Rattle.capture.specs.Lines.{hex}
use Rattle.capture.specs.Typing.{Put, typed}
use Rattle.capture.proofs.lines.fill_hex.Given as goal

-- the octets so far are put, two digits each
abbrev pub invariant-loop-b : goal.invariant-loop-b
invariant-loop-b l =
    (l.next ≡ l.at + 2 * l.b-index)
    × (◌≡◌ {A = Put} (record { buffer = l.out; at = l.next }) (typed (record { buffer = l.initial.out; at = l.at }) (hex (take l.b-index l.octets))))
