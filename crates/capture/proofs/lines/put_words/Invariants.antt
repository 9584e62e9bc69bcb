use mathlib.Core.Path.{◌≡◌}
use lib.ListN.{take}
use Rattle.capture.specs.Typing.{Put, typed}
use Rattle.capture.proofs.lines.put_words.Given as goal

-- the words so far are put
abbrev pub invariant-loop-b : goal.invariant-loop-b
invariant-loop-b l =
    ◌≡◌ {A = Put} (record { buffer = l.out; at = l.next }) (typed (record { buffer = l.initial.out; at = l.at }) (take l.b-index l.words))
