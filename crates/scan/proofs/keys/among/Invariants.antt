use Rattle.std.proofs.Common.{◌≡◌, take}
use lib.Dec.{eqb}
use Rattle.rules.specs.Lists.{any}
use Rattle.scan.proofs.keys.among.Given as goal

-- so many of them are compared
abbrev pub invariant-loop-n : goal.invariant-loop-n
invariant-loop-n l = l.found ≡ any (eqb l.number) (take l.n-index l.numbers)
