use Rattle.std.proofs.Common.{◌≡◌, true, take}
use lib.Dec.{eqb}
use Rattle.rules.specs.Lists.{once}
use Rattle.scan.specs.Distinct.{filled}
use Rattle.scan.proofs.keys.each_once.Given as goal

-- the first i are apart
abbrev pub invariant-loop-i : goal.invariant-loop-i
invariant-loop-i l = once eqb (filled (take l.i l.keys)) ≡ true
