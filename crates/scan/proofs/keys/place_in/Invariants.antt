use Rattle.std.proofs.Common.{◌≡◌, ◌+◌, drop}
use Rattle.scan.specs.Distinct.{first_with}
use Rattle.scan.proofs.keys.place_in.Given as goal

-- the first i places have it not
abbrev pub invariant-loop-i : goal.invariant-loop-i
invariant-loop-i l = first_with l.label l.reached ≡ l.i + first_with l.label (drop l.i l.reached)
