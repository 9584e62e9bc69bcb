use Rattle.std.proofs.Common.{◌≡◌, ◌∷◌, ◌≤◌, length, min, true, false}
use lib.Dec.{eqb}
use Rattle.rules.specs.Lists.{once}
use Rattle.scan.specs.Distinct.{keys, reach_of}
use Rattle.scan.proofs.KeyMarks.{Seen, numbers}
use Rattle.scan.proofs.keys.distinct.Given as goal

-- the labels and discriminators of i pairs were seen, and their keys are apart
abbrev pub invariant-loop-i : goal.invariant-loop-i
invariant-loop-i l = record {
  inside : l.i ≤ l.n;
  end : l.n ≡ min (reach_of l.occupied) (length l.pairs);
  most : l.n ≤ 64;
  own : Seen (keys true l.i l.pairs) l.i l.labels l.own;
  far : Seen (numbers l.i l.pairs) l.i l.others l.far;
  labels_apart : once eqb (0 ∷ keys true l.i l.pairs) ≡ true;
  own_apart : once eqb (0 ∷ keys false l.i l.pairs) ≡ true;
}
