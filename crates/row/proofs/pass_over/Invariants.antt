-- What is left of the row gives, from where the loop is, what the whole gives from its start.
use Rattle.std.proofs.Common.{◌≡◌, ◌-◌, ◌≤◌, length, drop}
use Rattle.scan.specs.Passing.{pass_over}
use Rattle.row.proofs.pass_over.Given as goal

abbrev pub invariant-loop-pairs : goal.invariant-loop-pairs
invariant-loop-pairs l = record {
  inside : l.i ≤ length l.row;
  so_far : pass_over l.i (record { progress = l.s; pairs = l.pairs }) (drop l.i l.row) ≡ pass_over 0 (record { progress = l.fn.from; pairs = l.fn.pairs }) l.row;
}

abbrev pub decreases-loop-pairs : goal.decreases-loop-pairs
decreases-loop-pairs l = length l.row - l.i
