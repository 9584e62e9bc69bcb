use Rattle.std.proofs.Common.{◌≡◌, ℕ, ◌≤◌, Bool, true, take}
use Rattle.rules.specs.Parties.{is_of}
use Rattle.rules.proofs.Counting.{count}
use Rattle.scan.specs.Distinct.{key_in}
use Rattle.scan.proofs.keys.theirs_in.Given as goal

abbrev pub test : ℕ → Bool
test p = is_of 1 (key_in true p)

-- so many pairs are counted
abbrev pub invariant-loop-pair : goal.invariant-loop-pair
invariant-loop-pair l = record {
  at_most : l.theirs ≤ l.pair-index;
  counted : l.theirs ≡ count test (take l.pair-index l.pairs);
}
