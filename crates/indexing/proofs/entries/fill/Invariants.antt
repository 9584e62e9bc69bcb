use Rattle.std.proofs.Common.{◌≡◌, ◌-◌}
use Rattle.indexing.specs.Filling.{fills_of, fill_all}
use Rattle.indexing.proofs.entries.fill.Given as goal

-- what is left to fill in, from here on, comes to what there was to fill in at first
abbrev pub invariant-loop-records : goal.invariant-loop-records
invariant-loop-records l =
    fills_of (l.x.count - l.x.at) l.log (record { outcome = l.x; row = l.records }) ≡ fill_all l.fn.records l.fn.from l.log

abbrev pub decreases-loop-records : goal.decreases-loop-records
decreases-loop-records l = l.x.count - l.x.at
