use Rattle.std.proofs.Common.{◌-◌, length}
use Rattle.feed.proofs.Watched.{trail, After}
use Rattle.feed.proofs.watching.watch_known.Given as goal

abbrev pub invariant-loop-row : goal.invariant-loop-row
invariant-loop-row g l = After g.met.W.Watch.laws l.fn.input l.fn.sound (trail l.fn.row l.fn.from l.fn.kept) (trail l.row l.x l.kept)

abbrev pub decreases-loop-row : goal.decreases-loop-row
decreases-loop-row g l = length l.fn.input - (g.W.Watch.carried.fed l.x).used
