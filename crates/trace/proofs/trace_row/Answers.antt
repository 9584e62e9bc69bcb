use Rattle.std.proofs.Common.{ap, ◌∙◌}
use Rattle.trace.proofs.Turns.{as-trail, watch-is}
use Rattle.trace.proofs.trace_row.Goals as goal

pub returns : goal.returns
returns c = let a = c.args in ap as-trail c.watch_row.ensures ∙ watch-is a.row.now a.from a.input.now a.kept.now
