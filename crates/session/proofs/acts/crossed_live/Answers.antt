use Rattle.session.specs.Queries.{group_at}
use Rattle.session.specs.Steps.{crossed_at}
use Rattle.session.proofs.acts.crossed_live.Goals as goal

pub returns : goal.returns
unfolding crossed_at group_at
returns c = rw (c.lowered_pw.ensures, c.pw_at.ensures, c.live_of-live.ensures, c.stored_number.ensures, c.move_by-to.ensures, c.state_at.ensures, c.from.ensures)
