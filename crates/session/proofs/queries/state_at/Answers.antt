use Rattle.session.proofs.Settling.{timer-given}
use Rattle.session.proofs.queries.state_at.Goals as goal

pub returns : goal.returns
returns c = let a = c.args in
    rw (c.after_timer.ensures, c.from.ensures, c.loss_at.ensures) (timer-given a.s a.now)
