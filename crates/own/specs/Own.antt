-- What an accepted call makes of the record of one label, from that record alone.
-- Assumes nothing.
use Rattle.std.specs.Prelude.{ℕ, cond, eqb}
use Rattle.std.proofs.Math.Option.{Option, none, some, map}
use Rattle.rules.specs.Calls.{Act, Close, Lock, Unlock, Receive, ReportOn, WriteCc, WriteCv, Call, Tick, Open, On}
use Rattle.session.specs.declared.Session.{Session}
use Rattle.session.specs.Steps.{new_session, locked_at, unlocked_at, reply_settled}
use Rattle.table.specs.Table.{receiving}

-- an act on the label itself
abbrev pub own_act : Act → Option Session → Option Session
own_act (Close u) o = none
own_act (Lock u) o = map (λ r. locked_at r u) o
own_act (Unlock u) o = map (λ r. unlocked_at r u) o
own_act (Receive m u) o = map (receiving m u) o
own_act ReportOn o = o
own_act (WriteCc b) o = map reply_settled o
own_act (WriteCv b) o = o

-- any call: a tick, and what is called on another label, leave it
abbrev pub own_acted : ℕ → Call → Option Session → Option Session
own_acted l (Tick u) o = o
own_acted l (Open g u) o = cond (eqb g.label l) (some (new_session g u)) o
own_acted l (On m a) o = cond (eqb m l) (own_act a o) o
