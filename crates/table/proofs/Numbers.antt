-- A call that is not answered 26 before all is answered 25 at most, for every table.
-- Assumes nothing.
use Prim.Native.Nat.{ℕ, ◌≤◌}
use native.Mathlib.Omega.{arith}
use mathlib.Core.Bool.{Bool, not, ◌&&◌}
use mathlib.Core.Option.{Option, none, some}
use mathlib.Core.List.{List}
use lib.ListN.{length}
use lib.Dec.{ltb, eqb}
use Rattle.octets.specs.Choice.{need, bar}
use Rattle.octets.specs.Writing.{writing}
use Rattle.octets.proofs.Chain.{need-most, bar-most}
use Rattle.message.specs.Message.{message_refusal, message_of}
use Rattle.message.proofs.Bounds.{message-most}
use Rattle.rules.specs.declared.Received.{Received}
use Rattle.rules.specs.declared.Received.TheVariants.{CrossedMessage, HeardCc, HeardCv, FaultMessage}
use Rattle.rules.specs.Times.{late}
use Rattle.rules.specs.Settings.{settings_fit}
use Rattle.rules.specs.Conditions.{key_of}
use Rattle.rules.specs.Received.{received_as}
use Rattle.rules.specs.Parties.{party_of, own_most}
use Rattle.rules.specs.Lists.{any}
use Rattle.rules.specs.Calls.{Act, Close, Lock, Unlock, Receive, ReportOn, WriteCc, WriteCv, Call, Tick, Open, On}
use Rattle.conditions.specs.Taking.{forgotten, free_place, fault_answer}
use Rattle.session.specs.declared.Session.{Session}
use Rattle.session.specs.Queries.{locked_in, cc_octets_at, cv_octets_at}
use Rattle.session.specs.Reception.{received_answer}
use Rattle.table.specs.Table.{Table, open_of, open_by, find, is_found, rivals, open_answer, receive_answer, act_answer, asked}

received-most : (r : Session) (reading : ℕ) (x : Received) → received_answer r reading x ≤ 25
unfolding fault_answer
received-most r reading CrossedMessage = bar-most 25 (locked_in r) (omega arith) (omega arith)
received-most r reading (HeardCc p) = bar-most 25 (locked_in r) (omega arith) (omega arith)
received-most r reading HeardCv = bar-most 25 (locked_in r) (omega arith) (omega arith)
received-most r reading (FaultMessage f) =
    bar-most 25 (not f.removed && eqb (free_place (forgotten r.conditions (key_of f)) reading) 4) (omega arith) (omega arith)

receive-most : (o : Option Session) (m : List ℕ) (reading : ℕ) → receive_answer o m reading ≤ 25
receive-most none m reading = omega arith
receive-most (some r) m reading =
    need-most 25 (eqb (message_refusal m) 0) (message-most m) (received-most r reading (received_as r.settings (message_of m)))

pub found-most : (clock reading : ℕ) (found : Bool) → bar (late clock reading) 1 (need found 2 0) ≤ 25
found-most clock reading found = bar-most 25 (late clock reading) (omega arith) (need-most 25 found (omega arith) (omega arith))

pub write-most : (octets buffer : List ℕ) → (writing 0 octets buffer).answer ≤ 25
unfolding writing
write-most octets buffer = bar-most 25 (ltb (length buffer) (length octets)) (omega arith) (omega arith)

act-most : (clock : ℕ) (o : Option Session) (l : ℕ) (a : Act) → (act_answer clock o l a).number ≤ 25
unfolding act_answer
act-most clock o l (Close u) = found-most clock u (is_found o)
act-most clock o l (Lock u) = found-most clock u (is_found o)
act-most clock o l (Unlock u) = found-most clock u (is_found o)
act-most clock o l (Receive m u) = bar-most 25 (late clock u) (omega arith) (receive-most o m u)
act-most clock none l ReportOn = omega arith
act-most clock (some r) l ReportOn = omega arith
act-most clock none l (WriteCc b) = omega arith
act-most clock (some r) l (WriteCc b) = write-most (cc_octets_at r clock) b
act-most clock none l (WriteCv b) = omega arith
act-most clock (some r) l (WriteCv b) = write-most (cv_octets_at r clock) b

pub asked-most : (t : Table) (c : Call) → (asked t c).number ≤ 25
unfolding asked open_answer
asked-most t (Tick u) = bar-most 25 (late t.clock u) (omega arith) (omega arith)
asked-most t (Open g u) =
    bar-most 25 (late t.clock u) (omega arith)
    (need-most 25 (settings_fit g) (omega arith)
    (bar-most 25 (any (rivals g) (open_of t)) (omega arith) (bar-most 25 (eqb (open_by (party_of g.label) t) own_most) (omega arith) (omega arith))))
asked-most t (On l a) = act-most t.clock (find l (open_of t)) l a
