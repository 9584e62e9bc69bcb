-- The marks that are kept beside the record of one session: the record numbers of what it was timed from, of its last crossed message and of the message in each
-- of its four condition places, and what it was timed from. The dates are in the session's record. What each accepted call notes.
-- Assumes nothing.
use Rattle.std.specs.Prelude.{ℕ, cond, List, eqb, length}
use Rattle.std.proofs.Math.Option.{Option, none, some}
use Rattle.std.proofs.lemmas.List.Edits.{sets}
use Rattle.message.specs.Message.{message_of}
use Rattle.rules.specs.declared.Key.{Key}
use Rattle.rules.specs.declared.Received.{Received}
use Rattle.rules.specs.declared.Received.TheVariants.{CrossedMessage, HeardCc, HeardCv, FaultMessage}
use Rattle.rules.specs.Received.{received_as}
use Rattle.rules.specs.Conditions.{key_of, same_key}
use Rattle.rules.specs.Calls.{Act, Close, Lock, Unlock, Receive, ReportOn, WriteCc, WriteCv, Call, Tick, Open, On, is_accepted}
use Rattle.conditions.specs.declared.Conditions.{Conditions}
use Rattle.conditions.specs.Taking.{taken_in}
use Rattle.session.specs.declared.Session.{Session}
use Rattle.session.specs.Queries.{locked_in}
use Rattle.table.specs.Table.{Table, open_of, find, answer}
use Rattle.meaning.specs.Stories.{is_crossed}
use Rattle.cause.specs.declared.Marks.{Marks}
use Rattle.cause.specs.declared.Timed.{Timed}
use Rattle.cause.specs.declared.Timed.TheVariants.{Opening, Unlock as ByUnlock, Cc, Cv}

-- the number under which it is kept what the detection time is timed from
abbrev pub timed_number : Timed → ℕ
timed_number Opening = 0
timed_number ByUnlock = 1
timed_number Cc = 2
timed_number Cv = 3

-- an opening: all anew
abbrev pub anew : ℕ → Marks
anew n = record { timed = n; crossed = 0; first = 0; second = 0; third = 0; fourth = 0; size = 0; by = 0 }

-- timed anew, by the number that is kept for what did it
abbrev pub timed_under : Marks → ℕ → ℕ → Marks
timed_under m n by =
    record { timed = n; crossed = m.crossed; first = m.first; second = m.second; third = m.third; fourth = m.fourth; size = m.size; by = by }

-- a real unlock or a heard message
abbrev pub timed_by : Marks → ℕ → Timed → Marks
timed_by m n by = timed_under m n (timed_number by)

-- a crossed message of so many octets
abbrev pub crossed_by : Marks → ℕ → ℕ → Marks
crossed_by m n size =
    record { timed = m.timed; crossed = n; first = m.first; second = m.second; third = m.third; fourth = m.fourth; size = size; by = m.by }

-- a fault message: the place that has its key afterwards, none where R is set
abbrev pub placed_by : Marks → Conditions → Key → ℕ → Marks
placed_by m after key n =
    record {
      timed = m.timed;
      crossed = m.crossed;
      first = cond (same_key after.first.key key) n m.first;
      second = cond (same_key after.second.key key) n m.second;
      third = cond (same_key after.third.key key) n m.third;
      fourth = cond (same_key after.fourth.key key) n m.fourth;
      size = m.size;
      by = m.by;
    }

-- a message of so many octets, by what it was to the record before it
abbrev pub received_noted : Marks → ℕ → Session → ℕ → ℕ → Received → Marks
received_noted m n r t size CrossedMessage = crossed_by m n size
received_noted m n r t size (HeardCc p) = timed_by m n Cc
received_noted m n r t size HeardCv = timed_by m n Cv
received_noted m n r t size (FaultMessage f) = placed_by m (taken_in r.conditions f t) (key_of f) n

-- an accepted act on the label, of the record number n, by the record before it
abbrev pub act_noted : Marks → ℕ → Session → Act → Marks
act_noted m n r (Close t) = m
act_noted m n r (Lock t) = m
act_noted m n r (Unlock t) = cond (locked_in r) (timed_by m n ByUnlock) m
act_noted m n r (Receive b t) = received_noted m n r t (length b) (received_as r.settings (message_of b))
act_noted m n r ReportOn = m
act_noted m n r (WriteCc b) = m
act_noted m n r (WriteCv b) = m

-- the record of the label before it, if there is one
abbrev pub act_noted_in : Marks → ℕ → Option Session → Act → Marks
act_noted_in m n none b = m
act_noted_in m n (some r) b = act_noted m n r b

-- an accepted call
abbrev pub call_noted : ℕ → Marks → ℕ → Option Session → Call → Marks
call_noted l m n o (Tick t) = m
call_noted l m n o (Open g t) = cond (eqb g.label l) (anew n) m
call_noted l m n o (On k b) = cond (eqb k l) (act_noted_in m n o b) m

-- any call on a table: a refused one notes nothing
unfoldable pub noted : ℕ → Marks → ℕ → Table → Call → Marks
noted l m n t c = cond (is_accepted (answer t c)) (call_noted l m n (find l (open_of t)) c) m

-- the octets of the last crossed message are kept in a buffer, from its front on: of an act that is one
abbrev pub act_kept : List ℕ → Session → Act → List ℕ
act_kept kept r (Close t) = kept
act_kept kept r (Lock t) = kept
act_kept kept r (Unlock t) = kept
act_kept kept r (Receive b t) = cond (is_crossed (received_as r.settings (message_of b))) (sets kept 0 b) kept
act_kept kept r ReportOn = kept
act_kept kept r (WriteCc b) = kept
act_kept kept r (WriteCv b) = kept

abbrev pub act_kept_in : List ℕ → Option Session → Act → List ℕ
act_kept_in kept none b = kept
act_kept_in kept (some r) b = act_kept kept r b

abbrev pub call_kept : ℕ → List ℕ → Option Session → Call → List ℕ
call_kept l kept o (Tick t) = kept
call_kept l kept o (Open g t) = kept
call_kept l kept o (On k b) = cond (eqb k l) (act_kept_in kept o b) kept

-- of any call on a table
unfoldable pub kept_after : ℕ → List ℕ → Table → Call → List ℕ
kept_after l kept t c = cond (is_accepted (answer t c)) (call_kept l kept (find l (open_of t)) c) kept
