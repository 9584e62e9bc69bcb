-- Why a thing stands, from a table alone: the reading of the message that accounts for it, its age at the clock, and the end. 26 where the table is not in order, 2 where no
-- session of the party has the label, 15 where the thing does not stand.
-- Assumes nothing.
use Rattle.std.specs.Prelude.{ℕ, cond, List, eqb, get_or}
use Rattle.std.proofs.Math.Option.{Option, none, some}
use Rattle.octets.specs.Choice.{need, Answer, accepted, refused}
use Rattle.rules.specs.Parties.{own_label}
use Rattle.conditions.specs.declared.Conditions.{Conditions}
use Rattle.session.specs.declared.Session.{Session}
use Rattle.table.specs.declared.Head.{Head}
use Rattle.table.specs.Table.{Table, open_of, in_order, find, absent}
use Rattle.scan.specs.declared.Summary.{Summary}
use Rattle.step.specs.Stepping.{is_place}
use Rattle.cause.specs.declared.Cause.{Cause}
use Rattle.cause.specs.declared.Thing.{Thing}
use Rattle.cause.specs.declared.Thing.TheVariants.{Crossing, Loss, Condition, HeldBack}
use Rattle.cause.specs.declared.Marks.{Marks}
use Rattle.cause.specs.FromMarks.{cause_from}
use Rattle.live.specs.declared.LiveQuestion.{LiveQuestion}
use Rattle.live.specs.declared.LiveCause.{LiveCause}
use Rattle.live.specs.declared.LiveStep.{LiveStep}

-- a thing by its number; any other number stands for nothing
abbrev pub thing_of : LiveQuestion → Option Thing
thing_of q =
    cond (eqb q.thing 1) (some Crossing)
    (cond (eqb q.thing 2) (some Loss)
    (cond (eqb q.thing 3) (some HeldBack)
    (cond (eqb q.thing 4) (some (Condition q.key)) none)))

-- the label that is asked about: none where it is another party's
abbrev pub asked_label : LiveQuestion → ℕ
asked_label q = own_label q.circuit.party q.circuit.label

-- an answer without the record's number: reading, age, end
pub record Dated : Type 0 where
  pub reading : ℕ
  pub age : ℕ
  pub end : ℕ

abbrev pub without_number : Answer Cause → Answer Dated
without_number (accepted c) = accepted (record { reading = c.reading; age = c.age; end = c.end })
without_number (refused n) = refused n

-- in place of record numbers the readings of the conditions: of equal ends that of the later record, which has no smaller reading
abbrev pub live_marks : Conditions → Marks
live_marks cs =
    record {
      timed = 0;
      crossed = 0;
      first = cs.first.at;
      second = cs.second.at;
      third = cs.third.at;
      fourth = cs.fourth.at;
      size = 0;
      by = 0;
    }

-- from the record of the label: 15 for what stands for nothing
abbrev pub cause_live : Session → ℕ → Option Thing → Answer Cause
cause_live r now none = refused 15
cause_live r now (some thing) = cause_from (live_marks r.conditions) r now thing

-- 2 where the label has no record
abbrev pub live_in : Option Session → ℕ → Option Thing → Answer Dated
live_in none now thing = refused 2
live_in (some r) now thing = without_number (cause_live r now thing)

-- 26 before all
unfoldable pub live_of : Table → ℕ → Option Thing → Answer Dated
live_of t l thing = cond (in_order t) (live_in (find l (open_of t)) t.clock thing) (refused 26)

-- what a host is told: noughts beside a refusal
abbrev pub told_of : Head → Answer Dated → LiveCause
told_of head (accepted c) = record { head = head; reading = c.reading; age = c.age; end = c.end; answer = 0 }
told_of head (refused n) = record { head = head; reading = 0; age = 0; end = 0; answer = n }

-- what is told, and row, clock and set afterwards
pub record Asked : Type 0 where
  pub cause : LiveCause
  pub table : Table

-- a question to a table, which leaves it as it is
unfoldable pub asking : Table → LiveQuestion → Asked
asking t q = record { cause = told_of (record { clock = t.clock; occupied = t.occupied }) (live_of t (asked_label q) (thing_of q)); table = t }

-- The same, once it is known whether the table is in order and where the label stands: what the code does
abbrev pub table_refusal : Summary → ℕ
table_refusal seen = need seen.sound 26 (need (is_place seen.place) 2 0)

unfoldable pub answer_of : Summary → ℕ → Option Thing → Session → Answer Cause
answer_of seen now thing r = let n = table_refusal seen in cond (eqb n 0) (cause_live r now thing) (refused n)

unfoldable pub step_of : Summary → Head → LiveQuestion → Session → LiveStep
step_of seen head q r = record { outcome = told_of head (without_number (answer_of seen head.clock (thing_of q) r)); place = seen.place }

unfoldable pub why_at : List Session → Head → Summary → LiveQuestion → LiveCause
why_at row head seen q = (step_of seen head q (get_or row seen.place absent)).outcome
