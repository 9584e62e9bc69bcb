-- What a call says, from its outcome, and that a call on a row is the table's step.
-- Assumes nothing.
use Rattle.std.specs.Prelude.{ℕ, ◌≡◌, cond, List, eqb, take}
use Rattle.octets.specs.Writing.{writing}
use Rattle.rules.specs.Calls.{Act, Close, Lock, Unlock, Receive, ReportOn, WriteCc, WriteCv, Call, Tick, Open, On, Said, number_only, reporting, writes}
use Rattle.session.specs.declared.Session.{Session}
use Rattle.table.specs.declared.Head.{Head}
use Rattle.table.specs.Table.{answer, next}
use Rattle.step.specs.declared.Told.{Told}
use Rattle.step.specs.declared.Outcome.{Outcome}
use Rattle.step.specs.Stepping.{table_of, Obeyed}

-- the octets of the CV that is told
abbrev pub cv_told : Told → List ℕ
cv_told told = take told.cv.count told.cv.octets

-- what an act on a label says
abbrev pub said_on : ℕ → Act → Outcome → Said
said_on l (Close u) o = number_only (On l (Close u)) o.answer
said_on l (Lock u) o = number_only (On l (Lock u)) o.answer
said_on l (Unlock u) o = number_only (On l (Unlock u)) o.answer
said_on l (Receive m u) o = number_only (On l (Receive m u)) o.answer
said_on l ReportOn o = cond (eqb o.answer 0) (reporting o.told.report) (number_only (On l ReportOn) o.answer)
said_on l (WriteCc b) o = writes (writing o.answer o.told.cc b)
said_on l (WriteCv b) o = writes (writing o.answer (cv_told o.told) b)

-- what a call says: its number, and of an accepted report or write what it tells
abbrev pub said_of : Call → Outcome → Said
said_of (Tick u) o = number_only (Tick u) o.answer
said_of (Open g u) o = number_only (Open g u) o.answer
said_of (On l a) o = said_on l a o

-- what comes of a call on a row is the table's step
abbrev pub Steps : List Session → Head → Call → Obeyed → Type 0
Steps row head c x = (said_of c x.outcome ≡ answer (table_of row head) c) × (table_of x.row x.outcome.head ≡ next (table_of row head) c)
