-- What each public call on dual-homing groups is proved to do (M-164), and a message that is received: what it says, and the table afterwards, is the step that the
-- commands of a table make. Asking tells what the table tells of a group, and leaves it.
-- Assumes nothing.
use Rattle.std.specs.Prelude.{ℕ, Bool, ◌&&◌, List, eqb}
use Rattle.session.specs.declared.Session.{Session}
use Rattle.table.specs.declared.Head.{Head}
use Rattle.table.specs.Table.{Table}
use Rattle.grouping.specs.Commands.{Command}
use Rattle.grouping.specs.Grouped.{answer_to, next_by}
use Rattle.grouping.specs.Asking.{Told, asked_of}
use Rattle.step.specs.declared.Outcome.{Outcome}
use Rattle.group_step.specs.declared.GroupRequest.{GroupRequest}
use Rattle.group_step.specs.declared.GroupOutcome.{GroupOutcome}
use Rattle.group_step.specs.GroupStepping.{GroupObeyed, target_of, group_at, group_told}
use Rattle.group_step.specs.GroupSeeing.{seen_in}
use Rattle.korvezul.specs.declared.groups.GroupAnswer.{GroupAnswer}
use Rattle.korvezul.specs.Calling.{Called}

-- one step of a run of commands
abbrev pub commanded : Table → Command → Called
commanded t c = record { said = answer_to t c; table = next_by t c }

-- what comes of a call on a group on a lent row: what it sees of the row, then the call
abbrev pub group_lent : List Session → Head → GroupRequest → GroupObeyed
group_lent row head q = group_at row head (seen_in row head (target_of q)) q

-- a report that was accepted says UP
abbrev pub is_up_by : Outcome → Bool
is_up_by x = eqb x.answer 0 && eqb x.told.report.state 3

-- the answer to asking, from what came of it and of the report on the DNI-PW
abbrev pub group_answer_of : GroupOutcome → Outcome → GroupAnswer
group_answer_of o x = record { answer = o.answer; group = group_told o.told (is_up_by x) }

-- the number and the three numbers of the group
abbrev pub told_in : GroupAnswer → Told
told_in r = record { number = r.answer; group = r.group }

-- what asking tells, and the table afterwards
pub record AskedOn : Type 0 where
  pub told : Told
  pub table : Table

-- the table stays
abbrev pub asked_on : Table → ℕ → ℕ → AskedOn
asked_on t p id = record { told = asked_of t p id; table = t }
