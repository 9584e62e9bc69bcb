-- A log read for one label from a place on: the label's record and the clock, record by record. This is what the code does.
-- Assumes nothing.
use Rattle.std.specs.Prelude.{ℕ, zero, suc, ◌-◌, Bool, not, cond, ◌&&◌, ◌||◌, List, Result, Ok, Err, length, drop, eqb, ltb, leb}
use Rattle.octets.specs.declared.refusals.Refusal.{Refusal}
use Rattle.octets.specs.Refusals.{number_of}
use Rattle.rules.specs.declared.Report.{Report}
use Rattle.rules.specs.Calls.{no_report}
use Rattle.session.specs.declared.Session.{Session}
use Rattle.session.specs.Queries.{report_at}
use Rattle.session.specs.Soundness.{session_sound}
use Rattle.table.specs.Table.{absent}
use Rattle.capture.specs.declared.Record.{Record}
use Rattle.capture.specs.Records.{record_in}
use Rattle.own.specs.Records.{record_after}
use Rattle.call_log.specs.declared.Point.{Point}
use Rattle.call_log.specs.declared.Ended.{Ended}
use Rattle.call_log.specs.declared.Told.{Told}
use Rattle.call_log.specs.Records.{header_fits, answer_in, body_in, is_whole, is_cut, behind}

-- a call that moves the clock, kinds 0 to 5, accepted and later than a reading
abbrev pub later_of : ℕ → Record → ℕ → Bool
later_of until r answer = eqb answer 0 && ltb r.kind 6 && ltb until r.time

-- the clock behind an accepted record
abbrev pub clock_after : Record → ℕ → ℕ
clock_after r clock = cond (ltb r.kind 6) r.time clock

-- one record: a refused call leaves the label's record and the clock
unfoldable pub followed : ℕ → List ℕ → Point → Point
followed l s p =
    cond (eqb (answer_in s) 0)
    (record { session = record_after (record_in s) (body_in s (record_in s).size) l p.session; clock = clock_after (record_in s) p.clock })
    p

-- with n records more to read: a whole one stands next, and it is none that moves the clock past `until`
unfoldable pub more_of : ℕ → ℕ → List ℕ → Bool
more_of until n s = ltb 0 n && is_whole s && not (later_of until (record_in s) (answer_in s))

-- where reading ends: what is known there, how many octets are left and how many records more could be read, and whether the next record was read and is cut
abbrev pub ended_at : ℕ → List ℕ → Point → Ended
ended_at n s p = record { point = p; left = length s; spare = n; cut = ltb 0 n && is_cut s }

-- at most n records, up to the first accepted one that moves the clock past `until`
unfoldable pub read_to : ℕ → ℕ → ℕ → List ℕ → Point → Ended
read_to zero l until s p = ended_at 0 s p
read_to (suc n) l until s p = cond (more_of until (suc n) s) (read_to n l until (behind s) (followed l s p)) (ended_at (suc n) s p)

-- before the first record: no session, clock 0
abbrev pub at_start : Point
at_start = record { session = absent; clock = 0 }

-- no reading is past this
abbrev pub never : ℕ
never = 18446744073709551615

abbrev pub read_all : List ℕ → Ended
read_all log = read_to 65536 0 never (drop 8 log) at_start

-- 0 and the number of records, or 19
pub record Counted : Type 0 where
  pub answer : ℕ
  pub count : ℕ

-- as the code says it
abbrev pub counted_in : Result ℕ Refusal → Counted
counted_in (Ok n) = record { answer = 0; count = n }
counted_in (Err r) = record { answer = number_of r; count = 0 }

-- everything was read, and that were fewer than 65,536 records
abbrev pub counted_by : Ended → Counted
counted_by e = cond (eqb e.left 0 && ltb 0 e.spare) (record { answer = 0; count = 65536 - e.spare }) (record { answer = 19; count = 0 })

-- the number of records, or 19: a bad header, a cut record, or more than 65,535
unfoldable pub count_of : List ℕ → Counted
count_of log = cond (header_fits log) (counted_by (read_all log)) (record { answer = 19; count = 0 })

-- an entry of an index in range: its place is 8 to the log's length, and its record is none or the label's and sound at the entry's clock
unfoldable pub entry_fits : Session → ℕ → ℕ → ℕ → ℕ → Bool
entry_fits s clock place l size =
    leb 8 place && leb place size && (eqb s.settings.label 0 || eqb s.settings.label l && session_sound s clock)

-- the clock taken to a reading, as by a tick
abbrev pub ticked_to : ℕ → ℕ → ℕ
ticked_to clock u = cond (ltb clock u) u clock

-- what is told: the number, and beside 0 the report and how many entries were looked at
pub record Answer : Type 0 where
  pub answer : ℕ
  pub looked : ℕ
  pub report : Report

abbrev pub refused_with : ℕ → Answer
refused_with n = record { answer = n; looked = 0; report = no_report }

-- as the code says it
abbrev pub told_in : Result Told Refusal → Answer
told_in (Ok t) = record { answer = 0; looked = t.looked; report = t.report }
told_in (Err r) = refused_with (number_of r)

-- 19 for a record read that is cut, then 2, or the report at the reading with the number of entries looked at
unfoldable pub answer_from : Ended → ℕ → ℕ → Answer
answer_from e u looked =
    cond e.cut (refused_with 19)
    (cond (eqb e.point.session.settings.label 0) (refused_with 2)
    (record { answer = 0; looked = looked; report = report_at e.point.session (ticked_to e.point.clock u) }))
