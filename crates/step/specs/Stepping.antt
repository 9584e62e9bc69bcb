-- The decision and the step, from what is known of the row (in order or not, the place of the label, a rival, a full share), the head, the call and the one record that it concerns. This is
-- what the code is proved to do; `proofs/TableStep.antt` says that it is the table's step.
-- Assumes nothing.
use Rattle.std.specs.Prelude.{ℕ, Bool, cond, List, eqb, ltb, get_or, set, replicate}
use Rattle.octets.specs.Choice.{need, bar}
use Rattle.cv.specs.declared.CvOctets.{CvOctets}
use Rattle.rules.specs.Calls.{no_report}
use Rattle.rules.specs.Times.{late}
use Rattle.rules.specs.Settings.{settings_fit}
use Rattle.session.specs.declared.Session.{Session}
use Rattle.session.specs.Queries.{report_at, cc_octets_at, cv_size_of, cv_whole_at}
use Rattle.session.specs.Steps.{new_session, locked_at, unlocked_at, reply_settled}
use Rattle.table.specs.declared.Head.{Head}
use Rattle.table.specs.Places.{lowest_free, with_place, without_place}
use Rattle.table.specs.Table.{Table, absent}
use Rattle.scan.specs.declared.Target.{Target}
use Rattle.scan.specs.declared.Summary.{Summary}
use Rattle.step.specs.declared.Request.{Request}
use Rattle.step.specs.declared.Request.TheVariants.{Tick, Close, Lock, Unlock, ReportOn, WriteCc, WriteCv}
use Rattle.step.specs.declared.Opening.{Opening}
use Rattle.step.specs.declared.Told.{Told}
use Rattle.step.specs.declared.Outcome.{Outcome}
use Rattle.step.specs.declared.Stepped.{Stepped}
use Rattle.walks.specs.AtPlace.{Afterwards}

-- a lent row with its head, as the table
abbrev pub table_of : List Session → Head → Table
table_of row head = record { row = row; clock = head.clock; occupied = head.occupied }

-- a record was found
abbrev pub is_place : ℕ → Bool
is_place place = ltb place 64

-- 1, then 2
abbrev pub on_answer : ℕ → ℕ → ℕ → ℕ
on_answer clock place reading = bar (late clock reading) 1 (need (is_place place) 2 0)

-- 2, then 13
abbrev pub room_answer : ℕ → ℕ → ℕ → ℕ
room_answer place size room = need (is_place place) 2 (bar (ltb room size) 13 0)

-- a CV has as many octets as the own MEP-ID of the record makes
abbrev pub sound_answer : ℕ → ℕ → ℕ → Request → ℕ
sound_answer clock place size (Tick u) = bar (late clock u) 1 0
sound_answer clock place size (Close l u) = on_answer clock place u
sound_answer clock place size (Lock l u) = on_answer clock place u
sound_answer clock place size (Unlock l u) = on_answer clock place u
sound_answer clock place size (ReportOn l) = need (is_place place) 2 0
sound_answer clock place size (WriteCc l n) = room_answer place 28 n
sound_answer clock place size (WriteCv l n) = room_answer place size n

-- 26 before all
unfoldable pub answer_of : Summary → Head → ℕ → Request → ℕ
answer_of s head size q = need s.sound 26 (sound_answer head.clock s.place size q)

-- a place as the set numbers it; 64 is none
abbrev pub set_place : ℕ → ℕ
set_place place = cond (is_place place) place 64

abbrev pub at : Head → ℕ → Head
at head reading = record { clock = reading; occupied = head.occupied }

-- clock and set after an accepted request
unfoldable pub head_after : Summary → Head → Request → Head
head_after s head (Tick u) = at head u
head_after s head (Close l u) = record { clock = u; occupied = without_place head.occupied (set_place s.place) }
head_after s head (Lock l u) = at head u
head_after s head (Unlock l u) = at head u
head_after s head (ReportOn l) = head
head_after s head (WriteCc l n) = head
head_after s head (WriteCv l n) = head

-- no row is that long
abbrev pub nowhere : ℕ
nowhere = 18446744073709551615

-- the place that an accepted request stores to
unfoldable pub stored_at : ℕ → Request → ℕ
stored_at place (Tick u) = nowhere
stored_at place (Close l u) = nowhere
stored_at place (Lock l u) = place
stored_at place (Unlock l u) = place
stored_at place (ReportOn l) = nowhere
stored_at place (WriteCc l n) = place
stored_at place (WriteCv l n) = nowhere

-- what an accepted request makes of the record
unfoldable pub effect_on : Request → Session → Session
effect_on (Tick u) r = r
effect_on (Close l u) r = r
effect_on (Lock l u) r = locked_at r u
effect_on (Unlock l u) r = unlocked_at r u
effect_on (ReportOn l) r = r
effect_on (WriteCc l n) r = reply_settled r
effect_on (WriteCv l n) r = r

-- what is told, of the record as it was: noughts where a call tells nothing, of a CV 44
abbrev pub no_cv : CvOctets
no_cv = record { octets = replicate 78 0; count = 44 }

abbrev pub nothing_told : Told
nothing_told = record { report = no_report; cc = replicate 28 0; cv = no_cv }

unfoldable pub told_by : Request → Session → ℕ → Told
told_by (Tick u) r clock = nothing_told
told_by (Close l u) r clock = nothing_told
told_by (Lock l u) r clock = nothing_told
told_by (Unlock l u) r clock = nothing_told
told_by (ReportOn l) r clock = record { report = report_at r clock; cc = replicate 28 0; cv = no_cv }
told_by (WriteCc l n) r clock = record { report = no_report; cc = cc_octets_at r clock; cv = no_cv }
told_by (WriteCv l n) r clock = record { report = no_report; cc = replicate 28 0; cv = cv_whole_at r clock }

-- the outcome, and where the record goes. A refusal stores nothing
unfoldable pub step_of : Summary → Head → Request → Session → Stepped
step_of s head q r =
    let n = answer_of s head (cv_size_of r) q in
    record {
      outcome = record { head = cond (eqb n 0) (head_after s head q) head; told = told_by q r head.clock; answer = n };
      place = cond (eqb n 0) (stored_at s.place q) nowhere;
    }

-- an opening looks for a rival
abbrev pub opening_target : Opening → Target
opening_target g = record { label = g.settings.label; discriminator = g.settings.discriminator }

-- 26, 1, 10, 11, 12
unfoldable pub opening_answer : Summary → Head → Opening → ℕ
opening_answer s head g =
    need s.sound 26
    (bar (late head.clock g.reading) 1
    (need (settings_fit g.settings) 10
    (bar s.rival 11
    (bar s.full 12 0))))

abbrev pub opened_head : Head → ℕ → Head
opened_head head reading = record { clock = reading; occupied = with_place head.occupied (lowest_free 64 head.occupied) }

-- a new session goes into the lowest free place
unfoldable pub opening_of : Summary → Head → Opening → Stepped
opening_of s head g =
    let n = opening_answer s head g in
    record {
      outcome = record { head = cond (eqb n 0) (opened_head head g.reading) head; told = nothing_told; answer = n };
      place = cond (eqb n 0) (lowest_free 64 head.occupied) nowhere;
    }

-- what comes of a call on a row, and the row afterwards
abbrev pub Obeyed : Type 0
Obeyed = Afterwards Outcome Session

unfoldable pub obey_at : List Session → Head → Summary → Request → Obeyed
obey_at row head s q =
    let r = get_or row s.place absent in
    let d = step_of s head q r in
    record { outcome = d.outcome; row = set row d.place (effect_on q r) }

unfoldable pub open_at : List Session → Head → Summary → Opening → Obeyed
open_at row head s g =
    let d = opening_of s head g in
    record { outcome = d.outcome; row = set row d.place (new_session g.settings g.reading) }
