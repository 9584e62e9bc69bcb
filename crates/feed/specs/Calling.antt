-- One record of a feed by its parts: what is made of it for the call, the call, and the line from its outcome. This is what the code is proved to do.
-- Assumes nothing.
use Rattle.std.specs.Prelude.{ℕ, ◌+◌, ◌-◌, ◌^◌, ◌≤◌, ◌<◌, ◌≡◌, Bool, cond, true, false, ◌&&◌, List, eqb, ltb, leb, length, take, drop}
use Rattle.message.specs.Message.{message_place}
use Rattle.session.specs.declared.Session.{Session}
use Rattle.table.specs.declared.Head.{Head}
use Rattle.table.specs.Table.{in_order}
use Rattle.scan.specs.declared.Summary.{Summary}
use Rattle.step.specs.declared.Request.{Request}
use Rattle.step.specs.declared.Request.TheVariants.{Tick, Close, Lock, Unlock, ReportOn, WriteCc, WriteCv}
use Rattle.step.specs.declared.Opening.{Opening}
use Rattle.step.specs.declared.Arrival.{Arrival}
use Rattle.step.specs.declared.Told.{Told}
use Rattle.step.specs.declared.Outcome.{Outcome}
use Rattle.step.specs.Stepping.{table_of}
use Rattle.step.specs.Saying.{Steps}
use Rattle.capture.specs.declared.Record.{Record}
use Rattle.capture.specs.Records.{record_from, body_in, settings_in, call_of}
use Rattle.capture.specs.Lines.{is_readers, numbered, plain_line, placed_line, report_line, octets_line}
use Rattle.capture.specs.Typing.{typed}
use Rattle.feed.specs.declared.Fed.{Fed}
use Rattle.feed.specs.Feeding.{more_of, turn_of}

abbrev pub body_at : List ℕ → Fed → Record → List ℕ
body_at input f r = body_in (drop f.used input) r.size

-- an open
abbrev pub opening_in : List ℕ → Fed → Record → Opening
opening_in input f r = record { settings = settings_in r.label (body_at input f r); reading = r.time }

-- what a scan saw, of a row of which it is known whether it is in order
abbrev pub seen_with : Summary → Bool → Summary
seen_with seen sound = record { place = seen.place; sound = sound; rival = seen.rival; full = seen.full }

-- the set in which the label is looked for: a tick looks for none
abbrev pub sought_in : Fed → Record → ℕ
sought_in f r = cond (eqb r.kind 0) 0 f.head.occupied

-- what the others know of it
abbrev pub seen_at : ℕ → Bool → Summary
seen_at place sound = record { place = place; sound = sound; rival = false; full = false }

-- a body lies behind the 16 octets of its record; at the end of all numbers there is none
abbrev pub body_from : ℕ → ℕ
body_from used = cond (ltb used 18446744073709551600) (used + 16) 18446744073709551615

abbrev pub arrival_in : Fed → Record → ℕ → Bool → Arrival
arrival_in f r place sound = record { head = f.head; reading = r.time; place = place; from = body_from f.used; size = r.size; sound = sound }

-- the request of each kind that brings numbers alone
abbrev pub request_in : Record → Request
request_in r =
    cond (eqb r.kind 0) (Tick r.time)
    (cond (eqb r.kind 2) (Close r.label r.time)
    (cond (eqb r.kind 3) (Lock r.label r.time)
    (cond (eqb r.kind 4) (Unlock r.label r.time)
    (cond (eqb r.kind 6) (ReportOn r.label)
    (cond (eqb r.kind 7) (WriteCc r.label 28) (WriteCv r.label 44))))))

-- the octets that can be told have their lengths; a CV that was written into 44 octets has 44
abbrev pub Whole : Outcome → Type 0
Whole o = (length o.told.cc ≡ 28) × (length o.told.cv.octets ≡ 78) × (o.answer ≡ 0 → o.told.cv.count ≡ 44)

-- where it is known of a row whether it is in order, and a record's 16 octets stand in the input, its call is the table's step. Lengths are those that a machine can hold
abbrev pub Calls : List Session → Fed → Record → List ℕ → Bool → Outcome → List Session → Type 0
Calls row f r input sound o zs =
    sound ≡ in_order (table_of row f.head) → f.used + 16 ≤ length input → length input < 2 ^ 64 → length row < 2 ^ 64
    → Steps row f.head (call_of r (body_at input f r)) (record { outcome = o; row = zs }) × Whole o

-- kind 6 tells its report, 7 and 8 their octets: an accepted CV of a capture has 44
abbrev pub told_line : ℕ → ℕ → Told → List ℕ
told_line number kind told =
    cond (eqb kind 6) (report_line number told.report) (cond (eqb kind 7) (octets_line number told.cc) (octets_line number (take 44 told.cv.octets)))

-- the line of an accepted call: a report or a write tells something
abbrev pub accepted_line : ℕ → ℕ → Told → List ℕ
accepted_line number kind told = cond (leb 6 kind) (told_line number kind told) (plain_line number 0)

-- a message that its reader refuses
abbrev pub is_unread : ℕ → ℕ → Bool
is_unread kind answer = eqb kind 5 && is_readers answer

-- the line of a refusal: such a message has its place
unfoldable pub refused_line : ℕ → ℕ → ℕ → List ℕ → List ℕ
refused_line number kind answer body = cond (is_unread kind answer) (placed_line number answer (message_place body)) (plain_line number answer)

-- the line of a call that tells nothing but its answer
abbrev pub answer_line : ℕ → ℕ → ℕ → List ℕ → List ℕ
answer_line number kind answer body = cond (eqb answer 0) (plain_line number 0) (refused_line number kind answer body)

-- the line of an outcome, by the record's kind
unfoldable pub line_by : ℕ → ℕ → Outcome → List ℕ → List ℕ
line_by number kind o body = cond (eqb o.answer 0) (accepted_line number kind o.told) (refused_line number kind o.answer body)

-- the place behind a record; its own where it does not stand whole in so many octets
abbrev pub behind_of : ℕ → ℕ → ℕ → ℕ
behind_of octets used size = cond (ltb (octets - used) (16 + size)) used (used + (16 + size))

-- how far the table is fed behind a record of an input of so many octets
abbrev pub fed_on : Fed → Record → ℕ → Head → ℕ → Fed
fed_on f r octets head written = record { head = head; number = numbered f.number; used = behind_of octets f.used r.size; written = written }

-- what is fed after a call, and the output
pub record Answered : Type 0 where
  pub fed : Fed
  pub out : List ℕ

unfoldable pub answered : List ℕ → Fed → List ℕ → Record → Outcome → Answered
answered out f input r o =
    let p = typed (record { buffer = out; at = f.written }) (line_by (numbered f.number) r.kind o (body_at input f r)) in
    record { fed = fed_on f r (length input) o.head p.at; out = p.buffer }

-- the record that stands next brings a message
abbrev pub message_next : List ℕ → Fed → Bool
message_next input f = eqb (record_from (drop f.used input)).kind 5

-- a turn where a record stands next: it takes octets, and on a row of which it is known whether it is in order it is the definition's
abbrev pub Turns : List Session → List ℕ → Bool → Fed → List ℕ → Fed → List Session → List ℕ → Type 0
Turns row out sound f input g zs ps =
    more_of f input (length out) ≡ true
    → (f.used < g.used) × (sound ≡ in_order (table_of row f.head) → record { row = zs; fed = g; out = ps } ≡ turn_of input (record { row = row; fed = f; out = out }))
