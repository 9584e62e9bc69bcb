-- Worked questions: after these calls, on label 100, this is the answer, and this is what the named call was; and the same of captures.
-- Assumes nothing.
use Rattle.std.specs.Prelude.{ℕ, ◌≡◌, true, false, List, [], ◌∷◌, ◌++◌}
use Rattle.std.proofs.Math.Option.{Option, none, some}
use Rattle.octets.specs.Choice.{Answer, accepted, refused}
use Rattle.bfd.specs.declared.Packet.{Packet}
use Rattle.bfd.specs.Octets.{cc_octets}
use Rattle.cv.specs.declared.MepId.{MepId}
use Rattle.cv.specs.MepId.{no_agi}
use Rattle.cv.specs.Cv.{cv_octets}
use Rattle.fault.specs.declared.Fault.{Fault}
use Rattle.fault.specs.Identifiers.{OptionalIfId}
use Rattle.fault.specs.Identifiers.{NoIfId, AnIfId}
use Rattle.fault.specs.Identifiers.{NoGlobalId, AGlobalId}
use Rattle.fault.specs.Octets.{fault_octets}
use Rattle.rules.specs.declared.Settings.{Settings}
use Rattle.rules.specs.Conditions.{key_with}
use Rattle.rules.specs.Calls.{Close, Lock, Unlock, Receive, ReportOn, Call, Tick, Open, On}
use Rattle.meaning.specs.Histories.{History, start}
use Rattle.meaning.specs.Edges.{told-all}
use Rattle.cause.specs.declared.Timed.TheVariants.{Opening as ByOpening, Unlock as ByUnlock, Cc as ByCc, Cv as ByCv}
use Rattle.cause.specs.Causes.{Thing, Crossing, Loss, Condition, HeldBack, Cause, cause_of, Reason, crossed_by, timed_by, fault_by, reason_of}
use Rattle.cause.specs.Pasts.{past_of, past_up_to}

pub record Question : Type 0 where
  pub calls : List Call
  pub thing : Thing
  pub answer : Answer Cause
  pub reason : Option Reason

unfoldable pub answer_to : Question → Answer Cause
answer_to q = cause_of (told-all start q.calls) 100 q.thing

unfoldable pub reason_to : Question → Option Reason
reason_to q = reason_of (told-all start q.calls) 100 q.thing

-- every question of a list is answered so
unfoldable pub Hold : List Question → Type 0
Hold [] = Unit {0}
Hold (q ∷ qs) = (answer_to q ≡ q.answer) × (reason_to q ≡ q.reason) × Hold qs

-- record number, reading, age, end
abbrev by : ℕ → ℕ → ℕ → ℕ → Cause
by number reading age end = record { number = number; reading = reading; age = age; end = end }

abbrev asked : List Call → Thing → Cause → Reason → Question
asked calls thing c r = record { calls = calls; thing = thing; answer = accepted c; reason = some r }

abbrev not_answered : List Call → Thing → ℕ → Question
not_answered calls thing n = record { calls = calls; thing = thing; answer = refused n; reason = none }

-- an LSP expected, nothing followed
abbrev mep : ℕ → MepId
mep local = record { agi = no_agi; global = 7; node = 8; local = local; kind = 1; group = 0; size = 0 }

abbrev settings : ℕ → Settings
settings period = record { own = mep 1; expected = mep 2; label = 100; discriminator = 17; period = period; followlink = 0; followlock = 0; mode = 0 }

abbrev opens : ℕ → ℕ → Call
opens period t = Open (settings period) t

abbrev packet : ℕ → ℕ → Packet
packet multiplier your =
    record {
      diagnostic = 0;
      state = 1;
      poll = false;
      fin = false;
      independent = false;
      demand = false;
      multiplier = multiplier;
      my = 9;
      your = your;
      transmit = 1000000;
      receive = 1000000;
      echo = 0;
    }

abbrev cc : ℕ → ℕ → ℕ → Call
cc multiplier your t = On 100 (Receive (cc_octets (packet multiplier your)) t)

abbrev cv : ℕ → Call
cv t = On 100 (Receive (cv_octets (packet 3 0) (mep 2)) t)

abbrev ais : ℕ → OptionalIfId → Fault
ais refresh interface = record { kind = 1; linkdown = false; removed = false; refresh = refresh; interface = interface; global = NoGlobalId }

abbrev lkr : ℕ → Fault
lkr refresh = record { kind = 2; linkdown = false; removed = false; refresh = refresh; interface = NoIfId; global = NoGlobalId }

-- with R set
abbrev cleared : Fault → Fault
cleared f = record { kind = f.kind; linkdown = f.linkdown; removed = true; refresh = f.refresh; interface = f.interface; global = f.global }

abbrev comes : Fault → ℕ → Call
comes f t = On 100 (Receive (fault_octets f) t)

-- AIS at 0, a loss, a lock
abbrev locked_at_loss : List Call
locked_at_loss = opens 1000000 0 ∷ comes (ais 20 NoIfId) 0 ∷ Tick 3000001 ∷ On 100 (Lock 3000001) ∷ []

-- AIS at 0
abbrev one_ais : List Call
one_ais = opens 1000000 0 ∷ comes (ais 20 NoIfId) 0 ∷ []

unfoldable pub questions : List Question
questions =
    -- the clock is that of the last accepted call, not the time of the last record
    asked (opens 1000000 0 ∷ Tick 5000000 ∷ Tick 4000000 ∷ On 100 ReportOn ∷ []) Loss (by 1 0 5000000 3000001) (timed_by ByOpening)
    -- a loss stood from a reading that no record brought
    ∷ asked (opens 1000000 0 ∷ Tick 9000000 ∷ []) Loss (by 1 0 9000000 3000001) (timed_by ByOpening)
    -- crossed twice at one reading: the later record, up to its end
    ∷ asked (opens 1000000 0 ∷ cc 3 99 1000000 ∷ cc 4 99 1000000 ∷ Tick 4499999 ∷ []) Crossing (by 3 1000000 3499999 4500000) (crossed_by (cc_octets (packet 4 99)))
    ∷ not_answered (opens 1000000 0 ∷ cc 3 99 1000000 ∷ cc 4 99 1000000 ∷ Tick 4500000 ∷ []) Crossing 15
    -- the CV's record, the CC's multiplier; and the CC's record
    ∷ asked (opens 1000 0 ∷ cc 5 0 0 ∷ cv 0 ∷ Tick 9000 ∷ []) Loss (by 3 0 9000 5001) (timed_by ByCv)
    ∷ asked (opens 1000 0 ∷ cc 5 0 0 ∷ Tick 9000 ∷ []) Loss (by 2 0 9000 5001) (timed_by ByCc)
    -- an unlock of what is not locked accounts for nothing, a real one does
    ∷ asked (opens 1000 0 ∷ On 100 (Unlock 1) ∷ Tick 9000 ∷ []) Loss (by 1 0 9000 3001) (timed_by ByOpening)
    ∷ asked (opens 1000 0 ∷ cc 5 0 0 ∷ On 100 (Lock 1) ∷ On 100 (Unlock 2) ∷ Tick 9000 ∷ []) Loss (by 4 2 8998 3003) (timed_by ByUnlock)
    -- a crossed message does not restart
    ∷ asked (opens 1000 0 ∷ cc 3 99 1 ∷ Tick 9000 ∷ []) Loss (by 1 0 9000 3001) (timed_by ByOpening)
    -- a renewal that ends sooner
    ∷ asked (opens 1000000 0 ∷ comes (ais 20 (AnIfId 9 1)) 0 ∷ comes (ais 1 (AnIfId 9 1)) 1 ∷ Tick 3400000 ∷ [])
    (Condition (key_with 1 (AnIfId 9 1) NoGlobalId)) (by 3 1 3399999 3500001) (fault_by (ais 1 (AnIfId 9 1)))
    -- held back: by the longer and older one; of equal ends by the later record
    ∷ asked (opens 1000000 0 ∷ comes (ais 20 NoIfId) 0 ∷ comes (lkr 1) 3000000 ∷ Tick 4000000 ∷ []) HeldBack
    (by 2 0 4000000 70000000) (fault_by (ais 20 NoIfId))
    ∷ asked (opens 1000000 0 ∷ comes (ais 2 (AnIfId 9 1)) 0 ∷ comes (ais 1 (AnIfId 9 2)) 3500000 ∷ Tick 4000000 ∷ []) HeldBack
    (by 3 3500000 500000 7000000) (fault_by (ais 1 (AnIfId 9 2)))
    -- past the greatest reading
    ∷ asked (opens 1000000 0 ∷ comes (ais 20 NoIfId) 9223372036854775807 ∷ []) (Condition (key_with 1 NoIfId NoGlobalId))
    (by 2 9223372036854775807 0 9223372036924775807) (fault_by (ais 20 NoIfId))
    -- through a lock a condition goes on, a loss and an alarm held back do not
    ∷ asked locked_at_loss (Condition (key_with 1 NoIfId NoGlobalId)) (by 2 0 3000001 70000000) (fault_by (ais 20 NoIfId))
    ∷ not_answered locked_at_loss Loss 15
    ∷ not_answered locked_at_loss HeldBack 15
    -- a refused message accounts for nothing
    ∷ asked (opens 1000 0 ∷ Tick 5 ∷ cc 5 0 4 ∷ Tick 9000 ∷ []) Loss (by 1 0 9000 3001) (timed_by ByOpening)
    -- closed, and opened anew: only what came since counts
    ∷ not_answered (opens 1000000 0 ∷ cc 3 99 0 ∷ On 100 (Close 1) ∷ []) Crossing 2
    ∷ not_answered (opens 1000000 0 ∷ cc 3 99 0 ∷ On 100 (Close 1) ∷ opens 1000000 2 ∷ []) Crossing 15
    -- R ends a condition
    ∷ not_answered (opens 1000000 0 ∷ comes (ais 20 NoIfId) 0 ∷ comes (cleared (ais 20 NoIfId)) 1 ∷ []) (Condition (key_with 1 NoIfId NoGlobalId)) 15
    -- a key of type 0 or 3, of another carrier, or with a mark above 1 stands for nothing
    ∷ not_answered one_ais (Condition (key_with 0 NoIfId NoGlobalId)) 15
    ∷ not_answered one_ais (Condition (key_with 3 NoIfId NoGlobalId)) 15
    ∷ not_answered one_ais (Condition (key_with 1 NoIfId (AGlobalId 7))) 15
    ∷ not_answered one_ais (Condition (record { node = 0; interface = 0; global = 0; kind = 1; present = 2; carrier = 0 })) 15
    ∷ not_answered one_ais (Condition (record { node = 0; interface = 0; global = 0; kind = 1; present = 0; carrier = 2 })) 15
    ∷ []

-- a capture: its octets, and the answer on label 100 behind so many of its records, or all
pub record Asked : Type 0 where
  pub capture : List ℕ
  pub up_to : Option ℕ
  pub thing : Thing
  pub answer : Answer Cause

abbrev past_in : List ℕ → Option ℕ → History
past_in capture none = past_of capture
past_in capture (some n) = past_up_to n capture

unfoldable pub answer_of : Asked → Answer Cause
answer_of a = cause_of (past_in a.capture a.up_to) 100 a.thing

unfoldable pub Told : List Asked → Type 0
Told [] = Unit {0}
Told (a ∷ rest) = (answer_of a ≡ a.answer) × Told rest

abbrev header : ℕ → List ℕ
header third = 84 ∷ 80 ∷ third ∷ 0 ∷ 1 ∷ 0 ∷ 0 ∷ 0 ∷ []

-- open 100 at 0 with period 1,000,000, tick 5,000,000, tick 4,000,000, report on 100
abbrev four_records : List ℕ
four_records =
    0 ∷ 0 ∷ 0 ∷ 0 ∷ 0 ∷ 0 ∷ 0 ∷ 0 ∷ 0 ∷ 0 ∷ 0 ∷ 100 ∷ 0 ∷ 1 ∷ 0 ∷ 35
    ∷ 0 ∷ 0 ∷ 0 ∷ 17 ∷ 0 ∷ 0x0f ∷ 0x42 ∷ 0x40 ∷ 0 ∷ 1
    ∷ 0 ∷ 0 ∷ 0 ∷ 7 ∷ 0 ∷ 0 ∷ 0 ∷ 8 ∷ 0 ∷ 0 ∷ 0 ∷ 1
    ∷ 0 ∷ 0 ∷ 0 ∷ 7 ∷ 0 ∷ 0 ∷ 0 ∷ 8 ∷ 0 ∷ 0 ∷ 0 ∷ 2 ∷ 0
    ∷ 0 ∷ 0 ∷ 0 ∷ 0 ∷ 0 ∷ 0x4c ∷ 0x4b ∷ 0x40 ∷ 0 ∷ 0 ∷ 0 ∷ 0 ∷ 0 ∷ 0 ∷ 0 ∷ 0
    ∷ 0 ∷ 0 ∷ 0 ∷ 0 ∷ 0 ∷ 0x3d ∷ 0x09 ∷ 0x00 ∷ 0 ∷ 0 ∷ 0 ∷ 0 ∷ 0 ∷ 0 ∷ 0 ∷ 0
    ∷ 0 ∷ 0 ∷ 0 ∷ 0 ∷ 0 ∷ 0 ∷ 0 ∷ 0 ∷ 0 ∷ 0 ∷ 0 ∷ 100 ∷ 0 ∷ 6 ∷ 0 ∷ 0 ∷ []

unfoldable pub captures : List Asked
captures =
    record { capture = header 79 ++ four_records; up_to = none; thing = Loss; answer = accepted (by 1 0 5000000 3000001) }
    -- cut: the records before it
    ∷ record { capture = header 79 ++ four_records ++ 0 ∷ 0 ∷ 0 ∷ []; up_to = none; thing = Loss; answer = accepted (by 1 0 5000000 3000001) }
    -- a bad header, or part of one: none
    ∷ record { capture = header 88 ++ four_records; up_to = none; thing = Loss; answer = refused 2 }
    ∷ record { capture = 84 ∷ 80 ∷ 79 ∷ []; up_to = none; thing = Loss; answer = refused 2 }
    -- behind no record, the opening, the first tick, more than there are
    ∷ record { capture = header 79 ++ four_records; up_to = some 0; thing = Loss; answer = refused 2 }
    ∷ record { capture = header 79 ++ four_records; up_to = some 1; thing = Loss; answer = refused 15 }
    ∷ record { capture = header 79 ++ four_records; up_to = some 2; thing = Loss; answer = accepted (by 1 0 5000000 3000001) }
    ∷ record { capture = header 79 ++ four_records; up_to = some 9; thing = Loss; answer = accepted (by 1 0 5000000 3000001) }
    ∷ []
