-- Worked groups: ID 7 and peer 55, service PW 100 and DNI-PW 101.
-- Assumes nothing.
use Rattle.std.specs.Prelude.{ℕ, ◌≡◌, Bool, true, false, List, [], ◌∷◌}
use Rattle.coordination.specs.declared.Dhc.{Dhc}
use Rattle.coordination.specs.Carried.{OptionalStatus}
use Rattle.coordination.specs.Carried.{NoStatus, AStatus}
use Rattle.coordination.specs.Carried.{OptionalSwitching}
use Rattle.coordination.specs.Carried.{NoSwitching, ASwitching}
use Rattle.homing.specs.declared.GroupSettings.{GroupSettings}
use Rattle.homing.specs.declared.GroupReport.{GroupReport}
use Rattle.homing.specs.declared.Found.{Found}
use Rattle.homing.specs.Groups.{grouped}
use Rattle.homing.specs.Messages.{takes_from}
use Rattle.homing.specs.Fitting.{group_fits}
use Rattle.homing.specs.Setting.{set_refusal}
use Rattle.homing.specs.Forwarding.{group_report}
use Rattle.homing.specs.Events.{Event, Timer, Crossed, Message, Ac, Return, after_all}

-- on every line stands beside a case what is computed of it
unfoldable pub Hold : {A B : Type 0} → (A → B) → List (A × B) → Type 0
Hold f [] = Unit {0}
Hold f (line ∷ lines) = (f line.0 ≡ line.1) × Hold f lines

abbrev setting : ℕ → GroupSettings
setting role = record { id = 7; peer = 55; service = 100; dni = 101; role = role }

abbrev status : ℕ → Bool → OptionalStatus
status source fail = AStatus 1 source 2 true true fail

abbrev switching : ℕ → Bool → OptionalSwitching
switching source switch = ASwitching 1 source 2 switch true

-- a message of the peer: S, then F
abbrev both : Bool → Bool → Dhc
both switch fail = record { id = 7; status = status 55 fail; switching = switching 55 switch }

-- a role, whether a loss stands at setting and a crossing; what happens then; whether at the clock there is a loss, and the DNI-PW is up
pub data Course : Type 0 where
  Set : (role : ℕ) (loss crossing : Bool) → List Event → (loss_now up : Bool) → Course

abbrev pub told_of : Course → GroupReport
told_of (Set role loss crossing events loss_now up) = group_report loss_now up (after_all events (grouped (setting role) loss crossing))

-- PW, AC, forwarding
abbrev tells : ℕ → ℕ → ℕ → GroupReport
tells pw ac way = record { pw = pw; ac = ac; forwarding = way }

-- a working PE
unfoldable pub working_courses : List (Course × GroupReport)
working_courses =
    (Set 0 false false [] false true, tells 1 0 2)
    ∷ (Set 0 false false [] false false, tells 1 0 0)
    ∷ (Set 0 false false (Ac 1 ∷ []) false true, tells 1 1 1)
    ∷ (Set 0 false false (Ac 9 ∷ []) false false, tells 1 1 1)
    ∷ (Set 0 false false (Ac 1 ∷ Ac 0 ∷ []) false true, tells 1 0 2)
    ∷ (Set 0 true false [] false true, tells 0 0 0)
    ∷ (Set 0 false true [] false true, tells 0 0 0)
    ∷ (Set 0 false false (Ac 1 ∷ []) true true, tells 0 1 3)
    ∷ (Set 0 false false (Ac 1 ∷ []) true false, tells 0 1 0)
    ∷ (Set 0 false false (Timer true ∷ Timer false ∷ []) false true, tells 0 0 0)
    ∷ (Set 0 false false (Crossed ∷ Return false true ∷ []) false true, tells 0 0 0)
    ∷ (Set 0 false false (Crossed ∷ Return false true ∷ Timer false ∷ []) false true, tells 0 0 0)
    ∷ (Set 0 false false (Crossed ∷ Return false true ∷ Timer false ∷ Return false false ∷ []) false true, tells 1 0 2)
    ∷ (Set 0 false false (Message (both true false) ∷ []) false true, tells 0 0 0)
    ∷ (Set 0 false false (Message (both false true) ∷ []) false true, tells 1 0 2)
    ∷ (Set 0 false false (Message (both false false) ∷ []) false true, tells 1 0 2)
    ∷ (Set 0 false false (Ac 1 ∷ Message (both true true) ∷ Return false false ∷ []) false true, tells 1 1 1)
    ∷ []

-- a protection PE, which every role but 0 is
unfoldable pub protection_courses : List (Course × GroupReport)
protection_courses =
    (Set 1 false false [] false true, tells 0 0 0)
    ∷ (Set 7 false false [] false true, tells 0 0 0)
    ∷ (Set 1 false false (Ac 1 ∷ []) false true, tells 0 1 3)
    ∷ (Set 1 false false (Timer true ∷ Crossed ∷ []) true true, tells 0 0 0)
    ∷ (Set 1 false false (Message (both true false) ∷ []) false true, tells 1 0 2)
    ∷ (Set 1 false false (Message (both false true) ∷ []) false true, tells 1 0 2)
    ∷ (Set 7 false false (Message (record { id = 7; status = status 55 true; switching = NoSwitching }) ∷ []) false true, tells 1 0 2)
    ∷ (Set 1 false false (Message (both false false) ∷ []) false true, tells 0 0 0)
    ∷ (Set 1 true false (Message (both true false) ∷ Timer true ∷ Crossed ∷ Message (both false false) ∷ []) true true, tells 1 0 2)
    ∷ (Set 1 false false (Message (both true true) ∷ Return false false ∷ []) false true, tells 0 0 0)
    ∷ []

-- a message that came on a label, to the group once it is set
pub data Arrival : Type 0 where
  Came : (label : ℕ) → Dhc → Arrival

abbrev pub taken_of : Arrival → Bool
taken_of (Came label d) = takes_from label d (grouped (setting 0) false false)

-- ID, sources of the two TLVs
abbrev sent : ℕ → ℕ → ℕ → Dhc
sent id first second = record { id = id; status = status first false; switching = switching second false }

unfoldable pub arrivals : List (Arrival × Bool)
arrivals =
    (Came 101 (sent 7 55 55), true)
    ∷ (Came 101 (sent 7 55 56), false)
    ∷ (Came 101 (sent 7 56 55), false)
    ∷ (Came 101 (sent 8 55 55), false)
    ∷ (Came 100 (sent 7 55 55), false)
    ∷ (Came 102 (sent 7 55 55), false)
    ∷ (Came 101 (record { id = 7; status = NoStatus; switching = switching 55 true }), true)
    ∷ (Came 101 (record { id = 7; status = status 56 true; switching = NoSwitching }), false)
    ∷ []

-- a group in the record of label 100: mark, role, PW, AC, and the label of its DNI-PW
pub data Stored : Type 0 where
  Lies : (set role pw ac dni : ℕ) → Stored

abbrev pub fit_of : Stored → Bool
fit_of (Lies set role pw ac dni) = group_fits 100 (record { id = 0; peer = 0; dni = dni; set = set; role = role; pw = pw; ac = ac })

unfoldable pub lying : List (Stored × Bool)
lying =
    (Lies 1 1 1 1 101, true)
    ∷ (Lies 2 0 0 0 101, false)
    ∷ (Lies 1 2 0 0 101, false)
    ∷ (Lies 1 0 2 0 101, false)
    ∷ (Lies 1 0 0 2 101, false)
    ∷ (Lies 1 0 0 0 15, false)
    ∷ (Lies 1 0 0 0 16, true)
    ∷ (Lies 1 0 0 0 100, false)
    ∷ (Lies 1 0 0 0 499999, true)
    ∷ (Lies 1 0 0 0 500000, false)
    ∷ (Lies 1 0 0 0 1048576, false)
    ∷ (Lies 0 2 2 2 100, true)
    ∷ []

-- setting with a DNI label, where the service PW is open or not, the DNI-PW too, the service PW has a group or not, the ID is taken or not
pub data Attempt : Type 0 where
  Try : (dni : ℕ) (service other grouped taken : Bool) → Attempt

abbrev pub refusal_of : Attempt → ℕ
refusal_of (Try dni service other grouped taken) =
    set_refusal (record { id = 7; peer = 55; service = 100; dni = dni; role = 0 }) (record { service = service; dni = other; grouped = grouped; taken = taken })

-- 2 before 10, and 10 before 11
unfoldable pub attempts : List (Attempt × ℕ)
attempts =
    (Try 101 true true false false, 0)
    ∷ (Try 101 false true false false, 2)
    ∷ (Try 101 true false true true, 2)
    ∷ (Try 100 false false false false, 2)
    ∷ (Try 100 true true true true, 10)
    ∷ (Try 101 true true true false, 11)
    ∷ (Try 101 true true false true, 11)
    ∷ []
