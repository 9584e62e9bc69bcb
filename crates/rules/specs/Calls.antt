-- The nine calls with their arguments, and what a call says.
-- Assumes nothing.
use Rattle.std.specs.Prelude.{ℕ, Bool, List, [], eqb}
use Rattle.octets.specs.Writing.{Written}
use Rattle.rules.specs.declared.Settings.{Settings}
use Rattle.rules.specs.declared.Report.{Report}

-- what is asked of the session of a label. A reading is the clock reading that the call brings; a report and a write bring none.
-- A message is its octets, a buffer its bytes.
pub data Act : Type 0 where
  Close : (reading : ℕ) → Act
  Lock : (reading : ℕ) → Act
  Unlock : (reading : ℕ) → Act
  Receive : (message : List ℕ) (reading : ℕ) → Act
  ReportOn : Act
  WriteCc : (buffer : List ℕ) → Act
  WriteCv : (buffer : List ℕ) → Act

pub data Call : Type 0 where
  Tick : (reading : ℕ) → Call
  Open : (settings : Settings) (reading : ℕ) → Call
  On : (label : ℕ) (act : Act) → Call

-- what a call says: its number, the seven numbers of a report, and the whole buffer afterwards
pub record Said : Type 0 where
  pub number : ℕ
  pub report : Report
  pub buffer : List ℕ

-- accepted means answered 0
abbrev pub is_accepted : Said → Bool
is_accepted a = eqb a.number 0

abbrev pub no_report : Report
no_report = record { state = 0; crossing = 0; loss = 0; alarm = 0; rdi = 0; blocked = 0; conditions = 0 }

abbrev pub buffer_of : Act → List ℕ
buffer_of (Close t) = []
buffer_of (Lock t) = []
buffer_of (Unlock t) = []
buffer_of (Receive m t) = []
buffer_of ReportOn = []
buffer_of (WriteCc b) = b
buffer_of (WriteCv b) = b

-- the bytes that a call lends to be written
abbrev pub lent : Call → List ℕ
lent (Tick t) = []
lent (Open g t) = []
lent (On l a) = buffer_of a

-- a number alone: nothing is reported, and a lent buffer is as it was
abbrev pub number_only : Call → ℕ → Said
number_only c n = record { number = n; report = no_report; buffer = lent c }

-- a report
abbrev pub reporting : Report → Said
reporting r = record { number = 0; report = r; buffer = [] }

-- a write: its answer, and the buffer
abbrev pub writes : Written → Said
writes w = record { number = w.answer; report = no_report; buffer = w.buffer }
