-- Diagnostic codes by their names (RFC 5880, 4.1; RFC 6428, 3.2): which tell a remote defect, and in which order a session chooses the one
-- that it writes. It says again what `Diagnostics` says in numbers; that the two agree is proved.
-- Assumes nothing.
use Rattle.std.specs.Prelude.{ℕ, Bool, cond, List, [], ◌∷◌, eqb}
use Rattle.rules.specs.Lists.{any}

pub data DiagnosticCode : Type 0 where
  NoDiagnostic : DiagnosticCode
  ControlDetectionTimeExpired : DiagnosticCode
  NeighborSignaledSessionDown : DiagnosticCode
  PathDown : DiagnosticCode
  AdministrativelyDown : DiagnosticCode
  MisConnectivityDefect : DiagnosticCode

abbrev pub code_number : DiagnosticCode → ℕ
code_number NoDiagnostic = 0
code_number ControlDetectionTimeExpired = 1
code_number NeighborSignaledSessionDown = 3
code_number PathDown = 5
code_number AdministrativelyDown = 7
code_number MisConnectivityDefect = 9

-- RDI is told by the code for a loss, for a condition that is followed, for a crossing, and by no other of the 32 numbers
abbrev pub tells_rdi : ℕ → Bool
tells_rdi number = any (λ (c : DiagnosticCode). eqb number (code_number c)) (ControlDetectionTimeExpired ∷ PathDown ∷ MisConnectivityDefect ∷ [])

-- a reason to write a code, there or not
pub data Reason : Type 0 where
  Because : Bool → DiagnosticCode → Reason

-- the code of the first reason that is there
abbrev pub first_code : List Reason → DiagnosticCode
first_code [] = NoDiagnostic
first_code (Because there code ∷ rest) = cond there code (first_code rest)

-- the code written, its reasons in the rules paper's order
abbrev pub code_of : Bool → Bool → Bool → Bool → Bool → DiagnosticCode
code_of locked crossing followed loss neighbor =
    first_code
    (Because locked AdministrativelyDown
    ∷ Because crossing MisConnectivityDefect
    ∷ Because followed PathDown
    ∷ Because loss ControlDetectionTimeExpired
    ∷ Because neighbor NeighborSignaledSessionDown
    ∷ [])
