-- Forwarding (RFC 8185, Table 1), and the three numbers that asking of a group tells.
-- Assumes nothing.
use Rattle.std.specs.Prelude.{ℕ, Bool, true, false, eqb}
use Rattle.homing.specs.declared.Group.{Group}
use Rattle.homing.specs.declared.GroupReport.{GroupReport}
use Rattle.homing.specs.Groups.{active, fallen}

-- the numbers of the forwarding behavior: drop all packets, Service PW <-> AC, Service PW <-> DNI-PW, DNI-PW <-> AC
abbrev pub drop_all : ℕ
drop_all = 0

abbrev pub service_with_ac : ℕ
service_with_ac = 1

abbrev pub service_with_dni : ℕ
service_with_dni = 2

abbrev pub dni_with_ac : ℕ
dni_with_ac = 3

-- Table 1, a line for each row: whether the service PW is active, whether the AC is, whether the DNI-PW is up
abbrev pub behavior : Bool → Bool → Bool → ℕ
behavior true true true = service_with_ac
behavior true false true = service_with_dni
behavior false true true = dni_with_ac
behavior false false true = drop_all
behavior true true false = service_with_ac
behavior true false false = drop_all
behavior false true false = drop_all
behavior false false false = drop_all

abbrev pub is_active : ℕ → Bool
is_active n = eqb n active

abbrev pub forwarding : ℕ → ℕ → Bool → ℕ
forwarding pw ac up = behavior (is_active pw) (is_active ac) up

-- PW, AC and forwarding of a group
abbrev pub report_of : Bool → Group → GroupReport
report_of up g = record { pw = g.pw; ac = g.ac; forwarding = forwarding g.pw g.ac up }

-- at a clock: of the group with TIMER given, where there is a loss by then
abbrev pub group_report : Bool → Bool → Group → GroupReport
group_report loss up g = report_of up (fallen loss g)
