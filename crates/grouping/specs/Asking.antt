-- Asked of a group, the table tells PW, AC and forwarding at the clock, or 26, 24. It brings no reading and changes nothing.
-- Assumes nothing.
use Rattle.std.specs.Prelude.{ℕ, Bool, false, cond, eqb}
use Rattle.std.proofs.Math.Option.{Option, none, some}
use Rattle.homing.specs.declared.GroupReport.{GroupReport}
use Rattle.homing.specs.Forwarding.{group_report}
use Rattle.session.specs.declared.Session.{Session}
use Rattle.session.specs.Queries.{loss_at, report_at}
use Rattle.table.specs.Table.{Table, open_of, in_order, find}
use Rattle.grouping.specs.Grouped.{find_group}

-- what is told: a number, and beside 0 the three numbers of the group
pub record Told : Type 0 where
  pub number : ℕ
  pub group : GroupReport

abbrev pub nothing : GroupReport
nothing = record { pw = 0; ac = 0; forwarding = 0 }

abbrev pub refused_with : ℕ → Told
refused_with n = record { number = n; group = nothing }

-- the DNI-PW is up exactly when its session is open and UP at the clock
abbrev pub is_up : ℕ → Option Session → Bool
is_up clock none = false
is_up clock (some r) = eqb (report_at r clock).state 3

abbrev pub told_of : Table → Option Session → Told
told_of t none = refused_with 24
told_of t (some r) = record { number = 0; group = group_report (loss_at r t.clock) (is_up t.clock (find r.group.dni (open_of t))) r.group }

unfoldable pub asked_of : Table → ℕ → ℕ → Told
asked_of t p id = cond (in_order t) (told_of t (find_group p id (open_of t))) (refused_with 26)
