-- A dual-homing group (RFC 8185) as a value: what setting makes, and what each rule of M-164 makes of its PW and its AC.
-- A loss and a crossing are those of the service PW at the reading of the call; they are handed in as yes or no.
-- Assumes nothing.
use Rattle.std.specs.Prelude.{ℕ, Bool, cond, ◌||◌, eqb}
use Rattle.homing.specs.declared.Group.{Group}
use Rattle.homing.specs.declared.GroupSettings.{GroupSettings}

-- the numbers of a role
abbrev pub working : ℕ
working = 0

abbrev pub protection : ℕ
protection = 1

-- the numbers of a PW and of an AC
abbrev pub standby : ℕ
standby = 0

abbrev pub active : ℕ
active = 1

-- a role or an AC as a host names it, which is never refused: 0 is the first value, and every other number the second
abbrev pub one_of_two : ℕ → ℕ
one_of_two n = cond (eqb n 0) 0 1

abbrev pub is_working : ℕ → Bool
is_working role = eqb role working

-- no group: the mark `set` is 0, and all else too
abbrev pub no_group : Group
no_group = record { id = 0; peer = 0; dni = 0; set = 0; role = 0; pw = 0; ac = 0 }

-- a group with another PW, and with another AC
abbrev pub with_pw : ℕ → Group → Group
with_pw pw g = record { id = g.id; peer = g.peer; dni = g.dni; set = g.set; role = g.role; pw = pw; ac = g.ac }

abbrev pub with_ac : ℕ → Group → Group
with_ac ac g = record { id = g.id; peer = g.peer; dni = g.dni; set = g.set; role = g.role; pw = g.pw; ac = ac }

-- at setting and at return: a working PE's PW is active, unless a loss or crossing stands, and a protection PE's is standby
abbrev pub first_pw : ℕ → Bool → Bool → ℕ
first_pw role loss crossing = cond (is_working role) (cond (loss || crossing) standby active) standby

-- setting a group: its AC is standby at first. The label of the service PW is that of the record in which the group lies
abbrev pub grouped : GroupSettings → Bool → Bool → Group
grouped s loss crossing =
    record {
      id = s.id;
      peer = s.peer;
      dni = s.dni;
      set = 1;
      role = one_of_two s.role;
      pw = first_pw s.role loss crossing;
      ac = standby;
    }

-- setting its AC
abbrev pub ac_set : ℕ → Group → Group
ac_set ac g = with_ac (one_of_two ac) g

-- return, which is by the operator alone
abbrev pub returned : Bool → Bool → Group → Group
returned loss crossing g = with_pw (first_pw g.role loss crossing) g

-- a working PE makes its PW standby; a protection PE leaves it
abbrev pub lowered : ℕ → ℕ → ℕ
lowered role pw = cond (is_working role) standby pw

-- at a loss, which is looked for where TIMER is given
abbrev pub fallen : Bool → Group → Group
fallen loss g = with_pw (cond loss (lowered g.role g.pw) g.pw) g

-- at a crossed message on the service PW
abbrev pub crossed_by : Group → Group
crossed_by g = with_pw (lowered g.role g.pw) g
