-- What 26 asks of the group in the record of an open label, as a test. `Unfit` says it in words.
-- Assumes nothing.
use Rattle.std.specs.Prelude.{ℕ, Bool, not, ◌&&◌, ◌||◌, eqb}
use Rattle.rules.specs.Settings.{label_fits, mark_fits}
use Rattle.rules.specs.Parties.{party_of}
use Rattle.homing.specs.declared.Group.{Group}

-- role, PW and AC are 0 or 1
abbrev pub marks_fit : ℕ → ℕ → ℕ → Bool
marks_fit role pw ac = mark_fits role && (mark_fits pw && mark_fits ac)

-- the label of the DNI-PW is a label, not that of the service PW, and of its party
abbrev pub dni_fits : ℕ → ℕ → Bool
dni_fits label dni = label_fits dni && (not (eqb dni label) && eqb (party_of dni) (party_of label))

-- where there is no group nothing is asked of the rest; ID and peer are free
unfoldable pub group_fits : ℕ → Group → Bool
group_fits label g = mark_fits g.set && (eqb g.set 0 || (marks_fit g.role g.pw g.ac && dni_fits label g.dni))
