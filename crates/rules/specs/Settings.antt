-- What an opening gives, and the range of each setting.
-- Assumes nothing.
use Rattle.std.specs.Prelude.{ℕ, Bool, not, ◌&&◌, ltb, leb, eqb}
use Rattle.cv.specs.Forms.{mep_fits}
use Rattle.rules.specs.declared.Settings.{Settings}
use Rattle.rules.specs.Modes.{mode_fits}

abbrev pub label_fits : ℕ → Bool
label_fits label = leb 16 label && leb label 1048575

-- a local discriminator is not 0
abbrev pub discriminator_fits : ℕ → Bool
discriminator_fits discriminator = not (eqb discriminator 0)

abbrev pub period_fits : ℕ → Bool
period_fits period = leb 1000 period && leb period 10000000

-- a yes/no mark: 0 or 1
abbrev pub mark_fits : ℕ → Bool
mark_fits mark = ltb mark 2

abbrev pub circuit_fits : ℕ → ℕ → ℕ → Bool
circuit_fits label discriminator period = label_fits label && discriminator_fits discriminator && period_fits period

-- of each end point the type and the AGI length: type 0 or 1, or type 2 with an AGI length of at most 32
abbrev pub ends_fit : ℕ → ℕ → ℕ → ℕ → Bool
ends_fit own own_agi expected expected_agi = mep_fits own own_agi && mep_fits expected expected_agi

-- the two marks and the mode
abbrev pub choices_fit : ℕ → ℕ → ℕ → Bool
choices_fit followlink followlock mode = mark_fits followlink && (mark_fits followlock && mode_fits mode)

-- refusal 10 on open is for settings that do not fit
unfoldable pub settings_fit : Settings → Bool
settings_fit s =
    circuit_fits s.label s.discriminator s.period
    && (ends_fit s.own.kind s.own.size s.expected.kind s.expected.size && choices_fit s.followlink s.followlock s.mode)
