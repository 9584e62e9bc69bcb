-- The octets of one record of a log: time, label, kind and the body's length as in a capture, the 16-bit answer that was given, and the body.
-- Assumes nothing.
use Rattle.std.specs.Prelude.{ℕ, ◌+◌, ◌*◌, ◌%◌, Bool, not, ◌&&◌, ◌||◌, List, [], ◌∷◌, ◌++◌, length, eqb, ltb, leb}
use Rattle.octets.specs.Numbers.{octets_of}
use Rattle.octets.specs.Choice.{need}
use Rattle.cv.specs.declared.MepId.{MepId}
use Rattle.rules.specs.declared.Settings.{Settings}
use Rattle.logging.specs.declared.Logged.{Logged}

-- `TPL`, 16-bit version 1, three zero bytes
abbrev pub header_octets : List ℕ
header_octets = 84 ∷ 80 ∷ 76 ∷ 0 ∷ 1 ∷ 0 ∷ 0 ∷ 0 ∷ []

abbrev pub head_octets : Logged → ℕ → List ℕ
head_octets w size = octets_of 8 w.time (octets_of 4 w.label (octets_of 2 w.kind (octets_of 2 size (octets_of 2 w.answer []))))

-- any call but an open: a kind up to 8; only a message has octets, at most 2,048
abbrev pub call_fits : ℕ → ℕ → Bool
call_fits kind octets = (not (eqb kind 1) && ltb kind 9) && (eqb octets 0 || (eqb kind 5 && leb octets 2048))

unfoldable pub call_refusal : Logged → List ℕ → ℕ
call_refusal w message = need (call_fits w.kind (length message)) 10 0

unfoldable pub call_octets : Logged → List ℕ → List ℕ
call_octets w message = head_octets w (length message % 65536) ++ message

-- a record has 12 octets for a MEP-ID: there is no AGI
abbrev pub is_plain : MepId → Bool
is_plain m =
    (eqb m.group 0 && eqb m.size 0)
    && ((eqb m.agi.first 0 && eqb m.agi.second 0) && (eqb m.agi.third 0 && eqb m.agi.fourth 0))

-- settings that a record can hold: one type for both MEP-IDs, and not that of a pseudowire; two marks; coordinated
unfoldable pub settings_held : Settings → Bool
settings_held g =
    ((eqb g.own.kind g.expected.kind && not (eqb g.own.kind 2)) && (ltb g.followlink 2 && ltb g.followlock 2))
    && ((is_plain g.own && is_plain g.expected) && eqb g.mode 0)

abbrev pub mep_octets : MepId → List ℕ → List ℕ
mep_octets m rest = octets_of 4 m.global (octets_of 4 m.node (octets_of 4 m.local rest))

-- an open's body, 35 octets: discriminator, period, type, own, expected, and a byte of marks (1 link-down, 2 lock)
abbrev pub body_octets : Settings → List ℕ
body_octets g =
    octets_of 4 g.discriminator
    (octets_of 4 g.period
    (octets_of 2 g.own.kind (mep_octets g.own (mep_octets g.expected ((g.followlink % 2 + g.followlock % 2 * 2) ∷ [])))))

abbrev pub opening_of : ℕ → ℕ → ℕ → Logged
opening_of label reading answer = record { time = reading; label = label; kind = 1; answer = answer }

unfoldable pub open_refusal : Settings → ℕ
open_refusal g = need (settings_held g) 10 0

unfoldable pub open_octets : Settings → ℕ → ℕ → List ℕ
open_octets g reading answer = head_octets (opening_of g.label reading answer) 35 ++ body_octets g
