use mathlib.Core.Path.{sym, ◌∙◌}
use Rattle.session.proofs.Calm.{parts, calm-rest}
use Rattle.session.proofs.soundness.session_sound.Goals as goal

pub returns-then-not-settings_fit : goal.returns-then-not-settings_fit
returns-then-not-settings_fit c = let a = c.args in rw (parts a.s a.clock, ← c.settings_fit.ensures, c.if-not-settings_fit.true)

pub returns-then-not-own_plain : goal.returns-then-not-own_plain
returns-then-not-own_plain c = let a = c.args in rw (parts a.s a.clock, ← c.own_plain.ensures, c.if-not-own_plain.true, ← c.settings_fit.ensures, c.if-not-settings_fit.false)

pub returns-then-is_calm : goal.returns-then-is_calm
returns-then-is_calm c = let a = c.args in
    let e = sym c.is_calm.ensures ∙ c.if-is_calm.true in
    rw (parts a.s a.clock, calm-rest a.s a.clock e, ← c.own_plain.ensures, c.if-not-own_plain.false, ← c.settings_fit.ensures, c.if-not-settings_fit.false)

pub returns : goal.returns
returns c = let a = c.args in
    rw (parts a.s a.clock, ← c.own_plain.ensures, c.if-not-own_plain.false, ← c.settings_fit.ensures, c.if-not-settings_fit.false) c.rest_sound.ensures
