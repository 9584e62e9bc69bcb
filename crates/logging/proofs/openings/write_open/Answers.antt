use mathlib.Core.Path.{sym, ◌∙◌}
use Rattle.logging.specs.Logging.{open_refusal, open_octets}
use Rattle.logging.proofs.openings.write_open.Goals as goal

pub returns : goal.returns
unfolding open_refusal open_octets
returns c = rw (c.write_both.ensures, sym c.settings_held.ensures ∙ c.if-not-settings_held.false, c.body_octets-body.ensures, c.head_octets-head.ensures, c.opening_of.ensures)
