-- Settings out of range, in the words of the rules paper: label 16 to 1,048,575; local discriminator, not 0; period 1,000 to 10,000,000;
-- MEP-ID type 0, 1 or 2, and of type 2 an AGI length of at most 32; two yes/no marks; mode 0, 1 or 2. This is 10 of open, and 26 of an open record.
-- Assumes nothing.
use Rattle.std.specs.Prelude.{◌<◌, ◌≡◌}
use Rattle.rules.specs.declared.Settings.{Settings}

pub data Unfit (g : Settings) : Type 0 where
  label_below : g.label < 16 → Unfit g
  label_above : 1048575 < g.label → Unfit g
  no_discriminator : g.discriminator ≡ 0 → Unfit g
  period_below : g.period < 1000 → Unfit g
  period_above : 10000000 < g.period → Unfit g
  own_kind : 2 < g.own.kind → Unfit g
  own_agi : g.own.kind ≡ 2 → 32 < g.own.size → Unfit g
  expected_kind : 2 < g.expected.kind → Unfit g
  expected_agi : g.expected.kind ≡ 2 → 32 < g.expected.size → Unfit g
  link_mark : 1 < g.followlink → Unfit g
  lock_mark : 1 < g.followlock → Unfit g
  mode_above : 2 < g.mode → Unfit g
