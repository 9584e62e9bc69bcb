use Rattle.configuration.specs.Reading.{wrong_length}
use Rattle.configuration.specs.Noting.{noted}
use Rattle.configuration.proofs.entry.note.Goals as goal

pub returns : goal.returns
unfolding noted wrong_length
returns c = rw (
  c.wrong_length.ensures,
  c.tallied-4.ensures,
  c.tallied-3.ensures,
  c.tallied-2.ensures,
  c.is_named-2.ensures,
  c.tallied.ensures,
  c.is_named.ensures,
  c.chosen-2.ensures,
  c.chosen.ensures,
  c.get_u32-transmit.ensures,
  c.get_u32-number.ensures,
  c.is_named-timers.ensures,
  c.is_named-discriminator.ensures,
)
