-- What the exported reader of a configuration answers: one record of numbers.
-- Assumes nothing.
use Rattle.octets.specs.Choice.{Answer, accepted, refused}
use Rattle.configuration.specs.declared.Offer.{Offer}
use Rattle.korvezul.specs.declared.provisioning.ConfigurationRead.{ConfigurationRead}

-- 0 and the two numbers, or the refusal's number and noughts
abbrev pub configuration_read : Answer Offer → ConfigurationRead
configuration_read (accepted o) = record { answer = 0; discriminator = o.discriminator; period = o.period }
configuration_read (refused n) = record { answer = n; discriminator = 0; period = 0 }
