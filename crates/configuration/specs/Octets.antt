-- A configuration as it is written: "discriminator first, all else 0".
-- Assumes nothing.
use Rattle.std.specs.Prelude.{ℕ, List, [], ◌∷◌}
use Rattle.octets.specs.Numbers.{octets_of}
use Rattle.octets.specs.Choice.{need}
use Rattle.configuration.specs.Reading.{offer_fits}

-- 40 octets: OAM Functions of 36 (flags 0), BFD Configuration of 28 (version, PHB and flags 0), Local Discriminator, and the timers, of which the receive and echo intervals are 0
unfoldable pub configuration_octets : ℕ → ℕ → List ℕ
configuration_octets discriminator period =
    0 ∷ 16 ∷ 0 ∷ 36 ∷ 0 ∷ 0 ∷ 0 ∷ 0
    ∷ 0 ∷ 1 ∷ 0 ∷ 28 ∷ 0 ∷ 0 ∷ 0 ∷ 0
    ∷ 0 ∷ 1 ∷ 0 ∷ 4 ∷ octets_of 4 discriminator
    (0 ∷ 2 ∷ 0 ∷ 12 ∷ octets_of 4 period (0 ∷ 0 ∷ 0 ∷ 0 ∷ 0 ∷ 0 ∷ 0 ∷ 0 ∷ []))

-- refusal 10 of writing is that of reading
abbrev pub offer_refusal : ℕ → ℕ → ℕ
offer_refusal discriminator period = need (offer_fits discriminator period) 10 0
