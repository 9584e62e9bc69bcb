-- What a configuration is refused for, in the request's words, over its entries.
-- Assumes nothing.
use Rattle.std.specs.Prelude.{ℕ, ◌≤◌, ◌<◌, ◌≡◌, Bool, true}
use mathlib.Core.List.{List, Memᴰ}
use Rattle.configuration.specs.Entries.{Entry, is_functions, is_configuration, is_discriminator, is_timers}
use Rattle.configuration.specs.Reading.{count}

-- some entry is so
abbrev pub Some : (Entry → Type 0) → List Entry → Type 0
Some P es = (e : Entry) × Memᴰ e es × P e

-- 10 before all: two types in BFD Configuration are equal
pub data Clash (authentication : ℕ) : Type 0 where
  discriminators : authentication ≡ 1 → Clash authentication
  timers : authentication ≡ 2 → Clash authentication

-- 16: an entry, padding included, past its holder's end
abbrev pub Past : Entry → Type 0
Past e = e.past ≡ true

-- 17: a known entry whose length its layout doesn't allow
pub data WrongLength (authentication : ℕ) (e : Entry) : Type 0 where
  functions_short : e.levels ≡ 3 → e.kind ≡ 16 → e.size < 4 → WrongLength authentication e
  configuration_short : e.levels ≡ 2 → e.kind ≡ 1 → e.size < 4 → WrongLength authentication e
  discriminator_not_four : e.levels ≡ 1 → e.kind ≡ 1 → (e.size ≡ 4 → ⊥) → WrongLength authentication e
  timers_not_twelve : e.levels ≡ 1 → e.kind ≡ 2 → (e.size ≡ 12 → ⊥) → WrongLength authentication e
  authentication_not_four : e.levels ≡ 1 → e.kind ≡ authentication → (e.size ≡ 4 → ⊥) → WrongLength authentication e

-- the four that are needed
pub data Needed : (Entry → Bool) → Type 0 where
  functions : Needed is_functions
  configuration : Needed is_configuration
  discriminator : Needed is_discriminator
  timers : Needed is_timers

-- 18: a needed entry missing or twice
pub data MissingOrTwice (es : List Entry) : Type 0 where
  missing : (test : Entry → Bool) → Needed test → count test es ≡ 0 → MissingOrTwice es
  twice : (test : Entry → Bool) → Needed test → 2 ≤ count test es → MissingOrTwice es

-- then 10: discriminator 0, or period not 1,000 to 10,000,000
pub data UnfitOffer (discriminator period : ℕ) : Type 0 where
  no_discriminator : discriminator ≡ 0 → UnfitOffer discriminator period
  period_below : period < 1000 → UnfitOffer discriminator period
  period_above : 10000000 < period → UnfitOffer discriminator period
