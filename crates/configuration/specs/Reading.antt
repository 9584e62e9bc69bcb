-- What a list of entries is refused for, and the two numbers that it offers.
-- Assumes nothing.
use Rattle.std.specs.Prelude.{ℕ, ◌+◌, List, [], ◌∷◌, Bool, cond, not, ◌&&◌, ◌||◌, length, ltb, eqb}
use Rattle.octets.specs.Numbers.{number_at}
use Rattle.octets.specs.Choice.{need, bar, Answer, answer}
use Rattle.rules.specs.Lists.{any, only}
use Rattle.rules.specs.Settings.{discriminator_fits, period_fits}
use Rattle.configuration.specs.declared.Offer.{Offer}
use Rattle.configuration.specs.Entries.{Entry, is_functions, is_configuration, is_discriminator, is_timers, is_authentication, is_holder, entries_in}

-- "10 before all if two in one holder are equal": BFD Authentication beside Local Discriminator and Negotiation Timer Parameters
abbrev pub clashes : ℕ → Bool
clashes authentication = eqb authentication 1 || eqb authentication 2

-- "a known entry whose length its layout doesn't allow": a holder has 4 octets of flags or more, a discriminator is 4, timers 12, an authentication 4
unfoldable pub wrong_length : ℕ → Entry → Bool
wrong_length authentication e =
    (is_holder e && ltb e.size 4)
    || ((is_discriminator e && not (eqb e.size 4))
    || ((is_timers e && not (eqb e.size 12)) || (is_authentication authentication e && not (eqb e.size 4))))

-- how many entries pass a test
abbrev pub count : (Entry → Bool) → List Entry → ℕ
count test es = length (only test es)

-- "all four named here are needed once each"
abbrev pub once_each : List Entry → Bool
once_each es =
    (eqb (count is_functions es) 1 && eqb (count is_configuration es) 1)
    && (eqb (count is_discriminator es) 1 && eqb (count is_timers es) 1)

-- the first four octets of the value of the entry that passes a test; of several the last one's, and v where there is none
unfoldable pub number_in : (Entry → Bool) → ℕ → List Entry → ℕ
number_in test v [] = v
number_in test v (e ∷ es) = number_in test (cond (test e) (number_at 4 e.value 0) v) es

-- "the transmit interval is our period": it comes first among the timers
abbrev pub offer_of : List Entry → Offer
offer_of es = record { discriminator = number_in is_discriminator 0 es; period = number_in is_timers 0 es }

-- refusal 10 of reading and writing: a setting out of its range
abbrev pub offer_fits : ℕ → ℕ → Bool
offer_fits discriminator period = discriminator_fits discriminator && period_fits period

-- "refusals, in this order", each over the whole input: 16 an entry past its holder's end; 17; 18; then 10
unfoldable pub refusal_of : ℕ → List Entry → ℕ
refusal_of authentication es =
    bar (clashes authentication) 10
    (bar (any (λ e. e.past) es) 16
    (bar (any (wrong_length authentication) es) 17
    (need (once_each es) 18
    (need (offer_fits (number_in is_discriminator 0 es) (number_in is_timers 0 es)) 10 0))))

-- what reading says of octets; the levels fall from three
unfoldable pub read_configuration : ℕ → List ℕ → Answer Offer
read_configuration authentication xs = answer (refusal_of authentication (entries_in 3 xs)) (offer_of (entries_in 3 xs))
