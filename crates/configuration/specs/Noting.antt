-- What the readers keep of the entries that they met: marks and counts, from which the refusals are told behind the last entry. This is what the code does; nobody has to believe it.
-- Assumes nothing.
use Rattle.std.specs.Prelude.{ℕ, ◌+◌, List, [], ◌∷◌, Bool, false, cond, ◌&&◌, ◌||◌, ltb, eqb}
use Rattle.octets.specs.Numbers.{number_at}
use Rattle.octets.specs.Choice.{need, bar}
use Rattle.configuration.specs.declared.Seen.{Seen}
use Rattle.configuration.specs.Entries.{Entry, is_functions, is_configuration, is_discriminator, is_timers}
use Rattle.configuration.specs.Reading.{clashes, wrong_length, offer_fits}

-- an entry by its numbers, where the value is not asked for
abbrev pub bare : ℕ → ℕ → ℕ → Bool → Entry
bare levels kind size past = record { levels = levels; kind = kind; size = size; past = past; value = [] }

-- one more where the test holds, and 2 for many
abbrev pub tally : Bool → ℕ → ℕ
tally test n = cond test (cond (ltb n 2) (n + 1) n) n

unfoldable pub noted : ℕ → Seen → Entry → Seen
noted authentication s e =
    record {
      discriminator = cond (is_discriminator e) (number_at 4 e.value 0) s.discriminator;
      period = cond (is_timers e) (number_at 4 e.value 0) s.period;
      functions = tally (is_functions e) s.functions;
      configurations = tally (is_configuration e) s.configurations;
      discriminators = tally (is_discriminator e) s.discriminators;
      timers = tally (is_timers e) s.timers;
      past = s.past || e.past;
      wrong = s.wrong || wrong_length authentication e;
    }

unfoldable pub noted_all : ℕ → Seen → List Entry → Seen
noted_all authentication s [] = s
noted_all authentication s (e ∷ es) = noted_all authentication (noted authentication s e) es

-- nothing met
abbrev pub start : Seen
start =
    record {
      discriminator = 0;
      period = 0;
      functions = 0;
      configurations = 0;
      discriminators = 0;
      timers = 0;
      past = false;
      wrong = false;
    }

abbrev pub seen_once : Seen → Bool
seen_once s = (eqb s.functions 1 && eqb s.configurations 1) && (eqb s.discriminators 1 && eqb s.timers 1)

unfoldable pub seen_refusal : ℕ → Seen → ℕ
seen_refusal authentication s =
    bar (clashes authentication) 10
    (bar s.past 16
    (bar s.wrong 17
    (need (seen_once s) 18
    (need (offer_fits s.discriminator s.period) 10 0))))
