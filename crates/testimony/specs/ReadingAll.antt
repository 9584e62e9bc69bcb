-- A log read all, by what the rules paper says to its calls: no record and no table. What asking is held to.
-- Assumes nothing.
use Rattle.std.specs.Prelude.{ℕ, ◌≡◌, List, [], ◌∷◌, ◌++◌, map, drop}
use Rattle.rules.specs.Calls.{ReportOn, Call, Tick, On, Said}
use Rattle.meaning.specs.Histories.{History, start, after}
use Rattle.meaning.specs.Answers.{says}
use Rattle.meaning.specs.Edges.{told-all}
use Rattle.call_log.specs.Records.{Logged}
use Rattle.call_log.specs.Runs.{gone_through}

abbrev pub calls_of : List Logged → List Call
calls_of gs = map (λ g. g.call) gs

-- our run's: each answer is the number that the paper gives to that call behind the calls before it, from nothing called. Whoever writes each call
-- with the number that it was given has such a log, whatever the calls are
unfoldable pub AsSaid : History → List Logged → Type 0
AsSaid h [] = Unit {0}
AsSaid h (g ∷ gs) = (g.answer ≡ (says h g.call).number) × AsSaid (after h g.call (says h g.call)) gs

-- the calls up to, not with, the first accepted one that moves the clock past the reading, and then a tick to the reading
abbrev pub called_up_to : List ℕ → ℕ → List Call
called_up_to log u = calls_of (gone_through 65536 u (drop 8 log)) ++ Tick u ∷ []

-- the report on a label then, as the paper has it
unfoldable pub reported_at : List ℕ → ℕ → ℕ → Said
reported_at log l u = says (told-all start (called_up_to log u)) (On l ReportOn)
