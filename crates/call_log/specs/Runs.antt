-- A log whose answers are our run's, from a table on, and the records of it that are gone through.
-- Assumes nothing.
use Rattle.std.specs.Prelude.{ℕ, zero, suc, ◌≡◌, cond, List, [], ◌∷◌}
use Rattle.table.specs.Table.{Table, answer, next}
use Rattle.call_log.specs.Records.{Logged, logged_in, behind}
use Rattle.call_log.specs.Reading.{more_of}

-- each answer is the number that the call gets
unfoldable pub Ours : Table → List Logged → Type 0
Ours t [] = Unit {0}
Ours t (g ∷ gs) = (g.answer ≡ (answer t g.call).number) × Ours (next t g.call) gs

-- the table behind the calls
unfoldable pub behind_all : Table → List Logged → Table
behind_all t [] = t
behind_all t (g ∷ gs) = behind_all (next t g.call) gs

-- of at most n records, those before the first accepted one that moves the clock past `until`
unfoldable pub gone_through : ℕ → ℕ → List ℕ → List Logged
gone_through zero until s = []
gone_through (suc n) until s = cond (more_of until (suc n) s) (logged_in s ∷ gone_through n until (behind s)) []
