-- A table, and what was called on it and answered by it.
-- Assumes nothing.
use Rattle.std.specs.Prelude.{ℕ, ◌≡◌, List, [], ◌∷◌}
use Rattle.rules.specs.Calls.{Call, Said}
use Rattle.session.specs.declared.Session.{Session}
use Rattle.table.specs.Table.{Table, answer, next, emptied}
use Rattle.meaning.specs.Histories.{History, start, after}
use Rattle.meaning.specs.Answers.{says}

pub record World : Type 0 where
  pub table : Table
  pub past : History

-- each call gets table and clock as the last one left them
unfoldable pub step : World → Call → World
step w c = record { table = next w.table c; past = after w.past c (answer w.table c) }

unfoldable pub play : World → List Call → World
play w [] = w
play w (c ∷ cs) = play (step w c) cs

-- a row made empty, at clock 0, and nothing called
unfoldable pub begin : List Session → World
begin row = record { table = emptied row; past = start }

unfoldable pub past_of : List Session → List Call → History
past_of row cs = (play (begin row) cs).past

unfoldable pub table_after : List Session → List Call → Table
table_after row cs = (play (begin row) cs).table

-- each call said what the paper gives from what was called and said before it
unfoldable pub Right : History → Type 0
Right start = Unit {0}
Right (after h c a) = Right h × (a ≡ says h c)

-- no call answered n
unfoldable pub Never : ℕ → History → Type 0
Never n start = Unit {0}
Never n (after h c a) = Never n h × (a.number ≡ n → ⊥)
