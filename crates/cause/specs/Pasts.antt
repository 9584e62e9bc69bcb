-- What was called and answered in a capture: the calls of its whole records, none where its header is bad.
-- Assumes nothing.
use Rattle.std.specs.Prelude.{ℕ, cond, List, take, drop}
use Rattle.capture.specs.Records.{header_fits}
use Rattle.text.specs.Text.{parsed}
use Rattle.meaning.specs.Histories.{History, start}
use Rattle.meaning.specs.Edges.{told-all}

-- of all its records
unfoldable pub past_of : List ℕ → History
past_of capture = cond (header_fits capture) (told-all start (parsed (drop 8 capture)).calls) start

-- of its first n records
unfoldable pub past_up_to : ℕ → List ℕ → History
past_up_to n capture = cond (header_fits capture) (told-all start (take n (parsed (drop 8 capture)).calls)) start
