-- The text of a whole capture: the lines of its records, numbered from 1, and how it ends. From the formats and the meaning of a history alone: what was called and
-- what the rules paper says to it, no record of a session and no row.
-- Assumes nothing.
use Rattle.std.specs.Prelude.{ℕ, zero, suc, cond, List, [], ◌∷◌, ◌++◌, eqb, length, drop}
use Rattle.rules.specs.Calls.{Call}
use Rattle.capture.specs.Records.{header_fits, next_in, call_in, is_whole, size_of}
use Rattle.capture.specs.Lines.{line, numbered}
use Rattle.meaning.specs.Histories.{History, start, after}
use Rattle.meaning.specs.Answers.{says}

-- the calls of the whole records, one behind the other, and the octets left behind the last
pub record Parsed : Type 0 where
  pub calls : List Call
  pub rest : List ℕ

-- of at most n records
unfoldable pub parsed_by : ℕ → List ℕ → Parsed
parsed_by zero s = record { calls = []; rest = s }
parsed_by (suc n) s =
    let p = parsed_by n (drop (size_of (next_in s)) s) in
    cond (is_whole (next_in s)) (record { calls = call_in s ∷ p.calls; rest = p.rest }) (record { calls = []; rest = s })

-- each takes octets, so their number is enough for n
unfoldable pub parsed : List ℕ → Parsed
parsed s = parsed_by (length s) s

-- a line for each call, of what the paper says to it after all that was called and said before; n is the number of the last record. Numbers go up by one
-- (`counted-lines`: no capture under 2^64 octets comes to the number at which they stay)
unfoldable pub lines_after : History → ℕ → List Call → List ℕ
lines_after h n [] = []
lines_after h n (c ∷ cs) = line (numbered n) c (says h c) ++ lines_after (after h c (says h c)) (numbered n) cs

-- the line `cut`
abbrev pub cut : List ℕ
cut = 99 ∷ 117 ∷ 116 ∷ 10 ∷ []

-- the line `bad header`
abbrev pub bad_header : List ℕ
bad_header = 98 ∷ 97 ∷ 100 ∷ 32 ∷ 104 ∷ 101 ∷ 97 ∷ 100 ∷ 101 ∷ 114 ∷ 10 ∷ []

-- `cut` where something is left that is no whole record: part of one, a kind above 8, too great a length
abbrev pub ending : List ℕ → List ℕ
ending rest = cond (eqb (length rest) 0) [] cut

-- the text of the octets that come after a history
unfoldable pub text_after : History → ℕ → List ℕ → List ℕ
text_after h n s = lines_after h n (parsed s).calls ++ ending (parsed s).rest

unfoldable pub text_of : List ℕ → List ℕ
text_of capture = cond (header_fits capture) (text_after start 0 (drop 8 capture)) bad_header
