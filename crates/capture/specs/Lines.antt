-- The line that `watch` prints for an answer, as octets, and its number.
-- Assumes nothing.
use Rattle.std.specs.Prelude.{ℕ, zero, suc, ◌+◌, ◌/◌, ◌%◌, Bool, cond, ◌&&◌, List, [], ◌∷◌, ◌++◌, eqb, ltb, leb}
use Rattle.message.specs.Message.{message_place}
use Rattle.rules.specs.declared.Report.{Report}
use Rattle.rules.specs.Calls.{Act, Close, Lock, Unlock, Receive, ReportOn, WriteCc, WriteCv, Call, Tick, Open, On, Said}

-- a number in decimal, of at most k digits
unfoldable pub digits : ℕ → ℕ → List ℕ
digits zero n = []
digits (suc k) n = cond (ltb n 10) [] (digits k (n / 10)) ++ (48 + n % 10) ∷ []

-- a 64-bit number has at most 20
abbrev pub decimal : ℕ → List ℕ
decimal n = digits 20 n

-- 0 to 9, a to f
abbrev pub hex_digit : ℕ → ℕ
hex_digit d = cond (ltb d 10) (48 + d) (87 + d)

unfoldable pub hex : List ℕ → List ℕ
hex [] = []
hex (b ∷ bs) = hex_digit (b / 16 % 16) ∷ hex_digit (b % 16) ∷ hex bs

-- a space before a number
abbrev pub spaced : ℕ → List ℕ
spaced n = 32 ∷ decimal n

unfoldable pub seven_numbers : Report → List ℕ
seven_numbers r =
    spaced r.state ++ spaced r.crossing ++ spaced r.loss ++ spaced r.alarm ++ spaced r.rdi ++ spaced r.blocked ++ spaced r.conditions

-- what stands behind an accepted answer
abbrev pub act_text : Act → Said → List ℕ
act_text (Close u) a = []
act_text (Lock u) a = []
act_text (Unlock u) a = []
act_text (Receive m u) a = []
act_text ReportOn a = seven_numbers a.report
act_text (WriteCc b) a = 32 ∷ hex a.buffer
act_text (WriteCv b) a = 32 ∷ hex a.buffer

abbrev pub call_text : Call → Said → List ℕ
call_text (Tick u) a = []
call_text (Open g u) a = []
call_text (On l act) a = act_text act a

-- 3 to 8: what a reader refuses a message with
abbrev pub is_readers : ℕ → Bool
is_readers n = leb 3 n && leb n 8

-- what stands behind a refusal n: where the message went wrong, behind a receive's 3 to 8
abbrev pub act_place : Act → ℕ → List ℕ
act_place (Close u) n = []
act_place (Lock u) n = []
act_place (Unlock u) n = []
act_place (Receive m u) n = cond (is_readers n) (spaced (message_place m)) []
act_place ReportOn n = []
act_place (WriteCc b) n = []
act_place (WriteCv b) n = []

abbrev pub place_text : Call → ℕ → List ℕ
place_text (Tick u) n = []
place_text (Open g u) n = []
place_text (On l act) n = act_place act n

-- record number and answer; after a report's 0 its seven numbers, after a write's 0 the octets in hex, after a receive's 3 to 8 the place
unfoldable pub line : ℕ → Call → Said → List ℕ
line number c a = decimal number ++ spaced a.number ++ cond (eqb a.number 0) (call_text c a) (place_text c a.number) ++ 10 ∷ []

-- the four shapes of a line. A record's number and its answer, with nothing behind them
abbrev pub answer_text : ℕ → ℕ → List ℕ
answer_text number answer = decimal number ++ spaced answer

unfoldable pub plain_line : ℕ → ℕ → List ℕ
plain_line number answer = answer_text number answer ++ 10 ∷ []

-- with a report's seven numbers behind a 0
unfoldable pub report_line : ℕ → Report → List ℕ
report_line number r = answer_text number 0 ++ seven_numbers r ++ 10 ∷ []

-- with octets in hex behind a 0
unfoldable pub octets_line : ℕ → List ℕ → List ℕ
octets_line number octets = answer_text number 0 ++ (32 ∷ hex octets) ++ 10 ∷ []

-- with a place behind a refusal
unfoldable pub placed_line : ℕ → ℕ → ℕ → List ℕ
placed_line number answer place = answer_text number answer ++ spaced place ++ 10 ∷ []

-- the number of the record behind that of number n. Numbers stay at the largest that 64 bits hold
abbrev pub numbered : ℕ → ℕ
numbered n = cond (ltb n 18446744073709551615) (n + 1) n
