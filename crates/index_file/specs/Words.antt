-- The line of an answer: `0 3 0 0 0 0 0 0 2`, or the refusal's number.
-- Assumes nothing.
use Rattle.std.specs.Prelude.{ℕ, cond, List, [], ◌∷◌, ◌++◌, eqb}
use Rattle.capture.specs.Lines.{decimal, spaced, seven_numbers}
use Rattle.rules.specs.declared.Report.{Report}
use Rattle.call_log.specs.Reading.{Answer}

unfoldable pub refused_line : ℕ → List ℕ
refused_line n = decimal n ++ 10 ∷ []

-- 0, the seven numbers of the report, and the number of entries looked at
unfoldable pub told_line : Report → ℕ → List ℕ
told_line r looked = 48 ∷ [] ++ (seven_numbers r ++ (spaced looked ++ 10 ∷ []))

unfoldable pub answer_line : Answer → List ℕ
answer_line a = cond (eqb a.answer 0) (told_line a.report a.looked) (refused_line a.answer)
