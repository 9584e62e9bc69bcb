-- The lines for people: one for each entry, one for where the rest begins, one for a refusal.
-- Assumes nothing.
use Rattle.std.specs.Prelude.{ℕ, ◌/◌, ◌%◌, Bool, cond, List, [], ◌∷◌, ◌++◌, eqb}
use Rattle.capture.specs.Lines.{decimal}
use Rattle.comparison.specs.declared.Marks.{Marks}

-- ` time`, ` label`, ` kind`, ` length`, ` body`, ` only in the first`, ` only in the second`, each to its line's end
abbrev pub code_text : ℕ → List ℕ
code_text code =
    cond (eqb code 0) (32 ∷ 116 ∷ 105 ∷ 109 ∷ 101 ∷ 10 ∷ [])
    (cond (eqb code 1) (32 ∷ 108 ∷ 97 ∷ 98 ∷ 101 ∷ 108 ∷ 10 ∷ [])
    (cond (eqb code 2) (32 ∷ 107 ∷ 105 ∷ 110 ∷ 100 ∷ 10 ∷ [])
    (cond (eqb code 3) (32 ∷ 108 ∷ 101 ∷ 110 ∷ 103 ∷ 116 ∷ 104 ∷ 10 ∷ [])
    (cond (eqb code 4) (32 ∷ 98 ∷ 111 ∷ 100 ∷ 121 ∷ 10 ∷ [])
    (cond (eqb code 5) (32 ∷ 111 ∷ 110 ∷ 108 ∷ 121 ∷ 32 ∷ 105 ∷ 110 ∷ 32 ∷ 116 ∷ 104 ∷ 101 ∷ 32 ∷ 102 ∷ 105 ∷ 114 ∷ 115 ∷ 116 ∷ 10 ∷ [])
    (32 ∷ 111 ∷ 110 ∷ 108 ∷ 121 ∷ 32 ∷ 105 ∷ 110 ∷ 32 ∷ 116 ∷ 104 ∷ 101 ∷ 32 ∷ 115 ∷ 101 ∷ 99 ∷ 111 ∷ 110 ∷ 100 ∷ 10 ∷ []))))))

-- `7 length`: the record's number and what differs
unfoldable pub entry_line : ℕ → List ℕ
entry_line e = decimal (e / 8) ++ code_text (e % 8)

-- a line for each entry
unfoldable pub lines_of : List ℕ → List ℕ
lines_of [] = []
lines_of (e ∷ l) = entry_line e ++ lines_of l

-- the lines of record n by what is marked: the number and what differs
abbrev pub mark_line : ℕ → Bool → ℕ → List ℕ
mark_line n test code = cond test (decimal n ++ code_text code) []

unfoldable pub pair_text : ℕ → Marks → List ℕ
pair_text n m =
    mark_line n m.time 0
    ++ (mark_line n m.label 1
    ++ (mark_line n m.kind 2
    ++ (mark_line n m.size 3
    ++ (mark_line n m.body 4
    ++ (mark_line n m.first 5
    ++ mark_line n m.second 6)))))

-- `rest `, `refused `
abbrev pub w_rest : List ℕ
w_rest = 114 ∷ 101 ∷ 115 ∷ 116 ∷ 32 ∷ []

abbrev pub w_refused : List ℕ
w_refused = 114 ∷ 101 ∷ 102 ∷ 117 ∷ 115 ∷ 101 ∷ 100 ∷ 32 ∷ []

abbrev pub w_end : List ℕ
w_end = 10 ∷ []

-- `rest 43`: the octet of the first capture with which the rest begins; its length, where there is none
unfoldable pub rest_line : ℕ → List ℕ
rest_line place = w_rest ++ (decimal place ++ w_end)

-- `refused 22`
unfoldable pub refused_line : ℕ → List ℕ
refused_line n = w_refused ++ (decimal n ++ w_end)
