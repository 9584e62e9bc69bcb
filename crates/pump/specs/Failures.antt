-- The line that standard error is told where a system call fails: the program, which call, its error number, and the number of the last record that was answered.
-- Assumes nothing.
use Rattle.std.specs.Prelude.{ℕ, Bool, cond, List, [], ◌∷◌, ◌++◌}
use Rattle.capture.specs.Lines.{decimal}

-- `: write failed, errno ` or `: read failed, errno `
abbrev pub call_failed : Bool → List ℕ
call_failed writing =
    cond writing
    (58 ∷ 32 ∷ 119 ∷ 114 ∷ 105 ∷ 116 ∷ 101 ∷ 32 ∷ 102 ∷ 97 ∷ 105 ∷ 108 ∷ 101 ∷ 100 ∷ 44 ∷ 32 ∷ 101 ∷ 114 ∷ 114 ∷ 110 ∷ 111 ∷ 32 ∷ [])
    (58 ∷ 32 ∷ 114 ∷ 101 ∷ 97 ∷ 100 ∷ 32 ∷ 102 ∷ 97 ∷ 105 ∷ 108 ∷ 101 ∷ 100 ∷ 44 ∷ 32 ∷ 101 ∷ 114 ∷ 114 ∷ 110 ∷ 111 ∷ 32 ∷ [])

-- `, behind record `
abbrev pub behind_record : List ℕ
behind_record = 44 ∷ 32 ∷ 98 ∷ 101 ∷ 104 ∷ 105 ∷ 110 ∷ 100 ∷ 32 ∷ 114 ∷ 101 ∷ 99 ∷ 111 ∷ 114 ∷ 100 ∷ 32 ∷ []

-- of the program of that name
unfoldable pub failure_line : List ℕ → Bool → ℕ → ℕ → List ℕ
failure_line name writing error number = name ++ call_failed writing ++ decimal error ++ behind_record ++ decimal number ++ 10 ∷ []
