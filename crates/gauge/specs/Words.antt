-- The line of a label's spacing: number of pairs, least, greatest, sum and sum of sizes, `-` where there is no least and no greatest; or `refused 21`.
-- Assumes nothing.
use Rattle.std.specs.Prelude.{ℕ, suc, Bool, cond, List, [], ◌∷◌, ◌++◌, eqb, ℤ, pos, negsuc}
use Rattle.capture.specs.Lines.{decimal}
use Rattle.account.specs.Figures.{Spaced}
use Rattle.cause.specs.Pasts.{past_of}
use Rattle.interval.specs.Spacing.{spacing_of}

-- ` `
abbrev pub w_space : List ℕ
w_space = 32 ∷ []

-- `-`
abbrev pub w_minus : List ℕ
w_minus = 45 ∷ []

-- `refused `
abbrev pub w_refused : List ℕ
w_refused = 114 ∷ 101 ∷ 102 ∷ 117 ∷ 115 ∷ 101 ∷ 100 ∷ 32 ∷ []

-- `usage: spacing LABEL < capture`, and the line's end
abbrev pub w_usage : List ℕ
w_usage = 117 ∷ 115 ∷ 97 ∷ 103 ∷ 101 ∷ 58 ∷ 32 ∷ 115 ∷ 112 ∷ 97 ∷ 99 ∷ 105 ∷ 110 ∷ 103 ∷ 32 ∷ 76 ∷ 65 ∷ 66 ∷ 69 ∷ 76 ∷ 32 ∷ 60 ∷ 32 ∷ 99 ∷ 97 ∷ 112 ∷ 116 ∷ 117 ∷ 114 ∷ 101 ∷ 10 ∷ []

-- `\n`
abbrev pub w_line : List ℕ
w_line = 10 ∷ []

-- a signed number: negsuc n is -(n + 1)
abbrev pub signed_words : ℤ → List ℕ
signed_words (pos n) = decimal n
signed_words (negsuc n) = w_minus ++ decimal (suc n)

-- a least or greatest error behind a space, where there is one
unfoldable pub bound_words : Bool → ℤ → List ℕ
bound_words there z = cond there (w_space ++ signed_words z) (w_space ++ w_minus)

-- both sums, each behind a space, and the end of the line
unfoldable pub sum_words : ℤ → ℕ → List ℕ
sum_words sum sizes = w_space ++ signed_words sum ++ w_space ++ decimal sizes ++ w_line

unfoldable pub numbers_line : Spaced → List ℕ
numbers_line s =
    decimal s.pairs ++ bound_words s.paired s.least ++ bound_words s.paired s.greatest ++ sum_words s.sum s.sizes

abbrev pub refused_line : ℕ → List ℕ
refused_line n = w_refused ++ decimal n ++ w_line

unfoldable pub spacing_line : Spaced → List ℕ
spacing_line s = cond (eqb s.answer 0) (numbers_line s) (refused_line s.answer)

-- of a capture: of one that is cut the records before the cut count, of one with a bad header none
unfoldable pub spacing_text : ℕ → List ℕ → List ℕ
spacing_text l capture = spacing_line (spacing_of l (past_of capture))
