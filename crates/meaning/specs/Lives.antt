-- The lives of a label: its calls from an accepted opening to its accepted close or the end.
-- Assumes nothing.
use Rattle.std.specs.Prelude.{ℕ, Bool, false, cond, ◌&&◌, List, [], ◌∷◌, eqb, leb}
use Rattle.rules.specs.Calls.{Call, Tick, Open, On, Said}
use Rattle.meaning.specs.Histories.{History, start, after, clock_of, story}
use Rattle.meaning.specs.Answers.{is_open}
use Rattle.meaning.specs.Accounts.{size}

-- a label's own calls: those that name it. A tick is no label's call
abbrev pub is_on : ℕ → Call → Bool
is_on l (Tick t) = false
is_on l (Open g t) = eqb g.label l
is_on l (On m a) = eqb m l

-- a call that was made: the clock before it, the call, and what it said
pub record Made : Type 0 where
  pub before : ℕ
  pub call : Call
  pub said : Said

unfoldable pub goes_on : Made → List (List Made) → List (List Made)
goes_on m [] = (m ∷ []) ∷ []
goes_on m (x ∷ xs) = (m ∷ x) ∷ xs

-- the lives, the latest first, each with its latest call first: a call on the label counts while the label is open, refused or not;
-- one that opens it begins a life; others do not count
unfoldable pub lives : ℕ → History → List (List Made)
lives l start = []
lives l (after h c a) =
    cond (is_on l c)
    (cond (is_open (story l h)) (goes_on (record { before = clock_of h; call = c; said = a }) (lives l h))
    (cond (is_open (story l (after h c a))) ((record { before = clock_of h; call = c; said = a } ∷ []) ∷ lives l h) (lives l h)))
    (lives l h)

-- the label's calls from position o on, refused or not, the latest first
unfoldable pub calls_from : ℕ → ℕ → History → List Made
calls_from l o start = []
calls_from l o (after h c a) =
    cond (is_on l c && leb o (size h)) (record { before = clock_of h; call = c; said = a } ∷ calls_from l o h) (calls_from l o h)

-- what was asked: the same without what was said
pub record Asked : Type 0 where
  pub before : ℕ
  pub call : Call

unfoldable pub asked_in : List Made → List Asked
asked_in [] = []
asked_in (m ∷ ms) = record { before = m.before; call = m.call } ∷ asked_in ms
