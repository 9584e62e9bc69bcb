-- What was called and what it said; and from that the clock, the open labels and the story of each.
-- Assumes nothing.
use Rattle.std.specs.Prelude.{ℕ, Bool, cond, List, [], ◌∷◌, eqb}
use Rattle.std.proofs.Math.Option.{Option, none, some}
use Rattle.message.specs.Message.{message_of}
use Rattle.rules.specs.declared.Settings.{Settings}
use Rattle.rules.specs.Calls.{Act, Close, Lock, Unlock, Receive, ReportOn, WriteCc, WriteCv, Call, Tick, Open, On, Said, is_accepted}
use Rattle.rules.specs.Lists.{without}
use Rattle.meaning.specs.Stories.{Story, opened, lock, unlock, got, wrote_cc}

-- a history, the latest call last
pub data History : Type 0 where
  start : History
  after : History → (call : Call) → (said : Said) → History

abbrev pub act_reading : Act → ℕ → ℕ
act_reading (Close t) now = t
act_reading (Lock t) now = t
act_reading (Unlock t) now = t
act_reading (Receive m t) now = t
act_reading ReportOn now = now
act_reading (WriteCc b) now = now
act_reading (WriteCv b) now = now

-- the clock that an accepted call leaves: the reading that it brings, or the clock where it brings none
abbrev pub reading : Call → ℕ → ℕ
reading (Tick t) now = t
reading (Open g t) now = t
reading (On l a) now = act_reading a now

-- now: the reading of the last accepted call that brought one, 0 before any
unfoldable pub clock_of : History → ℕ
clock_of start = 0
clock_of (after h c a) = cond (is_accepted a) (reading c (clock_of h)) (clock_of h)

abbrev pub more : (Story → Story) → Option Story → Option Story
more f none = none
more f (some s) = some (f s)

-- what an accepted act on a label makes of its story; a close ends it, a report and a written CV alter nothing
abbrev pub act_told : Act → Option Story → Option Story
act_told (Close t) o = none
act_told (Lock t) o = more (λ s. lock s t) o
act_told (Unlock t) o = more (λ s. unlock s t) o
act_told (Receive m t) o = more (λ s. got s (message_of m) t) o
act_told ReportOn o = o
act_told (WriteCc b) o = more wrote_cc o
act_told (WriteCv b) o = o

-- what an accepted call makes of the story of the label l
abbrev pub told : ℕ → Call → Option Story → Option Story
told l (Tick t) o = o
told l (Open g t) o = cond (eqb g.label l) (some (opened g t)) o
told l (On m a) o = cond (eqb m l) (act_told a o) o

-- the story of a label, from its accepted open; none while it is not open
unfoldable pub story : ℕ → History → Option Story
story l start = none
story l (after h c a) = cond (is_accepted a) (told l c (story l h)) (story l h)

abbrev pub act_labels : ℕ → Act → List ℕ → List ℕ
act_labels l (Close t) ls = without eqb l ls
act_labels l (Lock t) ls = ls
act_labels l (Unlock t) ls = ls
act_labels l (Receive m t) ls = ls
act_labels l ReportOn ls = ls
act_labels l (WriteCc b) ls = ls
act_labels l (WriteCv b) ls = ls

abbrev pub labels_after : Call → List ℕ → List ℕ
labels_after (Tick t) ls = ls
labels_after (Open g t) ls = g.label ∷ ls
labels_after (On l a) ls = act_labels l a ls

-- the open labels
unfoldable pub labels : History → List ℕ
labels start = []
labels (after h c a) = cond (is_accepted a) (labels_after c (labels h)) (labels h)
