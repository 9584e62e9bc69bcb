-- "If nothing more arrives": after any further calls of which none is on the label, the thing stands exactly as its end says of the clock that they leave.
-- Assumes nothing.
use Prim.Native.Nat.{ℕ, ◌≤◌}
use native.Mathlib.Omega.{arith}
use mathlib.Core.Path.{◌≡◌, refl, ◌∙◌}
use mathlib.Core.Bool.{true, false}
use mathlib.Core.Option.{Option, some}
use mathlib.Core.List.{List, [], ◌∷◌}
use mathlib.Core.Logic.{◌↔◌}
use Rattle.octets.specs.Choice.{accepted}
use Rattle.rules.specs.Lists.{any}
use Rattle.rules.specs.Calls.{Call, Tick, Open, On, Said, is_accepted}
use Rattle.rules.proofs.Bools.{split, refuted, true-false, or_left, or_right}
use Rattle.meaning.specs.Stories.{Story}
use Rattle.meaning.specs.Histories.{History, after, told, clock_of, story}
use Rattle.meaning.specs.Answers.{says}
use Rattle.meaning.specs.Edges.{told-all}
use Rattle.meaning.specs.Worlds.{Right}
use Rattle.cause.specs.Causes.{Thing, Cause, stands_at, cause_of}
use Rattle.cause.specs.Reasons.{Stands, is_on}
use Rattle.cause.proofs.Asked.{granted}
use Rattle.cause.proofs.Readings.{clock-on}
use Rattle.cause.proofs.Ends.{stands-until}

-- a call that is not on the label leaves its story
told_same : (l : ℕ) (c : Call) (o : Option Story) → is_on l c ≡ false → told l c o ≡ o
told_same l (Tick t) o e = refl
told_same l (Open g t) o e = rw e
told_same l (On k b) o e = rw e

story-same : (h : History) (l : ℕ) (c : Call) (a : Said) → is_on l c ≡ false → story l (after h c a) ≡ story l h
unfolding story
story-same h l c a e = split (is_accepted a) (λ y. rw y (told_same l c (story l h) e)) (λ n. rw n)

module _ (l : ℕ) where
  story-still : (h : History) (cs : List Call) → any (is_on l) cs ≡ false → story l (told-all h cs) ≡ story l h
  unfolding told-all any
  story-still h [] e = refl
  story-still h (c ∷ cs) e =
      story-still (after h c (says h c)) cs (refuted (any (is_on l) cs) (λ z. true-false (or_right (is_on l c) z) e))
      ∙ story-same h l c (says h c) (refuted (is_on l c) (λ z. true-false (or_left (any (is_on l) cs) z) e))

clock-later : (h : History) → Right h → (cs : List Call) → clock_of h ≤ clock_of (told-all h cs)
unfolding told-all Right
clock-later h r [] = omega arith
clock-later h r (c ∷ cs) =
    let i : clock_of h ≤ clock_of (after h c (says h c)) = clock-on h c (says h c) (r, refl) in
    let j : clock_of (after h c (says h c)) ≤ clock_of (told-all (after h c (says h c)) cs) = clock-later (after h c (says h c)) (r, refl) cs in omega arith

pub stands-later : (h : History) → Right h → (l : ℕ) (thing : Thing) (c : Cause) → cause_of h l thing ≡ accepted c → (cs : List Call) → any (is_on l) cs ≡ false
    → (s : Story) × (story l (told-all h cs) ≡ some s) × ((stands_at (clock_of (told-all h cs)) s thing ≡ true) ↔ Stands thing c (clock_of (told-all h cs)))
stands-later h r l thing c e cs quiet =
    let G = granted h l thing c e in
    (G.0, story-still l h cs quiet ∙ G.1.told, stands-until h r l thing c e G.0 G.1.told (clock_of (told-all h cs)) (clock-later h r cs))
