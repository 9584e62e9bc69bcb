-- What is known of a test's outcome, by what held or failed.
--     held-is, failed-is            a definition that tests c computes once its outcome is an equation
--     both-held, either-failed      two tests that both held, and one of two that failed
-- Assumes nothing.
use mathlib.Core.Path.{◌≡◌, refl}
use mathlib.Core.Bool.{Bool, true, false, not, ◌&&◌}
use lib.Dec.{T as Holds}

pub held-is : (c : Bool) → Holds c → c ≡ true
held-is true held = refl
held-is false held = absurd held

pub failed-is : (c : Bool) → Holds (not c) → c ≡ false
failed-is true failed = absurd failed
failed-is false failed = refl

pub both-held : (t u : Bool) → Holds (t && u) → Holds t × Holds u
both-held true u h = (tt, h)
both-held false u h = absurd h

pub either-failed : {C : Type 0} (e l : Bool) → Holds (not (not e && l)) → (Holds e → C) → (Holds (not l) → C) → C
either-failed true l h j k = j tt
either-failed false true h j k = absurd h
either-failed false false h j k = k tt
