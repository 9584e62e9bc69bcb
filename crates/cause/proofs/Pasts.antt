-- The answers in the past of a capture are the paper's, so all that is proved of right histories holds of every capture.
-- Assumes nothing.
use Prim.Native.Nat.{ℕ, ◌≤◌}
use mathlib.Core.Path.{◌≡◌, refl, ap}
use mathlib.Core.Bool.{Bool, true, false, cond}
use mathlib.Core.List.{List, [], ◌∷◌}
use lib.ListN.{length, take, drop}
use lib.Seq.{take_all}
use Rattle.rules.specs.Calls.{Call}
use Rattle.capture.specs.Records.{header_fits}
use Rattle.text.specs.Text.{parsed}
use Rattle.meaning.specs.Histories.{History, start, after}
use Rattle.meaning.specs.Answers.{says}
use Rattle.meaning.specs.Edges.{told-all}
use Rattle.meaning.specs.Worlds.{Right}
use Rattle.cause.specs.Pasts.{past_of, past_up_to}

-- calls that are answered as the paper has it
pub right-told : (h : History) → Right h → (cs : List Call) → Right (told-all h cs)
unfolding told-all Right
right-told h r [] = r
right-told h r (c ∷ cs) = right-told (after h c (says h c)) (r, refl) cs

-- from nothing, or none
right-if : (b : Bool) (cs : List Call) → Right (cond b (told-all start cs) start)
unfolding Right
right-if true cs = right-told start tt cs
right-if false cs = tt

pub past-right : (capture : List ℕ) → Right (past_of capture)
unfolding past_of
past-right capture = right-if (header_fits capture) (parsed (drop 8 capture)).calls

pub past-right-up-to : (n : ℕ) (capture : List ℕ) → Right (past_up_to n capture)
unfolding past_up_to
past-right-up-to n capture = right-if (header_fits capture) (take n (parsed (drop 8 capture)).calls)

-- up to a number that no record is above it is the whole
pub past-up-to-all : (n : ℕ) (capture : List ℕ) → length (parsed (drop 8 capture)).calls ≤ n → past_up_to n capture ≡ past_of capture
unfolding past_of past_up_to
past-up-to-all n capture b = ap (λ (cs : List Call). cond (header_fits capture) (told-all start cs) start) (take_all n (parsed (drop 8 capture)).calls b)
