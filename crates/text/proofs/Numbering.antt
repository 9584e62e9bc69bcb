-- The lines are numbered 1, 2, 3 .. : a record has 16 octets at least, so no capture of less than 2^64 octets has so many that the number would stay.
-- Assumes nothing.
use Prim.Native.Nat.{ℕ, zero, suc, ◌+◌, ◌*◌, ◌≤◌, ◌<◌, ◌^◌}
use native.Mathlib.Omega.{arith}
use mathlib.Core.Path.{◌≡◌, refl, ap}
use mathlib.Core.List.{List, [], ◌∷◌, ◌++◌}
use lib.ListN.{length, drop, length-drop}
use borrow.Author.Tests.{lt-ltb}
use Rattle.rules.specs.Calls.{Call}
use Rattle.rules.proofs.Bools.{split}
use Rattle.capture.specs.Records.{next_in, is_whole, size_of}
use Rattle.capture.specs.Lines.{line, numbered}
use Rattle.meaning.specs.Histories.{History, start, after}
use Rattle.meaning.specs.Answers.{says}
use Rattle.text.specs.Text.{parsed_by, parsed, lines_after}
use Rattle.text.proofs.Parsing.{whole-size, by_whole, by-none}

-- the lines, each with the number one above that of the last
unfoldable pub counted_after : History → ℕ → List Call → List ℕ
counted_after h n [] = []
counted_after h n (c ∷ cs) = line (n + 1) c (says h c) ++ counted_after (after h c (says h c)) (n + 1) cs

below : (n : ℕ) → n < 18446744073709551615 → numbered n ≡ n + 1
below n l = rw (lt-ltb n 18446744073709551615 l)

counted : (h : History) (n : ℕ) (cs : List Call) → n + length cs < 2 ^ 64 → lines_after h n cs ≡ counted_after h n cs
unfolding lines_after counted_after
counted h n [] l = refl
counted h n (c ∷ cs) l =
    rw (below n (omega arith)) (ap (λ (t : List ℕ). line (n + 1) c (says h c) ++ t) (counted (after h c (says h c)) (n + 1) cs (omega arith)))

few : (n : ℕ) (s : List ℕ) → 16 * length (parsed_by n s).calls ≤ length s
unfolding parsed_by
few zero s = omega arith
few (suc n) s =
    split (is_whole (next_in s))
    (λ e. rw (by_whole n s e) (omega (arith, few n (drop (size_of (next_in s)) s), length-drop (size_of (next_in s)) s, (whole-size s e).0, (whole-size s e).1)))
    (λ e. rw (by-none (suc n) s e) (omega arith))

-- for every capture of less than 2^64 octets
pub counted-lines : (s : List ℕ) → length s < 2 ^ 64 → lines_after start 0 (parsed s).calls ≡ counted_after start 0 (parsed s).calls
unfolding parsed
counted-lines s l = counted start 0 (parsed_by (length s) s).calls (omega (arith, few (length s) s))
