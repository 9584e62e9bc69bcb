-- So many are looked at, by whatever test the closure is.
use Rattle.std.proofs.Common.{◌≡◌, ℕ, ◌<◌, ◌^◌, Bool, take}
use Rattle.rules.specs.Lists.{any}
use Rattle.scan.proofs.keys.some_passes.Given as goal

abbrev pub invariant-loop-key : goal.invariant-loop-key
invariant-loop-key g l =
    (p : ℕ → Bool) → ((x : ℕ) (r : Bool) → x < 2 ^ 64 → goal.F-post g l.test x r → r ≡ p x) → l.found ≡ any p (take l.key-index l.keys)
