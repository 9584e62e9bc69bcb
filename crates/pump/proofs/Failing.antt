-- The line for standard error, put part by part.
-- Assumes nothing.
use Prim.Native.Nat.{ℕ}
use mathlib.Core.Path.{◌≡◌}
use mathlib.Core.Bool.{Bool}
use mathlib.Core.List.{List, [], ◌∷◌}
use Rattle.capture.specs.Lines.{decimal}
use Rattle.capture.specs.Typing.{Put, typed}
use Rattle.capture.proofs.Typing.{then}
use Rattle.pump.specs.Failures.{call_failed, behind_record, failure_line}

pub six : (p : Put) (name : List ℕ) (writing : Bool) (error number : ℕ) {z a b c d e : Put}
    → z ≡ typed p name → a ≡ typed z (call_failed writing) → b ≡ typed a (decimal error) → c ≡ typed b behind_record → d ≡ typed c (decimal number) → e ≡ typed d (10 ∷ [])
    → e ≡ typed p (failure_line name writing error number)
unfolding failure_line
six p name writing error number ez ea eb ec ed ee = then p _ _ (then p _ _ (then p _ _ (then p _ _ (then p _ _ ez ea) eb) ec) ed) ee
