-- Two runs of octets, one behind the other, over the front of a list.
-- Assumes nothing.
use mathlib.Core.Path.{◌≡◌, sym, ap, ◌∙◌}
use mathlib.Core.List.{List, ◌++◌}
use Prim.Native.Nat.{ℕ, ◌+◌, ◌≤◌, ◌<◌}
use native.Mathlib.Omega.{arith}
use native.Mathlib.Nat.{zero-add}
use lib.ListN.{length, drop, length-append}
use lib.Seq.{sets}
use Rattle.octets.specs.Writing.{writing}
use Rattle.octets.proofs.Runs.{joined, front}
use Rattle.octets.proofs.Writing.{refused, short, fits}

module _ (head body b : List ℕ) where
  pub both-short : length b < length head + length body → writing 0 (head ++ body) b ≡ record { answer = 13; buffer = b }
  both-short h = short (head ++ body) b (omega (arith, length-append head body))

  pub both-fit : length head + length body ≤ length b
      → writing 0 (head ++ body) b ≡ record { answer = 0; buffer = sets (sets b 0 head) (length head) body }
  both-fit h =
      let k : length (head ++ body) ≤ length b = omega (arith, length-append head body) in
      let rows : sets (sets b 0 head) (length head) body ≡ head ++ body ++ drop (length (head ++ body)) b =
      ap (λ (n : ℕ). sets (sets b 0 head) n body) (sym (zero-add (length head))) ∙ sym (joined head body b 0) ∙ front (head ++ body) b k in
      fits (head ++ body) b k ∙ (λ i. record { answer = 0; buffer = sym rows i })

-- what writing comes to, a refusal found before counting
pub ruleset writes = (refused, both-short, both-fit)
