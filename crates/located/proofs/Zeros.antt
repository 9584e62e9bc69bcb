-- A buffer that is declared as zeros has as many octets as it is declared with, and keeps them while it is lent. For buffers of so many octets that the zeros
-- cannot be counted one by one.
-- Assumes nothing.
use mathlib.Core.Path.{◌≡◌, sym, ◌∙◌}
use mathlib.Core.List.{List}
use Prim.Native.Nat.{ℕ}
use lib.ListN.{length, replicate, length-replicate}

pub zeros : (n : ℕ) → n ≡ length {0} {A = ℕ} (replicate {0} {A = ℕ} n 0)
zeros n = sym (length-replicate n 0)

pub zeros-kept : (n : ℕ) (xs : List ℕ) → length xs ≡ length {0} {A = ℕ} (replicate {0} {A = ℕ} n 0) → n ≡ length xs
zeros-kept n xs e = sym (e ∙ length-replicate n 0)
