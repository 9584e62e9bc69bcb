-- A loop over the records of an input, as its invariant has it, whatever a turn leaves: some number of turns of the definition is left, and that many are enough for
-- what is left of the input; and where the mark of the row was right it is right still. `feed_known` is such a loop, and so is `watch_known`, of what is carried for one label.
-- Assumes nothing.
use mathlib.Core.Path.{◌≡◌, sym, ap, ◌∙◌}
use mathlib.Core.Bool.{Bool}
use Prim.Native.Nat.{ℕ, suc, ◌<◌, ◌≤◌, ◌+◌, ◌-◌}
use native.Mathlib.Omega.{arith}

-- how many octets the input has, how many of them are used, whether the row is in order, so many turns, and the whole
module _ {X : Type 0} (size : ℕ) (used : X → ℕ) (order : X → Bool) (turns : ℕ → X → X) (whole : X → X) (mark : Bool) where
  -- where the mark was right at z it is right at x, and what is left to do gives what the whole gives
  abbrev pub After : X → X → Type 0
  After z x = (n : ℕ) × (size ≤ used x + n) × (mark ≡ order z → (mark ≡ order x) × (turns n x ≡ whole z))

  pub at_first : (z : X) → turns size z ≡ whole z → After z z
  at_first z begins = (size, omega arith, λ right. (right, begins))

  -- where no more is done, this is the whole
  pub at-end : (z x : X) → After z x → ((n : ℕ) → turns n x ≡ x) → mark ≡ order z → x ≡ whole z
  at-end z x after stops right = sym (stops after.0) ∙ (after.2 right).1

  -- a turn, where there is more: it takes octets, and leaves what the definition's leaves
  pub goes_one : (turn : X → X) (x y : X) → used x < size → used x < used y → (mark ≡ order x → y ≡ turn x) → order (turn x) ≡ order x → ((n : ℕ) → turns (suc n) x ≡ turns n (turn x))
      → (z : X) → After z x → After z y
  goes_one turn x y there takes turned keeps goes_on z after =
      let n : ℕ = after.0 in
      let enough : size ≤ used x + n = after.1 in
      let some_left : n ≡ suc (n - 1) = omega (arith, there, enough) in (
        n - 1,
        omega (arith, takes, there, enough),
        λ right.
            let same : y ≡ turn x = turned (after.2 right).0 in (
              (after.2 right).0 ∙ sym keeps ∙ sym (ap order same),
              ap (turns (n - 1)) same ∙ sym (goes_on (n - 1)) ∙ ap (λ (k : ℕ). turns k x) (sym some_left) ∙ (after.2 right).1,
            ),
      )
