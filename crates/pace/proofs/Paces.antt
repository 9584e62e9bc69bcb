-- The pacing of a capture is the run over the calls of its whole records. What stands behind them is left.
-- Assumes nothing.
use Prim.Native.Nat.{ℕ, zero, suc, ◌+◌, ◌≤◌, ◌<◌}
use native.Mathlib.Omega.{arith}
use mathlib.Core.Path.{◌≡◌, refl, sym, ap, subst, ◌∙◌}
use mathlib.Core.Bool.{Bool, true, false, not}
use mathlib.Core.List.{List, ◌∷◌}
use lib.Dec.{T as Holds}
use lib.ListN.{length, drop, length-drop}
use lib.Seq.{drop-drop}
use Rattle.rules.proofs.Bools.{split}
use Rattle.session.specs.declared.Session.{Session}
use Rattle.step.specs.Stepping.{table_of}
use Rattle.capture.specs.Records.{next_in, call_in, is_whole, size_of}
use Rattle.text.specs.Text.{Parsed, parsed}
use Rattle.text.proofs.Parsing.{whole-size, parsed-whole, parsed-none}
use Rattle.interval.specs.Pacing.{Run, run_step, run_all}
use Rattle.pace.specs.declared.Pacing.{Pacing}
use Rattle.pace.specs.Pacing.{more_of, Trail, turn_of, go_on, pace_of}
use Rattle.pace.proofs.Turns.{trail, stops, goes_on_lem, begins}

-- ---- a trail as the run has it: the table, and what is kept of the label
abbrev pub run_of : Trail → Run
run_of x = record { table = table_of x.row x.pacing.fed.head; pace = x.pacing.pace }

module _ (input : List ℕ) where
  -- the records of what is left of the input
  abbrev pub standing : Trail → Parsed
  standing x = parsed (drop x.pacing.fed.used input)

  -- from x to y: the run over their calls, and what stands behind them
  pub record Runs (x y : Trail) : Type 0 where
    pub run : run_of y ≡ run_all x.pacing.label (run_of x) (standing x).calls
    pub left : drop y.pacing.fed.used input ≡ (standing x).rest
    pub label : y.pacing.label ≡ x.pacing.label

  whole-next : (x : Trail) (b : Bool) → more_of x.pacing input ≡ b → is_whole (next_in (drop x.pacing.fed.used input)) ≡ b
  unfolding more_of
  whole-next x b m = m

  stays : (x : Trail) → more_of x.pacing input ≡ false → Runs x x
  unfolding run_all
  stays x m =
      let none = parsed-none (drop x.pacing.fed.used input) (whole-next x false m) in
      record {
        run = sym (ap (λ (p : Parsed). run_all x.pacing.label (run_of x) p.calls) none);
        left = sym (ap (λ (p : Parsed). p.rest) none);
        label = refl;
      }

  module _ (x : Trail) (m : more_of x.pacing input ≡ true) where
    abbrev s : List ℕ
    s = drop x.pacing.fed.used input

    -- it is the first of them
    first : standing x ≡ record { calls = call_in s ∷ (standing (turn_of input x)).calls; rest = (standing (turn_of input x)).rest }
    unfolding turn_of
    first =
        parsed-whole s (whole-next x true m)
        ∙ ap (λ (t : List ℕ). record { calls = call_in s ∷ (parsed t).calls; rest = (parsed t).rest }) (drop-drop (size_of (next_in s)) x.pacing.fed.used input)

    -- and its turn is a step of the run
    turn-steps : run_of (turn_of input x) ≡ run_step x.pacing.label (run_of x) (call_in s)
    unfolding turn_of run_step
    turn-steps = refl

    onward : (y : Trail) → Runs (turn_of input x) y → Runs x y
    unfolding run_all turn_of
    onward y r =
        record {
          run = r.run
              ∙ ap (λ (z : Run). run_all x.pacing.label z (standing (turn_of input x)).calls) turn-steps
              ∙ sym (ap (λ (p : Parsed). run_all x.pacing.label (run_of x) p.calls) first);
          left = r.left ∙ sym (ap (λ (p : Parsed). p.rest) first);
          label = r.label;
        }

    -- it takes octets
    takes : length (drop (turn_of input x).pacing.fed.used input) < length s
    unfolding turn_of
    takes =
        let size = whole-size s (whole-next x true m) in
        omega (arith, size.0, size.1, length-drop x.pacing.fed.used input, length-drop (x.pacing.fed.used + size_of (next_in s)) input)

  -- no more is done
  ended : (fuel : ℕ) (x : Trail) → more_of x.pacing input ≡ false → Runs x (go_on input fuel x)
  ended fuel x m = subst (Runs x) (sym (stops input fuel x (subst (λ (b : Bool). Holds (not b)) (sym m) tt))) (stays x m)

  -- at most so many records as there are octets
  goes : (fuel : ℕ) (x : Trail) → length (drop x.pacing.fed.used input) ≤ fuel → Runs x (go_on input fuel x)
  goes zero x l =
      split (more_of x.pacing input)
      (λ m. let size = whole-size (drop x.pacing.fed.used input) (whole-next x true m) in absurd (omega (arith, size.0, size.1, l)))
      (λ m. ended zero x m)
  goes (suc fuel) x l =
      split (more_of x.pacing input)
      (λ m.
      subst (Runs x) (sym (goes_on_lem input fuel x (subst (λ (b : Bool). Holds b) (sym m) tt)))
      (onward x m (go_on input fuel (turn_of input x)) (goes fuel (turn_of input x) (omega (arith, takes x m, l)))))
      (λ m. ended (suc fuel) x m)

-- the pacing, for every row, in order or not
pub pace-runs : (row : List Session) (x : Pacing) (input : List ℕ) → Runs input (trail row x) (pace_of row x input)
pace-runs row x input = subst (Runs input (trail row x)) (begins row x input) (goes input (length input) (trail row x) (omega (arith, length-drop x.fed.used input)))
