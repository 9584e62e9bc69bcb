-- The tracing of a capture is the run over its calls that keeps marks: of as many records as are asked for. What stands behind them is left.
-- Assumes nothing.
use Prim.Native.Nat.{ℕ, zero, suc, ◌+◌, ◌-◌, ◌^◌, ◌≤◌, ◌<◌}
use native.Mathlib.Omega.{arith}
use mathlib.Core.Path.{◌≡◌, refl, sym, ap, subst, ◌∙◌}
use mathlib.Core.Bool.{Bool, true, false, not, ◌&&◌}
use mathlib.Core.List.{List, [], ◌∷◌}
use lib.Dec.{T as Holds, ltb}
use lib.ListN.{length, take, drop, length-drop}
use lib.Seq.{drop-drop}
use borrow.Author.Tests.{lt-ltb, ltb-true, ltb-false}
use Rattle.octets.proofs.Chain.{and_both}
use Rattle.rules.specs.Calls.{Call}
use Rattle.rules.proofs.Bools.{split}
use Rattle.session.specs.declared.Session.{Session}
use Rattle.step.specs.Stepping.{table_of}
use Rattle.capture.specs.Records.{next_in, call_in, is_whole, size_of}
use Rattle.capture.specs.Lines.{numbered}
use Rattle.text.specs.Text.{Parsed, parsed_by, parsed}
use Rattle.text.proofs.Parsing.{whole-size, by_whole, by-none, parsed-whole, parsed-none}
use Rattle.cause.specs.Tracing.{Trace, trace_step, trace_all}
use Rattle.trace.specs.declared.Tracing.{Tracing}
use Rattle.trace.specs.Tracing.{more_of, Trail, turn_of, go_on, trace_of}
use Rattle.trace.proofs.Turns.{trail, stops, goes_on_lem, begins}

-- ---- at most n calls are the first n of them all
pub first-calls : (n : ℕ) (s : List ℕ) → (parsed_by n s).calls ≡ take n (parsed s).calls
unfolding parsed_by
first-calls zero s = refl
first-calls (suc n) s =
    split (is_whole (next_in s))
    (λ e.
    let rest = drop (size_of (next_in s)) s in
    ap (λ (p : Parsed). p.calls) (by_whole n s e)
    ∙ ap (λ (cs : List Call). call_in s ∷ cs) (first-calls n rest)
    ∙ sym (ap (λ (p : Parsed). take (suc n) p.calls) (parsed-whole s e)))
    (λ e. ap (λ (p : Parsed). p.calls) (by-none (suc n) s e) ∙ sym (ap (λ (p : Parsed). take (suc n) p.calls) (parsed-none s e)))

-- ---- a trail as the run has it: table, marks, octets kept, number
abbrev pub trace-of : Trail → Trace
trace-of x =
    record { table = table_of x.row x.tracing.fed.head; marks = x.tracing.marks; kept = x.kept; number = x.tracing.fed.number }

module _ (input : List ℕ) where
  -- the records that are asked for, of what is left of the input
  abbrev pub asked-for : Trail → Parsed
  asked-for x = parsed_by (x.tracing.upto - x.tracing.fed.number) (drop x.tracing.fed.used input)

  -- from x to y: the run over their calls, and what stands behind them
  pub record Runs (x y : Trail) : Type 0 where
    pub run : trace-of y ≡ trace_all x.tracing.label (trace-of x) (asked-for x).calls
    pub left : drop y.tracing.fed.used input ≡ (asked-for x).rest
    pub label : y.tracing.label ≡ x.tracing.label
    pub upto : y.tracing.upto ≡ x.tracing.upto

  none-asked : (x : Trail) → more_of x.tracing input ≡ false → asked-for x ≡ record { calls = []; rest = drop x.tracing.fed.used input }
  unfolding more_of parsed_by
  none-asked x e =
      let n = x.tracing.fed.number in
      let s = drop x.tracing.fed.used input in
      split (ltb n x.tracing.upto)
      (λ l. by-none (x.tracing.upto - n) s (ap (λ (b : Bool). b && is_whole (next_in s)) (sym l) ∙ e))
      (λ l. let none : x.tracing.upto - n ≡ 0 = omega (arith, ltb-false n x.tracing.upto l) in ap (λ (k : ℕ). parsed_by k s) none)

  stays : (x : Trail) → more_of x.tracing input ≡ false → Runs x x
  unfolding trace_all
  stays x e =
      let none = none-asked x e in
      record {
        run = sym (ap (λ (p : Parsed). trace_all x.tracing.label (trace-of x) p.calls) none);
        left = sym (ap (λ (p : Parsed). p.rest) none);
        label = refl;
        upto = refl;
      }

  -- the next number is one more, below an upto that a machine can hold
  one_more : (n k : ℕ) → n < k → k < 2 ^ 64 → numbered n ≡ suc n
  one_more n k l m = rw (lt-ltb n 18446744073709551615 (omega (arith, l, m))) (omega arith)

  -- what a record that stands next and is asked for is
  more-is : (x : Tracing) → more_of x input ≡ true → (x.fed.number < x.upto) × (is_whole (next_in (drop x.fed.used input)) ≡ true)
  unfolding more_of
  more-is x m =
      let b = and_both (ltb x.fed.number x.upto) (is_whole (next_in (drop x.fed.used input))) m in
      (ltb-true x.fed.number x.upto b.0, b.1)

  module _ (x : Trail) (short : x.tracing.upto < 2 ^ 64) (m : more_of x.tracing input ≡ true) where
    abbrev s : List ℕ
    s = drop x.tracing.fed.used input

    abbrev n : ℕ
    n = x.tracing.fed.number

    -- it is the first of those that are asked for
    first-asked : asked-for x ≡ record { calls = call_in s ∷ (asked-for (turn_of input x)).calls; rest = (asked-for (turn_of input x)).rest }
    unfolding turn_of
    first-asked =
        let there = more-is x.tracing m in
        let count : x.tracing.upto - n ≡ suc (x.tracing.upto - numbered n) = omega (arith, there.0, one_more n x.tracing.upto there.0 short) in
        ap (λ (k : ℕ). parsed_by k s) count ∙ by_whole (x.tracing.upto - numbered n) s there.1
        ∙ ap (λ (t : List ℕ). record { calls = call_in s ∷ (parsed_by (x.tracing.upto - numbered n) t).calls; rest = (parsed_by (x.tracing.upto - numbered n) t).rest }) (drop-drop (size_of (next_in s)) x.tracing.fed.used input)

    -- and its turn is a step of the run
    turn-steps : trace-of (turn_of input x) ≡ trace_step x.tracing.label (trace-of x) (call_in s)
    unfolding turn_of trace_step
    turn-steps = rw (one_more n x.tracing.upto (more-is x.tracing m).0 short)

    onward : (y : Trail) → Runs (turn_of input x) y → Runs x y
    unfolding trace_all turn_of
    onward y r =
        record {
          run = r.run
              ∙ ap (λ (z : Trace). trace_all x.tracing.label z (asked-for (turn_of input x)).calls) turn-steps
              ∙ sym (ap (λ (p : Parsed). trace_all x.tracing.label (trace-of x) p.calls) first-asked);
          left = r.left ∙ sym (ap (λ (p : Parsed). p.rest) first-asked);
          label = r.label;
          upto = r.upto;
        }

    -- it takes octets
    takes : length (drop (turn_of input x).tracing.fed.used input) < length s
    unfolding turn_of
    takes =
        let size = whole-size s (more-is x.tracing m).1 in
        omega (arith, size.0, size.1, length-drop x.tracing.fed.used input, length-drop (x.tracing.fed.used + size_of (next_in s)) input)

    same-upto : (turn_of input x).tracing.upto ≡ x.tracing.upto
    unfolding turn_of
    same-upto = refl

  -- no more is done
  ended : (fuel : ℕ) (x : Trail) → more_of x.tracing input ≡ false → Runs x (go_on input fuel x)
  ended fuel x m = subst (Runs x) (sym (stops input fuel x (subst (λ (b : Bool). Holds (not b)) (sym m) tt))) (stays x m)

  -- at most so many records as there are octets
  goes : (fuel : ℕ) (x : Trail) → length (drop x.tracing.fed.used input) ≤ fuel → x.tracing.upto < 2 ^ 64 → Runs x (go_on input fuel x)
  goes zero x l short =
      split (more_of x.tracing input)
      (λ m. let size = whole-size (drop x.tracing.fed.used input) (more-is x.tracing m).1 in absurd (omega (arith, size.0, size.1, l)))
      (λ m. ended zero x m)
  goes (suc fuel) x l short =
      split (more_of x.tracing input)
      (λ m.
      subst (Runs x) (sym (goes_on_lem input fuel x (subst (λ (b : Bool). Holds b) (sym m) tt)))
      (onward x short m (go_on input fuel (turn_of input x)) (goes fuel (turn_of input x) (omega (arith, takes x short m, l)) (omega (arith, same-upto x short m, short)))))
      (λ m. ended (suc fuel) x m)

-- the tracing, for every row, in order or not
pub trace-runs : (row : List Session) (x : Tracing) (input kept : List ℕ) → x.upto < 2 ^ 64 → Runs input (trail row x kept) (trace_of row x input kept)
trace-runs row x input kept short = subst (Runs input (trail row x kept)) (begins row x input kept) (goes input (length input) (trail row x kept) (omega (arith, length-drop x.fed.used input)) short)

-- the run, over the first of all the calls that stand in the input
pub trace-is-run : (row : List Session) (x : Tracing) (input kept : List ℕ) → x.upto < 2 ^ 64
    → trace-of (trace_of row x input kept) ≡ trace_all x.label (trace-of (trail row x kept)) (take (x.upto - x.fed.number) (parsed (drop x.fed.used input)).calls)
trace-is-run row x input kept short =
    (trace-runs row x input kept short).run
    ∙ ap (trace_all x.label (trace-of (trail row x kept))) (first-calls (x.upto - x.fed.number) (drop x.fed.used input))
