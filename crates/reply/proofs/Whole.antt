-- The run over a whole capture in one slice answers what the history of the capture says.
-- Assumes nothing.
use Prim.Native.Nat.{ℕ, zero, suc, ◌-◌, ◌≤◌, ◌<◌, ◌^◌}
use native.Mathlib.Omega.{arith}
use mathlib.Core.Path.{◌≡◌, refl, sym, ap, subst, ◌∙◌}
use mathlib.Core.Bool.{true, false, cond}
use mathlib.Core.Option.{Option, none, some}
use mathlib.Core.List.{List}
use lib.Dec.{ltb}
use lib.ListN.{length, get_or, take, drop, replicate, length-replicate, length-drop}
use Rattle.std.specs.Prelude.{Result}
use Rattle.octets.specs.Choice.{Answer, refused}
use Rattle.octets.specs.Refusals.{answer_in}
use Rattle.octets.specs.declared.refusals.Refusal.{Refusal}
use Rattle.rules.specs.Calls.{Call}
use Rattle.rules.proofs.Bools.{split}
use Rattle.session.specs.declared.Session.{Session}
use Rattle.table.specs.Places.{first_hit}
use Rattle.table.specs.Table.{absent, find, open_of, in_order, emptied}
use Rattle.capture.specs.Records.{header_fits, next_in, is_whole, size_of}
use Rattle.meaning.specs.Histories.{start, story}
use Rattle.meaning.specs.Edges.{told-all}
use Rattle.meaning.proofs.Sim.{sim-order}
use Rattle.text.specs.Text.{parsed_by, parsed}
use Rattle.text.proofs.Parsing.{whole-size}
use Rattle.cause.specs.declared.Cause.{Cause}
use Rattle.cause.specs.declared.Thing.{Thing}
use Rattle.cause.specs.Causes.{cause_of}
use Rattle.cause.specs.Pasts.{past_of, past_up_to}
use Rattle.cause.specs.FromMarks.{why_from}
use Rattle.cause.specs.Tracing.{Trace, trace_all, trace_start, why_after}
use Rattle.cause.proofs.Answers.{follows-calls, trace-answers}
use Rattle.cause.proofs.Pasts.{past-up-to-all}
use Rattle.trace.specs.declared.asked.Asked.{Asked}
use Rattle.trace.specs.declared.asked.Found.{Found}
use Rattle.trace.specs.Tracing.{Trail, trace_of}
use Rattle.trace.specs.Asking.{found_by, found_in}
use Rattle.trace.proofs.Traces.{trace-of, trace-runs, trace-is-run}
use Rattle.inquiry.proofs.SoughtText.{found_in_lem, trace-rows}
use Rattle.reply.specs.Beginning.{beginning}

-- no octets, no record: each takes one at least
by-octets : (n : ℕ) (s : List ℕ) → length (parsed_by n s).calls ≤ length s
unfolding parsed_by
by-octets zero s = omega arith
by-octets (suc n) s =
    split (is_whole (next_in s))
    (λ w. let z = whole-size s w in
    let k = by-octets n (drop (size_of (next_in s)) s) in
    rw w (omega (arith, z, k, length-drop (size_of (next_in s)) s)))
    (λ w. rw w (omega arith))

few-records : (capture : List ℕ) → length (parsed (drop 8 capture)).calls ≤ length capture
unfolding parsed
few-records capture = omega (arith, by-octets (length (drop 8 capture)) (drop 8 capture), length-drop 8 capture)

-- a header that does not fit: nothing was called
pub unfit : (capture : List ℕ) (l : ℕ) (thing : Thing) → header_fits capture ≡ false → refused 2 ≡ cause_of (past_of capture) l thing
unfolding past_of cause_of story
unfit capture l thing e = rw e refl

module _ (capture kept : List ℕ) (l : ℕ) (thing : Thing) (fits : header_fits capture ≡ true) (small : length capture < 2 ^ 64) where
  abbrev row : List Session
  row = replicate 64 absent

  full : length row ≡ 64
  full = length-replicate 64 absent

  abbrev a : Asked
  a = beginning l (length capture)

  abbrev y : Trail
  y = trace_of a.row a.tracing capture kept

  abbrev calls : List Call
  calls = take (length capture) (parsed (drop 8 capture)).calls

  abbrev z : Trace
  z = trace_all l (trace_start row kept) calls

  is-run : trace-of y ≡ z
  unfolding beginning trace_start emptied
  is-run =
      let all : length capture - 0 ≡ length capture = omega arith in
      trace-is-run a.row a.tracing capture kept small ∙ ap (λ (k : ℕ). trace_all l (trace_start row kept) (take k (parsed (drop 8 capture)).calls)) all

  same-label : y.tracing.label ≡ l
  unfolding beginning
  same-label = (trace-runs a.row a.tracing capture kept small).label

  z-order : in_order z.table ≡ true
  z-order = sim-order (follows-calls row full kept calls l).in_step

  z-rows : length z.table.row ≡ 64
  unfolding trace_start emptied
  z-rows = trace-rows l (trace_start row kept) calls ∙ full

  abbrev asked : Asked
  asked = record { row = y.row; tracing = y.tracing }

  found : found_in (found_by asked) ≡ find l (open_of z.table)
  unfolding found_by
  found =
      ap (λ (m : ℕ). cond (ltb (first_hit m 0 y.tracing.fed.head.occupied y.row) 64) (some (get_or y.row (first_hit m 0 y.tracing.fed.head.occupied y.row) absent)) none) same-label
      ∙ ap (λ (t : Trace). cond (ltb (first_hit l 0 t.table.occupied t.table.row) 64) (some (get_or t.table.row (first_hit l 0 t.table.occupied t.table.row) absent)) none) is-run
      ∙ found_in_lem z.table z-order z-rows l

  past_is : told-all start calls ≡ past_of capture
  unfolding past_up_to
  past_is = sym (ap (λ b. cond b (told-all start calls) start) fits) ∙ past-up-to-all (length capture) capture (few-records capture)

  pub whole : why_from y.tracing.marks (found_in (found_by asked)) y.tracing.fed.head.clock thing ≡ cause_of (past_of capture) l thing
  unfolding why_after
  whole =
      ap (λ (o : Option Session). why_from y.tracing.marks o y.tracing.fed.head.clock thing) found
      ∙ ap (λ (t : Trace). why_from t.marks (find l (open_of z.table)) t.table.clock thing) is-run
      ∙ trace-answers row full kept calls l thing
      ∙ ap (λ h. cause_of h l thing) past_is

-- what a trail leaves, as a table by value
abbrev left : Trail → Asked
left w = record { row = w.row; tracing = w.tracing }

-- the answer from what is left, and the answer of the history
abbrev answered : Thing → Trail → Answer Cause
answered thing w = why_from w.tracing.marks (found_in (found_by (left w))) w.tracing.fed.head.clock thing

-- by the parts of the code
pub answers : (capture kept ks : List ℕ) (l : ℕ) (thing : Thing) → header_fits capture ≡ true → (upto : ℕ) → (upto ≡ length capture) × (upto < 2 ^ 64)
    → (b : Asked) → b ≡ beginning l upto → (t : Asked) → record { row = t.row; tracing = t.tracing; kept = ks } ≡ trace_of b.row b.tracing capture kept
    → (f : Found) → f ≡ found_by t → (r : Result Cause Refusal) → answer_in r ≡ why_from t.tracing.marks (found_in f) t.tracing.fed.head.clock thing → answer_in r ≡ cause_of (past_of capture) l thing
answers capture kept ks l thing fits upto u b eb t et f ef r er =
    er
    ∙ ap (λ (g : Found). why_from t.tracing.marks (found_in g) t.tracing.fed.head.clock thing) ef
    ∙ ap (answered thing) (et ∙ ap (λ (x : Asked). trace_of x.row x.tracing capture kept) (eb ∙ ap (beginning l) u.0))
    ∙ whole capture kept l thing fits (subst (λ (n : ℕ). n < 2 ^ 64) u.0 u.1)
