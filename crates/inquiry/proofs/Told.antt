-- The text from marks, record and octets kept is the text of the history: for every list of calls.
-- Assumes nothing.
use Prim.Native.Nat.{ℕ, ◌≤◌}
use native.Mathlib.Omega.{arith}
use mathlib.Core.Path.{◌≡◌, refl, sym, ap, ◌∙◌}
use mathlib.Core.Bool.{Bool, true, false}
use mathlib.Core.Option.{Option, none, some}
use mathlib.Core.List.{List}
use lib.Dec.{eqb}
use lib.ListN.{length, take}
use Rattle.octets.specs.Choice.{Answer, accepted, refused, bit_of}
use Rattle.fault.specs.declared.Fault.{Fault}
use Rattle.message.specs.Message.{message_of}
use Rattle.rules.specs.Calls.{Call}
use Rattle.rules.specs.Conditions.{key_of}
use Rattle.conditions.specs.Taking.{condition_of}
use Rattle.session.specs.declared.Session.{Session}
use Rattle.table.specs.Table.{open_of, find}
use Rattle.text.specs.Text.{parsed}
use Rattle.meaning.specs.Histories.{History, start}
use Rattle.meaning.specs.Edges.{told-all}
use Rattle.cause.specs.declared.Cause.{Cause}
use Rattle.cause.specs.declared.Thing.{Thing}
use Rattle.cause.specs.declared.Thing.TheVariants.{Crossing, Loss, Condition as OfKey, HeldBack}
use Rattle.cause.specs.declared.Timed.{Timed}
use Rattle.cause.specs.declared.Timed.TheVariants.{Opening, Unlock, Cc, Cv}
use Rattle.cause.specs.Causes.{cause_of, reason_of}
use Rattle.cause.specs.Noting.{timed_number}
use Rattle.cause.specs.FromMarks.{why_from}
use Rattle.cause.specs.Tracing.{Trace, trace_all, trace_start, why_after}
use Rattle.cause.proofs.Answers.{trace-answers}
use Rattle.cause.proofs.KeptReasons.{loss-reason, crossing-reason, condition-reason, held-back-reason, kept-length}
use Rattle.inquiry.specs.Words.{timed_words, message_words, condition_words, reason_text, telling, answer_words}
use Rattle.inquiry.specs.Telling.{timed_words_by, place_words, words_from, words_in, telling_from}
use Rattle.inquiry.proofs.Sizes.{AllFit, front_fits, run_fits, parsed-fits}

-- by number as by kind
timed-words : (x : Timed) → timed_words_by (timed_number x) ≡ timed_words x
timed-words Opening = refl
timed-words Unlock = refl
timed-words Cc = refl
timed-words Cv = refl

-- from a place as from the message
bit-one : (b : Bool) → eqb (bit_of b) 1 ≡ b
bit-one true = refl
bit-one false = refl

place-words : (f : Fault) (t : ℕ) → place_words (condition_of f t) ≡ condition_words (key_of f) f.refresh f.linkdown
place-words f t = ap (condition_words (key_of f) f.refresh) (bit-one f.linkdown)

-- a refusal is no answer
refused-accepted : {A B : Type 0} {n : ℕ} {x : B} → ◌≡◌ {A = Answer B} (refused n) (accepted x) → A
refused-accepted e = let z : ◌≡◌ {A = ℕ} 0 1 = cc in absurd (omega arith)

module _ (row : List Session) (full : length row ≡ 64) (kept : List ℕ) (room : 2048 ≤ length kept) (cs : List Call) (fit : AllFit cs) (l : ℕ) where
  abbrev past : History
  past = told-all start cs

  abbrev run : Trace
  run = trace_all l (trace_start row kept) cs

  abbrev found : Option Session
  found = find l (open_of run.table)

  abbrev now : ℕ
  now = run.table.clock

  -- the octets of the last crossed message are all kept
  all-kept : (size : ℕ) → size ≡ run.marks.size → size ≤ length run.kept
  unfolding trace_start
  all-kept size e =
      let small : run.marks.size ≤ 2048 = run_fits l (trace_start row kept) cs fit (omega arith) in
      omega (arith, kept-length l (trace_start row kept) cs)

  -- of a session that is answered for
  words_are : (thing : Thing) (c : Cause) → cause_of past l thing ≡ accepted c → (r : Session) → found ≡ some r
      → words_from run.marks r now run.kept thing ≡ reason_text (reason_of past l thing)
  unfolding words_from
  words_are Crossing c e r f =
      let R = crossing-reason row full kept cs l c e in
      ap (λ (m : List ℕ). message_words (message_of m)) (R.kept (all-kept (length R.message) R.octets)) ∙ ap reason_text (sym R.was)
  words_are Loss c e r f =
      let R = loss-reason row full kept cs l c e in
      ap timed_words_by (sym R.kind) ∙ timed-words R.timed ∙ ap reason_text (sym R.was)
  words_are (OfKey key) c e r f =
      let R = condition-reason row full kept cs l r f key c e in
      ap place_words R.fields ∙ place-words R.fault c.reading ∙ ap reason_text (sym R.was)
  words_are HeldBack c e r f =
      let R = held-back-reason row full kept cs l r f c e in
      ap place_words R.fields ∙ place-words R.fault c.reading ∙ ap reason_text (sym R.was)

  words-in : (thing : Thing) (c : Cause) → cause_of past l thing ≡ accepted c → (o : Option Session) → found ≡ o → why_from run.marks o now thing ≡ accepted c
      → words_in run.marks o now run.kept thing ≡ reason_text (reason_of past l thing)
  words-in thing c e none f w = refused-accepted w
  words-in thing c e (some r) f w = words_are thing c e r f

  answers : (thing : Thing) → why_from run.marks found now thing ≡ cause_of past l thing
  unfolding why_after
  answers thing = trace-answers row full kept cs l thing

  by_answer : (thing : Thing) (a : Answer Cause) → cause_of past l thing ≡ a
      → telling a (words_in run.marks found now run.kept thing) l thing ≡ telling a (reason_text (reason_of past l thing)) l thing
  unfolding telling
  by_answer thing (accepted c) e = ap (λ (w : List ℕ). telling (accepted c) w l thing) (words-in thing c e found refl (answers thing ∙ e))
  by_answer thing (refused n) e = refl

  pub telling-is : (thing : Thing) → telling_from run.marks found now run.kept l thing ≡ answer_words past l thing
  unfolding telling_from answer_words
  telling-is thing =
      ap (λ (a : Answer Cause). telling a (words_in run.marks found now run.kept thing) l thing) (answers thing) ∙ by_answer thing (cause_of past l thing) refl

-- the first records of a capture's octets: every message fits
pub telling-of : (row : List Session) → length row ≡ 64 → (kept : List ℕ) → 2048 ≤ length kept → (upto : ℕ) (s : List ℕ) (l : ℕ) (thing : Thing)
    → (z : Trace) → z ≡ trace_all l (trace_start row kept) (take upto (parsed s).calls)
    → telling_from z.marks (find l (open_of z.table)) z.table.clock z.kept l thing ≡ answer_words (told-all start (take upto (parsed s).calls)) l thing
telling-of row full kept room upto s l thing z e =
    let cs = take upto (parsed s).calls in
    rw e (telling-is row full kept room cs (front_fits upto (parsed s).calls (parsed-fits s)) l thing)
