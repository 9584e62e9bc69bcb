-- What the named call was, from marks, record and octets kept: for every list of calls.
-- Assumes nothing.
use Prim.Native.Nat.{ℕ, ◌≤◌}
use native.Mathlib.Omega.{arith}
use mathlib.Core.Path.{◌≡◌, refl, sym, ap, ◌∙◌, subst}
use mathlib.Core.Bool.{Bool, true, false, cond}
use mathlib.Core.Option.{Option, none, some}
use mathlib.Core.List.{List, [], ◌∷◌}
use lib.Dec.{eqb}
use lib.ListN.{length, take}
use lib.Seq.{sets, length-sets}
use Rattle.octets.specs.Choice.{accepted}
use Rattle.fault.specs.declared.Fault.{Fault}
use Rattle.message.specs.Message.{message_of}
use Rattle.rules.specs.declared.Key.{Key}
use Rattle.rules.specs.Received.{received_as}
use Rattle.rules.specs.Calls.{Act, Close, Lock, Unlock, Receive, ReportOn, WriteCc, WriteCv, Call, Tick, Open, On, is_accepted}
use Rattle.conditions.specs.declared.Condition.{Condition}
use Rattle.conditions.specs.Standing.{place_stands}
use Rattle.conditions.specs.Taking.{condition_of}
use Rattle.session.specs.declared.Session.{Session}
use Rattle.table.specs.Table.{open_of, find, answer}
use Rattle.meaning.specs.Stories.{Story, is_crossed}
use Rattle.meaning.specs.Histories.{History, start, clock_of, story}
use Rattle.meaning.specs.Edges.{told-all}
use Rattle.meaning.proofs.Fits.{Fits}
use Rattle.meaning.proofs.Sim.{Fit, fit-record}
use Rattle.cause.specs.declared.answer.Candidate.{Candidate}
use Rattle.cause.specs.declared.Cause.{Cause}
use Rattle.cause.specs.declared.Thing.{Thing}
use Rattle.cause.specs.declared.Thing.TheVariants.{Crossing, Loss, Condition as OfKey, HeldBack}
use Rattle.cause.specs.declared.Timed.{Timed}
use Rattle.cause.specs.declared.Timed.TheVariants.{Opening, Unlock as ByUnlock, Cc, Cv}
use Rattle.cause.specs.Marks.{Mark, last_of_key}
use Rattle.cause.specs.Causes.{condition_end, last_holding, cause_by, cause_of, timed_by, crossed_by, fault_by, reason_by, reason_of}
use Rattle.cause.specs.Noting.{timed_number, act_kept_in, call_kept, kept_after}
use Rattle.cause.specs.FromMarks.{best_of, stands_as}
use Rattle.cause.specs.Tracing.{Trace, trace_step, trace_all, trace_start}
use Rattle.cause.proofs.Asked.{Granted, granted, by-mark}
use Rattle.cause.proofs.Readings.{clock-low}
use Rattle.cause.proofs.Traced.{Traced}
use Rattle.cause.proofs.Candidates.{Like}
use Rattle.cause.proofs.FromMarks.{crossing-marked, like-key, like-held}
use Rattle.cause.proofs.Answers.{Follows, follows-calls}

-- the number that is kept tells what it was
pub one-kind : (a b : Timed) → timed_number a ≡ timed_number b → a ≡ b
one-kind Opening Opening e = refl
one-kind Opening ByUnlock e = absurd (omega arith)
one-kind Opening Cc e = absurd (omega arith)
one-kind Opening Cv e = absurd (omega arith)
one-kind ByUnlock Opening e = absurd (omega arith)
one-kind ByUnlock ByUnlock e = refl
one-kind ByUnlock Cc e = absurd (omega arith)
one-kind ByUnlock Cv e = absurd (omega arith)
one-kind Cc Opening e = absurd (omega arith)
one-kind Cc ByUnlock e = absurd (omega arith)
one-kind Cc Cc e = refl
one-kind Cc Cv e = absurd (omega arith)
one-kind Cv Opening e = absurd (omega arith)
one-kind Cv ByUnlock e = absurd (omega arith)
one-kind Cv Cc e = absurd (omega arith)
one-kind Cv Cv e = refl

-- what a loss is timed from is of the kind that is kept
pub record LossSaid (h : History) (l : ℕ) (x : Trace) : Type 0 where
  pub timed : Timed
  pub was : reason_of h l Loss ≡ some (timed_by timed)
  pub kind : timed_number timed ≡ x.marks.by

-- a crossed message has the octets that are kept, where there was room
pub record CrossingSaid (h : History) (l : ℕ) (x : Trace) : Type 0 where
  pub message : List ℕ
  pub was : reason_of h l Crossing ≡ some (crossed_by message)
  pub octets : length message ≡ x.marks.size
  pub kept : length message ≤ length x.kept → take x.marks.size x.kept ≡ message

-- a fault message has the fields of the place that is chosen
pub record FaultSaid (h : History) (l : ℕ) (thing : Thing) (c : Cause) (place : Condition) : Type 0 where
  pub fault : Fault
  pub was : reason_of h l thing ≡ some (fault_by fault)
  pub fields : place ≡ condition_of fault c.reading

module _ (h : History) (l : ℕ) (x : Trace) (F : Follows h l x) where
  -- the record of an open label
  module _ (thing : Thing) (c : Cause) (s : Story) (G : Granted h l thing c s) where
    record_of : (r : Session) × (find l (open_of x.table) ≡ some r) × Fits (clock_of h) r s
    record_of =
        fit-record (find l (open_of x.table)) (subst (λ (o : Option Story). Fit (clock_of h) (find l (open_of x.table)) o) G.told (F.in_step.fit l))

    traced-of : Traced h l record_of.0 x.marks x.kept
    traced-of = F.traced record_of.0 record_of.1

  loss-of : (c : Cause) → cause_of h l Loss ≡ accepted c → LossSaid h l x
  loss-of c e =
      let G = granted h l Loss c e in
      let N = (traced-of Loss c G.0 G.1).timed in
      record { timed = N.mark.what; was = G.1.was ∙ ap (reason_by timed_by) N.found; kind = sym N.so.1 }

  crossing-of : (c : Cause) → cause_of h l Crossing ≡ accepted c → CrossingSaid h l x
  crossing-of c e =
      let G = granted h l Crossing c e in
      let r = record_of Crossing c G.0 G.1 in
      let T = traced-of Crossing c G.0 G.1 in
      let N = T.crossed (crossing-marked h l G.0 G.1.told r.0 x.marks x.kept r.2 T (clock-low h F.right) G.1.standing) in
      record { message = N.mark.what; was = G.1.was ∙ ap (reason_by crossed_by) N.found; octets = sym N.so.1; kept = N.so.2 }

  -- of a candidate that is a mark
  by-candidate : (thing : Thing) (c : Cause) (o : Option (Mark Fault)) (best : Candidate) → Like best o → cause_by (clock_of h) condition_end o ≡ accepted c
      → reason_of h l thing ≡ reason_by fault_by o → FaultSaid h l thing c best.place
  by-candidate thing c o best L e w =
      let M = by-mark (clock_of h) condition_end c o e in
      let k : Mark Fault = M.0 in
      let like : Like best (some k) = subst (Like best) M.1.found L in
      record { fault = k.what; was = w ∙ ap (reason_by fault_by) M.1.found; fields = like.2 ∙ ap (condition_of k.what) (sym M.1.reading) }

  -- the record is the one that is found
  module _ (r : Session) (found : find l (open_of x.table) ≡ some r) where
    fits-of : (s : Story) → story l h ≡ some s → Fits (clock_of h) r s
    fits-of s e =
        subst (λ (o : Option Story). Fit (clock_of h) (some r) o) e (subst (λ (o : Option Session). Fit (clock_of h) o (story l h)) found (F.in_step.fit l))

    abbrev now : ℕ
    now = x.table.clock

    key-at : (key : Key) (c : Cause) → cause_of h l (OfKey key) ≡ accepted c
        → FaultSaid h l (OfKey key) c (best_of (stands_as key (clock_of h)) r.conditions x.marks).place
    key-at key c e =
        let G = granted h l (OfKey key) c e in
        by-candidate (OfKey key) c (last_of_key l key h) (best_of (stands_as key (clock_of h)) r.conditions x.marks)
        (like-key h l G.0 G.1.told r x.marks x.kept (fits-of G.0 G.1.told) (F.traced r found) (clock-low h F.right) key G.1.standing)
        G.1.by G.1.was

    held_at : (c : Cause) → cause_of h l HeldBack ≡ accepted c
        → FaultSaid h l HeldBack c (best_of (λ d. place_stands d (clock_of h)) r.conditions x.marks).place
    held_at c e =
        let G = granted h l HeldBack c e in
        by-candidate HeldBack c (last_holding h l G.0) (best_of (λ d. place_stands d (clock_of h)) r.conditions x.marks)
        (like-held h l G.0 G.1.told r x.marks x.kept (fits-of G.0 G.1.told) (F.traced r found) (clock-low h F.right)) G.1.by G.1.was

    key_of : (key : Key) (c : Cause) → cause_of h l (OfKey key) ≡ accepted c → FaultSaid h l (OfKey key) c (best_of (stands_as key now) r.conditions x.marks).place
    key_of key c e =
        subst (λ (n : ℕ). FaultSaid h l (OfKey key) c (best_of (stands_as key n) r.conditions x.marks).place) (sym F.in_step.clock) (key-at key c e)

    held_of : (c : Cause) → cause_of h l HeldBack ≡ accepted c → FaultSaid h l HeldBack c (best_of (λ d. place_stands d now) r.conditions x.marks).place
    held_of c e =
        subst (λ (n : ℕ). FaultSaid h l HeldBack c (best_of (λ d. place_stands d n) r.conditions x.marks).place) (sym F.in_step.clock) (held_at c e)

-- of every list of calls, from a row of 64 made empty and any buffer
module _ (row : List Session) (full : length row ≡ 64) (kept : List ℕ) (cs : List Call) (l : ℕ) where
  abbrev past : History
  past = told-all start cs

  abbrev run : Trace
  run = trace_all l (trace_start row kept) cs

  pub loss-reason : (c : Cause) → cause_of past l Loss ≡ accepted c → LossSaid past l run
  loss-reason c e = loss-of past l run (follows-calls row full kept cs l) c e

  pub crossing-reason : (c : Cause) → cause_of past l Crossing ≡ accepted c → CrossingSaid past l run
  crossing-reason c e = crossing-of past l run (follows-calls row full kept cs l) c e

  pub condition-reason : (r : Session) → find l (open_of run.table) ≡ some r → (key : Key) (c : Cause) → cause_of past l (OfKey key) ≡ accepted c
      → FaultSaid past l (OfKey key) c (best_of (stands_as key run.table.clock) r.conditions run.marks).place
  condition-reason r f key c e = key_of past l run (follows-calls row full kept cs l) r f key c e

  pub held-back-reason : (r : Session) → find l (open_of run.table) ≡ some r → (c : Cause) → cause_of past l HeldBack ≡ accepted c
      → FaultSaid past l HeldBack c (best_of (λ d. place_stands d run.table.clock) r.conditions run.marks).place
  held-back-reason r f c e = held_of past l run (follows-calls row full kept cs l) r f c e

-- the buffer keeps its length
test-length : (b : Bool) (xs ys : List ℕ) → length xs ≡ length ys → length (cond b xs ys) ≡ length ys
test-length true xs ys e = e
test-length false xs ys e = refl

act-length : (kept : List ℕ) (o : Option Session) (b : Act) → length (act_kept_in kept o b) ≡ length kept
act-length kept none b = refl
act-length kept (some r) (Close t) = refl
act-length kept (some r) (Lock t) = refl
act-length kept (some r) (Unlock t) = refl
act-length kept (some r) (Receive b t) = test-length (is_crossed (received_as r.settings (message_of b))) (sets kept 0 b) kept (length-sets kept 0 b)
act-length kept (some r) ReportOn = refl
act-length kept (some r) (WriteCc b) = refl
act-length kept (some r) (WriteCv b) = refl

call_length : (l : ℕ) (kept : List ℕ) (o : Option Session) (c : Call) → length (call_kept l kept o c) ≡ length kept
call_length l kept o (Tick t) = refl
call_length l kept o (Open g t) = refl
call_length l kept o (On k b) = test-length (eqb k l) (act_kept_in kept o b) kept (act-length kept o b)

pub kept-length : (l : ℕ) (x : Trace) (cs : List Call) → length (trace_all l x cs).kept ≡ length x.kept
unfolding trace_all trace_step kept_after
kept-length l x [] = refl
kept-length l x (c ∷ cs) =
    kept-length l (trace_step l x c) cs
    ∙ test-length (is_accepted (answer x.table c)) (call_kept l x.kept (find l (open_of x.table)) c) x.kept (call_length l x.kept (find l (open_of x.table)) c)
