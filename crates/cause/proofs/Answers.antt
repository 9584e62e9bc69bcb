-- The run with marks answers what the history does, for every list of calls.
-- Assumes nothing.
use Prim.Native.Nat.{ℕ, suc}
use mathlib.Core.Path.{◌≡◌, refl, sym, ap, ◌∙◌, subst}
use mathlib.Core.Option.{Option, none, some}
use mathlib.Core.List.{List, [], ◌∷◌, ◌++◌}
use lib.ListN.{length}
use Rattle.rules.specs.Calls.{Call, Said}
use Rattle.session.specs.declared.Session.{Session}
use Rattle.table.specs.Table.{Table, open_of, find, answer, next}
use Rattle.meaning.specs.Stories.{Story}
use Rattle.meaning.specs.Histories.{History, start, after, clock_of, story}
use Rattle.meaning.specs.Answers.{says}
use Rattle.meaning.specs.Accounts.{size}
use Rattle.meaning.specs.Edges.{told-all}
use Rattle.meaning.specs.Worlds.{Right}
use Rattle.meaning.proofs.Sim.{Fit}
use Rattle.meaning.proofs.Demand.{InStep, answered, in-step-next, in-step-start}
use Rattle.cause.specs.declared.Thing.{Thing}
use Rattle.cause.specs.Causes.{cause_of}
use Rattle.cause.specs.Noting.{anew, noted, kept_after}
use Rattle.cause.specs.FromMarks.{why_from}
use Rattle.cause.specs.Tracing.{Trace, trace_step, trace_all, trace_start, why_after}
use Rattle.cause.proofs.Readings.{clock-low}
use Rattle.cause.proofs.Refusals.{refused-2}
use Rattle.cause.proofs.FromMarks.{cause-traced}
use Rattle.cause.proofs.Tracing.{TracedIn, traced-next, traced-start}

-- the run is in step with the history, whose answers are the paper's; its number counts the calls; marks and octets kept are the history's
pub record Follows (h : History) (l : ℕ) (x : Trace) : Type 0 where
  pub in_step : InStep h x.table
  pub right : Right h
  pub counted : x.number ≡ size h
  pub traced : TracedIn h l x.table x.marks x.kept

pub follows-step : (h : History) (l : ℕ) (x : Trace) (c : Call) → Follows h l x → Follows (after h c (says h c)) l (trace_step l x c)
unfolding trace_step size Right
follows-step h l x c F =
    let a : answer x.table c ≡ says h c = answered h x.table F.in_step c in
    let t : Table = next x.table c in
    let kept : List ℕ = kept_after l x.kept x.table c in
    record {
      in_step = subst (λ (b : Said). InStep (after h c b) t) a (in-step-next h x.table F.in_step c);
      right = (F.right, refl);
      counted = ap suc F.counted;
      traced =
          subst (λ (b : Said). TracedIn (after h c b) l t (noted l x.marks (suc x.number) x.table c) kept) a
          (subst (λ (n : ℕ). TracedIn (after h c (answer x.table c)) l t (noted l x.marks (suc n) x.table c) kept) (sym F.counted)
          (traced-next h l x.table x.marks x.kept F.in_step F.traced c));
    }

pub follows-all : (h : History) (l : ℕ) (x : Trace) (cs : List Call) → Follows h l x → Follows (told-all h cs) l (trace_all l x cs)
unfolding told-all trace_all
follows-all h l x [] F = F
follows-all h l x (c ∷ cs) F = follows-all (after h c (says h c)) l (trace_step l x c) cs (follows-step h l x c F)

pub follows-start : (row : List Session) → length row ≡ 64 → (kept : List ℕ) (l : ℕ) → Follows start l (trace_start row kept)
unfolding trace_start size Right
follows-start row e kept l = record { in_step = in-step-start row e; right = tt; counted = refl; traced = traced-start row l (anew 0) kept }

pub follows-calls : (row : List Session) → length row ≡ 64 → (kept : List ℕ) (cs : List Call) (l : ℕ) → Follows (told-all start cs) l (trace_all l (trace_start row kept) cs)
follows-calls row e kept cs l = follows-all start l (trace_start row kept) cs (follows-start row e kept l)

-- the answer
module _ (h : History) (l : ℕ) (x : Trace) (F : Follows h l x) (thing : Thing) where
  by-record : (o : Option Session) → find l (open_of x.table) ≡ o → (p : Option Story) → story l h ≡ p → Fit (clock_of h) o p
      → why_from x.marks o (clock_of h) thing ≡ cause_of h l thing
  by-record none e none f z = sym ((refused-2 h l thing).1 f)
  by-record none e (some s) f z = absurd z
  by-record (some r) e none f z = absurd z
  by-record (some r) e (some s) f z = cause-traced h l s f r x.marks x.kept z (F.traced r e) (clock-low h F.right) thing

  pub follows-why : why_after x l thing ≡ cause_of h l thing
  unfolding why_after
  follows-why =
      ap (λ (now : ℕ). why_from x.marks (find l (open_of x.table)) now thing) F.in_step.clock
      ∙ by-record (find l (open_of x.table)) refl (story l h) refl (F.in_step.fit l)

-- of every list of calls
pub trace-answers : (row : List Session) → length row ≡ 64 → (kept : List ℕ) (cs : List Call) (l : ℕ) (thing : Thing)
    → why_after (trace_all l (trace_start row kept) cs) l thing ≡ cause_of (told-all start cs) l thing
trace-answers row e kept cs l thing = follows-why (told-all start cs) l (trace_all l (trace_start row kept) cs) (follows-calls row e kept cs l) thing

-- tracing two lists one behind the other is tracing them joined
pub trace-joined : (l : ℕ) (x : Trace) (cs ds : List Call) → trace_all l x (cs ++ ds) ≡ trace_all l (trace_all l x cs) ds
unfolding trace_all
trace-joined l x [] ds = refl
trace-joined l x (c ∷ cs) ds = trace-joined l (trace_step l x c) cs ds
