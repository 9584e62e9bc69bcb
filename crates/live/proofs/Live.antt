-- What a live table says is what `why` says of the calls that made it, without the record's number: for every row of 64 made empty, every list of calls, every label and thing.
-- Assumes nothing.
use Prim.Native.Nat.{ℕ}
use mathlib.Core.Path.{◌≡◌, refl, sym, ap, ◌∙◌}
use mathlib.Core.Option.{Option, none, some}
use mathlib.Core.List.{List, [], ◌∷◌}
use lib.ListN.{length}
use Rattle.rules.specs.Calls.{Call, Said}
use Rattle.session.specs.declared.Session.{Session}
use Rattle.table.specs.Table.{Table, open_of, find, answer}
use Rattle.meaning.specs.Histories.{History, start, after, clock_of, story}
use Rattle.meaning.specs.Edges.{told-all}
use Rattle.meaning.specs.Worlds.{World, step, play, begin, past_of, table_after}
use Rattle.meaning.proofs.Sim.{Fit, sim-order, fit-story}
use Rattle.meaning.proofs.Demand.{InStep, answered, in-step-next, in-step-start}
use Rattle.cause.specs.declared.Thing.{Thing}
use Rattle.cause.specs.Causes.{cause_of}
use Rattle.cause.specs.FromMarks.{why_from}
use Rattle.cause.specs.Tracing.{Trace, trace_step, trace_all, trace_start, why_after}
use Rattle.cause.proofs.Answers.{Follows, follows-calls, follows-why}
use Rattle.live.specs.Live.{without_number, live_in, live_of}
use Rattle.live.proofs.LiveMarks.{live-traced}

-- the table of a run with marks is that of the calls
table-played : (l : ℕ) (x : Trace) (h : History) (cs : List Call) → (trace_all l x cs).table ≡ (play (record { table = x.table; past = h }) cs).table
unfolding trace_all trace_step play step
table-played l x h [] = refl
table-played l x h (c ∷ cs) = table-played l (trace_step l x c) (after h c (answer x.table c)) cs

table-after : (row : List Session) (kept : List ℕ) (cs : List Call) (l : ℕ) → (trace_all l (trace_start row kept) cs).table ≡ table_after row cs
unfolding trace_start table_after begin
table-after row kept cs l = table-played l (trace_start row kept) start cs

-- of a run that is in step with a history
module _ (h : History) (l : ℕ) (x : Trace) (F : Follows h l x) (thing : Thing) where
  by-record : (o : Option Session) → find l (open_of x.table) ≡ o → Fit (clock_of h) o (story l h)
      → live_in o x.table.clock (some thing) ≡ without_number (why_from x.marks o x.table.clock thing)
  by-record none e z = refl
  by-record (some r) e z =
      let s = fit-story (story l h) z in live-traced h F.right l s.0 s.1 r x.marks x.kept (F.traced r e) x.table.clock thing

  follows-live : live_of x.table l (some thing) ≡ without_number (cause_of h l thing)
  unfolding live_of why_after
  follows-live =
      rw (sim-order F.in_step)
      (by-record (find l (open_of x.table)) refl (F.in_step.fit l) ∙ ap without_number (follows-why h l x F thing))

pub live-is-why : (row : List Session) → length row ≡ 64 → (cs : List Call) (l : ℕ) (thing : Thing)
    → live_of (table_after row cs) l (some thing) ≡ without_number (cause_of (told-all start cs) l thing)
live-is-why row e cs l thing =
    ap (λ (t : Table). live_of t l (some thing)) (sym (table-after row [] cs l))
    ∙ follows-live (told-all start cs) l (trace_all l (trace_start row []) cs) (follows-calls row e [] cs l) thing

-- the same of what was called on the table, and said by it
played-past : (w : World) → InStep w.past w.table → (cs : List Call) → (play w cs).past ≡ told-all w.past cs
unfolding play step told-all
played-past w S [] = refl
played-past w S (c ∷ cs) =
    played-past (step w c) (in-step-next w.past w.table S c) cs ∙ ap (λ (a : Said). told-all (after w.past c a) cs) (answered w.past w.table S c)

pub live-of-past : (row : List Session) → length row ≡ 64 → (cs : List Call) (l : ℕ) (thing : Thing)
    → live_of (table_after row cs) l (some thing) ≡ without_number (cause_of (past_of row cs) l thing)
unfolding past_of begin
live-of-past row e cs l thing =
    live-is-why row e cs l thing ∙ ap (λ (h : History). without_number (cause_of h l thing)) (sym (played-past (begin row) (in-step-start row e) cs))
