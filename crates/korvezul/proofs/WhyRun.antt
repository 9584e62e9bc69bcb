-- Whatever list of the exported functions is called on a row made empty, each lent what the last one left: from their promises alone, what `korvezul_why` then tells is what
-- `why` says of everything that was called and said, as all that knows of no group sees it, without the record's number.
-- Assumes nothing.
use Prim.Native.Nat.{ℕ}
use mathlib.Core.Path.{◌≡◌, refl, sym, ap, ◌∙◌}
use mathlib.Core.Bool.{true}
use mathlib.Core.Option
use mathlib.Core.Option.{Option, none, some}
use mathlib.Core.List.{List, map}
use lib.ListN.{length, length-map}
use Rattle.octets.specs.Choice.{Answer}
use Rattle.session.specs.declared.Session.{Session}
use Rattle.session.specs.Queries.{loss_at, crossing_at}
use Rattle.table.specs.declared.Head.{Head}
use Rattle.table.specs.Table.{Table, open_of, in_order, find, emptied}
use Rattle.grouping.specs.Commands.{Command}
use Rattle.grouping.specs.Grouped.{with_group}
use Rattle.grouping.specs.Bare.{bare, bare_table}
use Rattle.grouping.proofs.Apart.{found-bare, bare-order}
use Rattle.meaning.specs.Histories.{History}
use Rattle.meaning.proofs.Sim.{sim-order}
use Rattle.switching.specs.Groups.{start, plain}
use Rattle.switching.specs.Switching.{begun, table_after}
use Rattle.switching.specs.Demand.{plain_calls}
use Rattle.switching.proofs.Switching.{good-play, good-begun}
use Rattle.cause.specs.declared.Thing.{Thing}
use Rattle.cause.specs.declared.Thing.TheVariants.{Crossing, Loss, Condition, HeldBack}
use Rattle.cause.specs.Causes.{cause_of}
use Rattle.cause.specs.FromMarks.{cause_from}
use Rattle.live.specs.declared.LiveQuestion.{LiveQuestion}
use Rattle.live.specs.Live.{asked_label, Dated, without_number, thing_of, live_in, live_of, told_of, asking}
use Rattle.live.proofs.Live.{live-of-past}
use Rattle.korvezul.specs.Runs.{PublicCall, Promises, HandedOn, commands_of, told_behind, RunDemand3}
use Rattle.korvezul.proofs.Fold.{run-demand3}

-- no group is looked at
bare-in : (o : Option Session) (now : ℕ) (thing : Option Thing) → live_in (Option.map bare o) now thing ≡ live_in o now thing
unfolding bare with_group cause_from loss_at crossing_at
bare-in none now thing = refl
bare-in (some r) now none = refl
bare-in (some r) now (some Crossing) = refl
bare-in (some r) now (some Loss) = refl
bare-in (some r) now (some (Condition key)) = refl
bare-in (some r) now (some HeldBack) = refl

live-bare : (t : Table) → in_order t ≡ true → (l : ℕ) (thing : Option Thing) → live_of (bare_table t) l thing ≡ live_of t l thing
unfolding live_of
live-bare t e l thing =
    rw (e, bare-order t e)
    (unfold bare_table in ap (λ (o : Option Session). live_in o t.clock thing) (found-bare t l) ∙ bare-in (find l (open_of t)) t.clock thing)

module _ (row : List Session) (whole : length row ≡ 64) (cs : List PublicCall) (v : Table) (kept : Promises cs) (handed : HandedOn (emptied row) cs v) where
  run : RunDemand3 row cs v
  run = run-demand3 row whole cs v kept handed

  abbrev commands : List Command
  commands = commands_of cs

  ordered : in_order (table_after row commands) ≡ true
  unfolding table_after
  ordered = sim-order (good-play (begun row) commands (good-begun row whole)).kept.in_step

  live-run : (l : ℕ) (thing : Thing) → live_of v l (some thing) ≡ without_number (cause_of (plain (told_behind start cs)) l thing)
  live-run l thing =
      let tell : Table → Answer Dated = λ t. live_of t l (some thing) in
      ap tell (sym run.table) ∙ sym (live-bare (table_after row commands) ordered l (some thing)) ∙ ap tell (sym run.demand.table)
      ∙ live-of-past (map bare row) (length-map row bare ∙ whole) (plain_calls row commands) l thing
      ∙ ap (λ (h : History). without_number (cause_of h l thing)) (run.demand.past ∙ ap plain run.past)

  abbrev head : Head
  head = record { clock = v.clock; occupied = v.occupied }

  pub why-run : (q : LiveQuestion) (thing : Thing) → thing_of q ≡ some thing
      → (asking v q).cause ≡ told_of head (without_number (cause_of (plain (told_behind start cs)) (asked_label q) thing))
  unfolding asking
  why-run q thing e =
      ap (λ (o : Option Thing). told_of head (live_of v (asked_label q) o)) e ∙ ap (λ (a : Answer Dated). told_of head a) (live-run (asked_label q) thing)
