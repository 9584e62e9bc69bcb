-- Demand 3 with groups, proved: the run of commands without their groups is a run of calls, of which demand 3 speaks.
-- Assumes nothing.
use Prim.Native.Nat.{ℕ}
use mathlib.Core.Path.{◌≡◌, refl, sym, ap, ◌∙◌}
use mathlib.Core.Bool.{true, false}
use mathlib.Core.List.{List, [], ◌∷◌, ◌++◌, map}
use lib.ListN.{length, length-map}
use Rattle.rules.specs.Calls.{Call, Tick, Said, is_accepted, number_only}
use Rattle.rules.proofs.Bools.{split}
use Rattle.session.specs.declared.Session.{Session}
use Rattle.table.specs.Table.{in_order, answer, next, emptied}
use Rattle.table.proofs.Order.{says-order}
use Rattle.grouping.specs.Commands.{Command, Ordinary, SetGroup, SetAc, ReturnGroup, Coordinate}
use Rattle.grouping.specs.Grouped.{answer_to, next_by}
use Rattle.grouping.specs.Bare.{bare, bare_table, tick_if, calls_of, calls_by}
use Rattle.grouping.proofs.Accepted.{OnGroups, setting, ac_setting, returning, coordinating}
use Rattle.grouping.proofs.Order.{order-by, refused-stays}
use Rattle.grouping.proofs.Apart.{bare-answer, bare-next, bare-tick, bare-grouped, ordinary-next}
use Rattle.meaning.specs.Histories as Histories
use Rattle.meaning.specs.Worlds as Worlds
use Rattle.meaning.specs.Worlds.{World}
use Rattle.meaning.proofs.Demand.{demand3}
use Rattle.switching.specs.Groups.{ticked, plain}
use Rattle.switching.specs.Switching.{Run, step, play, begun, past_of, table_after}
use Rattle.switching.specs.Demand.{plain_calls, GroupDemand3}
use Rattle.switching.proofs.Switching.{good-begun, good-play, switching}

-- calls one after another
played : (w : World) (xs ys : List Call) → Worlds.play w (xs ++ ys) ≡ Worlds.play (Worlds.play w xs) ys
unfolding Worlds.play
played w [] ys = refl
played w (x ∷ xs) ys = played (Worlds.step w x) xs ys

-- a run without its groups
abbrev bare_run : Run → World
bare_run w = record { table = bare_table w.table; past = plain w.past }

module _ (w : Run) (e : in_order w.table ≡ true) where
  -- an ordinary call is itself
  ordinary : (c : Call) → Worlds.play (bare_run w) (c ∷ []) ≡ bare_run (step w (Ordinary c))
  unfolding Worlds.play Worlds.step step plain answer_to
  ordinary c =
      let left : next (bare_table w.table) c ≡ bare_table (next_by w.table (Ordinary c)) = sym (ap bare_table (ordinary-next w.table c) ∙ bare-next w.table e c) in
      let said : answer (bare_table w.table) c ≡ answer w.table c = sym (bare-answer w.table e c) in
      λ i. record { table = left i; past = Histories.after (plain w.past) c (said i) }

  -- a command on groups is a tick where it is accepted, and nothing where it is refused
  grouped : (c : Command) (u : ℕ) → OnGroups c u
      → Worlds.play (bare_run w) (tick_if (answer_to w.table c) u) ≡ record { table = bare_table (next_by w.table c); past = ticked u (answer_to w.table c) (plain w.past) }
  unfolding Worlds.play Worlds.step
  grouped c u on =
      split (is_accepted (answer_to w.table c))
      (λ a.
      let left : next (bare_table w.table) (Tick u) ≡ bare_table (next_by w.table c) = sym (bare-grouped w.table e on a) in
      let said : answer (bare_table w.table) (Tick u) ≡ number_only (Tick u) 0 = bare-tick w.table e on a in
      rw a (λ i. record { table = left i; past = Histories.after (plain w.past) (Tick u) (said i) }))
      (λ a. rw a (λ i. record { table = bare_table (sym (refused-stays w.table c a) i); past = plain w.past }))

  one : (c : Command) → Worlds.play (bare_run w) (calls_of c (answer_to w.table c)) ≡ bare_run (step w c)
  unfolding step plain
  one (Ordinary c) = ordinary c
  one (SetGroup p s u) = grouped (SetGroup p s u) u setting
  one (SetAc p id ac u) = grouped (SetAc p id ac u) u ac_setting
  one (ReturnGroup p id u) = grouped (ReturnGroup p id u) u returning
  one (Coordinate l m u) = grouped (Coordinate l m u) u coordinating

-- a run of commands
all : (w : Run) → in_order w.table ≡ true → (cs : List Command) → Worlds.play (bare_run w) (calls_by w.table cs) ≡ bare_run (play w cs)
unfolding play calls_by step
all w e [] = unfold Worlds.play in refl
all w e (c ∷ cs) =
    let rest = all (step w c) (stepped w e c) cs in
    played (bare_run w) (calls_of c (answer_to w.table c)) (calls_by (next_by w.table c) cs)
    ∙ ap (λ (v : World). Worlds.play v (calls_by (next_by w.table c) cs)) (one w e c)
    ∙ rest
  where
    stepped : (w : Run) → in_order w.table ≡ true → (c : Command) → in_order (step w c).table ≡ true
    stepped w e c = unfold step in order-by w.table c e

module _ (row : List Session) (l : length row ≡ 64) (cs : List Command) where
  -- a row made empty, without its groups, is a row made empty
  same : Worlds.play (Worlds.begin (map bare row)) (plain_calls row cs) ≡ bare_run (play (begun row) cs)
  unfolding Worlds.begin begun emptied bare_table plain
  same = all (begun row) (says-order (begun row).table (good-begun row l).kept.in_step.ordered) cs

  ordered : in_order (play (begun row) cs).table ≡ true
  ordered = says-order (play (begun row) cs).table (good-play (begun row) cs (good-begun row l)).kept.in_step.ordered

  pub group-demand3 : GroupDemand3 row cs
  unfolding Worlds.past_of Worlds.table_after past_of table_after
  group-demand3 =
      record {
        demand = demand3 (map bare row) (length-map row bare ∙ l) (plain_calls row cs);
        past = ap (λ (w : World). w.past) same;
        table = ap (λ (w : World). w.table) same;
        answers = λ c. bare-answer (play (begun row) cs).table ordered c ∙ ap (λ (w : World). answer w.table c) (sym same);
        switching = switching row l cs;
      }
