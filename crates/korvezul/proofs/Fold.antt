-- From the exported functions to the theorem. Whatever list of calls of the thirteen functions is made on a row made empty by `korvezul_empty`, each lent what the last
-- one left, then from each function's own `ensures` alone: row, clock, set and everything said are those of the fold of commands that `group-demand3` speaks of, and what
-- was told of a group between them is what they come to.
-- Assumes nothing.
use Prim.Native.Nat.{ℕ}
use mathlib.Core.Path.{◌≡◌, refl, sym, ap, subst, ◌∙◌}
use mathlib.Core.List.{List, [], ◌∷◌, ◌++◌}
use lib.ListN.{length}
use borrow.Author.Tests.{eq-eqb}
use seplogic.Ra.Ura.{Ura}
use base.Logic.{SProp, ent, sep, via, fst∗, snd∗}
use prog.Memory.{Memory}
use prog.Routine.{Routine}
use types.Logic.{Logic}
use contract.Monad.{Fun, fact, fact_i, fact_mono, fact_use}
use contract.Lifetimes.{Lfts}
use denote.Triple.Entry.{Args, Res}
use denote.Triple.Clauses.{AtExit}
use Rattle.session.specs.declared.Session.{Session}
use Rattle.table.specs.declared.Head.{Head}
use Rattle.table.specs.Table.{Table, emptied}
use Rattle.grouping.specs.Commands.{Command}
use Rattle.step.specs.Stepping.{table_of}
use Rattle.switching.specs.Groups.{Past, start}
use Rattle.switching.specs.Switching.{Run, step, play, begun, past_of, table_after}
use Rattle.switching.proofs.Asked.{asked-same}
use Rattle.switching.proofs.Switching.{Good, good-play, good-begun}
use Rattle.switching.proofs.Demand.{group-demand3}
use Rattle.group_parties.specs.Parties.{command_of, Request, Gives, Asks, response_of, Tells, leaves}
use Rattle.korvezul.specs.Calling.{Emptied, emptying}
use Rattle.korvezul.specs.Runs.{PublicCall, Answered, Promises, HandedOn, command_in, commands_of, behind, told_behind, told_right, AsksTold, RunDemand3}
use Rattle.korvezul.specs.contracts.korvezul_empty as empty
use Rattle.korvezul.proofs.Promised.{function_of, Exchange, ensured, all_ensured, table_calls}

abbrev run_of : Table → Past → Run
run_of t h = record { table = t; past = h }

-- a command is a step, and asking is none
one : (t : Table) (h : Past) (r : Request) (cs : List Command) → play (run_of t h) (command_in r ++ cs) ≡ play (run_of (leaves t r) (behind h r (response_of t r))) cs
unfolding play step
one t h (Gives c) cs = refl
one t h (Asks p id) cs = refl

-- a run is the fold of its commands
pub run-is-fold : (cs : List PublicCall) (t v : Table) → Promises cs → HandedOn t cs v → (h : Past)
    → play (record { table = t; past = h }) (commands_of cs) ≡ record { table = v; past = told_behind h cs }
unfolding commands_of
run-is-fold [] t v k e h = unfold play in ap (λ (u : Table). run_of u h) e
run-is-fold (c ∷ cs) t v k e h =
    ap (λ (u : Table). play (run_of u h) (command_in c.request ++ commands_of cs)) e.0
    ∙ one c.lent h c.request (commands_of cs)
    ∙ ap (λ (x : Answered). play (run_of x.table (behind h c.request x.response)) (commands_of cs)) (sym k.0)
    ∙ run-is-fold cs c.left v k.1 e.1 (behind h c.request c.response)

-- asking of a group tells what the accepted commands before it come to, and after a command that still holds
module _ (t : Table) (h : Past) (G : Good (run_of t h)) where
  told : (r : Request) → told_right h r (response_of t r)
  told (Gives c) = tt
  told (Asks p id) = ap Tells (asked-same h t G.kept p id)

  good_left : (r : Request) → Good (run_of (leaves t r) (behind h r (response_of t r)))
  good_left (Gives c) = unfold play step in good-play (run_of t h) (command_of c ∷ []) G
  good_left (Asks p id) = G

asks-told : (cs : List PublicCall) (t v : Table) → Promises cs → HandedOn t cs v → (h : Past) → Good (run_of t h) → AsksTold h cs
asks-told [] t v k e h G = tt
asks-told (c ∷ cs) t v k e h G =
    let lent = subst (λ (u : Table). Good (run_of u h)) e.0 G in (
      subst (λ (x : Answered). told_right h c.request x.response) (sym k.0) (told c.lent h lent c.request),
      asks-told cs c.left v k.1 e.1 (behind h c.request c.response)
          (subst (λ (x : Answered). Good (run_of x.table (behind h c.request x.response))) (sym k.0) (good_left c.lent h lent c.request)),
    )

-- a row made empty is the fold's beginning
begins : (row : List Session) (head head' : Head) (n : ℕ) → record { number = n; table = table_of row head' } ≡ emptying row head
    → length row ≡ 64 → (n ≡ 0) × (table_of row head' ≡ emptied row)
begins row head head' n e l =
    (ap (λ (x : Emptied). x.number) e ∙ rw (eq-eqb (length row) 64 l), ap (λ (x : Emptied). x.table) e ∙ rw (eq-eqb (length row) 64 l))

-- demand 3 of what was promised and handed on
pub run-demand3 : (row : List Session) → length row ≡ 64 → (cs : List PublicCall) (v : Table) → Promises cs → HandedOn (emptied row) cs v → RunDemand3 row cs v
unfolding table_after past_of begun
run-demand3 row l cs v k e =
    let fold = run-is-fold cs (emptied row) v k e start in
    record {
      demand = group-demand3 row l (commands_of cs);
      table = ap (λ (w : Run). w.table) fold;
      past = ap (λ (w : Run). w.past) fold;
      asked = asks-told cs (emptied row) v k e start (good-begun row l);
    }

module _ {M : Type 1} {𝓤 : Ura M} (𝓛 : Logic 𝓤) (mem : Memory → SProp 𝓤) (run : Routine → Fun 𝓤) where
  -- each function's own `ensures` is its call's promise
  all-promised : (xs : List (Exchange 𝓛 mem run)) → ent 𝓤 (all_ensured 𝓛 mem run xs) (fact 𝓤 (Promises (table_calls 𝓛 mem run xs)))
  all-promised [] = fact_i 𝓤 (Unit {0}) _ tt
  all-promised (x ∷ xs) =
      fact_use 𝓤 _ (via 𝓤 _ (fst∗ 𝓤 (ensured 𝓛 mem run x) (all_ensured 𝓛 mem run xs)) ((function_of 𝓛 mem run x.name).keeps x.lifetimes x.entry x.ghost x.result x.exit))
      (λ k. fact_use 𝓤 _ (via 𝓤 _ (snd∗ 𝓤 (ensured 𝓛 mem run x) (all_ensured 𝓛 mem run xs)) (all-promised xs)) (λ ks. fact_i 𝓤 _ _ (k, ks)))

  -- what `korvezul_empty` ensures of a row of 64, and what the calls behind it ensure, each lent what the last one left: it answered 0, and demand 3 holds of the run
  module _ (κs : Lfts (empty.ended).signature.lifetimes) (a : Args (empty.ended).signature κs) (g : (empty.clauses 𝓛 mem run κs a).ghost)
      (r : Res (empty.ended).signature κs) (e : AtExit empty.ended κs) where
    pub demand3-run : length a.0.now ≡ 64 → (xs : List (Exchange 𝓛 mem run)) (v : Table) → HandedOn (table_of a.0.now e.1.0.now) (table_calls 𝓛 mem run xs) v
        → ent 𝓤 (sep 𝓤 ((empty.clauses 𝓛 mem run κs a).ensures g r e) (all_ensured 𝓛 mem run xs)) (fact 𝓤 ((r ≡ 0) × RunDemand3 a.0.now (table_calls 𝓛 mem run xs) v))
    demand3-run l xs v handed =
        fact_use 𝓤 _ (via 𝓤 _ (fst∗ 𝓤 _ (all_ensured 𝓛 mem run xs)) (fact_mono 𝓤 _ _ (λ w. begins a.0.now a.1.0.now e.1.0.now r w l)))
        (λ b. fact_use 𝓤 _ (via 𝓤 _ (snd∗ 𝓤 ((empty.clauses 𝓛 mem run κs a).ensures g r e) _) (all-promised xs))
        (λ ks. fact_i 𝓤 _ _ (b.0, run-demand3 a.0.now l (table_calls 𝓛 mem run xs) v ks (subst (λ (t : Table). HandedOn t (table_calls 𝓛 mem run xs) v) b.1 handed))))
