-- The groups of a table are what the accepted commands come to, proved.
-- Assumes nothing.
use Prim.Native.Nat.{ℕ}
use native.Mathlib.Omega.{arith}
use mathlib.Core.Path.{◌≡◌, sym, ap, ◌∙◌}
use mathlib.Core.List.{List, [], ◌∷◌}
use lib.ListN.{length}
use Rattle.rules.specs.Calls.{Said}
use Rattle.session.specs.declared.Session.{Session}
use Rattle.table.specs.Table.{open_of, find}
use Rattle.grouping.specs.Commands.{Command}
use Rattle.switching.specs.Switching.{Run, step, play, begun, past_of, table_after, group_in, Right, Never, Switching}
use Rattle.switching.proofs.Kept.{Kept, kept_next, kept-start}
use Rattle.switching.proofs.Asked.{asked-same}
use Rattle.switching.proofs.Answered.{says_same, number-most}

-- what holds of a table and its commands after every list of them
pub record Good (w : Run) : Type 0 where
  pub kept : Kept w.past w.table
  pub right : Right w.past
  pub never : Never 26 w.past

good-step : (w : Run) (c : Command) → Good w → Good (step w c)
unfolding step Right Never
good-step w c G =
    let a = says_same w.past w.table G.kept c in
    record {
      kept = kept_next w.past w.table G.kept c;
      right = (G.right, a);
      never = (G.never, λ e. omega (arith, number-most w.past c, ap (λ (x : Said). x.number) a));
    }

pub good-play : (w : Run) (cs : List Command) → Good w → Good (play w cs)
unfolding play
good-play w [] G = G
good-play w (c ∷ cs) G = good-play (step w c) cs (good-step w c G)

pub good-begun : (row : List Session) → length row ≡ 64 → Good (begun row)
unfolding begun Right Never
good-begun row e = record { kept = kept-start row e; right = tt; never = tt }

pub switching : (row : List Session) → length row ≡ 64 → (cs : List Command) → Switching row cs
unfolding past_of table_after
switching row e cs =
    record {
      numbers = G.right;
      never-26 = G.never;
      groups = λ l. G.kept.groups l ∙ ap (λ (n : ℕ). group_in n (find l (open_of w.table))) (sym G.kept.in_step.clock);
      asked = asked-same w.past w.table G.kept;
      row-groups = G.kept.in_step.ordered.groups;
    }
  where
    w : Run
    w = play (begun row) cs

    G : Good w
    G = good-play (begun row) cs (good-begun row e)
