-- A history and the table that the same calls leave, from a row of 64 made empty. By demand 3 the table answers what the rules paper says after that history.
-- Assumes nothing.
use mathlib.Core.Path.{◌≡◌, refl, ap, subst, ◌∙◌}
use mathlib.Core.List.{List, [], ◌∷◌, ◌++◌}
use lib.ListN.{length}
use Rattle.rules.specs.Calls.{Call, Said}
use Rattle.session.specs.declared.Session.{Session}
use Rattle.table.specs.Table.{Table, answer, next, emptied}
use Rattle.meaning.specs.Histories.{History, start, after}
use Rattle.meaning.specs.Answers.{says}
use Rattle.meaning.specs.Worlds.{World, step, play, begin, past_of, Right}
use Rattle.meaning.proofs.Demand.{play-last, demand3}

pub record Reached (h : History) (t : Table) : Type 0 where
  pub row : List Session
  pub rows : length row ≡ 64
  pub calls : List Call
  pub played : play (begin row) calls ≡ record { table = t; past = h }

-- nothing called
pub reached-start : (row : List Session) → length row ≡ 64 → Reached start (emptied row)
unfolding play begin
reached-start row e = record { row = row; rows = e; calls = []; played = refl }

module _ {h : History} {t : Table} (r : Reached h t) (c : Call) where
  one_more : play (begin r.row) (r.calls ++ c ∷ []) ≡ record { table = next t c; past = after h c (answer t c) }
  unfolding step
  one_more = play-last (begin r.row) r.calls c ∙ ap (λ (w : World). step w c) r.played

  -- the answer is what the paper says: demand 3 of the calls so far and this one
  pub reached-says : answer t c ≡ says h c
  unfolding past_of Right
  reached-says =
      (subst (λ (w : World). Right w.past) one_more (demand3 r.row r.rows (r.calls ++ c ∷ [])).answers).1

  -- one call more
  pub reached-next : Reached (after h c (says h c)) (next t c)
  reached-next =
      record {
        row = r.row;
        rows = r.rows;
        calls = r.calls ++ c ∷ [];
        played = one_more ∙ ap (λ (a : Said). record { table = next t c; past = after h c a }) reached-says;
      }
