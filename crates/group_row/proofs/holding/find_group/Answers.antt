-- The search of `Searched.antt`, at the party and the ID.
use mathlib.Core.Path.{◌≡◌, refl, sym, ap, ◌∙◌}
use mathlib.Core.Bool.{Bool, true, false, ◌&&◌}
use Prim.Native.Nat.{ℕ, ◌+◌, ◌/◌, ◌≤◌, ◌<◌}
use mathlib.Core.List.{List}
use native.Mathlib.Omega.{arith}
use lib.ListN.{length, get_or, drop}
use borrow.Author.Tests.{le-ltb}
use Rattle.session.specs.declared.Session.{Session}
use Rattle.grouping.specs.Grouped.{holds_group}
use Rattle.group_step.specs.GroupSeeing.{holder_place}
use Rattle.table.specs.Places.{first_on}
use Rattle.table.specs.Table.{absent}
use Rattle.row.proofs.Searched.{more_of, no_more}
use Rattle.row.proofs.Searched as search_of
use Rattle.group_row.proofs.holding.find_group.Goals as goal

abbrev hit_of : ℕ → ℕ → ℕ → Session → Bool
hit_of l d set r = first_on set && holds_group l d r

module _ (past : Session) (l d set i : ℕ) (ys : List Session) where
  hit-here : i < length ys → hit_of l d set (get_or ys i past) ≡ true → i + holder_place l d set (drop i ys) ≡ i
  unfolding holder_place
  hit-here = search_of.hit-here past (hit_of l d) (holder_place l d) (λ s. refl) (λ s r rs. refl) (λ r. refl) ys set i

  hit_later : i < length ys → hit_of l d set (get_or ys i past) ≡ false → i + holder_place l d set (drop i ys) ≡ (i + 1) + holder_place l d (set / 2) (drop (i + 1) ys)
  unfolding holder_place
  hit_later = search_of.hit_later past (hit_of l d) (holder_place l d) (λ s. refl) (λ s r rs. refl) (λ r. refl) ys set i

  at-end : i ≤ length ys → more_of set i (length ys) ≡ false → i + holder_place l d set (drop i ys) ≡ length ys
  unfolding holder_place
  at-end = search_of.at-end past (hit_of l d) (holder_place l d) (λ s. refl) (λ s r rs. refl) (λ r. refl) ys set i

pub returns-then-is_holder : goal.returns-then-is_holder
returns-then-is_holder c = let a = c.args in
    let l = c.loop-i in
    sym (hit-here _ a.party a.id l.rest l.i a.row.now c.loop-i-test.true (sym c.is_holder.ensures ∙ c.if-is_holder.true)) ∙ l.invariant

pub loop-i-preserved : goal.loop-i-preserved
loop-i-preserved c = let a = c.args in
    let l = c.loop-i in
    sym (hit_later _ a.party a.id l.rest l.i a.row.now c.loop-i-test.true (sym c.is_holder.ensures ∙ c.if-is_holder.false)) ∙ l.invariant

pub returns-then-rest-eq0 : goal.returns-then-rest-eq0
returns-then-rest-eq0 c = let a = c.args in
    let l = c.loop-i in
    sym (at-end absent a.party a.id l.rest l.i a.row.now (omega arith) (ap (λ (s : ℕ). more_of s l.i (length a.row.now)) c.if-rest-eq0.true)) ∙ l.invariant

pub returns-after-loop-i : goal.returns-after-loop-i
returns-after-loop-i c = let a = c.args in
    let l = c.loop-i in
    let past = no_more l.rest l.i _ (le-ltb l.i (length a.row.now) c.loop-i-test.false) in
    sym (at-end absent a.party a.id l.rest l.i a.row.now (omega arith) past) ∙ l.invariant
