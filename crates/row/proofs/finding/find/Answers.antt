-- The search of `Searched.antt`, at the label and the discriminator.
use mathlib.Core.Path.{◌≡◌, refl, sym, ap, ◌∙◌}
use mathlib.Core.Bool.{Bool, true, false, ◌&&◌}
use Prim.Native.Nat.{ℕ, ◌+◌, ◌/◌, ◌≤◌, ◌<◌}
use mathlib.Core.List.{List}
use native.Mathlib.Omega.{arith}
use lib.ListN.{length, get_or, drop}
use borrow.Author.Tests.{le-ltb}
use Rattle.session.specs.declared.Session.{Session}
use Rattle.table.specs.Places.{first_on, hits, first_hit}
use Rattle.table.specs.Table.{absent}
use Rattle.row.proofs.Searched.{more_of, no_more}
use Rattle.row.proofs.Searched as search_of
use Rattle.row.proofs.finding.find.Goals as goal

abbrev hit_of : ℕ → ℕ → ℕ → Session → Bool
hit_of l d set r = first_on set && hits l d r

module _ (past : Session) (l d set i : ℕ) (ys : List Session) where
  hit-here : i < length ys → hit_of l d set (get_or ys i past) ≡ true → i + first_hit l d set (drop i ys) ≡ i
  unfolding first_hit
  hit-here = search_of.hit-here past (hit_of l d) (first_hit l d) (λ s. refl) (λ s r rs. refl) (λ r. refl) ys set i

  hit_later : i < length ys → hit_of l d set (get_or ys i past) ≡ false → i + first_hit l d set (drop i ys) ≡ (i + 1) + first_hit l d (set / 2) (drop (i + 1) ys)
  unfolding first_hit
  hit_later = search_of.hit_later past (hit_of l d) (first_hit l d) (λ s. refl) (λ s r rs. refl) (λ r. refl) ys set i

  at-end : i ≤ length ys → more_of set i (length ys) ≡ false → i + first_hit l d set (drop i ys) ≡ length ys
  unfolding first_hit
  at-end = search_of.at-end past (hit_of l d) (first_hit l d) (λ s. refl) (λ s r rs. refl) (λ r. refl) ys set i

pub returns-then-is_hit : goal.returns-then-is_hit
returns-then-is_hit c = let a = c.args in
    let l = c.loop-i in
    sym (hit-here _ a.label a.discriminator l.rest l.i a.row.now c.loop-i-test.true (sym c.is_hit.ensures ∙ c.if-is_hit.true)) ∙ l.invariant

pub loop-i-preserved : goal.loop-i-preserved
loop-i-preserved c = let a = c.args in
    let l = c.loop-i in
    sym (hit_later _ a.label a.discriminator l.rest l.i a.row.now c.loop-i-test.true (sym c.is_hit.ensures ∙ c.if-is_hit.false)) ∙ l.invariant

pub returns-then-rest-eq0 : goal.returns-then-rest-eq0
returns-then-rest-eq0 c = let a = c.args in
    let l = c.loop-i in
    sym (at-end absent a.label a.discriminator l.rest l.i a.row.now (omega arith) (ap (λ (s : ℕ). more_of s l.i (length a.row.now)) c.if-rest-eq0.true)) ∙ l.invariant

pub returns-after-loop-i : goal.returns-after-loop-i
returns-after-loop-i c = let a = c.args in
    let l = c.loop-i in
    let past = no_more l.rest l.i _ (le-ltb l.i (length a.row.now) c.loop-i-test.false) in
    sym (at-end absent a.label a.discriminator l.rest l.i a.row.now (omega arith) past) ∙ l.invariant
