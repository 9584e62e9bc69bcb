-- Which place an accepted open takes, and which one an accepted close gives back.
-- Assumes nothing.
use Prim.Native.Nat.{ℕ, ◌+◌, ◌-◌, ◌/◌, ◌^◌, ◌<◌}
use native.Mathlib.Omega.{arith}
use mathlib.Core.Path.{◌≡◌, refl, sym, ap, ◌∙◌, subst}
use mathlib.Core.Bool.{true}
use mathlib.Core.Option.{some}
use mathlib.Core.List.{List, [], ◌∷◌}
use lib.ListN.{length, get_or}
use lib.Seq.{get_or-set_same, get_or-set_other}
use borrow.Author.Tests.{eq-eqb}
use Rattle.rules.specs.declared.Settings.{Settings}
use Rattle.rules.specs.Calls.{Close, Open, On, Said}
use Rattle.rules.proofs.Bools.{split}
use Rattle.session.specs.declared.Session.{Session}
use Rattle.session.specs.Steps.{new_session}
use Rattle.table.specs.Places.{first_on, lowest_free, occupied_of, occupied_at, with_place, without_place, opens, has_label, place_of}
use Rattle.table.specs.Table.{Table, open_of, find, act_answer, asked, answer, added, closed, act_done, done, next}
use Rattle.table.proofs.OccupiedSet.{at_zero, at_suc, lowest-is-free, below-lowest, with-here, with-elsewhere, with-lowest, without-taken, without-here, without-elsewhere}
use Rattle.table.proofs.Rows.{free-exists, found-is}
use Rattle.table.proofs.Accepted.{open-passed, found_passed}
use Rattle.meaning.specs.Histories.{History}
use Rattle.meaning.specs.Further.{TakesLowest, GivesBack}
use Rattle.meaning.proofs.Sim.{free-place}
use Rattle.meaning.proofs.Demand.{InStep, was-asked}

-- 1. An open takes the lowest free place.

takes-lowest : (t : Table) (g : Settings) (u : ℕ) → length t.row ≡ 64 → (occupied_of 64 t.occupied ≡ 64 → ⊥)
    → TakesLowest t (added t g u) g (lowest_free 64 t.occupied)
unfolding added new_session
takes-lowest t g u e room =
    let p = lowest_free 64 t.occupied in
    let b : p < 64 = free-exists 64 t.occupied room in
    let w : with_place t.occupied p ≡ t.occupied + 2 ^ p = with-lowest t.occupied b in
    record {
      within-row = b;
      was_free = lowest-is-free 64 t.occupied b;
      lowest = below-lowest 64 t.occupied;
      taken = ap (λ (x : ℕ). occupied_at x p) (sym w) ∙ with-here t.occupied p b;
      session = λ r. ap (λ (x : Session). x.settings) (get_or-set_same t.row p (new_session g u) r (omega arith));
      other-marks = λ i d. ap (λ (x : ℕ). occupied_at x i) (sym w) ∙ with-elsewhere t.occupied p i d;
      other-records = λ i d r. get_or-set_other t.row p i (new_session g u) r d;
    }

open_done : (t : Table) (g : Settings) (u : ℕ) → (answer t (Open g u)).number ≡ 0 → next t (Open g u) ≡ added t g u
unfolding next done
open_done t g u e = rw (eq-eqb (answer t (Open g u)).number 0 e)

pub opens-lowest : (h : History) (t : Table) → InStep h t → (g : Settings) (u : ℕ) → (answer t (Open g u)).number ≡ 0
    → (p : ℕ) × TakesLowest t (next t (Open g u)) g p
unfolding asked
opens-lowest h t S g u e =
    let room = free-place S g u (open-passed t g u (ap (λ (a : Said). a.number) (sym (was-asked h t S (Open g u))) ∙ e)) in
    let p = lowest_free 64 t.occupied in
    (p, subst (λ (x : Table). TakesLowest t x g p) (sym (open_done t g u e)) (takes-lowest t g u S.ordered.rows room))

-- 2. A close gives back the place of its label's record.

-- the record that a label finds lies at the label's place, which is occupied
record LiesAt (l on : ℕ) (row : List Session) (d r : Session) : Type 0 where
  inside : place_of l on row < length row
  marked : occupied_at on (place_of l on row) ≡ true
  there : get_or row (place_of l on row) d ≡ r

lies_at : (l on : ℕ) (row : List Session) (d r : Session) → find l (opens on row) ≡ some r → LiesAt l on row d r
unfolding opens place_of find
lies_at l on [] d r e = absurd (let z : ◌≡◌ {A = ℕ} 0 1 = cc in omega arith)
lies_at l on (x ∷ rs) d r e =
    split (first_on on)
    (λ o.
    split (has_label l x)
    (λ a.
    let w : some x ≡ some r = rw (o, a) at e in
    let same : x ≡ r = cc in
    record { inside = rw (o, a) (omega arith); marked = rw (o, a) (at_zero on ∙ o); there = rw (o, a) same })
    (λ a.
    let b = lies_at l (on / 2) rs d r (rw (o, a) at e) in
    record { inside = rw (o, a) (omega (arith, b.inside)); marked = rw (o, a) (at_suc on (place_of l (on / 2) rs) ∙ b.marked); there = rw (o, a) b.there }))
    (λ o.
    let b = lies_at l (on / 2) rs d r (rw o at e) in
    record { inside = rw o (omega (arith, b.inside)); marked = rw o (at_suc on (place_of l (on / 2) rs) ∙ b.marked); there = rw o b.there })

gives_back : (t : Table) (l u : ℕ) (r : Session) → length t.row ≡ 64 → find l (open_of t) ≡ some r
    → GivesBack t (closed t l u) l (place_of l t.occupied t.row)
unfolding closed
gives_back t l u r e f =
    let p = place_of l t.occupied t.row in
    let L = lies_at l t.occupied t.row r r f in
    let w : t.occupied - 2 ^ p ≡ without_place t.occupied p = without-taken t.occupied p L.marked in
    record {
      within-row = omega (arith, L.inside);
      was-taken = L.marked;
      session = λ d. ap (λ (x : Session). x.settings.label) (lies_at l t.occupied t.row d r f).there ∙ (found-is l (open_of t) r f).1;
      freed = ap (λ (x : ℕ). occupied_at x p) w ∙ without-here t.occupied p;
      other-marks = λ i d. ap (λ (x : ℕ). occupied_at x i) w ∙ without-elsewhere t.occupied p i d;
      records = refl;
    }

-- a close that is answered 0 found its record
close-found : (t : Table) (l u : ℕ) → (asked t (On l (Close u))).number ≡ 0 → (r : Session) × (find l (open_of t) ≡ some r)
unfolding asked act_answer
close-found t l u e = (found_passed t.clock u (find l (open_of t)) e).1

close-done : (t : Table) (l u : ℕ) → (answer t (On l (Close u))).number ≡ 0 → next t (On l (Close u)) ≡ closed t l u
unfolding next done act_done
close-done t l u e = rw (eq-eqb (answer t (On l (Close u))).number 0 e)

pub closes-place : (h : History) (t : Table) → InStep h t → (l u : ℕ) → (answer t (On l (Close u))).number ≡ 0
    → (p : ℕ) × GivesBack t (next t (On l (Close u))) l p
closes-place h t S l u e =
    let r = close-found t l u (ap (λ (a : Said). a.number) (sym (was-asked h t S (On l (Close u)))) ∙ e) in
    let p = place_of l t.occupied t.row in
    (p, subst (λ (x : Table). GivesBack t x l p) (sym (close-done t l u e)) (gives_back t l u r.0 S.ordered.rows r.1))
