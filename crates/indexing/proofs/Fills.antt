-- Entries filled in one by one: what a turn of the loop leaves.
-- Assumes nothing.
use Prim.Native.Nat.{ℕ, zero, suc, ◌-◌, ◌≤◌, ◌<◌}
use native.Mathlib.Omega.{arith}
use native.Mathlib.Numerals.{sub-one}
use mathlib.Core.Path.{◌≡◌, refl, sym, ap, ◌∙◌}
use mathlib.Core.Bool.{true, false}
use mathlib.Core.List.{List}
use lib.Dec.{ltb}
use lib.ListN.{length}
use borrow.Author.Tests.{ltb-true, le-ltb}
use Rattle.rules.proofs.Bools.{split}
use Rattle.session.specs.declared.Session.{Session}
use Rattle.walks.specs.AtPlace.{Afterwards, at_place}
use Rattle.indexing.specs.declared.Filling.{Filling}
use Rattle.indexing.specs.Filling.{unfilled, filled_by, fill_one, fills_of, Noted, note_one, notes_of}

-- one entry less is left
pub one_less : (row : List Session) (x : Filling) (log : List ℕ) → unfilled x ≡ true
    → (fill_one row x log).outcome.count - (fill_one row x log).outcome.at ≤ x.count - x.at - 1
unfolding at_place
one_less row x log e =
    split (ltb x.at (length row))
    (λ h. rw (h, e) (omega arith))
    (λ h. rw h (omega arith))

pub stays : (n : ℕ) (log : List ℕ) (a : Afterwards Filling Session) → unfilled a.outcome ≡ false → fills_of n log a ≡ a
unfolding fills_of
stays zero log a e = refl
stays (suc n) log a e = rw e

pub goes_on_lem : (n : ℕ) (log : List ℕ) (a : Afterwards Filling Session) → unfilled a.outcome ≡ true → 0 < n
    → fills_of n log a ≡ fills_of (n - 1) log (fill_one a.row a.outcome log)
unfolding fills_of
goes_on_lem zero log a e h = absurd (omega arith)
goes_on_lem (suc n) log a e h = rw (e, sub-one (suc n))

-- as many turns as entries are left are enough
enough : (k n : ℕ) (log : List ℕ) (a : Afterwards Filling Session) → a.outcome.count - a.outcome.at ≤ k → a.outcome.count - a.outcome.at ≤ n
    → fills_of k log a ≡ fills_of n log a
unfolding fills_of
enough zero zero log a g h = refl
enough zero (suc n) log a g h = sym (stays (suc n) log a (le-ltb a.outcome.at a.outcome.count (omega arith)))
enough (suc k) zero log a g h = stays (suc k) log a (le-ltb a.outcome.at a.outcome.count (omega arith))
enough (suc k) (suc n) log a g h =
    split (unfilled a.outcome)
    (λ e. let fewer = one_less a.row a.outcome log e in
    rw e (enough k n log (fill_one a.row a.outcome log) (omega (arith, fewer)) (omega (arith, fewer))))
    (λ e. rw e)

-- a turn of the loop leaves the outcome of all the turns, and fewer entries
pub turned : (log : List ℕ) (row rows : List Session) (x next : Filling) → unfilled x ≡ true
    → ◌≡◌ {A = Afterwards Filling Session} (record { outcome = next; row = rows }) (fill_one row x log)
    → (fills_of (next.count - next.at) log (record { outcome = next; row = rows }) ≡ fills_of (x.count - x.at) log (record { outcome = x; row = row }))
    × (next.count - next.at < x.count - x.at)
turned log row rows x next go e =
    let less = ltb-true x.at x.count go in
    let fewer = one_less row x log go in
    let here : next.count - next.at ≡ (fill_one row x log).outcome.count - (fill_one row x log).outcome.at =
    ap (λ (a : Afterwards Filling Session). a.outcome.count - a.outcome.at) e in
    let n = x.count - x.at in (
      enough (next.count - next.at) (n - 1) log (record { outcome = next; row = rows }) (omega arith) (omega (arith, fewer, here))
          ∙ ap (fills_of (n - 1) log) e
          ∙ sym (goes_on_lem n log (record { outcome = x; row = row }) go (omega (arith, less))),
      omega (arith, fewer, here, less),
    )

-- the same of clocks and places
pub next-less : (x : Filling) (log : List ℕ) → unfilled x ≡ true → (filled_by x log).count - (filled_by x log).at ≡ x.count - x.at - 1
next-less x log e = rw e (omega arith)

pub notes-stay : (n : ℕ) (log : List ℕ) (a : Noted) → unfilled a.filling ≡ false → notes_of n log a ≡ a
unfolding notes_of
notes-stay zero log a e = refl
notes-stay (suc n) log a e = rw e

pub notes-go : (n : ℕ) (log : List ℕ) (a : Noted) → unfilled a.filling ≡ true → 0 < n → notes_of n log a ≡ notes_of (n - 1) log (note_one a log)
unfolding notes_of
notes-go zero log a e h = absurd (omega arith)
notes-go (suc n) log a e h = rw (e, sub-one (suc n))

pub notes-on : (log : List ℕ) (a : Noted) → unfilled a.filling ≡ true
    → notes_of ((filled_by a.filling log).count - (filled_by a.filling log).at) log (note_one a log) ≡ notes_of (a.filling.count - a.filling.at) log a
notes-on log a e =
    let x = a.filling in
    ap (λ (n : ℕ). notes_of n log (note_one a log)) (next-less x log e)
    ∙ sym (notes-go (x.count - x.at) log a e (omega (arith, ltb-true x.at x.count e)))
