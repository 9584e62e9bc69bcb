-- A record altered in its group alone says what it said: to all that knows of no group the table is the one before, at a later clock.
-- Assumes nothing.
use Prim.Native.Nat.{ℕ, ◌≤◌}
use mathlib.Core.Path.{◌≡◌, refl, sym, ap, ◌∙◌, subst}
use mathlib.Core.Bool.{true, false}
use mathlib.Core.Option.{Option, none, some, map}
use mathlib.Core.List.{List}
use lib.Dec.{eqb}
use borrow.Author.Tests.{eqb-true}
use Rattle.rules.proofs.Bools.{split}
use Rattle.homing.specs.declared.Group.{Group}
use Rattle.session.specs.declared.Session.{Session}
use Rattle.session.specs.Queries.{crossing_at}
use Rattle.session.specs.Soundness.{session_sound}
use Rattle.table.specs.Table.{Table, open_of, find, absent, altered}
use Rattle.table.proofs.Rows.{opens-altered, find-update-same, find-update-other, found-is}
use Rattle.table.proofs.Shares.{altered-count}
use Rattle.table.proofs.Order.{Ordered}
use Rattle.grouping.specs.Grouped.{with_group}
use Rattle.grouping.proofs.Holders.{every-at}
use Rattle.meaning.specs.Stories.{Story}
use Rattle.meaning.proofs.Fits.{Fits, fits-later}
use Rattle.meaning.proofs.Sim.{Fit, Sim}

-- finding in a table of which one record is altered
module _ (t : Table) (l u : ℕ) (f : Session → Session) (k : (r : Session) → (f r).settings ≡ r.settings) where
  pub altered-own : find l (open_of (altered t l f u)) ≡ map f (find l (open_of t))
  unfolding altered
  altered-own = ap (find l) (opens-altered l f absent t.occupied t.row) ∙ find-update-same l f (open_of t) k

  pub altered-other : (m : ℕ) → eqb l m ≡ false → find m (open_of (altered t l f u)) ≡ find m (open_of t)
  unfolding altered
  altered-other m q = ap (find m) (opens-altered l f absent t.occupied t.row) ∙ find-update-other l m f (open_of t) k q

-- the clock goes on
pub fit-later : {now : ℕ} (later : ℕ) → now ≤ later → (o : Option Session) (p : Option Story) → Fit now o p → Fit later o p
fit-later later h none none f = f
fit-later later h none (some s) f = f
fit-later later h (some r) none f = f
fit-later later h (some r) (some s) f = fits-later later h f

-- a record with another group, if that leaves it sound
pub fits-regrouped : {now : ℕ} (u : ℕ) {r : Session} {s : Story} → now ≤ u → Fits now r s → (g : Group) → session_sound (with_group g r) u ≡ true → Fits u (with_group g r) s
unfolding with_group crossing_at
fits-regrouped u h f g sound =
    let k = fits-later u h f in
    record {
      settings = k.settings;
      timed = k.timed;
      multiplier = k.multiplier;
      diagnostic = k.diagnostic;
      remote = k.remote;
      reply = k.reply;
      state = k.state;
      crossing = k.crossing;
      places = k.places;
      sound = sound;
    }

-- the record of a label given another group
module _ {now : ℕ} {st : ℕ → Option Story} {ls : List ℕ} {t : Table} (S : Sim now st ls t) (l u : ℕ) (h : now ≤ u) (g : Session → Group) where
  abbrev regrouped : Session → Session
  regrouped r = with_group (g r) r

  keeps-settings : (r : Session) → (regrouped r).settings ≡ r.settings
  unfolding with_group
  keeps-settings r = refl

  module _ (o : Ordered (altered t l regrouped u)) where
    fit-own : (x : Option Session) (p : Option Story) → Fit now x p → find l (open_of (altered t l regrouped u)) ≡ map regrouped x → Fit u (map regrouped x) p
    fit-own none none e q = tt
    fit-own none (some s) e q = absurd e
    fit-own (some r) none e q = absurd e
    fit-own (some r) (some s) e q =
        fits-regrouped u h e (g r)
        (every-at (λ x. session_sound x u) (open_of (altered t l regrouped u)) (regrouped r) (unfold altered in o.sound) (found-is l (open_of (altered t l regrouped u)) (regrouped r) q).0)

    pub sim-regrouped : Sim u st ls (altered t l regrouped u)
    sim-regrouped =
        record {
          clock = unfold altered in refl;
          ordered = o;
          fit = λ m. split (eqb l m)
              (λ q.
              subst (λ (n : ℕ). Fit u (find n (open_of (altered t l regrouped u))) (st n)) (eqb-true l m q)
              (subst (λ (x : Option Session). Fit u x (st l)) (sym (altered-own t l u regrouped keeps-settings))
              (fit-own (find l (open_of t)) (st l) (S.fit l) (altered-own t l u regrouped keeps-settings))))
              (λ q.
              subst (λ (x : Option Session). Fit u x (st m)) (sym (altered-other t l u regrouped keeps-settings m q))
              (fit-later u h (find m (open_of t)) (st m) (S.fit m)));
          counted = λ p. altered-count t l u regrouped keeps-settings p ∙ S.counted p;
          listed = S.listed;
          once-each = S.once-each;
        }
