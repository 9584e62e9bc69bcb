-- What a party can see of the commands: the stories of its labels, which of them are open, and their groups; and what it is told from that and the clock.
-- Assumes nothing.
use Prim.Native.Nat.{ℕ, ◌≤◌}
use native.Mathlib.Omega.{arith}
use mathlib.Core.Path.{◌≡◌, refl, sym, ap, ◌∙◌}
use mathlib.Core.Bool.{Bool, true, false, cond, ◌&&◌}
use mathlib.Core.Option.{Option, none, some}
use mathlib.Core.List.{List}
use lib.Dec.{eqb}
use Rattle.octets.specs.Choice.{need, bar, or_else}
use Rattle.coordination.specs.Message.{dhc_refusal, dhc_of}
use Rattle.rules.specs.Times.{late}
use Rattle.rules.specs.Parties.{party_of, is_of}
use Rattle.rules.specs.Calls.{Said, is_accepted}
use Rattle.homing.specs.declared.Group.{Group}
use Rattle.homing.specs.declared.GroupSettings.{GroupSettings}
use Rattle.homing.specs.Groups.{grouped, ac_set, returned, fallen}
use Rattle.homing.specs.Messages.{coordinated}
use Rattle.homing.specs.Forwarding.{report_of}
use Rattle.homing.proofs.Orders.{looked-later}
use Rattle.session.specs.declared.Session.{Session}
use Rattle.session.proofs.Settling.{loss-later}
use Rattle.table.specs.Table.{Table, open_of, find}
use Rattle.grouping.specs.Commands.{Command, Ordinary, SetGroup, SetAc, ReturnGroup, Coordinate, silent}
use Rattle.grouping.specs.Asking.{Told, refused_with}
use Rattle.meaning.specs.Stories.{Story}
use Rattle.meaning.specs.Histories.{clock_of, told, story, labels_after}
use Rattle.meaning.specs.Answers.{is_open, says_of}
use Rattle.meaning.proofs.Fits.{same-loss}
use Rattle.meaning.proofs.Sim.{Fit}
use Rattle.meaning.proofs.Isolation.{View as CallView}
use Rattle.switching.specs.Groups.{Past, after, plain, now_of, reading_of, loss_by, crossing_by, changed, changed_if, is_there, has_id_in, called, commanded, group_of, group_among, up_by, takes}
use Rattle.switching.proofs.Kept.{Kept}
use Rattle.switching.proofs.Looked.{group-later}

-- 1. What is seen, and what is said from it.

pub record Sight : Type 0 where
  pub stories : ℕ → Option Story
  pub opens : List ℕ
  pub groups : ℕ → Option Group

-- the groups at a clock: with a loss by then
abbrev pub shown : ℕ → Sight → ℕ → Option Group
shown now s l = changed (fallen (loss_by now (s.stories l))) (s.groups l)

abbrev pub with_id : ℕ → Sight → ℕ → ℕ → Option Group
with_id now s p id = group_among p id (shown now s) s.opens

abbrev pub open_here : Sight → ℕ → ℕ → Bool
open_here s p l = is_of p l && is_open (s.stories l)

abbrev pub sets_by : ℕ → Sight → ℕ → GroupSettings → ℕ → ℕ
sets_by now s p g u =
    bar (late now u) 1
    (need (open_here s p g.service) 2
    (need (open_here s p g.dni) 2
    (bar (eqb g.service g.dni) 10
    (bar (is_there (shown now s g.service)) 11
    (bar (is_there (with_id now s p g.id)) 11 0)))))

abbrev pub names_by : ℕ → Sight → ℕ → ℕ → ℕ → ℕ
names_by now s p id u = bar (late now u) 1 (need (is_there (with_id now s p id)) 24 0)

abbrev pub coordinates_by : ℕ → Sight → ℕ → List ℕ → ℕ → ℕ
coordinates_by now s l m u =
    bar (late now u) 1
    (need (is_open (s.stories l)) 2
    (or_else (dhc_refusal m)
    (need (takes l (dhc_of m) (with_id now s (party_of l) (dhc_of m).id)) 24 0)))

abbrev pub says_by : ℕ → Sight → Command → Said
says_by now s (Ordinary c) = says_of now s.stories s.opens c
says_by now s (SetGroup p g u) = silent (sets_by now s p g u)
says_by now s (SetAc p id ac u) = silent (names_by now s p id u)
says_by now s (ReturnGroup p id u) = silent (names_by now s p id u)
says_by now s (Coordinate l m u) = silent (coordinates_by now s l m u)

abbrev pub tells_from : ℕ → Sight → Option Group → Told
tells_from now s none = refused_with 24
tells_from now s (some g) = record { number = 0; group = report_of (up_by now (s.stories g.dni)) g }

-- what an accepted command does to the group of a label, from that label's story
abbrev pub acts : ℕ → Option Story → Command → Option Group → Option Group
acts l y (Ordinary c) o = called l c y o
acts l y (SetGroup p s u) o = cond (eqb s.service l) (some (grouped s (loss_by u y) (crossing_by u y))) o
acts l y (SetAc p id ac u) o = changed_if (is_of p l && has_id_in id o) (ac_set ac) o
acts l y (ReturnGroup p id u) o = changed_if (is_of p l && has_id_in id o) (returned (loss_by u y) (crossing_by u y)) o
acts l y (Coordinate k m u) o = changed_if (is_of (party_of k) l && has_id_in (dhc_of m).id o) (coordinated (dhc_of m)) o

pub commanded-acts : (l : ℕ) (h : Past) (c : Command) (o : Option Group) → commanded l h c o ≡ acts l (story l (plain h)) c o
commanded-acts l h (Ordinary c) o = refl
commanded-acts l h (SetGroup p s u) o = refl
commanded-acts l h (SetAc p id ac u) o = refl
commanded-acts l h (ReturnGroup p id u) o = refl
commanded-acts l h (Coordinate k m u) o = refl

-- what one's own command leaves to be seen
abbrev pub stories_left : Said → Command → (ℕ → Option Story) → ℕ → Option Story
stories_left a (Ordinary c) st = λ l. cond (is_accepted a) (told l c (st l)) (st l)
stories_left a (SetGroup p s u) st = st
stories_left a (SetAc p id ac u) st = st
stories_left a (ReturnGroup p id u) st = st
stories_left a (Coordinate k m u) st = st

abbrev pub open_left : Said → Command → List ℕ → List ℕ
open_left a (Ordinary c) ls = cond (is_accepted a) (labels_after c ls) ls
open_left a (SetGroup p s u) ls = ls
open_left a (SetAc p id ac u) ls = ls
open_left a (ReturnGroup p id u) ls = ls
open_left a (Coordinate k m u) ls = ls

unfoldable pub left_by : ℕ → Said → Command → Sight → Sight
left_by now a c s =
    record {
      stories = stories_left a c s.stories;
      opens = open_left a c s.opens;
      groups = λ l. cond (is_accepted a) (acts l (s.stories l) c (changed (fallen (loss_by (reading_of c now) (s.stories l))) (s.groups l))) (s.groups l);
    }

-- 2. That it is what a party sees.

-- the DNI-PW of a group is its party's
abbrev pub OwnDni : ℕ → Option Group → Type 0
OwnDni p none = Unit {0}
OwnDni p (some g) = is_of p g.dni ≡ true

pub record View (p : ℕ) (h : Past) (s : Sight) : Type 0 where
  pub calls : CallView p (plain h) s.stories s.opens
  pub groups : (l : ℕ) → is_of p l ≡ true → group_of l h ≡ shown (now_of h) s l
  pub dnis : (l : ℕ) → is_of p l ≡ true → OwnDni p (s.groups l)

-- 3. A loss that is looked for at every reading is looked for at the last.

loss-stays : {now : ℕ} (u : ℕ) → now ≤ u → (o : Option Session) (y : Option Story) → Fit now o y → loss_by now y ≡ true → loss_by u y ≡ true
loss-stays u k none none f e = e
loss-stays u k none (some s) f e = absurd f
loss-stays u k (some r) none f e = absurd f
loss-stays {now} u k (some r) (some s) f e = sym (same-loss f u) ∙ loss-later r now u k (same-loss f now ∙ e)

changed-later : (earlier later : Bool) → (earlier ≡ true → later ≡ true) → (o : Option Group) → changed (fallen later) (changed (fallen earlier) o) ≡ changed (fallen later) o
changed-later earlier later k none = refl
changed-later earlier later k (some g) = ap some (looked-later earlier later k g)

module _ (h : Past) (t : Table) (K : Kept h t) where
  pub looked-on : (u l : ℕ) → now_of h ≤ u → (o : Option Group)
      → changed (fallen (loss_by u (story l (plain h)))) (changed (fallen (loss_by (now_of h) (story l (plain h)))) o) ≡ changed (fallen (loss_by u (story l (plain h)))) o
  looked-on u l k o = changed-later _ _ (loss-stays u k (find l (open_of t)) (story l (plain h)) (K.in_step.fit l)) o

  -- a group is as it is shown at the clock
  pub as-shown : (l : ℕ) → group_of l h ≡ changed (fallen (loss_by (now_of h) (story l (plain h)))) (group_of l h)
  as-shown l =
      K.groups l
      ∙ sym (group-later (now_of h) (omega arith) (find l (open_of t)) (story l (plain h)) (K.in_step.fit l))
      ∙ ap (changed (fallen (loss_by (now_of h) (story l (plain h))))) (sym (K.groups l))

-- 4. The clock.

pub refused-clock : (h : Past) (c : Command) (a : Said) → is_accepted a ≡ false → now_of (after h c a) ≡ now_of h
unfolding plain clock_of
refused-clock h (Ordinary c) a e = rw e
refused-clock h (SetGroup p s u) a e = rw e
refused-clock h (SetAc p id ac u) a e = rw e
refused-clock h (ReturnGroup p id u) a e = rw e
refused-clock h (Coordinate l m u) a e = rw e

pub accepted-clock : (h : Past) (c : Command) (a : Said) → is_accepted a ≡ true → now_of (after h c a) ≡ reading_of c (now_of h)
unfolding plain clock_of
accepted-clock h (Ordinary c) a e = rw e
accepted-clock h (SetGroup p s u) a e = rw e
accepted-clock h (SetAc p id ac u) a e = rw e
accepted-clock h (ReturnGroup p id u) a e = rw e
accepted-clock h (Coordinate l m u) a e = rw e
