-- A table in step with the commands: with what they are to all that knows of no group, and with the group of each label. Every command keeps it so.
-- Assumes nothing.
use Prim.Native.Nat.{ℕ, ◌≤◌}
use native.Mathlib.Omega.{arith}
use mathlib.Core.Path.{◌≡◌, refl, sym, ap, ◌∙◌, subst}
use mathlib.Core.Bool.{true, false, cond}
use mathlib.Core.Option.{Option, none, some}
use mathlib.Core.List.{List}
use lib.ListN.{length}
use Rattle.coordination.specs.declared.Dhc.{Dhc}
use Rattle.coordination.specs.Message.{dhc_of}
use Rattle.rules.specs.Parties.{party_of, own_label}
use Rattle.rules.specs.Calls.{Call, Tick, Said, is_accepted, number_only}
use Rattle.rules.proofs.Bools.{split, no_way}
use Rattle.rules.proofs.Ages.{not_late}
use Rattle.homing.specs.declared.GroupSettings.{GroupSettings}
use Rattle.homing.specs.Groups.{grouped, fallen}
use Rattle.homing.specs.Events.{Message, Ac, Return, after as after_event}
use Rattle.session.specs.declared.Session.{Session}
use Rattle.session.specs.Queries.{loss_at, crossing_at, group_at}
use Rattle.table.specs.Table.{Table, open_of, in_order, find, answer, next, emptied}
use Rattle.table.proofs.Order.{Ordered, order-says}
use Rattle.grouping.specs.Commands.{Command, Ordinary, SetGroup, SetAc, ReturnGroup, Coordinate}
use Rattle.grouping.specs.Grouped.{find_group, label_of, set_number, named_number, taken_by, holder_of, coordinate_number, answer_to, set_in, ac_set_in, returned_in, coordinated_in, done_by, next_by}
use Rattle.grouping.proofs.Holders.{own_open}
use Rattle.grouping.proofs.Accepted.{OnGroups, setting, ac_setting, returning, coordinating, reading-passed, set-passed, named-passed, coordinate-passed, number_passed}
use Rattle.grouping.proofs.Order.{refused-stays, order-by}
use Rattle.meaning.specs.Histories as Histories
use Rattle.meaning.specs.Histories.{History, reading, clock_of, story, labels}
use Rattle.meaning.proofs.Fits.{same-loss}
use Rattle.meaning.proofs.Sim.{Sim, sim-order}
use Rattle.meaning.proofs.Timer.{in-time}
use Rattle.meaning.proofs.Demand.{InStep, answered, was-asked, in-step-next, in-step-start, opens-none}
use Rattle.switching.specs.Groups.{Past, start, after, plain, now_of, reading_of, loss_by, crossing_by, changed, called, commanded, group_of}
use Rattle.switching.specs.Switching.{group_in}
use Rattle.switching.proofs.Regrouped.{sim-regrouped}
use Rattle.switching.proofs.Looked.{group-later}
use Rattle.switching.proofs.Called.{called-in}
use Rattle.switching.proofs.Commanded.{ac-looked, return-looked, message-looked, set-in, event-in}

pub record Kept (h : Past) (t : Table) : Type 0 where
  pub in_step : InStep (plain h) t
  pub groups : (l : ℕ) → group_of l h ≡ group_in (now_of h) (find l (open_of t))

-- an accepted command leaves what it does
accepted-does : (t : Table) (c : Command) → is_accepted (answer_to t c) ≡ true → next_by t c ≡ done_by t c
unfolding next_by
accepted-does t c e = rw e

-- the commands on groups, accepted
pub record Done (h : Past) (t : Table) (c : Command) (u : ℕ) : Type 0 where
  pub sim : Sim u (λ l. story l (plain h)) (labels (plain h)) (done_by t c)
  pub groups : (m : ℕ) → commanded m h c (group_in u (find m (open_of t))) ≡ group_in u (find m (open_of (done_by t c)))

taken-some : (l : ℕ) (d : Dhc) (o : Option Session) → taken_by l d o ≡ true → (r : Session) × (o ≡ some r)
taken-some l d none e = no_way e refl
taken-some l d (some r) e = (r, refl)

module _ (h : Past) (t : Table) (S : InStep (plain h) t) where
  ordered-by : (c : Command) → is_accepted (answer_to t c) ≡ true → Ordered (done_by t c)
  ordered-by c e = order-says (done_by t c) (ap in_order (sym (accepted-does t c e)) ∙ order-by t c (sim-order S))

  after-now : (u : ℕ) {c : Command} → OnGroups c u → is_accepted (answer_to t c) ≡ true → now_of h ≤ u
  after-now u g e = omega (arith, S.clock, not_late t.clock u (reading-passed t g e))

  done-set : (p : ℕ) (s : GroupSettings) (u : ℕ) → is_accepted (answer_to t (SetGroup p s u)) ≡ true → Done h t (SetGroup p s u) u
  unfolding answer_to done_by set_in
  done-set p s u e =
      let k = after-now u {c = SetGroup p s u} setting e in
      let w = set-passed t p s u (number_passed t (set_number t p s u) e).1 in
      let own : own_label p s.service ≡ s.service = rw (own_open t (sim-order S) p s.service w.service.0 w.service.1) in
      record {
        sim = sim-regrouped S (own_label p s.service) u k (λ r. grouped s (loss_at r u) (crossing_at r u)) (ordered-by (SetGroup p s u) e);
        groups = set-in S u k (own_label p s.service) s own w.service.0 w.service.1;
      }

  done-ac : (p id ac u : ℕ) → is_accepted (answer_to t (SetAc p id ac u)) ≡ true → Done h t (SetAc p id ac u) u
  unfolding answer_to done_by ac_set_in
  done-ac p id ac u e =
      let k = after-now u {c = SetAc p id ac u} ac_setting e in
      let w = (named-passed t p id u (number_passed t (named_number t p id u) e).1).holder in
      record {
        sim = sim-regrouped S (label_of (find_group p id (open_of t))) u k (λ r. after_event (Ac ac) (group_at r u)) (ordered-by (SetAc p id ac u) e);
        groups =
            event-in S u k p id w.0 w.1 (λ r. Ac ac) (λ y. Ac ac) (λ s f. refl) (ac-looked ac w.0 u)
            (label_of (find_group p id (open_of t))) (ap label_of w.1);
      }

  done_return : (p id u : ℕ) → is_accepted (answer_to t (ReturnGroup p id u)) ≡ true → Done h t (ReturnGroup p id u) u
  unfolding answer_to done_by returned_in
  done_return p id u e =
      let k = after-now u {c = ReturnGroup p id u} returning e in
      let w = (named-passed t p id u (number_passed t (named_number t p id u) e).1).holder in
      record {
        sim =
            sim-regrouped S (label_of (find_group p id (open_of t))) u k (λ r. after_event (Return (loss_at r u) (crossing_at r u)) (group_at r u))
            (ordered-by (ReturnGroup p id u) e);
        groups =
            event-in S u k p id w.0 w.1 (λ r. Return (loss_at r u) (crossing_at r u)) (λ y. Return (loss_by u y) (crossing_by u y))
            (λ s f i. Return (sym (same-loss f u) i) (sym (f.crossing u k) i)) (return-looked (crossing_at w.0 u) w.0 u)
            (label_of (find_group p id (open_of t))) (ap label_of w.1);
      }

  done-message : (l : ℕ) (m : List ℕ) (u : ℕ) → is_accepted (answer_to t (Coordinate l m u)) ≡ true → Done h t (Coordinate l m u) u
  unfolding answer_to done_by coordinated_in
  done-message l m u e =
      let k = after-now u {c = Coordinate l m u} coordinating e in
      let d = dhc_of m in
      let w = taken-some l d (holder_of l d (open_of t)) (coordinate-passed t l m u (number_passed t (coordinate_number t l m u) e).1).taken in
      record {
        sim = sim-regrouped S (label_of (holder_of l d (open_of t))) u k (λ r. after_event (Message d) (group_at r u)) (ordered-by (Coordinate l m u) e);
        groups =
            event-in S u k (party_of l) d.id w.0 w.1 (λ r. Message d) (λ y. Message d) (λ s f. refl) (message-looked d w.0 u)
            (label_of (holder_of l d (open_of t))) (ap label_of w.1);
      }

  pub done-by : {c : Command} {u : ℕ} → OnGroups c u → is_accepted (answer_to t c) ≡ true → Done h t c u
  done-by (setting {p} {s} {u}) e = done-set p s u e
  done-by (ac_setting {p} {id} {ac} {u}) e = done-ac p id ac u e
  done-by (returning {p} {id} {u}) e = done_return p id u e
  done-by (coordinating {l} {m} {u}) e = done-message l m u e

module _ (h : Past) (t : Table) (K : Kept h t) where
  -- first a loss is looked for
  looked : (u l : ℕ) → now_of h ≤ u → changed (fallen (loss_by u (story l (plain h)))) (group_of l h) ≡ group_in u (find l (open_of t))
  looked u l k =
      ap (changed (fallen (loss_by u (story l (plain h))))) (K.groups l)
      ∙ group-later u k (find l (open_of t)) (story l (plain h)) (K.in_step.fit l)

  -- a call that there was before
  call-went : (c : Call) (l : ℕ) → is_accepted (answer t c) ≡ true
      → group_of l (after h (Ordinary c) (answer t c)) ≡ group_in (now_of (after h (Ordinary c) (answer t c))) (find l (open_of (next t c)))
  unfolding plain group_of clock_of next
  call-went c l e =
      let past = ap is_accepted (sym (answered (plain h) t K.in_step c)) ∙ e in
      rw e
      (ap (called l c (story l (plain h))) (looked (reading c (now_of h)) l (in-time (plain h) c past))
      ∙ called-in K.in_step c (ap is_accepted (sym (was-asked (plain h) t K.in_step c)) ∙ e) l)

  call-stayed : (c : Call) (l : ℕ) → is_accepted (answer t c) ≡ false
      → group_of l (after h (Ordinary c) (answer t c)) ≡ group_in (now_of (after h (Ordinary c) (answer t c))) (find l (open_of (next t c)))
  unfolding plain group_of clock_of next
  call-stayed c l e = rw e (K.groups l)

  call_next_lem : (c : Call) → Kept (after h (Ordinary c) (answer t c)) (next t c)
  call_next_lem c =
      record {
        in_step = unfold plain in in-step-next (plain h) t K.in_step c;
        groups = λ l. split (is_accepted (answer t c)) (call-went c l) (call-stayed c l);
      }

  ordinary-next : (c : Call) → next t c ≡ next_by t (Ordinary c)
  unfolding next_by answer_to done_by next
  ordinary-next c = split (is_accepted (answer t c)) (λ e. rw e) (λ e. rw e)

  -- a command on groups: refused, it is nothing; accepted, a tick to all that knows of no group
  abbrev Ticked : Command → ℕ → Type 0
  Ticked c u = (a : Said) → plain (after h c a) ≡ cond (is_accepted a) (Histories.after (plain h) (Tick u) (number_only (Tick u) 0)) (plain h)

  seen_as : {c : Command} {u : ℕ} → OnGroups c u → Ticked c u
  unfolding plain
  seen_as setting a = refl
  seen_as ac_setting a = refl
  seen_as returning a = refl
  seen_as coordinating a = refl

  reads : {c : Command} {u : ℕ} → OnGroups c u → (now : ℕ) → reading_of c now ≡ u
  reads setting now = refl
  reads ac_setting now = refl
  reads returning now = refl
  reads coordinating now = refl

  group-refused : {c : Command} {u : ℕ} → OnGroups c u → is_accepted (answer_to t c) ≡ false → Kept (after h c (answer_to t c)) t
  unfolding group_of
  group-refused {c} {u} g e =
      let same : plain (after h c (answer_to t c)) ≡ plain h = seen_as g (answer_to t c) ∙ rw e in
      record {
        in_step = subst (λ (x : History). InStep x t) (sym same) K.in_step;
        groups = λ l. rw e (K.groups l ∙ ap (λ (x : History). group_in (clock_of x) (find l (open_of t))) (sym same));
      }

  ticks : (u : ℕ) {x : Table} → Sim u (λ l. story l (plain h)) (labels (plain h)) x → InStep (Histories.after (plain h) (Tick u) (number_only (Tick u) 0)) x
  unfolding clock_of story labels
  ticks u S = S

  ticks-to : (u : ℕ) → clock_of (Histories.after (plain h) (Tick u) (number_only (Tick u) 0)) ≡ u
  unfolding clock_of
  ticks-to u = refl

  group-accepted : {c : Command} {u : ℕ} → OnGroups c u → is_accepted (answer_to t c) ≡ true → Kept (after h c (answer_to t c)) (done_by t c)
  unfolding group_of
  group-accepted {c} {u} g e =
      let D = done-by h t K.in_step g e in
      let same : plain (after h c (answer_to t c)) ≡ Histories.after (plain h) (Tick u) (number_only (Tick u) 0) = seen_as g (answer_to t c) ∙ rw e in
      record {
        in_step = subst (λ (x : History). InStep x (done_by t c)) (sym same) (ticks u D.sim);
        groups = λ l. rw e
            (ap (λ (n : ℕ). commanded l h c (changed (fallen (loss_by n (story l (plain h)))) (group_of l h))) (reads g (now_of h))
            ∙ ap (commanded l h c) (looked u l (after-now h t K.in_step u g e))
            ∙ D.groups l
            ∙ ap (λ (n : ℕ). group_in n (find l (open_of (done_by t c)))) (sym (ap clock_of same ∙ ticks-to u)));
      }

  group-next : {c : Command} {u : ℕ} → OnGroups c u → Kept (after h c (answer_to t c)) (next_by t c)
  group-next {c} {u} g =
      split (is_accepted (answer_to t c))
      (λ e. subst (λ (x : Table). Kept (after h c (answer_to t c)) x) (sym (accepted-does t c e)) (group-accepted g e))
      (λ e. subst (λ (x : Table). Kept (after h c (answer_to t c)) x) (sym (refused-stays t c e)) (group-refused g e))

  -- every command
  pub kept_next : (c : Command) → Kept (after h c (answer_to t c)) (next_by t c)
  kept_next (Ordinary c) = subst (λ (x : Table). Kept (after h (Ordinary c) (answer_to t (Ordinary c))) x) (ordinary-next c) (unfold answer_to in call_next_lem c)
  kept_next (SetGroup p s u) = group-next setting
  kept_next (SetAc p id ac u) = group-next ac_setting
  kept_next (ReturnGroup p id u) = group-next returning
  kept_next (Coordinate l m u) = group-next coordinating

-- a row made empty has no open record
pub kept-start : (row : List Session) → length row ≡ 64 → Kept start (emptied row)
unfolding plain group_of
kept-start row e =
    record {
      in_step = in-step-start row e;
      groups = λ l. unfold emptied find in ap (λ (rs : List Session). group_in (now_of start) (find l rs)) (sym (opens-none row));
    }
