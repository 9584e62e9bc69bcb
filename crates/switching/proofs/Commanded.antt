-- What each accepted command on groups makes of the groups in a table is what it does to the group of each label.
-- Assumes nothing.
use Prim.Native.Nat.{ℕ, ◌≤◌}
use mathlib.Core.Path.{◌≡◌, refl, sym, ap, ◌∙◌, subst}
use mathlib.Core.Bool.{Bool, true, false, cond, ◌&&◌}
use mathlib.Core.Option.{Option, none, some, map}
use mathlib.Core.List.{List}
use lib.Dec.{eqb}
use borrow.Author.Tests.{eqb-true, eqb-false}
use Rattle.rules.specs.Parties.{is_of}
use Rattle.rules.proofs.Bools.{split, refuted}
use Rattle.coordination.specs.declared.Dhc.{Dhc}
use Rattle.homing.specs.declared.Group.{Group}
use Rattle.homing.specs.declared.GroupSettings.{GroupSettings}
use Rattle.homing.specs.Groups.{is_working, grouped, fallen}
use Rattle.homing.specs.Events.{Event, Message, Ac, Return, after}
use Rattle.homing.proofs.Laws.{keeps}
use Rattle.homing.proofs.Orders.{message-loss}
use Rattle.session.specs.declared.Session.{Session}
use Rattle.session.specs.Queries.{loss_at, crossing_at, group_at}
use Rattle.table.specs.Table.{Table, open_of, has_group, find, altered}
use Rattle.table.proofs.Rows.{found-own}
use Rattle.grouping.specs.Grouped.{find_group, with_group, set_in}
use Rattle.grouping.proofs.Holders.{holder-is, holder-says}
use Rattle.meaning.specs.Stories.{Story}
use Rattle.meaning.proofs.Fits.{Fits, same-loss}
use Rattle.meaning.proofs.Sim.{Fit, Sim}
use Rattle.switching.specs.Groups.{loss_by, crossing_by, changed, changed_if, has_id_in}
use Rattle.switching.specs.Switching.{group_in}
use Rattle.switching.proofs.Regrouped.{altered-own, altered-other}
use Rattle.switching.proofs.Looked.{looked-twice}
use Rattle.switching.proofs.Alone.{holds-alone, holder-shown}

-- what was looked for before the command is not found again behind it
set-looked : (s : GroupSettings) (loss crossing : Bool) → fallen loss (grouped s loss crossing) ≡ grouped s loss crossing
set-looked s true crossing =
    split (is_working s.role) (λ w. rw w) (λ w. rw w)
set-looked s false crossing = refl

pub ac-looked : (ac : ℕ) (r : Session) (u : ℕ) → fallen (loss_at r u) (after (Ac ac) (group_at r u)) ≡ after (Ac ac) (group_at r u)
unfolding group_at
ac-looked ac r u = ap (after (Ac ac)) (looked-twice (loss_at r u) (loss_at r u) r.group (λ e. e))

returned-looked : (loss crossing : Bool) (g : Group) → fallen loss (after (Return loss crossing) (fallen loss g)) ≡ after (Return loss crossing) (fallen loss g)
returned-looked true crossing g = split (is_working g.role) (λ w. rw w) (λ w. rw w)
returned-looked false crossing g = refl

pub return-looked : (crossing : Bool) (r : Session) (u : ℕ) → fallen (loss_at r u) (after (Return (loss_at r u) crossing) (group_at r u)) ≡ after (Return (loss_at r u) crossing) (group_at r u)
unfolding group_at
return-looked crossing r u = returned-looked (loss_at r u) crossing r.group

pub message-looked : (d : Dhc) (r : Session) (u : ℕ) → fallen (loss_at r u) (after (Message d) (group_at r u)) ≡ after (Message d) (group_at r u)
unfolding group_at
message-looked d r u =
    sym (message-loss d (loss_at r u) (fallen (loss_at r u) r.group)) ∙ ap (after (Message d)) (looked-twice (loss_at r u) (loss_at r u) r.group (λ e. e))

-- another group does not touch the loss
regrouped-at : (g : Group) (r : Session) (u : ℕ) → group_at (with_group g r) u ≡ fallen (loss_at r u) g
unfolding group_at with_group loss_at
regrouped-at g r u = refl

module _ {now : ℕ} {st : ℕ → Option Story} {ls : List ℕ} {t : Table} (S : Sim now st ls t) (u : ℕ) (h : now ≤ u) where
  -- setting: the group is in the service label's record
  module _ (l : ℕ) (s : GroupSettings) (e : l ≡ s.service) (r : Session) (found : find l (open_of t) ≡ some r) where
    set_own : (p : Option Story) → Fit now (some r) p → some (grouped s (loss_by u p) (crossing_by u p)) ≡ group_in u (some (set_in s u r))
    set_own none f = absurd f
    set_own (some y) f =
        (λ i. some (grouped s (sym (same-loss f u) i) (sym (f.crossing u h) i)))
        ∙ ap some (sym (set-looked s (loss_at r u) (crossing_at r u)) ∙ sym (regrouped-at (grouped s (loss_at r u) (crossing_at r u)) r u))
        ∙ (unfold set_in with_group in refl)

    pub set-in : (m : ℕ)
        → cond (eqb s.service m) (some (grouped s (loss_by u (st m)) (crossing_by u (st m)))) (group_in u (find m (open_of t)))
        ≡ group_in u (find m (open_of (altered t l (set_in s u) u)))
    set-in m =
        let same : (x : Session) → (set_in s u x).settings ≡ x.settings = λ x. unfold set_in with_group in refl in
        let own : some (grouped s (loss_by u (st l)) (crossing_by u (st l))) ≡ group_in u (find l (open_of (altered t l (set_in s u) u))) =
        set_own (st l) (subst (λ (o : Option Session). Fit now o (st l)) found (S.fit l))
        ∙ ap (group_in u) (sym (altered-own t l u (set_in s u) same ∙ ap (map (set_in s u)) found)) in
        split (eqb s.service m)
        (λ q. rw q
        (subst (λ (n : ℕ). some (grouped s (loss_by u (st n)) (crossing_by u (st n))) ≡ group_in u (find n (open_of (altered t l (set_in s u) u))))
        (e ∙ eqb-true s.service m q) own))
        (λ q. rw q (ap (group_in u) (sym (altered-other t l u (set_in s u) same m (ap (λ (n : ℕ). eqb n m) e ∙ q)))))

  -- an event to a party's group of an ID
  module _ (p id : ℕ) (r : Session) (found : find_group p id (open_of t) ≡ some r) (event : Session → Event) (by : Option Story → Event)
      (same : (s : Story) → Fits now r s → by (some s) ≡ event r)
      (looked : fallen (loss_at r u) (after (event r) (group_at r u)) ≡ after (event r) (group_at r u)) where
    abbrev changed_in : Session → Session
    changed_in x = with_group (after (event x) (group_at x u)) x

    keeps-settings : (x : Session) → (changed_in x).settings ≡ x.settings
    unfolding with_group
    keeps-settings x = refl

    here : find r.settings.label (open_of t) ≡ some r
    here = found-own (open_of t) r S.ordered.labels (holder-is p id (open_of t) r found).0

    still-grouped : has_group r ≡ true → has_group (changed_in r) ≡ true
    unfolding with_group group_at
    still-grouped g = ap (λ (n : ℕ). eqb n 1) (sym (keeps (event r) (group_at r u)).set) ∙ g

    changed-shown : group_in u (some (changed_in r)) ≡ some (after (event r) (group_at r u))
    changed-shown =
        let w = (holder-is p id (open_of t) r found).1 in
        rw (still-grouped (holder-says p id r w).grouped)
        (ap some (regrouped-at (after (event r) (group_at r u)) r u ∙ looked))

    event-own : (y : Option Story) → Fit now (some r) y
        → changed_if (is_of p r.settings.label && has_id_in id (group_in u (some r))) (after (by y)) (group_in u (some r)) ≡ group_in u (some (changed_in r))
    event-own none f = absurd f
    event-own (some s) f =
        let w = holder-shown p id u r (holder-is p id (open_of t) r found).1 in
        ap (λ (b : Bool). changed_if b (after (by (some s))) (group_in u (some r))) w.1
        ∙ ap (changed (after (by (some s)))) w.0
        ∙ ap (λ (e : Event). some (after e (group_at r u))) (same s f)
        ∙ sym changed-shown

    pub event-in : (l : ℕ) → l ≡ r.settings.label → (m : ℕ)
        → changed_if (is_of p m && has_id_in id (group_in u (find m (open_of t)))) (after (by (st m))) (group_in u (find m (open_of t)))
        ≡ group_in u (find m (open_of (altered t l changed_in u)))
    event-in l e m =
        split (eqb l m)
        (λ q.
        subst
        (λ (n : ℕ).
        changed_if (is_of p n && has_id_in id (group_in u (find n (open_of t)))) (after (by (st n))) (group_in u (find n (open_of t)))
        ≡ group_in u (find n (open_of (altered t l changed_in u))))
        (sym e ∙ eqb-true l m q) at_own)
        (λ q.
        ap (λ (b : Bool). changed_if b (after (by (st m))) (group_in u (find m (open_of t))))
        (refuted _ (λ z. eqb-false l m q (e ∙ sym (holds-alone S p id r found u m z))))
        ∙ ap (group_in u) (sym (altered-other t l u changed_in keeps-settings m q)))
      where
        k : ℕ
        k = r.settings.label

        at_own : changed_if (is_of p k && has_id_in id (group_in u (find k (open_of t)))) (after (by (st k))) (group_in u (find k (open_of t)))
            ≡ group_in u (find k (open_of (altered t l changed_in u)))
        at_own =
            ap (λ (o : Option Session). changed_if (is_of p k && has_id_in id (group_in u o)) (after (by (st k))) (group_in u o)) here
            ∙ event-own (st k) (subst (λ (o : Option Session). Fit now o (st k)) here (S.fit k))
            ∙ ap (group_in u)
            (sym
            (ap (λ (n : ℕ). find k (open_of (altered t n changed_in u))) e
            ∙ altered-own t k u changed_in keeps-settings
            ∙ ap (map changed_in) here))
