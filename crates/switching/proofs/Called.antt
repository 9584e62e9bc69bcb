-- What each accepted call that there was before makes of the groups in a table is what it does to the group of each label.
-- Assumes nothing.
use Prim.Native.Nat.{ℕ}
use mathlib.Core.Path.{◌≡◌, refl, sym, ap, ◌∙◌, subst}
use mathlib.Core.Bool.{Bool, true, false, cond}
use mathlib.Core.Option.{Option, none, some, map}
use mathlib.Core.List.{List}
use lib.Dec.{eqb}
use borrow.Author.Tests.{eqb-true}
use Rattle.message.specs.Message.{message_of}
use Rattle.rules.specs.declared.Settings.{Settings}
use Rattle.rules.specs.Received.{received_as}
use Rattle.rules.specs.Lists.{any}
use Rattle.rules.specs.Calls.{Act, Close, Lock, Unlock, Receive, ReportOn, WriteCc, WriteCv, Call, Tick, Open, On, is_accepted}
use Rattle.rules.proofs.Bools.{split}
use Rattle.rules.proofs.Lists.{any_same, numbers-alike}
use Rattle.homing.specs.declared.Group.{Group}
use Rattle.homing.specs.Groups.{crossed_by}
use Rattle.session.specs.declared.Session.{Session}
use Rattle.session.specs.Steps.{new_session, locked_at, unlocked_at, reply_settled}
use Rattle.session.proofs.Received.{received-keeps}
use Rattle.table.specs.Places.{has_label}
use Rattle.table.specs.Table.{Table, open_of, same_label, find, act_answer, asked, altered, added, closed, receiving, act_done, done}
use Rattle.table.proofs.Rows.{found-is, none_found, find-inserted-own, find-inserted-other}
use Rattle.table.proofs.Apart.{added-one, closed-one, no_label, closed-apart}
use Rattle.table.proofs.Accepted.{open-passed, found_passed}
use Rattle.meaning.specs.Stories.{Story, is_crossed}
use Rattle.meaning.specs.Histories.{act_reading, reading}
use Rattle.meaning.proofs.Sim.{Fit, Sim, free-place}
use Rattle.switching.specs.Groups.{crossed_to, changed_if, acted, called}
use Rattle.switching.specs.Switching.{group_in}
use Rattle.switching.proofs.Regrouped.{altered-own, altered-other}
use Rattle.switching.proofs.Looked.{locked-in, unlocked-in, written_in, received-in}

-- a call on the label m does to its group what the record altered shows
module _ (t : Table) (l u k : ℕ) (f : Session → Session) (same : (r : Session) → (f r).settings ≡ r.settings) (act : Option Group → Option Group)
    (own : act (group_in u (find l (open_of t))) ≡ group_in u (map f (find l (open_of t)))) where
  on-altered : (m : ℕ) → cond (eqb l m) (act (group_in u (find m (open_of t)))) (group_in u (find m (open_of t))) ≡ group_in u (find m (open_of (altered t l f k)))
  on-altered m =
      split (eqb l m)
      (λ q. rw q
      (subst (λ (n : ℕ). act (group_in u (find n (open_of t))) ≡ group_in u (find n (open_of (altered t l f k)))) (eqb-true l m q)
      (own ∙ ap (group_in u) (sym (altered-own t l k f same)))))
      (λ q. rw q (ap (group_in u) (sym (altered-other t l k f same m q))))

both-same : (b : Bool) {o : Option Group} → cond b o o ≡ o
both-same true = refl
both-same false = refl

-- a message
receive-in : (now : ℕ) (m : List ℕ) (u : ℕ) (o : Option Session) (p : Option Story) → Fit now o p
    → changed_if (crossed_to m p) crossed_by (group_in u o) ≡ group_in u (map (receiving m u) o)
receive-in now m u none none f = refl
receive-in now m u none (some s) f = absurd f
receive-in now m u (some r) none f = absurd f
receive-in now m u (some r) (some s) f =
    ap (λ (g : Settings). changed_if (is_crossed (received_as g (message_of m))) crossed_by (group_in u (some r))) (sym f.settings)
    ∙ received-in r u (received_as r.settings (message_of m))

module _ {now : ℕ} {st : ℕ → Option Story} {ls : List ℕ} {t : Table} (S : Sim now st ls t) where
  -- opening: no group on the label, whatever lay in its place
  opened_in : (g : Settings) (u : ℕ) → is_accepted (asked t (Open g u)) ≡ true → (m : ℕ)
      → cond (eqb g.label m) none (group_in u (find m (open_of t))) ≡ group_in u (find m (open_of (added t g u)))
  unfolding asked new_session
  opened_in g u e m =
      let p = open-passed t g u (eqb-true _ 0 e) in
      let i = added-one t g u S.ordered.rows (free-place S g u p) in
      split (eqb g.label m)
      (λ q. rw q
      (subst (λ (n : ℕ). none ≡ group_in u (find n (open_of (added t g u)))) (eqb-true g.label m q)
      (ap (group_in u) (sym (find-inserted-own i (no_label g (open_of t) p.unrivalled))))))
      (λ q. rw q (ap (group_in u) (sym (find-inserted-other m i q))))

  -- closing: the label finds nothing
  closed_in : (l u : ℕ) (r : Session) → find l (open_of t) ≡ some r → (m : ℕ)
      → cond (eqb l m) none (group_in u (find m (open_of t))) ≡ group_in u (find m (open_of (closed t l u)))
  closed_in l u r e m =
      let rest = open_of (closed t l u) in
      let i = closed-one t l u r e in
      let label : r.settings.label ≡ l = (found-is l (open_of t) r e).1 in
      let gone : any (has_label l) rest ≡ false =
      any_same (has_label l) (same_label r) (λ x. numbers-alike.back x.settings.label l ∙ ap (λ (k : ℕ). eqb k x.settings.label) (sym label)) rest
      ∙ (closed-apart (λ s. s.label) r i S.ordered.labels).0 in
      split (eqb l m)
      (λ q. rw q
      (subst (λ (n : ℕ). none ≡ group_in u (find n rest)) (eqb-true l m q) (ap (group_in u) (sym (none_found l rest gone)))))
      (λ q. rw q (ap (group_in u) (find-inserted-other m i (ap (λ (k : ℕ). eqb k m) label ∙ q))))

  acted-in : (l : ℕ) (a : Act) → is_accepted (act_answer t.clock (find l (open_of t)) l a) ≡ true → (m : ℕ)
      → cond (eqb l m) (acted a (st l) (group_in (act_reading a now) (find m (open_of t)))) (group_in (act_reading a now) (find m (open_of t)))
      ≡ group_in (act_reading a now) (find m (open_of (act_done t l a)))
  unfolding act_answer act_done
  acted-in l (Close u) e m = let p = found_passed t.clock u (find l (open_of t)) (eqb-true _ 0 e) in closed_in l u p.1.0 p.1.1 m
  acted-in l (Lock u) e m = on-altered t l u u (λ r. locked_at r u) (λ r. unfold locked_at in refl) (λ o. o) (locked-in u (find l (open_of t))) m
  acted-in l (Unlock u) e m = on-altered t l u u (λ r. unlocked_at r u) (λ r. unfold unlocked_at in refl) (λ o. o) (unlocked-in u (find l (open_of t))) m
  acted-in l (Receive b u) e m =
      on-altered t l u u (receiving b u) (λ r. received-keeps r u (received_as r.settings (message_of b))) (λ o. changed_if (crossed_to b (st l)) crossed_by o)
      (receive-in now b u (find l (open_of t)) (st l) (S.fit l)) m
  acted-in l ReportOn e m = both-same (eqb l m)
  acted-in l (WriteCc b) e m = on-altered t l now t.clock reply_settled (λ r. unfold reply_settled in refl) (λ o. o) (written_in now (find l (open_of t))) m
  acted-in l (WriteCv b) e m = both-same (eqb l m)

  -- the story that is asked is that of the label
  own-story : (l m : ℕ) (a : Act) (o : Option Group) → cond (eqb l m) (acted a (st m) o) o ≡ cond (eqb l m) (acted a (st l) o) o
  own-story l m a o = split (eqb l m) (λ q. rw q (ap (λ (n : ℕ). acted a (st n) o) (sym (eqb-true l m q)))) (λ q. rw q)

  pub called-in : (c : Call) → is_accepted (asked t c) ≡ true → (m : ℕ)
      → called m c (st m) (group_in (reading c now) (find m (open_of t))) ≡ group_in (reading c now) (find m (open_of (done t c)))
  unfolding asked done
  called-in (Tick u) e m = refl
  called-in (Open g u) e m = opened_in g u e m
  called-in (On l a) e m = own-story l m a (group_in (act_reading a now) (find m (open_of t))) ∙ acted-in l a e m
