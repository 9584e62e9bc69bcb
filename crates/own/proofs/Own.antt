-- The record of a label follows from its own accepted calls: of a table in order, what a call leaves of it is what the call makes of that record alone.
-- Assumes nothing.
use Prim.Native.Nat.{ℕ}
use mathlib.Core.Path.{◌≡◌, refl, sym, ap, ◌∙◌}
use mathlib.Core.Bool.{Bool, true, false, cond}
use mathlib.Core.Option.{Option, none, some, map}
use lib.Dec.{eqb}
use borrow.Author.Tests.{eqb-true}
use Rattle.message.specs.Message.{message_of}
use Rattle.rules.specs.declared.Settings.{Settings}
use Rattle.rules.specs.Received.{received_as}
use Rattle.rules.specs.Parties.{party_of}
use Rattle.rules.specs.Lists.{any}
use Rattle.rules.specs.Calls.{Act, Close, Lock, Unlock, Receive, ReportOn, WriteCc, WriteCv, Call, Tick, Open, On, is_accepted}
use Rattle.rules.proofs.Bools.{split}
use Rattle.rules.proofs.Lists.{any_same, numbers-alike}
use Rattle.rules.proofs.TwoParties.{party-most}
use Rattle.session.specs.declared.Session.{Session}
use Rattle.session.specs.Steps.{new_session, locked_at, unlocked_at, reply_settled}
use Rattle.session.proofs.Received.{received-keeps}
use Rattle.table.specs.Places.{has_label}
use Rattle.table.specs.Table.{Table, open_of, same_label, in_order, find, act_answer, asked, answer, absent, altered, added, closed, receiving, act_done, done, next}
use Rattle.table.proofs.Rows.{opens-altered, find-update-same, find-update-other, found-is, none_found, find-inserted-own, find-inserted-other}
use Rattle.table.proofs.Apart.{added-one, closed-one, no_label, closed-apart}
use Rattle.table.proofs.Shares.{place-left}
use Rattle.table.proofs.Accepted.{OpenPassed, open-passed, found_passed}
use Rattle.table.proofs.Order.{Ordered, order-says}
use Rattle.own.specs.Own.{own_act, own_acted}

-- nothing is chosen
both-same : (b : Bool) (o : Option Session) → o ≡ cond b o o
both-same true o = refl
both-same false o = refl

module _ (t : Table) (l : ℕ) where
  abbrev own : Option Session
  own = find l (open_of t)

  -- a record altered that keeps its settings
  own-altered : (m u : ℕ) (f : Session → Session) → ((r : Session) → (f r).settings ≡ r.settings)
      → find l (open_of (altered t m f u)) ≡ cond (eqb m l) (map f own) own
  unfolding altered
  own-altered m u f k =
      ap (find l) (opens-altered m f absent t.occupied t.row)
      ∙ split (eqb m l)
      (λ e. rw (e, eqb-true m l e) (find-update-same l f (open_of t) k))
      (λ e. rw e (find-update-other m l f (open_of t) k e))

  module _ (o : Ordered t) where
    -- a new record, which has no rival
    own-added : (g : Settings) (u : ℕ) → OpenPassed t g u → find l (open_of (added t g u)) ≡ cond (eqb g.label l) (some (new_session g u)) own
    own-added g u p =
        let i = added-one t g u o.rows (place-left t o.rows o.each (party_of g.label) (party-most g.label) p.room) in
        split (eqb g.label l)
        (λ e. rw e (ap (λ (k : ℕ). find k (open_of (added t g u))) (sym (eqb-true g.label l e))
        ∙ (unfold new_session in find-inserted-own i (no_label g (open_of t) p.unrivalled))))
        (λ e. rw e (unfold new_session in find-inserted-other l i e))

    -- a record less: no other has its label
    own-closed : (m u : ℕ) (r : Session) → find m (open_of t) ≡ some r → find l (open_of (closed t m u)) ≡ cond (eqb m l) none own
    own-closed m u r e =
        let rest = open_of (closed t m u) in
        let i = closed-one t m u r e in
        let label : r.settings.label ≡ m = (found-is m (open_of t) r e).1 in
        let gone : any (has_label m) rest ≡ false =
        any_same (has_label m) (same_label r) (λ x. numbers-alike.back x.settings.label m ∙ ap (λ (k : ℕ). eqb k x.settings.label) (sym label)) rest
        ∙ (closed-apart (λ s. s.label) r i o.labels).0 in
        split (eqb m l)
        (λ q. rw q (ap (λ (k : ℕ). find k rest) (sym (eqb-true m l q)) ∙ none_found m rest gone))
        (λ q. rw q (sym (find-inserted-other l i (ap (λ (k : ℕ). eqb k l) label ∙ q))))

    -- an accepted act
    own-act : (m : ℕ) (a : Act) → is_accepted (act_answer t.clock (find m (open_of t)) m a) ≡ true
        → find l (open_of (act_done t m a)) ≡ cond (eqb m l) (own_act a own) own
    unfolding act_answer act_done
    own-act m (Close u) e =
        let p = found_passed t.clock u (find m (open_of t)) (eqb-true _ 0 e) in
        own-closed m u p.1.0 p.1.1
    own-act m (Lock u) e = own-altered m u (λ r. locked_at r u) (λ r. unfold locked_at in refl)
    own-act m (Unlock u) e = own-altered m u (λ r. unlocked_at r u) (λ r. unfold unlocked_at in refl)
    own-act m (Receive x u) e = own-altered m u (receiving x u) (λ r. received-keeps r u (received_as r.settings (message_of x)))
    own-act m ReportOn e = both-same (eqb m l) own
    own-act m (WriteCc b) e = own-altered m t.clock reply_settled (λ r. unfold reply_settled in refl)
    own-act m (WriteCv b) e = both-same (eqb m l) own

    -- an accepted call
    own-done : (c : Call) → is_accepted (asked t c) ≡ true → find l (open_of (done t c)) ≡ own_acted l c own
    unfolding asked done
    own-done (Tick u) e = refl
    own-done (Open g u) e = own-added g u (open-passed t g u (eqb-true _ 0 e))
    own-done (On m a) e = own-act m a e

-- every call, of a table in order
pub own-next : (t : Table) (l : ℕ) (c : Call) → in_order t ≡ true
    → find l (open_of (next t c)) ≡ cond (is_accepted (answer t c)) (own_acted l c (find l (open_of t))) (find l (open_of t))
unfolding next answer
own-next t l c e =
    rw e
    (split (is_accepted (asked t c))
    (λ a. rw a (own-done t l (order-says t e) c a))
    (λ a. rw a))
