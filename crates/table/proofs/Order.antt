-- Order is kept: whatever the table and the call, the table is in order afterwards exactly where it was before. So who answers 26 once
-- answers it to every call that follows, and who does not never will.
-- Assumes nothing.
use Prim.Native.Nat.{ℕ, zero, suc, ◌≤◌}
use native.Mathlib.Omega.{arith}
use mathlib.Core.Path.{◌≡◌, refl, sym, ap, ◌∙◌}
use mathlib.Core.Bool.{true, false}
use mathlib.Core.Option.{some}
use mathlib.Core.List.{List, [], ◌∷◌}
use lib.ListN.{length, length-set}
use lib.Dec.{leb}
use borrow.Author.Tests.{eqb-true, eq-eqb, leb-true, le-leb}
use Rattle.octets.proofs.Chain.{and_both, bar-passed}
use Rattle.message.specs.Message.{message_of}
use Rattle.message.proofs.Read.{read-in-range}
use Rattle.rules.specs.declared.Settings.{Settings}
use Rattle.rules.specs.Times.{late}
use Rattle.rules.specs.Received.{received_as}
use Rattle.rules.specs.Parties.{party_of, is_of, own_most, own_discriminator}
use Rattle.rules.specs.Lists.{any, once}
use Rattle.rules.specs.Calls.{Act, Close, Lock, Unlock, Receive, ReportOn, WriteCc, WriteCv, Call, Tick, Open, On, is_accepted}
use Rattle.rules.proofs.Bools.{split, both_true}
use Rattle.rules.proofs.Ages.{not_late}
use Rattle.rules.proofs.Lists.{none_only}
use Rattle.rules.proofs.TwoParties.{party-most, no-party}
use Rattle.session.specs.declared.Session.{Session}
use Rattle.session.specs.Queries.{group_at}
use Rattle.session.specs.Steps.{locked_at, unlocked_at, reply_settled}
use Rattle.session.specs.Soundness.{session_sound}
use Rattle.session.proofs.Sound.{opened-sound, kept-sound, locked-sound, unlocked-sound, written-sound}
use Rattle.session.proofs.Received.{received-sound, received-keeps, received-group}
use Rattle.table.specs.Table.{Table, open_of, same_label, same_discriminator, same_group, open_by, every, in_order, find, receive_answer, act_answer, asked, answer, absent, altered, added, closed, receiving, act_done, done, next}
use Rattle.table.proofs.Rows.{opens-altered}
use Rattle.table.proofs.Every.{every-on, every-update, every_inserted}
use Rattle.table.proofs.Apart.{added-one, closed-one, no_label, no-discriminator, altered-apart, added-apart, closed-apart}
use Rattle.table.proofs.GroupsApart.{SameId, altered-groups, added-groups, closed-groups}
use Rattle.table.proofs.Shares.{altered-count, place-left, added-each, closed-each}
use Rattle.table.proofs.Accepted.{OpenPassed, open-passed, found_passed, received-read}

-- what order says, part by part
pub record Ordered (t : Table) : Type 0 where
  pub rows : length t.row ≡ 64
  pub sound : every (λ r. session_sound r t.clock) (open_of t) ≡ true
  pub labels : once same_label (open_of t) ≡ true
  pub discriminators : once same_discriminator (open_of t) ≡ true
  pub each : (p : ℕ) → open_by p t ≤ own_most
  pub groups : once same_group (open_of t) ≡ true

-- nobody but the two has anything open
nobody : (p : ℕ) (rs : List Session) → any (λ (r : Session). is_of (suc (suc p)) r.settings.label) rs ≡ false
unfolding any
nobody p [] = refl
nobody p (r ∷ rs) = rw (no-party p r.settings.label) (nobody p rs)

each-says : (t : Table) → open_by 0 t ≤ own_most → open_by 1 t ≤ own_most → (p : ℕ) → open_by p t ≤ own_most
each-says t a b zero = a
each-says t a b (suc zero) = b
each-says t a b (suc (suc p)) =
    rw (none_only (λ (r : Session). is_of (suc (suc p)) r.settings.label) (open_of t) (nobody p (open_of t))) (omega arith)

pub order-says : (t : Table) → in_order t ≡ true → Ordered t
unfolding in_order
order-says t e =
    let all = and_both _ (once same_group (open_of t)) e in
    let theirs = and_both _ (leb (open_by 1 t) own_most) all.0 in
    let ours = and_both _ (leb (open_by 0 t) own_most) theirs.0 in
    let a = and_both _ _ ours.0 in
    let b = and_both _ _ a.0 in
    let c = and_both _ _ b.0 in
    record {
      rows = eqb-true (length t.row) 64 c.0;
      sound = c.1;
      labels = b.1;
      discriminators = a.1;
      each = each-says t (leb-true _ _ ours.1) (leb-true _ _ theirs.1);
      groups = all.1;
    }

pub says-order : (t : Table) → Ordered t → in_order t ≡ true
unfolding in_order
says-order t o =
    both_true
    (both_true
    (both_true
    (both_true (both_true (both_true (eq-eqb (length t.row) 64 o.rows) o.sound) o.labels) o.discriminators)
    (le-leb _ _ (o.each 0)))
    (le-leb _ _ (o.each 1)))
    o.groups

module _ (t : Table) (o : Ordered t) where
  -- the clock goes on
  sound-on : (u : ℕ) → t.clock ≤ u → every (λ r. session_sound r u) (open_of t) ≡ true
  sound-on u h = every-on (λ r. session_sound r t.clock) (λ r. session_sound r u) (λ r e. kept-sound r t.clock u h e) (open_of t) o.sound

  order-ticked : (u : ℕ) → t.clock ≤ u → Ordered (record { row = t.row; clock = u; occupied = t.occupied })
  order-ticked u h = record { rows = o.rows; sound = sound-on u h; labels = o.labels; discriminators = o.discriminators; each = o.each; groups = o.groups }

  -- the record of a label altered: its settings stay, its group stays one of its ID or none, and it is sound at the reading
  pub order-altered : (l u : ℕ) (f : Session → Session) → t.clock ≤ u → ((r : Session) → (f r).settings ≡ r.settings) → ((r : Session) → SameId (f r) r)
      → ((r : Session) → find l (open_of t) ≡ some r → session_sound r t.clock ≡ true → session_sound (f r) u ≡ true) → Ordered (altered t l f u)
  order-altered l u f h k i m =
      record {
        rows = unfold altered in simp length-set o.rows;
        sound =
            unfold altered in
            ap (every (λ r. session_sound r u)) (opens-altered l f absent t.occupied t.row)
            ∙ every-update (λ r. session_sound r t.clock) (λ r. session_sound r u) (λ r e. kept-sound r t.clock u h e) l f (open_of t) m o.sound;
        labels = altered-apart (λ g. g.label) t l u f k ∙ o.labels;
        discriminators = altered-apart own_discriminator t l u f k ∙ o.discriminators;
        each = λ p. omega (arith, altered-count t l u f k p, o.each p);
        groups = altered-groups t l u f k i ∙ o.groups;
      }

  -- a new record, which has no rival
  order-added : (g : Settings) (u : ℕ) → OpenPassed t g u → Ordered (added t g u)
  order-added g u p =
      let i = added-one t g u o.rows (place-left t o.rows o.each (party_of g.label) (party-most g.label) p.room) in
      record {
        rows = unfold added in simp length-set o.rows;
        sound = unfold added in every_inserted (λ r. session_sound r u) i ∙ both_true (opened-sound g u p.fit) (sound-on u p.in-time);
        labels = added-apart (λ s. s.label) g u i (no_label g (open_of t) p.unrivalled) o.labels;
        discriminators = added-apart own_discriminator g u i (no-discriminator g (open_of t) p.unrivalled) o.discriminators;
        each = λ q. added-each g u i q (o.each q) (λ e f. p.room (ap (λ (x : ℕ). open_by x t) e ∙ f));
        groups = added-groups g u i o.groups;
      }

  -- a place given back: one open record less
  order-closed : (l u : ℕ) (r : Session) → t.clock ≤ u → find l (open_of t) ≡ some r → Ordered (closed t l u)
  order-closed l u r h e =
      let i = closed-one t l u r e in
      record {
        rows = unfold closed in o.rows;
        sound = unfold closed in (and_both (session_sound r u) _ (sym (every_inserted (λ x. session_sound x u) i) ∙ sound-on u h)).1;
        labels = (closed-apart (λ s. s.label) r i o.labels).1;
        discriminators = (closed-apart own_discriminator r i o.discriminators).1;
        each = λ q. closed-each r i q (o.each q);
        groups = (closed-groups r i o.groups).1;
      }

  -- an accepted act
  pub act-ordered : (l : ℕ) (a : Act) → is_accepted (act_answer t.clock (find l (open_of t)) l a) ≡ true → Ordered (act_done t l a)
  unfolding act_answer act_done
  act-ordered l (Close u) e =
      let p = found_passed t.clock u (find l (open_of t)) (eqb-true _ 0 e) in
      order-closed l u p.1.0 p.0 p.1.1
  act-ordered l (Lock u) e =
      let h = (found_passed t.clock u (find l (open_of t)) (eqb-true _ 0 e)).0 in
      order-altered l u (λ r. locked_at r u) h (λ r. unfold locked_at in refl) (λ r. unfold locked_at group_at in (refl, refl)) (λ r f s. locked-sound r t.clock u h s)
  act-ordered l (Unlock u) e =
      let h = (found_passed t.clock u (find l (open_of t)) (eqb-true _ 0 e)).0 in
      order-altered l u (λ r. unlocked_at r u) h (λ r. unfold unlocked_at in refl) (λ r. unfold unlocked_at group_at in (refl, refl)) (λ r f s. unlocked-sound r t.clock u h s)
  act-ordered l (Receive m u) e =
      let b = bar-passed (late t.clock u) 0 (receive_answer (find l (open_of t)) m u) (eqb-true _ 0 e) in
      let h = not_late t.clock u b.0 in
      order-altered l u (receiving m u) h (λ r. received-keeps r u (received_as r.settings (message_of m)))
      (λ r. received-group r u (received_as r.settings (message_of m)))
      (λ r f s. received-sound r t.clock u h s (message_of m) (read-in-range m (received-read m u (find l (open_of t)) r f b.1)))
  act-ordered l ReportOn e = o
  act-ordered l (WriteCc b) e =
      order-altered l t.clock reply_settled (omega arith) (λ r. unfold reply_settled in refl) (λ r. unfold reply_settled in (refl, refl)) (λ r f s. written-sound r t.clock t.clock (omega arith) s)
  act-ordered l (WriteCv b) e = o

  -- an accepted call
  pub done-ordered : (c : Call) → is_accepted (asked t c) ≡ true → Ordered (done t c)
  unfolding asked done
  done-ordered (Tick u) e = order-ticked u (not_late t.clock u (bar-passed (late t.clock u) 0 0 (eqb-true _ 0 e)).0)
  done-ordered (Open g u) e = order-added g u (open-passed t g u (eqb-true _ 0 e))
  done-ordered (On l a) e = act-ordered l a e

-- a table in order stays in order
pub order-kept : (t : Table) (c : Call) → in_order t ≡ true → in_order (next t c) ≡ true
unfolding next answer
order-kept t c e =
    rw e
    (split (is_accepted (asked t c))
    (λ a. rw a (says-order (done t c) (done-ordered t (order-says t e) c a)))
    (λ a. rw a e))

-- another answers 26 and stays as it is
pub unordered-stays : (t : Table) (c : Call) → in_order t ≡ false → next t c ≡ t
unfolding next answer
unordered-stays t c e = rw e

pub order_same : (t : Table) (c : Call) → in_order (next t c) ≡ in_order t
order_same t c = split (in_order t) (λ e. order-kept t c e ∙ sym e) (λ e. ap in_order (unordered-stays t c e))
