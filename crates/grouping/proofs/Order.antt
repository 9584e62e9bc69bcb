-- Order is kept: whatever the table and the command, the table is in order afterwards exactly where it was before.
-- Assumes nothing.
use Prim.Native.Nat.{ℕ, ◌≤◌}
use native.Mathlib.Omega.{arith}
use mathlib.Core.Path.{◌≡◌, refl, sym, ap, ◌∙◌}
use mathlib.Core.Bool.{Bool, true, false, not}
use mathlib.Core.Option.{some}
use mathlib.Core.List.{List, [], ◌∷◌}
use lib.ListN.{length-set}
use borrow.Author.Tests.{eqb-true, eq-eqb, le-leb, not-true}
use Rattle.octets.proofs.Chain.{and_both}
use Rattle.coordination.specs.Message.{dhc_of}
use Rattle.rules.specs.Settings.{label_fits}
use Rattle.rules.specs.Parties.{party_of, own_label, own_discriminator}
use Rattle.rules.specs.Lists.{any, once}
use Rattle.rules.specs.Calls.{is_accepted}
use Rattle.rules.proofs.Bools.{split, both_true, refuted, true-false}
use Rattle.rules.proofs.Failing.{both-fail}
use Rattle.rules.proofs.Lists.{any_at, any-who}
use Rattle.rules.proofs.Ages.{not_late}
use Rattle.rules.proofs.TwoParties.{same_number}
use Rattle.homing.specs.declared.Group.{Group}
use Rattle.homing.specs.declared.GroupSettings.{GroupSettings}
use Rattle.homing.specs.Fitting.{group_fits}
use Rattle.homing.specs.Groups.{grouped}
use Rattle.homing.specs.Events.{Event, Timer, Message, Ac, Return, after}
use Rattle.homing.proofs.Fits.{after-fits, grouped-fits}
use Rattle.homing.proofs.Laws.{keeps}
use Rattle.session.specs.declared.Session.{Session}
use Rattle.session.specs.Queries.{loss_at, crossing_at, group_at}
use Rattle.session.specs.Soundness.{session_sound, ungrouped_sound, own_fits}
use Rattle.session.proofs.Sound.{sound-says, kept-sound}
use Rattle.table.specs.Places.{has_label}
use Rattle.table.specs.Table.{Table, open_of, has_group, same_group, every, in_order, find, answer, absent, altered}
use Rattle.table.proofs.Rows.{update, opens-altered, found-is}
use Rattle.table.proofs.Every.{every-update}
use Rattle.table.proofs.Apart.{altered-apart}
use Rattle.table.proofs.Shares.{altered-count}
use Rattle.table.proofs.GroupsApart.{SameId, group-back}
use Rattle.table.proofs.Order.{Ordered, order-says, says-order, order-altered, order-kept}
use Rattle.grouping.specs.Commands.{Command, Ordinary, SetGroup, SetAc, ReturnGroup, Coordinate}
use Rattle.grouping.specs.Grouped.{holds_group, find_group, label_of, set_number, named_number, holder_of, coordinate_number, answer_to, with_group, set_in, ac_set_in, returned_in, coordinated_in, done_by, next_by}
use Rattle.grouping.proofs.Holders.{no-holder, label-open, own_open}
use Rattle.grouping.proofs.Accepted.{FoundBy, SetPassed, set-passed, named-passed, coordinate-passed, number_passed}

-- a record with another group that fits is sound at the reading
module _ (r : Session) (clock u : ℕ) (h : clock ≤ u) (sound : session_sound r clock ≡ true) where
  pub regrouped-sound : (g : Group) → group_fits r.settings.label g ≡ true → session_sound (with_group g r) u ≡ true
  unfolding session_sound ungrouped_sound own_fits with_group
  regrouped-sound g f = both_true (and_both (ungrouped_sound r u) _ (kept-sound r clock u h sound)).0 f

  -- and so it is after an event, before which a loss is looked for
  pub event-sound : (e : Event) → session_sound (with_group (after e (group_at r u)) r) u ≡ true
  unfolding group_at
  event-sound e =
      let l = r.settings.label in
      regrouped-sound _ (after-fits l e (group_at r u) (after-fits l (Timer (loss_at r u)) r.group (sound-says r clock sound).group))

-- no event touches whether there is a group, and of which ID
event-id : (e : Event) (r : Session) (u : ℕ) → SameId (with_group (after e (group_at r u)) r) r
unfolding group_at with_group
event-id e r u = let k = keeps e (group_at r u) in (sym k.set, sym k.id)

-- an event on the group of a label's record
event-ordered : (t : Table) → Ordered t → (l u : ℕ) → t.clock ≤ u → (event : Session → Event)
    → Ordered (altered t l (λ r. with_group (after (event r) (group_at r u)) r) u)
event-ordered t o l u h event =
    order-altered t o l u (λ r. with_group (after (event r) (group_at r u)) r) h (λ r. unfold with_group in refl) (λ r. event-id (event r) r u)
    (λ r f s. event-sound r t.clock u h s (event r))

-- the record of a label becomes one that is like no other
module _ (l : ℕ) (f : Session → Session) where
  any-renewed : (p : Session → Bool) (rs : List Session) → ((a : Session) → has_label l a ≡ true → p (f a) ≡ false) → any p rs ≡ false → any p (update l f rs) ≡ false
  unfolding any update
  any-renewed p [] k e = refl
  any-renewed p (r ∷ rs) k e =
      both-fail {a = p r} {b = any p rs}
      (λ first rest. split (has_label l r) (λ q. rw (q, k r q) rest) (λ q. rw (q, first) (any-renewed p rs k rest)))
      e

  once-renewed : (same : Session → Session → Bool) → ((a b : Session) → same a b ≡ same b a) → (rs : List Session)
      → ((a : Session) → has_label l a ≡ true → any (same (f a)) rs ≡ false) → once same rs ≡ true → once same (update l f rs) ≡ true
  unfolding once any update
  once-renewed same back [] k e = refl
  once-renewed same back (r ∷ rs) k e =
      let w = and_both (not (any (same r) rs)) (once same rs) e in
      split (has_label l r)
      (λ q. rw q (both_true (ap not (unlike r q).1) w.1))
      (λ q. rw q
      (both_true
      (ap not (any-renewed (same r) rs (λ a p. back r (f a) ∙ (unlike a p).0) (not-true _ w.0)))
      (once-renewed same back rs (λ a p. (unlike a p).1) w.1)))
    where
      unlike : (a : Session) → has_label l a ≡ true → (same (f a) r ≡ false) × (any (same (f a)) rs ≡ false)
      unlike a p = both-fail (λ x y. (x, y)) (k a p)

-- a label that is open to a party is the party's, and is what is looked for
module _ (t : Table) (e : in_order t ≡ true) (p l : ℕ) (found : FoundBy t (own_label p l)) where
  own-party : party_of l ≡ p
  own-party = eqb-true (party_of l) p (own_open t e p l found.0 found.1)

  own-itself : own_label p l ≡ l
  own-itself = rw (own_open t e p l found.0 found.1)

  own-fits : label_fits l ≡ true
  own-fits =
      let w = label-open t e (own_label p l) found.0 found.1 in
      both_true (le-leb 16 l (omega (arith, own-itself, w.0))) (le-leb l 1048575 (omega (arith, own-itself, w.1)))

-- setting a group
module _ (t : Table) (e : in_order t ≡ true) (p : ℕ) (s : GroupSettings) (u : ℕ) (w : SetPassed t p s u) where
  -- who had one like it would hold a group of the party with its ID
  like-holds : (a x : Session) → has_label (own_label p s.service) a ≡ true → same_group (set_in s u a) x ≡ true → holds_group p s.id x ≡ true
  unfolding set_in with_group
  like-holds a x q z =
      let v = and_both (has_group x) _ z in
      let n = (same_number a.settings.label x.settings.label s.id x.group.id).0 (eqb-true _ _ v.1) in
      let here : party_of a.settings.label ≡ p =
      ap party_of (eqb-true _ _ q ∙ own-itself t e p s.service w.service) ∙ own-party t e p s.service w.service in
      both_true (eq-eqb _ p (sym n.0 ∙ here)) (both_true v.0 (eq-eqb _ _ (sym n.1)))

  -- so it is like no other
  set-unlike : (a : Session) → has_label (own_label p s.service) a ≡ true → any (same_group (set_in s u a)) (open_of t) ≡ false
  set-unlike a q =
      refuted _
      (λ z. let x = any-who (same_group (set_in s u a)) (open_of t) z in
      true-false (any_at (holds_group p s.id) x.1 (like-holds a x.0 q x.2)) (no-holder p s.id (open_of t) w.untaken))

  set-groups : once same_group (open_of (altered t (own_label p s.service) (set_in s u) u)) ≡ true
  unfolding altered
  set-groups =
      ap (once same_group) (opens-altered (own_label p s.service) (set_in s u) absent t.occupied t.row)
      ∙ once-renewed (own_label p s.service) (set_in s u) same_group group-back (open_of t) set-unlike (order-says t e).groups

  -- and it fits
  set-sound : t.clock ≤ u → (r : Session) → find (own_label p s.service) (open_of t) ≡ some r → session_sound r t.clock ≡ true → session_sound (set_in s u r) u ≡ true
  unfolding set_in
  set-sound h r f sound =
      let label = (found-is (own_label p s.service) (open_of t) r f).1 ∙ own-itself t e p s.service w.service in
      let fits =
      grouped-fits s (loss_at r u) (crossing_at r u) (own-fits t e p s.dni w.dni) w.unequal
      (own-party t e p s.service w.service ∙ sym (own-party t e p s.dni w.dni)) in
      regrouped-sound r t.clock u h sound (grouped s (loss_at r u) (crossing_at r u)) (ap (λ (n : ℕ). group_fits n (grouped s (loss_at r u) (crossing_at r u))) label ∙ fits)

  set-ordered : Ordered (altered t (own_label p s.service) (set_in s u) u)
  set-ordered =
      let l = own_label p s.service in
      let o = order-says t e in
      let h = not_late t.clock u w.in-time in
      let same : (r : Session) → (set_in s u r).settings ≡ r.settings = λ r. unfold set_in with_group in refl in
      record {
        rows = unfold altered in simp length-set o.rows;
        sound =
            unfold altered in
            ap (every (λ r. session_sound r u)) (opens-altered l (set_in s u) absent t.occupied t.row)
            ∙ every-update (λ r. session_sound r t.clock) (λ r. session_sound r u) (λ r x. kept-sound r t.clock u h x) l (set_in s u) (open_of t) (set-sound h) o.sound;
        labels = altered-apart (λ g. g.label) t l u (set_in s u) same ∙ o.labels;
        discriminators = altered-apart own_discriminator t l u (set_in s u) same ∙ o.discriminators;
        each = λ q. omega (arith, altered-count t l u (set_in s u) same q, o.each q);
        groups = set-groups;
      }

-- an accepted command
done-ordered : (t : Table) (c : Command) → in_order t ≡ true → is_accepted (answer_to t c) ≡ true → in_order (done_by t c) ≡ true
unfolding answer_to done_by ac_set_in returned_in coordinated_in
done-ordered t (Ordinary c) e a = order-kept t c e
done-ordered t (SetGroup p s u) e a = says-order _ (set-ordered t e p s u (set-passed t p s u (number_passed t (set_number t p s u) a).1))
done-ordered t (SetAc p id ac u) e a =
    let w = named-passed t p id u (number_passed t (named_number t p id u) a).1 in
    says-order _ (event-ordered t (order-says t e) (label_of (find_group p id (open_of t))) u (not_late t.clock u w.in-time) (λ r. Ac ac))
done-ordered t (ReturnGroup p id u) e a =
    let w = named-passed t p id u (number_passed t (named_number t p id u) a).1 in
    says-order _
    (event-ordered t (order-says t e) (label_of (find_group p id (open_of t))) u (not_late t.clock u w.in-time) (λ r. Return (loss_at r u) (crossing_at r u)))
done-ordered t (Coordinate l m u) e a =
    let w = coordinate-passed t l m u (number_passed t (coordinate_number t l m u) a).1 in
    says-order _
    (event-ordered t (order-says t e) (label_of (holder_of l (dhc_of m) (open_of t))) u (not_late t.clock u w.in-time) (λ r. Message (dhc_of m)))

-- a refused command leaves the table
pub refused-stays : (t : Table) (c : Command) → is_accepted (answer_to t c) ≡ false → next_by t c ≡ t
unfolding next_by
refused-stays t c e = rw e

-- a table in order stays in order
pub order-by : (t : Table) (c : Command) → in_order t ≡ true → in_order (next_by t c) ≡ true
unfolding next_by
order-by t c e = split (is_accepted (answer_to t c)) (λ a. rw a (done-ordered t c e a)) (λ a. rw a e)

-- another answers 26 and stays as it is
unordered-refused : (t : Table) (c : Command) → in_order t ≡ false → is_accepted (answer_to t c) ≡ false
unfolding answer_to answer
unordered-refused t (Ordinary c) e = rw e
unordered-refused t (SetGroup p s u) e = rw e
unordered-refused t (SetAc p id ac u) e = rw e
unordered-refused t (ReturnGroup p id u) e = rw e
unordered-refused t (Coordinate l m u) e = rw e

pub order-by-same : (t : Table) (c : Command) → in_order (next_by t c) ≡ in_order t
order-by-same t c = split (in_order t) (λ e. order-by t c e ∙ sym e) (λ e. ap in_order (refused-stays t c (unordered-refused t c e)))
