-- A record is altered and keeps its settings and which group it has: what is found by a label, who holds a group and whether it takes a message
-- is as it was. Two records altered, or one altered twice, in either order.
-- Assumes nothing.
use Prim.Native.Nat.{ℕ, ◌/◌}
use mathlib.Core.Path.{◌≡◌, refl, sym, ap, ◌∙◌}
use mathlib.Core.Bool.{true, false, ◌&&◌}
use mathlib.Core.Option.{some}
use mathlib.Core.List.{List, [], ◌∷◌}
use lib.ListN.{get_or, set}
use lib.Dec.{eqb}
use borrow.Author.Tests.{eqb-true}
use Rattle.octets.specs.Choice.{or_else}
use Rattle.coordination.specs.declared.Dhc.{Dhc}
use Rattle.message.specs.Message.{message_refusal, message_of}
use Rattle.rules.specs.Received.{received_as}
use Rattle.rules.specs.declared.Settings.{Settings}
use Rattle.rules.specs.Parties.{is_of}
use Rattle.rules.proofs.Bools.{split}
use Rattle.homing.specs.declared.Group.{Group}
use Rattle.homing.specs.Messages.{has_id, status_from_peer, switching_from_peer, takes_from}
use Rattle.homing.specs.Events.{SameGroup}
use Rattle.session.specs.declared.Session.{Session}
use Rattle.session.specs.Reception.{received_answer}
use Rattle.table.specs.Places.{first_on, has_label, place_of}
use Rattle.table.specs.Table.{Table, open_of, find, is_found, receive_answer, absent, altered}
use Rattle.table.proofs.Rows.{update, opens-altered}
use Rattle.table.proofs.Exchange.{Keeps, altered-either}
use Rattle.grouping.specs.Grouped.{holds_group, find_group, label_of, taken_by, coordinated_in}
use Rattle.group_orders.proofs.Meeting.{coordinated-settings, answer-coordinated}

-- whether there is a group, of which ID, peer and DNI-PW
pub same_id : (id : ℕ) (g h : Group) → SameGroup g h → has_id id h ≡ has_id id g
same_id id g h s = λ i. eqb (sym s.set i) 1 && eqb (sym s.id i) id

pub same_takes : (l : ℕ) (d : Dhc) (g h : Group) → SameGroup g h → takes_from l d h ≡ takes_from l d g
same_takes l d g h s =
    λ i. same_id d.id g h s i
    && (eqb (sym s.dni i) l && (status_from_peer (sym s.peer i) d.status && switching_from_peer (sym s.peer i) d.switching))

module _ (a : ℕ) (f : Session → Session) (k : Keeps f) (s : (r : Session) → SameGroup r.group (f r).group) where
  same-holds : (p id : ℕ) (r : Session) → holds_group p id (f r) ≡ holds_group p id r
  same-holds p id r = λ i. is_of p (k r i).label && same_id id r.group (f r).group (s r) i

  same-label : (l : ℕ) (r : Session) → has_label l (f r) ≡ has_label l r
  same-label l r = λ i. eqb (k r i).label l

  -- what is found of an altered record is what was found of it
  found-same : (l : ℕ) (rs : List Session) → is_found (find l (update a f rs)) ≡ is_found (find l rs)
  unfolding find update
  found-same l [] = refl
  found-same l (r ∷ rs) =
      split (has_label a r)
      (λ e. split (has_label l r) (λ q. simp (e, q, same-label l r ∙ q)) (λ q. simp (e, q, same-label l r ∙ q)))
      (λ e. split (has_label l r) (λ q. simp (e, q)) (λ q. simp (e, q) (found-same l rs)))

  -- the holder of a group has the label that it had, and takes what it took
  holder-same : (p id : ℕ) (rs : List Session) → label_of (find_group p id (update a f rs)) ≡ label_of (find_group p id rs)
  unfolding find_group update
  holder-same p id [] = refl
  holder-same p id (r ∷ rs) =
      split (has_label a r)
      (λ e. split (holds_group p id r)
      (λ q. let q' : holds_group p id (f r) ≡ true = same-holds p id r ∙ q in rw (e, q, q') (ap (λ (g : Settings). g.label) (k r)))
      (λ q. let q' : holds_group p id (f r) ≡ false = same-holds p id r ∙ q in rw (e, q, q') refl))
      (λ e. split (holds_group p id r) (λ q. rw (e, q) refl) (λ q. rw (e, q) (holder-same p id rs)))

  taken-same : (l : ℕ) (d : Dhc) (p id : ℕ) (rs : List Session) → taken_by l d (find_group p id (update a f rs)) ≡ taken_by l d (find_group p id rs)
  unfolding find_group update
  taken-same l d p id [] = refl
  taken-same l d p id (r ∷ rs) =
      split (has_label a r)
      (λ e. split (holds_group p id r)
      (λ q. let q' : holds_group p id (f r) ≡ true = same-holds p id r ∙ q in rw (e, q, q') (same_takes l d r.group (f r).group (s r)))
      (λ q. let q' : holds_group p id (f r) ≡ false = same-holds p id r ∙ q in rw (e, q, q') refl))
      (λ e. split (holds_group p id r) (λ q. rw (e, q) refl) (λ q. rw (e, q) (taken-same l d p id rs)))

  -- of a table
  module _ (t : Table) (u : ℕ) where
    opens-after : open_of (altered t a f u) ≡ update a f (open_of t)
    unfolding altered
    opens-after = opens-altered a f absent t.occupied t.row

    pub found_after : (l : ℕ) → is_found (find l (open_of (altered t a f u))) ≡ is_found (find l (open_of t))
    found_after l = ap (λ (rs : List Session). is_found (find l rs)) opens-after ∙ found-same l (open_of t)

    pub holder-after : (p id : ℕ) → label_of (find_group p id (open_of (altered t a f u))) ≡ label_of (find_group p id (open_of t))
    holder-after p id = ap (λ (rs : List Session). label_of (find_group p id rs)) opens-after ∙ holder-same p id (open_of t)

    pub taken-after : (l : ℕ) (d : Dhc) (p id : ℕ) → taken_by l d (find_group p id (open_of (altered t a f u))) ≡ taken_by l d (find_group p id (open_of t))
    taken-after l d p id = ap (λ (rs : List Session). taken_by l d (find_group p id rs)) opens-after ∙ taken-same l d p id (open_of t)

-- a record with another PW of its group is answered as it was
module _ (a : ℕ) (d : Dhc) (u : ℕ) (l : ℕ) (m : List ℕ) where
  one-answered : (r : Session) → receive_answer (some (coordinated_in d u r)) m u ≡ receive_answer (some r) m u
  one-answered r =
      ap (λ (g : Settings). or_else (message_refusal m) (received_answer (coordinated_in d u r) u (received_as g (message_of m)))) (coordinated-settings r u d)
      ∙ ap (or_else (message_refusal m)) (answer-coordinated r u d (received_as r.settings (message_of m)))

  same-answered : (rs : List Session) → receive_answer (find l (update a (coordinated_in d u) rs)) m u ≡ receive_answer (find l rs) m u
  unfolding find update
  same-answered [] = refl
  same-answered (r ∷ rs) =
      let label : has_label l (coordinated_in d u r) ≡ has_label l r = ap (λ (g : Settings). eqb g.label l) (coordinated-settings r u d) in
      split (has_label a r)
      (λ e. split (has_label l r)
      (λ q. rw (e, q, label ∙ q) (one-answered r))
      (λ q. rw (e, q, label ∙ q) refl))
      (λ e. split (has_label l r) (λ q. rw (e, q) refl) (λ q. rw (e, q) (same-answered rs)))

  pub answered-after : (t : Table) → receive_answer (find l (open_of (altered t a (coordinated_in d u) u))) m u ≡ receive_answer (find l (open_of t)) m u
  unfolding altered
  answered-after t =
      ap (λ (rs : List Session). receive_answer (find l rs) m u) (opens-altered a (coordinated_in d u) absent t.occupied t.row)
      ∙ same-answered (open_of t)

-- one record altered twice
abbrev stored : ℕ → (Session → Session) → ℕ → List Session → List Session
stored l f on row = set row (place_of l on row) (f (get_or row (place_of l on row) absent))

stored-twice : (l : ℕ) (f g : Session → Session) → Keeps f → (on : ℕ) (row : List Session)
    → stored l g on (stored l f on row) ≡ stored l (λ r. g (f r)) on row
unfolding place_of
stored-twice l f g p on [] = refl
stored-twice l f g p on (r ∷ rs) =
    split (first_on on)
    (λ o. split (has_label l r)
    (λ a. let a' : has_label l (f r) ≡ true = rw (p r) a in simp (o, a, a'))
    (λ a. simp (o, a) (ap (λ (xs : List Session). r ∷ xs) (stored-twice l f g p (on / 2) rs))))
    (λ o. simp o (ap (λ (xs : List Session). r ∷ xs) (stored-twice l f g p (on / 2) rs)))

altered-twice : (t : Table) (l u : ℕ) (f g : Session → Session) → Keeps f → altered (altered t l f u) l g u ≡ altered t l (λ r. g (f r)) u
unfolding altered
altered-twice t l u f g p =
    let rows = stored-twice l f g p t.occupied t.row in
    (λ i. record { row = rows i; clock = u; occupied = t.occupied })

altered-same : (t : Table) (l u : ℕ) (f g : Session → Session) → ((r : Session) → f r ≡ g r) → altered t l f u ≡ altered t l g u
unfolding altered
altered-same t l u f g e = λ i. altered t l (λ r. e r i) u

-- two records altered, or one altered twice
pub altered-any : (t : Table) (a b u : ℕ) (f g : Session → Session) → Keeps f → Keeps g → ((r : Session) → g (f r) ≡ f (g r))
    → altered (altered t a f u) b g u ≡ altered (altered t b g u) a f u
altered-any t a b u f g p q e =
    split (eqb a b)
    (λ z.
    let one : (x y : ℕ) → x ≡ y → altered (altered t x f u) y g u ≡ altered (altered t y g u) x f u =
    λ x y w.
    ap (λ (n : ℕ). altered (altered t n f u) y g u) w
    ∙ (altered-twice t y u f g p ∙ altered-same t y u (λ r. g (f r)) (λ r. f (g r)) e ∙ sym (altered-twice t y u g f q))
    ∙ sym (ap (λ (n : ℕ). altered (altered t y g u) n f u) w) in
    one a b (eqb-true a b z))
    (λ z. altered-either t a b u f g p q z)
