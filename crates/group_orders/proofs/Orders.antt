-- Two messages of one reading on two labels, in either order: for every table, in order or not, and whatever the messages are by their headers.
-- Assumes nothing.
use Prim.Native.Nat.{ℕ}
use native.Mathlib.Omega.{arith}
use mathlib.Core.Path.{◌≡◌, refl, sym, ap, ◌∙◌}
use mathlib.Core.Bool.{Bool, true, false, cond}
use mathlib.Core.List.{List}
use lib.Dec.{eqb, ltb}
use borrow.Author.Tests.{eqb-true, le-ltb}
use Rattle.octets.specs.Choice.{need, bar, or_else}
use Rattle.octets.proofs.Chain.{bar-passed}
use Rattle.coordination.specs.declared.Dhc.{Dhc}
use Rattle.coordination.specs.Message.{dhc_refusal, dhc_of}
use Rattle.message.specs.Message.{message_of}
use Rattle.rules.specs.Received.{received_as}
use Rattle.rules.specs.Times.{latest, late}
use Rattle.rules.specs.Parties.{party_of}
use Rattle.rules.specs.Calls.{Receive, Call, On, is_accepted, number_only}
use Rattle.rules.proofs.Bools.{split, no_way, or_right, true-false}
use Rattle.homing.specs.Events.{SameGroup}
use Rattle.session.specs.declared.Session.{Session}
use Rattle.session.proofs.Received.{received-keeps}
use Rattle.table.specs.Table.{Table, open_of, in_order, find, receive_answer, act_answer, asked, answer, altered, receiving, act_done, done, next}
use Rattle.table.proofs.Refusals.{refused-table}
use Rattle.table.proofs.Exchange.{Keeps, other_way, answer-beside, next-either}
use Rattle.grouping.specs.Commands.{Command, Ordinary, Coordinate, is_dhc, silent}
use Rattle.grouping.specs.Grouped.{label_of, holder_of, coordinate_number, answer_to, coordinated_in, done_by, next_by}
use Rattle.grouping.proofs.Accepted.{coordinating, reading-passed}
use Rattle.grouping.proofs.Order.{refused-stays, order-by-same}
use Rattle.group_orders.specs.Orders.{EitherFirst}
use Rattle.group_orders.proofs.Meeting.{coordinated-settings, coordinated-same, coordinated-coordinated, received-same, receiving-coordinated}
use Rattle.group_orders.proofs.Beside.{found_after, holder-after, taken-after, answered-after, altered-any}

-- a message as it is received: a DHC message by its header, or another
abbrev coming : Bool → ℕ → List ℕ → ℕ → Command
coming dhc l m u = cond dhc (Coordinate l m u) (Ordinary (On l (Receive m u)))

-- the label of the record that it alters, and what it makes of that
abbrev target : Bool → Table → ℕ → List ℕ → ℕ
target true t l m = label_of (holder_of l (dhc_of m) (open_of t))
target false t l m = l

abbrev effect : Bool → List ℕ → ℕ → Session → Session
effect true m u r = coordinated_in (dhc_of m) u r
effect false m u r = receiving m u r

effect-keeps : (b : Bool) (m : List ℕ) (u : ℕ) → Keeps (effect b m u)
effect-keeps true m u r = coordinated-settings r u (dhc_of m)
effect-keeps false m u r = received-keeps r u (received_as r.settings (message_of m))

effect-same : (b : Bool) (m : List ℕ) (u : ℕ) (r : Session) → SameGroup r.group (effect b m u r).group
effect-same true m u r = coordinated-same r u (dhc_of m)
effect-same false m u r = received-same r u (received_as r.settings (message_of m))

-- an accepted one is not late
in-time : (b : Bool) (t : Table) (l : ℕ) (m : List ℕ) (u : ℕ) → is_accepted (answer_to t (coming b l m u)) ≡ true → late t.clock u ≡ false
in-time true t l m u a = reading-passed t (coordinating {l = l} {m = m} {u = u}) a
in-time false t l m u a =
    unfold answer_to answer asked act_answer in
    split (in_order t)
    (λ o. (bar-passed (late t.clock u) 0 (receive_answer (find l (open_of t)) m u) (eqb-true _ 0 (rw o at a))).0)
    (λ o. no_way (rw o at a) refl)

late-again : (clock u : ℕ) → late clock u ≡ false → late u u ≡ false
unfolding late
late-again clock u e = split (ltb latest u) (λ a. absurd (true-false (or_right (ltb u clock) a) e)) (λ a. simp (le-ltb u u (omega arith), a))

-- what an accepted one leaves
goes : (b : Bool) (t : Table) (l : ℕ) (m : List ℕ) (u : ℕ) → is_accepted (answer_to t (coming b l m u)) ≡ true
    → next_by t (coming b l m u) ≡ altered t (target b t l m) (effect b m u) u
goes true t l m u a = unfold next_by done_by in rw a
goes false t l m u a = unfold next_by done_by answer_to next done act_done in rw a

-- the clock of an altered table is the reading
late-after : (t : Table) (a u : ℕ) (f : Session → Session) → late t.clock u ≡ false → late (altered t a f u).clock u ≡ late t.clock u
unfolding altered
late-after t a u f e = late-again t.clock u e ∙ sym e

-- behind an accepted message a DHC message has the number that it had
number-after : (t : Table) (a u : ℕ) (f : Session → Session) → Keeps f → ((r : Session) → SameGroup r.group (f r).group) → late t.clock u ≡ false
    → (l : ℕ) (m : List ℕ) → coordinate_number (altered t a f u) l m u ≡ coordinate_number t l m u
unfolding coordinate_number
number-after t a u f k s e l m =
    let d = dhc_of m in
    let late-same = late-after t a u f e in
    let found = found_after a f k s t u l in
    let taken = taken-after a f k s t u l d (party_of l) d.id in
    λ i. bar (late-same i) 1 (need (found i) 2 (or_else (dhc_refusal m) (need (taken i) 24 0)))

-- and is answered as it was
coordinate-beside : (b : Bool) (t : Table) (l k : ℕ) (m n : List ℕ) (u : ℕ)
    → answer_to (next_by t (coming b l m u)) (Coordinate k n u) ≡ answer_to t (Coordinate k n u)
unfolding answer_to
coordinate-beside b t l k m n u =
    let c = coming b l m u in
    let number : coordinate_number (next_by t c) k n u ≡ coordinate_number t k n u =
    split (is_accepted (answer_to t c))
    (λ a. ap (λ (x : Table). coordinate_number x k n u) (goes b t l m u a)
    ∙ number-after t (target b t l m) u (effect b m u) (effect-keeps b m u) (effect-same b m u) (in-time b t l m u a) k n)
    (λ a. ap (λ (x : Table). coordinate_number x k n u) (refused-stays t c a)) in
    λ i. silent (need (order-by-same t c i) 26 (number i))

-- another is answered as it was behind a DHC message
asked-after : (t : Table) (a u : ℕ) (d : Dhc) → late t.clock u ≡ false → (k : ℕ) (n : List ℕ)
    → asked (altered t a (coordinated_in d u) u) (On k (Receive n u)) ≡ asked t (On k (Receive n u))
unfolding asked act_answer
asked-after t a u d e k n =
    let late-same = late-after t a u (coordinated_in d u) e in
    let same = answered-after a d u k n t in
    λ i. number_only (On k (Receive n u)) (bar (late-same i) 1 (same i))

asked-beside : (t : Table) (l k : ℕ) (m n : List ℕ) (u : ℕ) → asked (next_by t (Coordinate l m u)) (On k (Receive n u)) ≡ asked t (On k (Receive n u))
asked-beside t l k m n u =
    let c = Coordinate l m u in
    let e = On k (Receive n u) in
    split (is_accepted (answer_to t c))
    (λ a. ap (λ (x : Table). asked x e) (goes true t l m u a) ∙ asked-after t (target true t l m) u (dhc_of m) (in-time true t l m u a) k n)
    (λ a. ap (λ (x : Table). asked x e) (refused-stays t c a))

receive-beside : (t : Table) (l k : ℕ) (m n : List ℕ) (u : ℕ)
    → answer_to (next_by t (Coordinate l m u)) (Ordinary (On k (Receive n u))) ≡ answer_to t (Ordinary (On k (Receive n u)))
unfolding answer_to answer
receive-beside t l k m n u =
    λ i. cond (order-by-same t (Coordinate l m u) i) (asked-beside t l k m n u i) (number_only (On k (Receive n u)) 26)

-- an ordinary call leaves what it always left
next-ordinary : (t : Table) (c : Call) → next_by t (Ordinary c) ≡ next t c
unfolding next_by answer_to done_by
next-ordinary t c = split (is_accepted (answer t c)) (λ a. rw a) (λ a. rw a (sym (refused-table t c a)))

received-beside : (t : Table) (l k : ℕ) (m n : List ℕ) (u : ℕ) → eqb l k ≡ false
    → answer_to (next_by t (Ordinary (On l (Receive m u)))) (Ordinary (On k (Receive n u))) ≡ answer_to t (Ordinary (On k (Receive n u)))
unfolding answer_to
received-beside t l k m n u d =
    ap (λ (x : Table). answer x (On k (Receive n u))) (next-ordinary t (On l (Receive m u))) ∙ answer-beside t k l n m u (other_way l k d)

-- in all four cases
beside : (b c : Bool) (t : Table) (l k : ℕ) (m n : List ℕ) (u : ℕ) → eqb l k ≡ false
    → answer_to (next_by t (coming b l m u)) (coming c k n u) ≡ answer_to t (coming c k n u)
beside b true t l k m n u d = coordinate-beside b t l k m n u
beside true false t l k m n u d = receive-beside t l k m n u
beside false false t l k m n u d = received-beside t l k m n u d

-- the record that a message alters is the same behind another
target-after : (b : Bool) (t : Table) (a u : ℕ) (f : Session → Session) → Keeps f → ((r : Session) → SameGroup r.group (f r).group) → (l : ℕ) (m : List ℕ)
    → target b (altered t a f u) l m ≡ target b t l m
target-after true t a u f k s l m = holder-after a f k s t u (party_of l) (dhc_of m).id
target-after false t a u f k s l m = refl

-- two accepted ones
module _ (b c : Bool) (t : Table) (l k : ℕ) (m n : List ℕ) (u : ℕ) (d : eqb l k ≡ false) where
  both-gone : is_accepted (answer_to t (coming b l m u)) ≡ true → is_accepted (answer_to t (coming c k n u)) ≡ true
      → next_by (next_by t (coming b l m u)) (coming c k n u) ≡ altered (altered t (target b t l m) (effect b m u) u) (target c t k n) (effect c n u) u
  both-gone p q =
      let here = goes b t l m u p in
      goes c (next_by t (coming b l m u)) k n u (ap is_accepted (beside b c t l k m n u d) ∙ q)
      ∙ ap (λ (x : Table). altered x (target c x k n) (effect c n u) u) here
      ∙ ap (λ (x : ℕ). altered (altered t (target b t l m) (effect b m u) u) x (effect c n u) u)
      (target-after c t (target b t l m) u (effect b m u) (effect-keeps b m u) (effect-same b m u) k n)

exchanged : (b c : Bool) (t : Table) (l k : ℕ) (m n : List ℕ) (u : ℕ) → eqb l k ≡ false → ((r : Session) → effect c n u (effect b m u r) ≡ effect b m u (effect c n u r))
    → next_by (next_by t (coming b l m u)) (coming c k n u) ≡ next_by (next_by t (coming c k n u)) (coming b l m u)
exchanged b c t l k m n u d e =
    let x = coming b l m u in
    let y = coming c k n u in
    let x-same = beside c b t k l n m u (other_way l k d) in
    let y-same = beside b c t l k m n u d in
    split (is_accepted (answer_to t x))
    (λ p. split (is_accepted (answer_to t y))
    (λ q.
    both-gone b c t l k m n u d p q
    ∙ altered-any t (target b t l m) (target c t k n) u (effect b m u) (effect c n u) (effect-keeps b m u) (effect-keeps c n u) e
    ∙ sym (both-gone c b t k l n m u (other_way l k d) q p))
    (λ q. refused-stays (next_by t x) y (ap is_accepted y-same ∙ q) ∙ sym (ap (λ (s : Table). next_by s x) (refused-stays t y q))))
    (λ p. ap (λ (s : Table). next_by s y) (refused-stays t x p) ∙ sym (refused-stays (next_by t y) x (ap is_accepted x-same ∙ p)))

-- two ordinary ones
both-ordinary : (t : Table) (c e : Call) → next_by (next_by t (Ordinary c)) (Ordinary e) ≡ next (next t c) e
both-ordinary t c e = next-ordinary (next_by t (Ordinary c)) e ∙ ap (λ (x : Table). next x e) (next-ordinary t c)

-- one table, in all four cases
either : (b c : Bool) (t : Table) (l k : ℕ) (m n : List ℕ) (u : ℕ) → eqb l k ≡ false
    → next_by (next_by t (coming b l m u)) (coming c k n u) ≡ next_by (next_by t (coming c k n u)) (coming b l m u)
either true true t l k m n u d = exchanged true true t l k m n u d (λ r. coordinated-coordinated r u (dhc_of n) (dhc_of m))
either true false t l k m n u d = exchanged true false t l k m n u d (λ r. receiving-coordinated n (dhc_of m) u r)
either false true t l k m n u d = exchanged false true t l k m n u d (λ r. sym (receiving-coordinated m (dhc_of n) u r))
either false false t l k m n u d =
    both-ordinary t (On l (Receive m u)) (On k (Receive n u))
    ∙ next-either t l k m n u d
    ∙ sym (both-ordinary t (On k (Receive n u)) (On l (Receive m u)))

-- which each is, its header says
pub either_first : EitherFirst
either_first t l k d m n u =
    record {
      first = beside (is_dhc n) (is_dhc m) t k l n m u (other_way l k d);
      second = beside (is_dhc m) (is_dhc n) t l k m n u d;
      table = either (is_dhc m) (is_dhc n) t l k m n u d;
    }
