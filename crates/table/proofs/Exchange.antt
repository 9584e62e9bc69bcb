-- Two messages received at one reading on two labels: neither moves what the other is answered or the record that it alters, so either may come
-- first. For every table, in order or not.
-- Assumes nothing.
use Prim.Native.Nat.{ℕ, ◌/◌, ◌≤◌}
use native.Mathlib.Omega.{arith}
use mathlib.Core.Path.{◌≡◌, refl, sym, ap, ◌∙◌}
use mathlib.Core.Bool.{true, false}
use mathlib.Core.List.{List, [], ◌∷◌}
use lib.ListN.{get_or, set}
use lib.Dec.{eqb, ltb}
use borrow.Author.Tests.{eqb-true, eqb-false, ne_eqb, le-ltb}
use Rattle.octets.specs.Choice.{bar}
use Rattle.octets.proofs.Chain.{bar-passed}
use Rattle.message.specs.Message.{message_of}
use Rattle.rules.specs.Times.{latest, late}
use Rattle.rules.specs.Received.{received_as}
use Rattle.rules.specs.Calls.{Receive, Call, Tick, On, is_accepted, number_only}
use Rattle.rules.proofs.Bools.{split, no_way, or_right, refuted, true-false}
use Rattle.rules.proofs.Ages.{not_late}
use Rattle.session.specs.declared.Session.{Session}
use Rattle.session.proofs.Received.{received-keeps}
use Rattle.table.specs.Places.{first_on, has_label, place_of}
use Rattle.table.specs.Table.{Table, open_of, in_order, find, receive_answer, act_answer, asked, answer, absent, altered, receiving, act_done, done, next}
use Rattle.table.proofs.Rows.{opens-altered, one_label_lem, find-update-other}
use Rattle.table.proofs.Order.{order_same, unordered-stays}
use Rattle.table.proofs.Refusals.{refused-table}

-- a record is altered and keeps its settings
abbrev pub Keeps : (Session → Session) → Type 0
Keeps f = (r : Session) → (f r).settings ≡ r.settings

-- the open record of a label altered in its place
abbrev stored : ℕ → (Session → Session) → ℕ → List Session → List Session
stored l f on row = set row (place_of l on row) (f (get_or row (place_of l on row) absent))

pub other_way : (l k : ℕ) → eqb l k ≡ false → eqb k l ≡ false
other_way l k d = ne_eqb k l (λ z. eqb-false l k d (sym z))

-- two records altered, in either order
pub stored-either : (l k : ℕ) (f g : Session → Session) → Keeps f → Keeps g → eqb l k ≡ false → (on : ℕ) (row : List Session)
    → stored k g on (stored l f on row) ≡ stored l f on (stored k g on row)
unfolding place_of
stored-either l k f g p q d on [] = refl
stored-either l k f g p q d on (r ∷ rs) =
    split (first_on on)
    (λ o. split (has_label l r)
    (λ a.
    let b : has_label k r ≡ false = one_label_lem l k r d a in
    let b' : has_label k (f r) ≡ false = rw (p r) b in
    simp (o, a, b, b'))
    (λ a. split (has_label k r)
    (λ b. let a' : has_label l (g r) ≡ false = rw (q r) a in simp (o, a, b, a'))
    (λ b. simp (o, a, b) (ap (λ (xs : List Session). r ∷ xs) (stored-either l k f g p q d (on / 2) rs)))))
    (λ o. simp o (ap (λ (xs : List Session). r ∷ xs) (stored-either l k f g p q d (on / 2) rs)))

pub altered-either : (t : Table) (l k u : ℕ) (f g : Session → Session) → Keeps f → Keeps g → eqb l k ≡ false
    → altered (altered t l f u) k g u ≡ altered (altered t k g u) l f u
unfolding altered
altered-either t l k u f g p q d =
    let rows = stored-either l k f g p q d t.occupied t.row in
    (λ i. record { row = rows i; clock = u; occupied = t.occupied })

-- what another label's altered record leaves to be found
pub found-beside : (t : Table) (l k u : ℕ) (g : Session → Session) → Keeps g → eqb l k ≡ false → find l (open_of (altered t k g u)) ≡ find l (open_of t)
unfolding altered
found-beside t l k u g q d =
    ap (find l) (opens-altered k g absent t.occupied t.row) ∙ find-update-other k l g (open_of t) q (other_way l k d)

receive-keeps : (m : List ℕ) (u : ℕ) → Keeps (receiving m u)
receive-keeps m u r = received-keeps r u (received_as r.settings (message_of m))

-- a reading that is not late is not late a second time
late-again : (clock u : ℕ) → late clock u ≡ false → late u u ≡ false
unfolding late
late-again clock u e = split (ltb latest u) (λ a. absurd (true-false (or_right (ltb u clock) a) e)) (λ a. simp (le-ltb u u (omega arith), a))

-- an accepted message on another label leaves what this one is answered
asked-beside : (t : Table) (l k : ℕ) (m n : List ℕ) (u : ℕ) → eqb l k ≡ false → is_accepted (asked t (On k (Receive n u))) ≡ true
    → asked (done t (On k (Receive n u))) (On l (Receive m u)) ≡ asked t (On l (Receive m u))
unfolding asked act_answer done act_done
asked-beside t l k m n u d e =
    let in-time = (bar-passed (late t.clock u) 0 (receive_answer (find k (open_of t)) n u) (eqb-true _ 0 e)).0 in
    let found = found-beside t l k u (receiving n u) (receive-keeps n u) d in
    let same : late (altered t k (receiving n u) u).clock u ≡ late t.clock u = unfold altered in late-again t.clock u in-time ∙ sym in-time in
    λ i. number_only (On l (Receive m u)) (bar (same i) 1 (receive_answer (found i) m u))

in-order-asked : (t : Table) (c : Call) → in_order t ≡ true → answer t c ≡ asked t c
unfolding answer
in-order-asked t c o = rw o

accepted-goes : (t : Table) (c : Call) → is_accepted (answer t c) ≡ true → next t c ≡ done t c
unfolding next
accepted-goes t c a = rw a

pub answer-beside : (t : Table) (l k : ℕ) (m n : List ℕ) (u : ℕ) → eqb l k ≡ false
    → answer (next t (On k (Receive n u))) (On l (Receive m u)) ≡ answer t (On l (Receive m u))
answer-beside t l k m n u d =
    let c = On l (Receive m u) in
    let e = On k (Receive n u) in
    split (is_accepted (answer t e))
    (λ a. split (in_order t)
    (λ o.
    let goes = accepted-goes t e a in
    let kept : in_order (done t e) ≡ true = sym (ap in_order goes) ∙ order_same t e ∙ o in
    let passed : is_accepted (asked t e) ≡ true = ap is_accepted (sym (in-order-asked t e o)) ∙ a in
    ap (λ (x : Table). answer x c) goes
    ∙ in-order-asked (done t e) c kept
    ∙ asked-beside t l k m n u d passed
    ∙ sym (in-order-asked t c o))
    (λ o. ap (λ (x : Table). answer x c) (unordered-stays t e o)))
    (λ a. ap (λ (x : Table). answer x c) (refused-table t e a))

done-either : (t : Table) (l k : ℕ) (m n : List ℕ) (u : ℕ) → eqb l k ≡ false
    → done (done t (On l (Receive m u))) (On k (Receive n u)) ≡ done (done t (On k (Receive n u))) (On l (Receive m u))
unfolding done act_done
done-either t l k m n u d = altered-either t l k u (receiving m u) (receiving n u) (receive-keeps m u) (receive-keeps n u) d

-- the same table, whichever comes first
pub next-either : (t : Table) (l k : ℕ) (m n : List ℕ) (u : ℕ) → eqb l k ≡ false
    → next (next t (On l (Receive m u))) (On k (Receive n u)) ≡ next (next t (On k (Receive n u))) (On l (Receive m u))
next-either t l k m n u d =
    let c = On l (Receive m u) in
    let e = On k (Receive n u) in
    let c-same = answer-beside t l k m n u d in
    let e-same = answer-beside t k l n m u (other_way l k d) in
    split (is_accepted (answer t c))
    (λ a. split (is_accepted (answer t e))
    (λ b.
    accepted-goes (next t c) e (ap is_accepted e-same ∙ b)
    ∙ ap (λ (x : Table). done x e) (accepted-goes t c a)
    ∙ done-either t l k m n u d
    ∙ ap (λ (x : Table). done x c) (sym (accepted-goes t e b))
    ∙ sym (accepted-goes (next t e) c (ap is_accepted c-same ∙ a)))
    (λ b. refused-table (next t c) e (ap is_accepted e-same ∙ b) ∙ sym (ap (λ (x : Table). next x c) (refused-table t e b))))
    (λ a. ap (λ (x : Table). next x e) (refused-table t c a) ∙ sym (refused-table (next t e) c (ap is_accepted c-same ∙ a)))

-- ticks

late-through : (clock a b : ℕ) → late clock a ≡ false → late a b ≡ false → late clock b ≡ false
unfolding late
late-through clock a b p q =
    let h : clock ≤ a = not_late clock a (unfold late in p) in
    let k : a ≤ b = not_late a b (unfold late in q) in
    let e : ltb latest b ≡ false = refuted (ltb latest b) (λ z. true-false (or_right (ltb b a) z) q) in
    simp (le-ltb b clock (omega arith), e)

tick-passed : (t : Table) (u : ℕ) → is_accepted (answer t (Tick u)) ≡ true → (in_order t ≡ true) × (late t.clock u ≡ false)
unfolding answer asked
tick-passed t u e =
    split (in_order t)
    (λ o. (o, (bar-passed (late t.clock u) 0 0 (eqb-true _ 0 (rw o at e))).0))
    (λ o. no_way (rw o at e) refl)

tick_goes : (t : Table) (u : ℕ) → in_order t ≡ true → late t.clock u ≡ false → is_accepted (answer t (Tick u)) ≡ true
unfolding answer asked
tick_goes t u o e = rw (o, e)

last-tick : (t : Table) (a b : ℕ) → done (done t (Tick a)) (Tick b) ≡ done t (Tick b)
unfolding done
last-tick t a b = refl

clock-ticked : (t : Table) (a : ℕ) → (done t (Tick a)).clock ≡ a
unfolding done
clock-ticked t a = refl

-- two that are both accepted leave what the second leaves alone, which is accepted alone too
pub tick-alone : (t : Table) (a b : ℕ) → is_accepted (answer t (Tick a)) ≡ true → is_accepted (answer (next t (Tick a)) (Tick b)) ≡ true
    → (is_accepted (answer t (Tick b)) ≡ true) × (next (next t (Tick a)) (Tick b) ≡ next t (Tick b))
tick-alone t a b p q =
    let first = tick-passed t a p in
    let second = tick-passed (next t (Tick a)) b q in
    let clock : (next t (Tick a)).clock ≡ a = ap (λ (x : Table). x.clock) (accepted-goes t (Tick a) p) ∙ clock-ticked t a in
    let goes = tick_goes t b first.0 (late-through t.clock a b first.1 (sym (ap (λ (c : ℕ). late c b) clock) ∙ second.1)) in (
      goes,
      accepted-goes (next t (Tick a)) (Tick b) q
          ∙ ap (λ (x : Table). done x (Tick b)) (accepted-goes t (Tick a) p)
          ∙ last-tick t a b
          ∙ sym (accepted-goes t (Tick b) goes),
    )
