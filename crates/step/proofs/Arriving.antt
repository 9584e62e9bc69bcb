-- A message that arrives on a label is the table's step.
-- Assumes nothing.
use Prim.Native.Nat.{ℕ, zero, suc, ◌^◌, ◌<◌}
use native.Mathlib.Omega.{arith}
use mathlib.Core.Path.{◌≡◌, refl, sym, ap, ◌∙◌}
use mathlib.Core.Bool.{true, false, cond}
use mathlib.Core.Option.{none, some}
use mathlib.Core.List.{List, [], ◌∷◌}
use lib.Dec.{eqb, ltb}
use lib.ListN.{length, get_or, set}
use borrow.Author.Tests.{le-ltb}
use Rattle.rules.specs.Calls.{Call, On, Receive, Said, number_only}
use Rattle.rules.specs.Times.{late}
use Rattle.rules.proofs.Bools.{split}
use Rattle.session.specs.declared.Session.{Session}
use Rattle.session.specs.Live.{is_fault, received_number, received_record}
use Rattle.session.proofs.LiveMessages.{bfd-acts, fault-acts}
use Rattle.table.specs.Places.{opens, place_of}
use Rattle.table.specs.Table.{in_order, find, absent, asked, act_answer, done, act_done, altered, receiving}
use Rattle.step.specs.declared.Arrival.{Arrival}
use Rattle.walks.specs.AtPlace.{at_place}
use Rattle.step.specs.Saying.{Steps}
use Rattle.step.specs.Stepping.{table_of, nowhere, Obeyed}
use Rattle.step.specs.Arriving.{message_in, met_at, unmet_of, received_of, receive_at}
use Rattle.step.proofs.TableStep.{place_found, steps-26, steps-sound}

-- an element put back where it was
put_back : (row : List Session) (i : ℕ) (d : Session) → set row i (get_or row i d) ≡ row
put_back [] i d = refl
put_back (r ∷ rs) zero d = refl
put_back (r ∷ rs) (suc i) d = ap (λ (ys : List Session). r ∷ ys) (put_back rs i d)

module _ (row : List Session) (long : length row < 2 ^ 64) (x : Arrival) (m : List ℕ) where
  abbrev z : Obeyed
  z = receive_at row x m

  abbrev heard : List ℕ
  heard = message_in x m

  -- no record is met
  unmet-is : ltb (met_at x) (length row) ≡ false → z ≡ record { outcome = unmet_of x; row = row }
  unfolding receive_at at_place
  unmet-is e = split (is_fault heard) (λ f. rw (f, e)) (λ f. rw (f, e))

  past : ltb nowhere (length row) ≡ false
  past = le-ltb nowhere (length row) (omega (arith, long))

  abbrev r : Session
  r = get_or row (met_at x) absent

  abbrev n : ℕ
  n = received_number r heard x.reading

  -- one is met: its own answer, and what the message makes of it
  met-is : ltb (met_at x) (length row) ≡ true → z ≡ record { outcome = received_of x n; row = set row (met_at x) (received_record r heard x.reading) }
  unfolding receive_at at_place
  met-is e =
      split (is_fault heard)
      (λ f. let w = fault-acts r heard x.reading f in rw (f, e, w.0, w.1))
      (λ f. let w = bfd-acts r heard x.reading f in rw (f, e, w.0, w.1))

  refused-record : eqb n 0 ≡ false → received_record r heard x.reading ≡ r
  unfolding received_record
  refused-record e = rw e

  taken-record : eqb n 0 ≡ true → received_record r heard x.reading ≡ receiving heard x.reading r
  unfolding received_record
  taken-record e = rw e

  module _ (l : ℕ) (o : x.sound ≡ in_order (table_of row x.head)) (at : in_order (table_of row x.head) ≡ true → x.place ≡ place_of l x.head.occupied row) where
    abbrev c : Call
    c = On l (Receive heard x.reading)

    -- what is asked where the label is found, of any record
    asked_is : late x.head.clock x.reading ≡ false → (y : Session) → find l (opens x.head.occupied row) ≡ some y → asked (table_of row x.head) c ≡ number_only c (received_number y heard x.reading)
    unfolding asked act_answer received_number
    asked_is a y f = rw (a, f)

    module _ (k : in_order (table_of row x.head) ≡ true) where
      found : find l (opens x.head.occupied row) ≡ cond (ltb x.place (length row)) (some (get_or row x.place absent)) none
      found = place_found l x.head.occupied row absent ∙ rw (at k)

      too-late : late x.head.clock x.reading ≡ true → Steps row x.head c z
      unfolding asked act_answer
      too-late a =
          let u = unmet-is (rw (o, k, a, past)) in
          rw u (steps-sound row x.head c (record { outcome = unmet_of x; row = row }) k (rw (o, k, a)) (rw (o, k, a)) (λ e. absurd (omega (arith, rw (o, k, a) at e))) (λ e. refl))

      nobody : late x.head.clock x.reading ≡ false → ltb x.place (length row) ≡ false → Steps row x.head c z
      unfolding asked act_answer
      nobody a b =
          let u = unmet-is (rw (o, k, a, b)) in
          rw u (steps-sound row x.head c (record { outcome = unmet_of x; row = row }) k (rw (o, k, a, found, b)) (rw (o, k, a, found, b)) (λ e. absurd (omega (arith, rw (o, k, a) at e))) (λ e. refl))

      met-place : late x.head.clock x.reading ≡ false → met_at x ≡ x.place
      met-place a = rw (o, k, a)

      left : late x.head.clock x.reading ≡ false → eqb n 0 ≡ true
          → table_of (set row (met_at x) (received_record r heard x.reading)) (received_of x n).head ≡ done (table_of row x.head) c
      unfolding done act_done altered
      left a e = rw (taken-record e, e, met-place a, at k)

      met : late x.head.clock x.reading ≡ false → ltb x.place (length row) ≡ true → Steps row x.head c z
      met a b =
          let p = met-place a in
          let u = met-is (rw p b) in
          let f : find l (opens x.head.occupied row) ≡ some r = found ∙ rw (b, p) in
          rw u
          (steps-sound row x.head c (record { outcome = received_of x n; row = set row (met_at x) (received_record r heard x.reading) }) k
          (sym (asked_is a r f))
          (ap (λ (y : Said). y.number) (asked_is a r f))
          (λ e. left a (ap (λ (y : ℕ). eqb y 0) e))
          (λ e. rw (e, refused-record e, put_back row (met_at x) absent)))

    pub receive-steps : Steps row x.head c z
    receive-steps =
        split (in_order (table_of row x.head))
        (λ k.
        split (late x.head.clock x.reading)
        (λ a. too-late k a)
        (λ a. split (ltb x.place (length row)) (λ b. met k a b) (λ b. nobody k a b)))
        (λ k.
        let u = unmet-is (rw (o, k, past)) in
        rw u (steps-26 row x.head c (record { outcome = unmet_of x; row = row }) k (rw (o, k)) refl refl))
