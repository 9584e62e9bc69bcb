-- Of a log whose answers are our run's: the record of the label and the clock that reading keeps are the table's, and the answer from them is the report after a tick to
-- the reading that is asked for.
-- Assumes nothing.
use Prim.Native.Nat.{ℕ, zero, suc, ◌≤◌}
use native.Mathlib.Omega.{arith}
use mathlib.Core.Path.{◌≡◌, refl, sym, ap, ◌∙◌}
use mathlib.Core.Bool.{true, false, cond}
use mathlib.Core.List.{List, [], ◌∷◌}
use lib.Dec.{eqb, ltb}
use borrow.Author.Tests.{eqb-true, eqb-false, ltb-false, le-ltb}
use Rattle.rules.specs.Times.{late}
use Rattle.rules.specs.Calls.{ReportOn, Tick, On, Said, is_accepted}
use Rattle.rules.proofs.Bools.{split}
use Rattle.rules.proofs.Ages.{not_late}
use Rattle.table.specs.Table.{Table, open_of, in_order, find, report_answer, act_answer, asked, answer, altered, added, closed, act_done, done, next}
use Rattle.table.proofs.Order.{order-kept}
use Rattle.table.proofs.Refusals.{refused-table}
use Rattle.capture.specs.declared.Record.{Record}
use Rattle.capture.specs.Records.{record_in, act_of, call_of}
use Rattle.own.specs.Records.{held_in, record_after}
use Rattle.own.proofs.Followed.{record-follows}
use Rattle.call_log.specs.declared.Point.{Point}
use Rattle.call_log.specs.declared.Ended.{Ended}
use Rattle.call_log.specs.Records.{Logged, logged_in, answer_in, body_in, behind}
use Rattle.call_log.specs.Reading.{clock_after, followed, more_of, read_to, ticked_to, answer_from}
use Rattle.call_log.specs.Runs.{Ours, behind_all, gone_through}

-- the clock behind an act, by its kind
act-clock : (t : Table) (l kind : ℕ) (body : List ℕ) (u : ℕ) → eqb kind 0 ≡ false → eqb kind 1 ≡ false
    → (act_done t l (act_of kind body u)).clock ≡ cond (ltb kind 6) u t.clock
unfolding act_done altered closed
act-clock t l kind body u nought one =
    split (eqb kind 2)
    (λ e. rw (e, eqb-true kind 2 e))
    (λ two. split (eqb kind 3)
    (λ e. rw (two, e, eqb-true kind 3 e))
    (λ three. split (eqb kind 4)
    (λ e. rw (two, three, e, eqb-true kind 4 e))
    (λ four. split (eqb kind 5)
    (λ e. rw (two, three, four, e, eqb-true kind 5 e))
    (λ five.
    let past : 6 ≤ kind = omega (arith, eqb-false kind 0 nought, eqb-false kind 1 one, eqb-false kind 2 two, eqb-false kind 3 three, eqb-false kind 4 four, eqb-false kind 5 five) in
    split (eqb kind 6)
    (λ e. rw (two, three, four, five, e, le-ltb kind 6 past))
    (λ six. split (eqb kind 7)
    (λ e. rw (two, three, four, five, six, e, le-ltb kind 6 past))
    (λ seven. rw (two, three, four, five, six, seven, le-ltb kind 6 past)))))))

-- the clock behind an accepted record
call-clock : (t : Table) (r : Record) (body : List ℕ) → (done t (call_of r body)).clock ≡ clock_after r t.clock
unfolding done call_of added
call-clock t r body =
    split (eqb r.kind 0)
    (λ e. rw (e, eqb-true r.kind 0 e))
    (λ other. split (eqb r.kind 1)
    (λ e. rw (other, e, eqb-true r.kind 1 e))
    (λ one. rw (other, one) (act-clock t r.label r.kind body r.time other one)))

pub next-clock : (t : Table) (r : Record) (body : List ℕ) → is_accepted (answer t (call_of r body)) ≡ true → (next t (call_of r body)).clock ≡ clock_after r t.clock
unfolding next
next-clock t r body e = rw e (call-clock t r body)

-- what an accepted record leaves, and a refused one
followed-taken : (l : ℕ) (s : List ℕ) (p : Point) → eqb (answer_in s) 0 ≡ true
    → followed l s p ≡ record { session = record_after (record_in s) (body_in s (record_in s).size) l p.session; clock = clock_after (record_in s) p.clock }
unfolding followed
followed-taken l s p e = rw e

followed-left : (l : ℕ) (s : List ℕ) (p : Point) → eqb (answer_in s) 0 ≡ false → followed l s p ≡ p
unfolding followed
followed-left l s p e = rw e

-- what reading keeps is what the table has: the record of the label, and the clock
pub record Agrees (l : ℕ) (t : Table) (p : Point) : Type 0 where
  pub own : find l (open_of t) ≡ held_in p.session
  pub clock : t.clock ≡ p.clock

module _ (l : ℕ) where
  -- one record
  pub agrees-next : (t : Table) (s : List ℕ) (p : Point) → in_order t ≡ true → Agrees l t p → answer_in s ≡ (answer t (logged_in s).call).number
      → Agrees l (next t (logged_in s).call) (followed l s p)
  agrees-next t s p o a said =
      let r = record_in s in
      let body = body_in s r.size in
      let number : is_accepted (answer t (call_of r body)) ≡ eqb (answer_in s) 0 = ap (λ (n : ℕ). eqb n 0) (sym said) in
      split (eqb (answer_in s) 0)
      (λ e.
      let yes : is_accepted (answer t (call_of r body)) ≡ true = number ∙ e in
      rw (followed-taken l s p e)
      (record {
        own = record-follows t l r body p.session o yes a.own;
        clock = next-clock t r body yes ∙ ap (clock_after r) a.clock;
      }))
      (λ e. rw (followed-left l s p e, refused-table t (call_of r body) (number ∙ e)) a)

  -- at most n records
  pub agrees-read : (n until : ℕ) (t : Table) (s : List ℕ) (p : Point) → in_order t ≡ true → Agrees l t p → Ours t (gone_through n until s)
      → Agrees l (behind_all t (gone_through n until s)) (read_to n l until s p).point
  unfolding gone_through behind_all read_to Ours
  agrees-read zero until t s p o a ours = a
  agrees-read (suc n) until t s p o a ours =
      split (more_of until (suc n) s)
      (λ e.
      let w = rw e at ours in
      let c = (logged_in s).call in
      rw e (agrees-read n until (next t c) (behind s) (followed l s p) (order-kept t c o) (agrees-next t s p o a w.0) w.1))
      (λ e. rw e a)

-- a table in order stays in order behind any records
pub order-behind : (t : Table) (gs : List Logged) → in_order t ≡ true → in_order (behind_all t gs) ≡ true
unfolding behind_all
order-behind t [] o = o
order-behind t (g ∷ gs) o = order-behind (next t g.call) gs (order-kept t g.call o)

-- the report after a tick to the reading, where that is taken
abbrev pub reported : Table → ℕ → ℕ → Said
reported t u l = answer (next t (Tick u)) (On l ReportOn)

abbrev ticked : Table → ℕ → Table
ticked t u = record { row = t.row; clock = u; occupied = t.occupied }

ticked-is : (t : Table) (u : ℕ) → in_order t ≡ true → late t.clock u ≡ false → next t (Tick u) ≡ ticked t u
unfolding next answer asked done
ticked-is t u o h = rw (o, h)

said-on : (t : Table) (l : ℕ) → in_order t ≡ true → answer t (On l ReportOn) ≡ report_answer (On l ReportOn) t.clock (find l (open_of t))
unfolding answer asked act_answer
said-on t l o = rw o

reported-is : (t : Table) (u l : ℕ) → in_order t ≡ true → late t.clock u ≡ false → reported t u l ≡ report_answer (On l ReportOn) u (find l (open_of t))
reported-is t u l o h =
    let e = ticked-is t u o h in
    ap (λ (x : Table). answer x (On l ReportOn)) e ∙ said-on (ticked t u) l (sym (ap in_order e) ∙ order-kept t (Tick u) o)

-- the clock is taken to the reading
taken-to : (clock u : ℕ) → clock ≤ u → ticked_to clock u ≡ u
taken-to clock u h = split (ltb clock u) (λ e. rw e) (λ e. rw e (omega (arith, ltb-false clock u e)))

-- the answer from where reading ends is the report after a tick to the reading
pub answer-reports : (t : Table) (u l : ℕ) (e : Ended) (looked : ℕ) → in_order t ≡ true → Agrees l t e.point → late t.clock u ≡ false → e.cut ≡ false
    → ((answer_from e u looked).answer ≡ (reported t u l).number) × ((answer_from e u looked).report ≡ (reported t u l).report)
unfolding answer_from
answer-reports t u l e looked o a h whole =
    let said = reported-is t u l o h ∙ ap (report_answer (On l ReportOn) u) a.own in
    let s = e.point.session in
    let clock : ticked_to e.point.clock u ≡ u = taken-to e.point.clock u (omega (arith, not_late t.clock u h, a.clock)) in
    split (eqb s.settings.label 0)
    (λ z. rw (said, whole, z) (refl, refl))
    (λ z. rw (said, whole, z, clock) (refl, refl))
