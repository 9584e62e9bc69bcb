-- The answer on a row that was scanned is the table's, and leaves it as it is: for every row, clock, set and question.
-- Assumes nothing.
use Prim.Native.Nat.{ℕ}
use mathlib.Core.Path.{◌≡◌, refl, sym, ap, ◌∙◌}
use mathlib.Core.Bool.{true, cond}
use mathlib.Core.Option.{Option, none, some}
use mathlib.Core.List.{List}
use lib.Dec.{eqb}
use lib.ListN.{get_or}
use Rattle.octets.specs.Choice.{need, Answer, accepted, refused}
use Rattle.rules.proofs.Bools.{split}
use Rattle.session.specs.declared.Session.{Session}
use Rattle.table.specs.declared.Head.{Head}
use Rattle.table.specs.Places.{opens, place_of}
use Rattle.table.specs.Table.{in_order, find, absent}
use Rattle.scan.specs.declared.Summary.{Summary}
use Rattle.scan.specs.Passing.{summary_of}
use Rattle.scan.proofs.Scanned.{summary-sound, summary-place}
use Rattle.step.specs.Requests.{aimed_at}
use Rattle.step.specs.Stepping.{table_of, is_place}
use Rattle.step.proofs.TableStep.{place_found, of-64}
use Rattle.cause.specs.declared.Thing.{Thing}
use Rattle.live.specs.declared.LiveQuestion.{LiveQuestion}
use Rattle.live.specs.declared.LiveCause.{LiveCause}
use Rattle.live.specs.Live.{asked_label, Dated, cause_live, without_number, live_in, live_of, thing_of, told_of, asking, answer_of, step_of, why_at}

-- by the record that was found, or none
found-live : (r : Session) (place now : ℕ) (thing : Option Thing)
    → without_number (cond (eqb (need (is_place place) 2 0) 0) (cause_live r now thing) (refused (need (is_place place) 2 0))) ≡ live_in (cond (is_place place) (some r) none) now thing
found-live r place now thing = split (is_place place) (λ z. rw z) (λ z. rw z)

module _ (row : List Session) (head : Head) (seen : Summary) (l : ℕ) (sound : seen.sound ≡ in_order (table_of row head))
    (at : in_order (table_of row head) ≡ true → seen.place ≡ place_of l head.occupied row) where
  abbrev r : Session
  r = get_or row seen.place absent

  found : in_order (table_of row head) ≡ true → find l (opens head.occupied row) ≡ cond (is_place seen.place) (some r) none
  found k = place_found l head.occupied row absent ∙ rw (of-64 row head k, at k)

  pub answer-live : (thing : Option Thing) → without_number (answer_of seen head.clock thing r) ≡ live_of (table_of row head) l thing
  unfolding answer_of live_of
  answer-live thing =
      split (in_order (table_of row head))
      (λ k. rw (sound ∙ k, k) (found-live r seen.place head.clock thing ∙ ap (λ (o : Option Session). live_in o head.clock thing) (sym (found k))))
      (λ k. rw (sound ∙ k, k))

-- clock and set are told as they are
told-head : (head : Head) (a : Answer Dated) → (told_of head a).head ≡ head
told-head head (accepted c) = refl
told-head head (refused n) = refl

pub why-head : (row : List Session) (head : Head) (seen : Summary) (q : LiveQuestion) → (why_at row head seen q).head ≡ head
unfolding why_at step_of
why-head row head seen q = told-head head (without_number (answer_of seen head.clock (thing_of q) (get_or row seen.place absent)))

-- what is told on a row that was scanned
pub why-told : (row : List Session) (head : Head) (q : LiveQuestion)
    → why_at row head (summary_of row head (aimed_at (asked_label q))) q ≡ told_of head (live_of (table_of row head) (asked_label q) (thing_of q))
unfolding why_at step_of
why-told row head q =
    let t = aimed_at (asked_label q) in
    ap (told_of head) (answer-live row head (summary_of row head t) (asked_label q) (summary-sound row head t) (summary-place row head t) (thing_of q))

-- the question, from what is told, the last row and the last head
pub asked-live : (row : List Session) (head : Head) (q : LiveQuestion) (told : LiveCause) (rest : List Session)
    → told ≡ why_at row head (summary_of row head (aimed_at (asked_label q))) q → rest ≡ row → record { cause = told; table = table_of rest told.head } ≡ asking (table_of row head) q
unfolding asking
asked-live row head q told rest e f =
    let h : told.head ≡ head = ap (λ (u : LiveCause). u.head) e ∙ why-head row head _ q in
    let u : told ≡ _ = e ∙ why-told row head q in
    λ i. record { cause = u i; table = table_of (f i) (h i) }
