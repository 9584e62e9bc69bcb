-- What the code notes of a capture's record, by value, is what the run notes of its call, where that is accepted.
-- Assumes nothing.
use Prim.Native.Nat.{ℕ}
use native.Mathlib.Omega.{arith}
use mathlib.Core.Path.{◌≡◌, refl, sym, ap, ◌∙◌, subst}
use mathlib.Core.Bool.{Bool, true, false, cond}
use mathlib.Core.Option.{Option, none, some}
use mathlib.Core.List.{List}
use lib.Dec.{eqb, ltb}
use lib.ListN.{length, get_or}
use lib.Seq.{sets}
use borrow.Author.Tests.{eqb-true, eq-eqb}
use Rattle.octets.proofs.Chain.{bar-passed}
use Rattle.rules.specs.Times.{late}
use Rattle.rules.specs.Calls.{Act, Close, Lock, Unlock, Receive, ReportOn, WriteCc, WriteCv, Call, On, is_accepted, number_only}
use Rattle.rules.proofs.Bools.{split, no_way}
use Rattle.session.specs.declared.Session.{Session}
use Rattle.table.specs.Places.{opens, place_of, first_hit}
use Rattle.table.specs.Table.{Table, open_of, in_order, find, is_found, absent, receive_answer, act_answer, asked, answer}
use Rattle.table.proofs.Found.{first-label}
use Rattle.table.proofs.Accepted.{found_passed}
use Rattle.step.proofs.TableStep.{place_found}
use Rattle.capture.specs.declared.Record.{Record}
use Rattle.capture.specs.Records.{act_of, call_of, settings_in}
use Rattle.cause.specs.declared.Marks.{Marks}
use Rattle.cause.specs.declared.Noted.{Noted}
use Rattle.cause.specs.Noting.{act_noted, call_noted, act_kept, call_kept}
use Rattle.cause.specs.Records.{marks_only, own_noted, record_noted}

-- an accepted act is on an open label
pub act-found : (clock : ℕ) (o : Option Session) (l : ℕ) (b : Act) → is_accepted (act_answer clock o l b) ≡ true → (r : Session) × (o ≡ some r)
unfolding act_answer
act-found clock o l (Close u) y = (found_passed clock u o (eqb-true _ 0 y)).1
act-found clock o l (Lock u) y = (found_passed clock u o (eqb-true _ 0 y)).1
act-found clock o l (Unlock u) y = (found_passed clock u o (eqb-true _ 0 y)).1
act-found clock o l (Receive m u) y = go o (bar-passed (late clock u) 0 (receive_answer o m u) (eqb-true _ 0 y)).1
  where
    go : (p : Option Session) → receive_answer p m u ≡ 0 → (r : Session) × (p ≡ some r)
    go none e = absurd (omega arith)
    go (some r) e = (r, refl)
act-found clock none l ReportOn y = no_way y refl
act-found clock (some r) l ReportOn y = (r, refl)
act-found clock none l (WriteCc b) y = no_way y refl
act-found clock (some r) l (WriteCc b) y = (r, refl)
act-found clock none l (WriteCv b) y = no_way y refl
act-found clock (some r) l (WriteCv b) y = (r, refl)

-- a record that is found is the one at its label's place
pub at_place : (l on : ℕ) (row : List Session) (r : Session) → find l (opens on row) ≡ some r → get_or row (place_of l on row) absent ≡ r
at_place l on row r e = go (ltb (place_of l on row) (length row)) (place_found l on row absent)
  where
    go : (b : Bool) → find l (opens on row) ≡ cond b (some (get_or row (place_of l on row) absent)) none → get_or row (place_of l on row) absent ≡ r
    go true f = cc (sym f ∙ e)
    go false f = no_way (ap is_found e) (ap is_found f)

module _ (m : Marks) (n : ℕ) (kept body : List ℕ) where
  -- what is noted by value is these marks and these octets
  abbrev Notes : Noted → Marks → List ℕ → Type 0
  Notes x marks octets = (x.marks ≡ marks) × (cond x.crossed (sets kept 0 body) kept ≡ octets)

  -- an act that is neither unlock nor message notes nothing
  quiet : (kind u : ℕ) → eqb kind 4 ≡ false → eqb kind 5 ≡ false → (r : Session)
      → (m ≡ act_noted m n r (act_of kind body u)) × (kept ≡ act_kept kept r (act_of kind body u))
  quiet kind u a b r =
      split (eqb kind 2) (λ z. rw z (refl, refl))
      (λ c. split (eqb kind 3) (λ z. rw (c, z) (refl, refl))
      (λ d. split (eqb kind 6) (λ z. rw (c, d, a, b, z) (refl, refl))
      (λ e. split (eqb kind 7) (λ z. rw (c, d, a, b, e, z) (refl, refl)) (λ z. rw (c, d, a, b, e, z) (refl, refl)))))

  -- nor does its record, by value
  none-noted : (r : Record) (before : Session) → eqb r.kind 1 ≡ false → eqb r.kind 4 ≡ false → eqb r.kind 5 ≡ false → own_noted before m n r body ≡ marks_only m
  unfolding own_noted
  none-noted r before i a b = rw (i, a, b)

  notes-as : {x y : Noted} {marks : Marks} {octets : List ℕ} → x ≡ y → Notes y marks octets → Notes x marks octets
  notes-as {marks} {octets} e N = subst (λ (z : Noted). Notes z marks octets) (sym e) N

  -- a record of the label, from kind 2 on, by the session's record before it
  own-act : (r : Record) (before : Session) → eqb r.kind 1 ≡ false
      → Notes (own_noted before m n r body) (act_noted m n before (act_of r.kind body r.time)) (act_kept kept before (act_of r.kind body r.time))
  unfolding own_noted
  own-act r before i =
      split (eqb r.kind 4)
      (λ z. let k : r.kind ≡ 4 = eqb-true r.kind 4 z in rw k (refl, refl))
      (λ a. split (eqb r.kind 5)
      (λ z. let k : r.kind ≡ 5 = eqb-true r.kind 5 z in rw k (refl, refl))
      (λ b. notes-as (none-noted r before i a b) (quiet r.kind r.time a b before)))

-- a record of another label
other-call : (l : ℕ) (m : Marks) (n : ℕ) (kept : List ℕ) (o : Option Session) (r : Record) (body : List ℕ) → eqb r.label l ≡ false
    → (m ≡ call_noted l m n o (call_of r body)) × (kept ≡ call_kept l kept o (call_of r body))
unfolding call_of settings_in
other-call l m n kept o r body e =
    split (eqb r.kind 0) (λ z. rw z (refl, refl))
    (λ a. split (eqb r.kind 1) (λ z. rw (a, z, e) (refl, refl)) (λ b. rw (a, b, e) (refl, refl)))

module _ (t : Table) (ordered : in_order t ≡ true) (l : ℕ) (m : Marks) (n : ℕ) (kept : List ℕ) (r : Record) (body : List ℕ)
    (y : is_accepted (answer t (call_of r body)) ≡ true) where
  -- the record that a search finds: in the whole set for a record of the label, in none for another
  abbrev pub sought : Bool → Session
  sought own = get_or t.row (first_hit l 0 (cond own t.occupied 0) t.row) absent

  asked-so : (c : Call) → is_accepted (answer t c) ≡ true → is_accepted (asked t c) ≡ true
  unfolding answer
  asked-so c z = ap (λ (b : Bool). is_accepted (cond b (asked t c) (number_only c 26))) (sym ordered) ∙ z

  -- an accepted act on the label finds the session's record
  act-sought : (b : Act) → is_accepted (answer t (On l b)) ≡ true → find l (open_of t) ≡ some (sought true)
  unfolding asked
  act-sought b z =
      let w = act-found t.clock (find l (open_of t)) l b (asked-so (On l b) z) in
      w.1 ∙ ap some (sym (ap (λ (p : ℕ). get_or t.row p absent) (first-label t ordered l) ∙ at_place l t.occupied t.row w.0 w.1))

  abbrev NotesOf : Session → Call → Type 0
  NotesOf before c = Notes m n kept body (own_noted before m n r body) (call_noted l m n (find l (open_of t)) c) (call_kept l kept (find l (open_of t)) c)

  own-tick : r.kind ≡ 0 → NotesOf (sought true) (call_of r body)
  unfolding call_of own_noted
  own-tick k = rw k (refl, refl)

  own_open : r.label ≡ l → r.kind ≡ 1 → NotesOf (sought true) (call_of r body)
  unfolding call_of own_noted settings_in
  own_open e k = rw (k, eq-eqb r.label l e) (refl, refl)

  -- the call from kind 2 on
  on_call : r.label ≡ l → eqb r.kind 0 ≡ false → eqb r.kind 1 ≡ false → call_of r body ≡ On l (act_of r.kind body r.time)
  unfolding call_of
  on_call e a b = rw (a, b, e)

  own_on : eqb r.kind 1 ≡ false → (d : Call) → d ≡ On l (act_of r.kind body r.time) → is_accepted (answer t d) ≡ true → NotesOf (sought true) d
  own_on b d f z =
      let act : Act = act_of r.kind body r.time in
      let w : find l (open_of t) ≡ some (sought true) = act-sought act (ap (λ (c : Call). is_accepted (answer t c)) (sym f) ∙ z) in
      rw (f, eq-eqb l l refl, w) (own-act m n kept body r (sought true) b)

  own-call : r.label ≡ l → NotesOf (sought true) (call_of r body)
  own-call e =
      split (eqb r.kind 0) (λ z. own-tick (eqb-true r.kind 0 z))
      (λ a. split (eqb r.kind 1) (λ z. own_open e (eqb-true r.kind 1 z)) (λ b. own_on b (call_of r body) (on_call e a b) y))

  by-label : (own : Bool) → eqb r.label l ≡ own
      → Notes m n kept body (cond own (own_noted (sought own) m n r body) (marks_only m)) (call_noted l m n (find l (open_of t)) (call_of r body))
      (call_kept l kept (find l (open_of t)) (call_of r body))
  by-label true e = own-call (eqb-true r.label l e)
  by-label false e = other-call l m n kept (find l (open_of t)) r body e

  -- the marks, and the octets kept
  pub noted-is : ((record_noted (sought (eqb r.label l)) l m n r body).marks ≡ call_noted l m n (find l (open_of t)) (call_of r body))
      × (cond (record_noted (sought (eqb r.label l)) l m n r body).crossed (sets kept 0 body) kept ≡ call_kept l kept (find l (open_of t)) (call_of r body))
  unfolding record_noted
  noted-is = by-label (eqb r.label l) refl
