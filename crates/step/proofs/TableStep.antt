-- A call on a row of which it is known whether it is in order, and where it is the place of the label, a rival and a full share, is the table's step: what is said, and the table
-- afterwards. For every row, clock, set and call whatever, however these were come by.
-- Assumes nothing.
use Prim.Native.Nat.{ℕ, suc, ◌^◌, ◌/◌, ◌<◌}
use native.Mathlib.Omega.{arith}
use mathlib.Core.Path.{◌≡◌, refl, sym, ap, ◌∙◌}
use mathlib.Core.Bool.{true, false, cond}
use mathlib.Core.Option.{Option, none, some}
use mathlib.Core.List.{List, [], ◌∷◌}
use lib.Dec.{eqb, ltb, leb-suc-suc}
use lib.ListN.{length, get_or, set}
use lib.Seq.{set_out}
use borrow.Author.Tests.{eqb-true, eqb-false, ltb-true, lt-ltb}
use Rattle.octets.specs.Choice.{need, bar}
use Rattle.octets.specs.Writing.{writing}
use Rattle.octets.proofs.Writing.{refused, short}
use Rattle.octets.proofs.Chain.{need-passed, bar-passed}
use Rattle.bfd.specs.Octets.{packet_octets}
use Rattle.rules.specs.Times.{late}
use Rattle.rules.specs.Settings.{settings_fit}
use Rattle.rules.specs.Parties.{party_of, own_most}
use Rattle.rules.specs.Lists.{any}
use Rattle.rules.specs.Calls.{Act, Close, Lock, Unlock, Receive, ReportOn, WriteCc, WriteCv, Call, Tick, Open, On, number_only, no_report, writes}
use Rattle.rules.proofs.Bools.{split, no_way}
use Rattle.rules.proofs.TwoParties.{party-most}
use Rattle.session.specs.declared.Session.{Session}
use Rattle.session.specs.Queries.{cc_octets_at, cv_octets_at, cv_size_of}
use Rattle.session.proofs.Written.{cv-size, cv-front}
use Rattle.session.specs.Steps.{new_session, locked_at, unlocked_at, reply_settled}
use Rattle.table.specs.declared.Head.{Head}
use Rattle.table.specs.Places.{first_on, occupied_at, lowest_free, opens, has_label, place_of}
use Rattle.table.specs.Table.{Table, open_by, in_order, find, absent, rivals, open_answer, asked, answer, act_answer, done, act_done, altered, added, closed, next}
use Rattle.table.proofs.OccupiedSet.{at_zero, at_suc, with-free, without-taken, lowest-is-free}
use Rattle.table.proofs.Rows.{free-exists}
use Rattle.table.proofs.Shares.{place-left}
use Rattle.table.proofs.Order.{order-says}
use Rattle.scan.specs.declared.Summary.{Summary}
use Rattle.step.specs.declared.Request.{Request}
use Rattle.step.specs.declared.Opening.{Opening}
use Rattle.step.specs.declared.Outcome.{Outcome}
use Rattle.step.specs.Requests.{is_request, request_on, request_of}
use Rattle.step.specs.Saying.{cv_told, said_on, said_of, Steps}
use Rattle.step.specs.Stepping.{table_of, nowhere, is_place, sound_answer, answer_of, head_after, stored_at, effect_on, told_by, step_of, opening_answer, opened_head, opening_of, Obeyed, obey_at, open_at}

-- ---- the place of a label, and the record found by it
pub place_found : (l on : ℕ) (row : List Session) (d : Session)
    → find l (opens on row) ≡ cond (ltb (place_of l on row) (length row)) (some (get_or row (place_of l on row) d)) none
unfolding opens place_of find
place_found l on [] d = refl
place_found l on (r ∷ rs) d =
    let first : ltb 0 (suc (length rs)) ≡ true = lt-ltb 0 (suc (length rs)) (omega arith) in
    let later : ltb (suc (place_of l (on / 2) rs)) (suc (length rs)) ≡ ltb (place_of l (on / 2) rs) (length rs) = leb-suc-suc (suc (place_of l (on / 2) rs)) (length rs) in
    split (first_on on)
    (λ o. split (has_label l r)
    (λ e. simp (o, e, first))
    (λ e. simp (o, e, later) (place_found l (on / 2) rs d)))
    (λ o. simp (o, later) (place_found l (on / 2) rs d))

place-taken : (l on : ℕ) (row : List Session) → place_of l on row < length row → occupied_at on (place_of l on row) ≡ true
unfolding place_of
place-taken l on [] h = absurd (omega arith)
place-taken l on (r ∷ rs) h =
    split (first_on on)
    (λ o. split (has_label l r)
    (λ e. rw (o, e) (at_zero on ∙ o))
    (λ e. rw (o, e) (at_suc on (place_of l (on / 2) rs) ∙ place-taken l (on / 2) rs (omega (arith, rw (o, e) at h)))))
    (λ o. rw o (at_suc on (place_of l (on / 2) rs) ∙ place-taken l (on / 2) rs (omega (arith, rw o at h))))

-- ---- the octets of a CC and of a CV
pub cc-length : (r : Session) (now : ℕ) → length (cc_octets_at r now) ≡ 28
unfolding cc_octets_at packet_octets
cc-length r now = refl

-- the octets of the CV that a write tells
pub cv-told : (r : Session) (now : ℕ) (l n : ℕ) → cv_told (told_by (Request.WriteCv l n) r now) ≡ cv_octets_at r now
unfolding told_by
cv-told r now l n = cv-front r now

-- writing into room that was measured before
measured : (k : ℕ) (octets b : List ℕ) → length octets ≡ k → writing (bar (ltb (length b) k) 13 0) octets b ≡ writing 0 octets b
measured k octets b e =
    split (ltb (length b) k)
    (λ s. rw s (refused octets b 13 (λ z. omega arith) ∙ sym (short octets b (omega (arith, e, ltb-true (length b) k s)))))
    (λ s. rw s)

-- ---- from what is said, and what an accepted and a refused call leave, to the step
module _ (row : List Session) (head : Head) where
  abbrev t : Table
  t = table_of row head

  pub of-64 : in_order t ≡ true → length row ≡ 64
  unfolding in_order
  of-64 o = split (eqb (length row) 64) (λ e. eqb-true (length row) 64 e) (λ e. no_way o (rw e))

  pub refused-said : (c : Call) (o : Outcome) → o.answer ≡ 26 → said_of c o ≡ number_only c 26
  refused-said (Tick u) o e = rw e
  refused-said (Open g u) o e = rw e
  refused-said (On l (Close u)) o e = rw e
  refused-said (On l (Lock u)) o e = rw e
  refused-said (On l (Unlock u)) o e = rw e
  refused-said (On l (Receive m u)) o e = rw e
  refused-said (On l ReportOn) o e = rw e
  refused-said (On l (WriteCc b)) o e = rw e (ap writes (refused _ b 26 (λ z. omega arith)))
  refused-said (On l (WriteCv b)) o e = rw e (ap writes (refused _ b 26 (λ z. omega arith)))

  -- 26 and nothing changed, where the table is not in order
  pub steps-26 : (c : Call) (x : Obeyed) → in_order t ≡ false → x.outcome.answer ≡ 26 → x.row ≡ row → x.outcome.head ≡ head → Steps row head c x
  unfolding answer next
  steps-26 c x o e k h = (rw o (refused-said c x.outcome e), rw (o, k, h))

  -- where it is in order: what is said is what is asked, an accepted call leaves what is done, a refused one row and head
  pub steps-sound : (c : Call) (x : Obeyed) → in_order t ≡ true → said_of c x.outcome ≡ asked t c → (asked t c).number ≡ x.outcome.answer
      → (x.outcome.answer ≡ 0 → table_of x.row x.outcome.head ≡ done t c)
      → (eqb x.outcome.answer 0 ≡ false → table_of x.row x.outcome.head ≡ t) → Steps row head c x
  unfolding answer next
  steps-sound c x o e n took left = (
    rw o e,
    split (eqb x.outcome.answer 0)
        (λ z. rw (o, n, z) (took (eqb-true _ 0 z)))
        (λ z. rw (o, n, z) (left z)),
  )

-- ---- the calls that bring numbers alone
module _ (s : Summary) (head : Head) (r : Session) (l : ℕ) where
  -- the record of the label, if there is one
  abbrev found_by : Option Session
  found_by = cond (is_place s.place) (some r) none

  abbrev outcome_of : Act → Outcome
  outcome_of a =
      let n = sound_answer head.clock s.place (cv_size_of r) (request_on l a) in
      record { head = cond (eqb n 0) (head_after s head (request_on l a)) head; told = told_by (request_on l a) r head.clock; answer = n }

  write-said : (k : ℕ) (octets : List ℕ) → length octets ≡ k → (b : List ℕ)
      → writes (writing (need (is_place s.place) 2 (bar (ltb (length b) k) 13 0)) octets b)
      ≡ cond (is_place s.place) (writes (writing 0 octets b)) (record { number = 2; report = no_report; buffer = b })
  write-said k octets e b =
      split (is_place s.place)
      (λ f. rw f (ap writes (measured k octets b e)))
      (λ f. rw f (ap writes (refused octets b 2 (λ z. omega arith))))

  act-said : (a : Act) → is_request (On l a) ≡ true → said_on l a (outcome_of a) ≡ act_answer head.clock found_by l a
  unfolding act_answer told_by
  act-said (Close u) k = split (is_place s.place) (λ f. rw f) (λ f. rw f)
  act-said (Lock u) k = split (is_place s.place) (λ f. rw f) (λ f. rw f)
  act-said (Unlock u) k = split (is_place s.place) (λ f. rw f) (λ f. rw f)
  act-said (Receive m u) k = no_way k refl
  act-said ReportOn k = split (is_place s.place) (λ f. rw f) (λ f. rw f)
  act-said (WriteCc b) k = write-said 28 (cc_octets_at r head.clock) (cc-length r head.clock) b ∙ split (is_place s.place) (λ f. rw f) (λ f. rw f)
  act-said (WriteCv b) k =
      ap (λ (octets : List ℕ). writes (writing (need (is_place s.place) 2 (bar (ltb (length b) (cv_size_of r)) 13 0)) octets b)) (cv-told r head.clock l (length b))
      ∙ write-said (cv_size_of r) (cv_octets_at r head.clock) (cv-size r head.clock) b
      ∙ split (is_place s.place) (λ f. rw f) (λ f. rw f)

  -- a buffer that is refused is so by its number
  act-number : (a : Act) → is_request (On l a) ≡ true → (act_answer head.clock found_by l a).number ≡ sound_answer head.clock s.place (cv_size_of r) (request_on l a)
  unfolding act_answer writing
  act-number (Close u) k = split (is_place s.place) (λ f. rw f) (λ f. rw f)
  act-number (Lock u) k = split (is_place s.place) (λ f. rw f) (λ f. rw f)
  act-number (Unlock u) k = split (is_place s.place) (λ f. rw f) (λ f. rw f)
  act-number (Receive m u) k = no_way k refl
  act-number ReportOn k = split (is_place s.place) (λ f. rw f) (λ f. rw f)
  act-number (WriteCc b) k = split (is_place s.place) (λ f. rw (f, cc-length r head.clock)) (λ f. rw f)
  act-number (WriteCv b) k = split (is_place s.place) (λ f. rw (f, cv-size r head.clock)) (λ f. rw f)

-- ---- what an accepted one leaves
module _ (row : List Session) (head : Head) (long : length row < 2 ^ 64) where
  -- nothing is stored
  kept : (x : Session) → set row nowhere x ≡ row
  kept x = set_out row nowhere x (omega (arith, long))

  module _ (s : Summary) where
    abbrev r : Session
    r = get_or row s.place absent

    -- the record of the label, altered
    module _ (l : ℕ) (at : s.place ≡ place_of l head.occupied row) where
      pub stored : (f : Session → Session) (clock : ℕ)
          → table_of (set row s.place (f r)) (record { clock = clock; occupied = head.occupied }) ≡ altered (table_of row head) l f clock
      unfolding altered
      stored f clock = rw at

      act-left : length row ≡ 64 → (a : Act) → is_request (On l a) ≡ true → sound_answer head.clock s.place (cv_size_of r) (request_on l a) ≡ 0
          → table_of (set row (stored_at s.place (request_on l a)) (effect_on (request_on l a) r)) (head_after s head (request_on l a)) ≡ act_done (table_of row head) l a
      unfolding act_done stored_at head_after effect_on closed
      act-left full (Close u) k e =
          let w = need-passed (is_place s.place) 1 0 (bar-passed (late head.clock u) 0 _ e).1 in
          let h : place_of l head.occupied row < length row = omega (arith, ltb-true s.place 64 w.0, at, full) in
          rw (kept r, w.0, at, ← without-taken head.occupied (place_of l head.occupied row) (place-taken l head.occupied row h))
      act-left full (Lock u) k e = stored (λ r. locked_at r u) u
      act-left full (Unlock u) k e = stored (λ x. unlocked_at x u) u
      act-left full (Receive m u) k e = no_way k refl
      act-left full ReportOn k e = rw (kept r)
      act-left full (WriteCc b) k e = stored reply_settled head.clock
      act-left full (WriteCv b) k e = rw (kept r)

    -- a refusal stores nothing and moves no clock
    no_store : (q : Request) → eqb (answer_of s head (cv_size_of r) q) 0 ≡ false → ((obey_at row head s q).row ≡ row) × ((obey_at row head s q).outcome.head ≡ head)
    unfolding obey_at step_of
    no_store q z = (rw (z, kept (effect_on q r)), rw z)

    obey-26 : s.sound ≡ false → (q : Request) → answer_of s head (cv_size_of r) q ≡ 26
    unfolding answer_of
    obey-26 k q = rw k

    obey-number : (q : Request) → (obey_at row head s q).outcome.answer ≡ answer_of s head (cv_size_of r) q
    unfolding obey_at step_of
    obey-number q = refl

    sound-number : s.sound ≡ true → (q : Request) → answer_of s head (cv_size_of r) q ≡ sound_answer head.clock s.place (cv_size_of r) q
    unfolding answer_of
    sound-number k q = rw k

    obey-left : (q : Request) → answer_of s head (cv_size_of r) q ≡ 0
        → table_of (obey_at row head s q).row (obey_at row head s q).outcome.head ≡ table_of (set row (stored_at s.place q) (effect_on q r)) (head_after s head q)
    unfolding obey_at step_of
    obey-left q z = rw z

    whole : s.sound ≡ true → (l : ℕ) (a : Act) → (obey_at row head s (request_on l a)).outcome ≡ outcome_of s head r l a
    unfolding obey_at step_of answer_of
    whole k l a = rw k

    module _ (o : s.sound ≡ in_order (table_of row head)) where
      unsound : (c : Call) (q : Request) → in_order (table_of row head) ≡ false → Steps row head c (obey_at row head s q)
      unsound c q k =
          let n = obey-26 (o ∙ k) q in
          let w = no_store q (rw n) in
          steps-26 row head c (obey_at row head s q) k (obey-number q ∙ n) w.0 w.1

      refused-left : (q : Request) → eqb (obey_at row head s q).outcome.answer 0 ≡ false → table_of (obey_at row head s q).row (obey_at row head s q).outcome.head ≡ table_of row head
      refused-left q z =
          let w = no_store q (ap (λ (n : ℕ). eqb n 0) (sym (obey-number q)) ∙ z) in
          λ i. table_of (w.0 i) (w.1 i)

      pub tick-steps : (u : ℕ) → Steps row head (Tick u) (obey_at row head s (request_of (Tick u)))
      unfolding asked done stored_at effect_on head_after
      tick-steps u =
          let q = request_of (Tick u) in
          split (in_order (table_of row head))
          (λ k.
          let n : (obey_at row head s q).outcome.answer ≡ bar (late head.clock u) 1 0 = obey-number q ∙ sound-number (o ∙ k) q in
          steps-sound row head (Tick u) (obey_at row head s q) k (ap (number_only (Tick u)) n) (sym n)
          (λ z. obey-left q (sym (obey-number q) ∙ z) ∙ rw (kept r))
          (refused-left q))
          (λ k. unsound (Tick u) q k)

      pub act-steps : (l : ℕ) (a : Act) → is_request (On l a) ≡ true → (in_order (table_of row head) ≡ true → s.place ≡ place_of l head.occupied row)
          → Steps row head (On l a) (obey_at row head s (request_on l a))
      unfolding asked done
      act-steps l a small at =
          let q = request_on l a in
          let c = On l a in
          split (in_order (table_of row head))
          (λ k.
          let full = of-64 row head k in
          let n : (obey_at row head s q).outcome.answer ≡ sound_answer head.clock s.place (cv_size_of r) q = obey-number q ∙ sound-number (o ∙ k) q in
          let found : find l (opens head.occupied row) ≡ found_by s head r l = place_found l head.occupied row absent ∙ rw (full, at k) in
          steps-sound row head c (obey_at row head s q) k
          (ap (said_on l a) (whole (o ∙ k) l a) ∙ act-said s head r l a small ∙ ap (λ (f : Option Session). act_answer head.clock f l a) (sym found))
          (ap (λ (f : Option Session). (act_answer head.clock f l a).number) found ∙ act-number s head r l a small ∙ sym n)
          (λ z. obey-left q (sym (obey-number q) ∙ z) ∙ act-left l (at k) full a small (sym n ∙ z))
          (refused-left q))
          (λ k. unsound c q k)

-- ---- an open
module _ (row : List Session) (head : Head) (long : length row < 2 ^ 64) (s : Summary) (o : s.sound ≡ in_order (table_of row head)) (g : Opening) where
  abbrev x : Obeyed
  x = open_at row head s g

  abbrev c : Call
  c = Open g.settings g.reading

  open-number : x.outcome.answer ≡ opening_answer s head g
  unfolding open_at opening_of
  open-number = refl

  open-refused : eqb (opening_answer s head g) 0 ≡ false → (x.row ≡ row) × (x.outcome.head ≡ head)
  unfolding open_at opening_of
  open-refused z = (rw (z, kept row head long (new_session g.settings g.reading)), rw z)

  -- the lowest free place is free
  new-place : lowest_free 64 head.occupied < 64
      → table_of (set row (lowest_free 64 head.occupied) (new_session g.settings g.reading)) (opened_head head g.reading) ≡ added (table_of row head) g.settings g.reading
  unfolding added
  new-place below = rw (← with-free head.occupied (lowest_free 64 head.occupied) below (lowest-is-free 64 head.occupied below))

  opened-where : opening_answer s head g ≡ 0 → table_of x.row x.outcome.head ≡ table_of (set row (lowest_free 64 head.occupied) (new_session g.settings g.reading)) (opened_head head g.reading)
  unfolding open_at opening_of
  opened-where z = rw z

  -- and there is one for a party that has not opened 32
  place-there : in_order (table_of row head) ≡ true → s.full ≡ eqb (open_by (party_of g.settings.label) (table_of row head)) own_most
      → bar (late head.clock g.reading) 1 (need (settings_fit g.settings) 10 (bar s.rival 11 (bar s.full 12 0))) ≡ 0 → lowest_free 64 head.occupied < 64
  place-there k full e =
      let label = g.settings.label in
      let order = order-says (table_of row head) k in
      let fits = (bar-passed (late head.clock g.reading) 0 _ e).1 in
      let apart = (need-passed (settings_fit g.settings) 9 _ fits).1 in
      let free = (bar-passed s.full 11 0 (bar-passed s.rival 10 _ apart).1).0 in
      free-exists 64 head.occupied
      (place-left (table_of row head) order.rows order.each (party_of label) (party-most label) (eqb-false (open_by (party_of label) (table_of row head)) own_most (sym full ∙ free)))

  open-left : in_order (table_of row head) ≡ true → s.full ≡ eqb (open_by (party_of g.settings.label) (table_of row head)) own_most
      → opening_answer s head g ≡ 0 → table_of x.row x.outcome.head ≡ added (table_of row head) g.settings g.reading
  unfolding opening_answer
  open-left k full z = opened-where z ∙ new-place (place-there k full (need-passed s.sound 25 _ z).1)

  -- a rival need be known only where the settings fit: 10 is before 11
  pub open-steps : (in_order (table_of row head) ≡ true → settings_fit g.settings ≡ true → s.rival ≡ any (rivals g.settings) (opens head.occupied row))
      → (in_order (table_of row head) ≡ true → s.full ≡ eqb (open_by (party_of g.settings.label) (table_of row head)) own_most) → Steps row head c x
  unfolding asked done open_answer opening_answer
  open-steps rival full =
      split (in_order (table_of row head))
      (λ k.
      let n : x.outcome.answer ≡ open_answer (table_of row head) g.settings g.reading =
      open-number ∙ split (settings_fit g.settings) (λ f. rw (o, k, f, rival k f, full k)) (λ f. rw (o, k, f)) in
      steps-sound row head c x k (ap (number_only c) n) (sym n)
      (λ z. open-left k (full k) (sym open-number ∙ z))
      (λ z. let w = open-refused (ap (λ (m : ℕ). eqb m 0) (sym open-number) ∙ z) in λ i. table_of (w.0 i) (w.1 i)))
      (λ k.
      let n : opening_answer s head g ≡ 26 = rw (o, k) in
      let w = open-refused (rw n) in
      steps-26 row head c x k (open-number ∙ n) w.0 w.1)
