-- The call of one record is the table's step, and its line tells what the table says: by kinds, with no model.
-- Assumes nothing.
use Prim.Native.Nat.{ℕ, ◌+◌, ◌^◌, ◌≤◌, ◌<◌}
use native.Mathlib.Omega.{arith}
use mathlib.Core.Path.{◌≡◌, refl, sym, ap, subst, ◌∙◌}
use mathlib.Core.Bool.{Bool, true, false}
use mathlib.Core.List.{List}
use lib.Dec.{eqb, ltb}
use lib.ListN.{length, get_or}
use lib.Seq.{drop-drop}
use borrow.Author.Tests.{eqb-true, lt-ltb, ltb-false}
use Rattle.octets.proofs.Chain.{need-passed, bar-passed}
use Rattle.cv.proofs.Forms.{length-within}
use Rattle.rules.specs.Calls.{Receive, Call, Tick, Open, On}
use Rattle.rules.proofs.Bools.{split}
use Rattle.rules.proofs.Fitting.{settings-say}
use Rattle.session.specs.declared.Session.{Session}
use Rattle.session.specs.Queries.{cv_size_of, cv_whole_at}
use Rattle.session.proofs.Written.{cv-room}
use Rattle.table.specs.declared.Head.{Head}
use Rattle.table.specs.Places.{place_of}
use Rattle.table.specs.Hints.{Placed, placed_by}
use Rattle.table.specs.Table.{in_order, absent}
use Rattle.table.proofs.Found.{known-place}
use Rattle.scan.specs.declared.Summary.{Summary}
use Rattle.scan.specs.Passing.{summary_of}
use Rattle.scan.proofs.Scanned.{summary-rival, summary-full}
use Rattle.step.specs.declared.Request.{Request}
use Rattle.step.specs.declared.Opening.{Opening}
use Rattle.step.specs.declared.Arrival.{Arrival}
use Rattle.step.specs.declared.Outcome.{Outcome}
use Rattle.step.specs.Requests.{is_request, request_on, request_of}
use Rattle.step.specs.Stepping.{table_of, is_place, answer_of, Obeyed, step_of, told_by, opening_target, opening_of, obey_at, open_at}
use Rattle.walks.specs.AtPlace.{at_place}
use Rattle.step.specs.Arriving.{message_in, receive_at, met_at}
use Rattle.step.specs.Saying.{Steps}
use Rattle.step.proofs.TableStep.{cc-length, tick-steps, act-steps, open-steps}
use Rattle.step.proofs.Arriving.{receive-steps}
use Rattle.session.specs.Live.{is_fault}
use Rattle.capture.specs.declared.Record.{Record}
use Rattle.capture.specs.Records.{settings_in, act_of, call_of}
use Rattle.feed.specs.declared.Fed.{Fed}
use Rattle.feed.specs.Calling.{body_at, opening_in, seen_with, sought_in, seen_at, arrival_in, request_in, Whole, Calls}

-- ---- what can be told has its length
told-whole : (q : Request) (r : Session) (clock : ℕ) → (length (told_by q r clock).cc ≡ 28) × (length (told_by q r clock).cv.octets ≡ 78)
unfolding told_by
told-whole (Request.Tick u) r clock = (refl, refl)
told-whole (Request.Close l u) r clock = (refl, refl)
told-whole (Request.Lock l u) r clock = (refl, refl)
told-whole (Request.Unlock l u) r clock = (refl, refl)
told-whole (Request.ReportOn l) r clock = (refl, refl)
told-whole (Request.WriteCc l n) r clock = (cc-length r clock, refl)
told-whole (Request.WriteCv l n) r clock = (refl, cv-room r clock)

-- the room that a CV is given
abbrev room_of : Request → ℕ
room_of (Request.Tick u) = 0
room_of (Request.Close l u) = 0
room_of (Request.Lock l u) = 0
room_of (Request.Unlock l u) = 0
room_of (Request.ReportOn l) = 0
room_of (Request.WriteCc l n) = 0
room_of (Request.WriteCv l n) = n

-- no CV is shorter than 44 octets: one that goes into 44 has as many
told-count : (s : Summary) (head : Head) (q : Request) (r : Session) → room_of q ≤ 44 → answer_of s head (cv_size_of r) q ≡ 0 → (told_by q r head.clock).cv.count ≡ 44
unfolding told_by answer_of cv_whole_at
told-count s head (Request.Tick u) r h e = refl
told-count s head (Request.Close l u) r h e = refl
told-count s head (Request.Lock l u) r h e = refl
told-count s head (Request.Unlock l u) r h e = refl
told-count s head (Request.ReportOn l) r h e = refl
told-count s head (Request.WriteCc l n) r h e = refl
told-count s head (Request.WriteCv l n) r h e =
    let a = need-passed s.sound 25 _ e in
    let b = need-passed (is_place s.place) 1 _ a.1 in
    let c = bar-passed (ltb n (cv_size_of r)) 12 0 b.1 in
    omega (arith, h, ltb-false n (cv_size_of r) c.0, (length-within r.settings.own.kind r.settings.own.size).0)

obey-whole : (row : List Session) (head : Head) (s : Summary) (q : Request) → room_of q ≤ 44 → Whole (obey_at row head s q).outcome
unfolding obey_at step_of
obey-whole row head s q h =
    let r = get_or row s.place absent in
    let w = told-whole q r head.clock in
    (w.0, w.1, told-count s head q r h)

-- a capture gives 44
room_in : (r : Record) → room_of (request_in r) ≤ 44
room_in r =
    split (eqb r.kind 0)
    (λ a. rw a (omega arith))
    (λ a. split (eqb r.kind 2)
    (λ b. rw (a, b) (omega arith))
    (λ b. split (eqb r.kind 3)
    (λ c. rw (a, b, c) (omega arith))
    (λ c. split (eqb r.kind 4)
    (λ d. rw (a, b, c, d) (omega arith))
    (λ d. split (eqb r.kind 6)
    (λ e. rw (a, b, c, d, e) (omega arith))
    (λ e. split (eqb r.kind 7)
    (λ f. rw (a, b, c, d, e, f) (omega arith))
    (λ f. rw (a, b, c, d, e, f) (omega arith)))))))

open-whole : (row : List Session) (head : Head) (s : Summary) (g : Opening) → Whole (open_at row head s g).outcome
unfolding open_at opening_of
open-whole row head s g = (refl, refl, λ e. refl)

receive-whole : (row : List Session) (x : Arrival) (m : List ℕ) → Whole (receive_at row x m).outcome
unfolding receive_at at_place
receive-whole row x m =
    split (is_fault (message_in x m))
    (λ f. split (ltb (met_at x) (length row)) (λ e. rw (f, e) (refl, refl, λ z. refl)) (λ e. rw (f, e) (refl, refl, λ z. refl)))
    (λ f. split (ltb (met_at x) (length row)) (λ e. rw (f, e) (refl, refl, λ z. refl)) (λ e. rw (f, e) (refl, refl, λ z. refl)))

-- ---- a kind that is one is no other
other : (k a b : ℕ) → eqb k a ≡ true → eqb a b ≡ false → eqb k b ≡ false
other k a b e d = ap (λ (n : ℕ). eqb n b) (eqb-true k a e) ∙ d

module _ (row : List Session) (f : Fed) (r : Record) (input : List ℕ) (sound : Bool) where
  -- an outcome and a row, as one
  both-same : (o : Outcome) (zs : List Session) (x : Obeyed) → record { outcome = o; row = zs } ≡ x → (c : Call)
      → Steps row f.head c x × Whole x.outcome → Steps row f.head c (record { outcome = o; row = zs }) × Whole o
  both-same o zs x e c w = subst (λ (y : Obeyed). Steps row f.head c y × Whole y.outcome) (sym e) w

  -- ---- an open
  open_is : eqb r.kind 1 ≡ true → call_of r (body_at input f r) ≡ Open (settings_in r.label (body_at input f r)) r.time
  unfolding call_of
  open_is k = rw (other r.kind 1 0 k refl, k)

  pub open-calls : eqb r.kind 1 ≡ true → (g : Opening) → g ≡ opening_in input f r
      → (s : Summary) → s ≡ seen_with (summary_of row f.head (opening_target g)) sound → (o : Outcome) (zs : List Session) → record { outcome = o; row = zs } ≡ open_at row f.head s g → Calls row f r input sound o zs
  open-calls k g eg s es o zs e mark stands short long =
      let t = opening_target g in
      let same : Open g.settings g.reading ≡ call_of r (body_at input f r) = ap (λ (y : Opening). Open y.settings y.reading) eg ∙ sym (open_is k) in
      both-same o zs (open_at row f.head s g) e (call_of r (body_at input f r)) (
        subst (λ (c : Call). Steps row f.head c (open_at row f.head s g)) same
            (open-steps row f.head long s (ap (λ (z : Summary). z.sound) es ∙ mark) g
            (λ i fits. ap (λ (z : Summary). z.rival) es ∙ summary-rival row f.head t i (settings-say g.settings fits).discriminator)
            (λ i. ap (λ (z : Summary). z.full) es ∙ summary-full row f.head t i)),
        open-whole row f.head s g,
      )

  -- ---- the calls on a label
  module _ (hints : List ℕ) (p : ℕ) (hints' : List ℕ) (at : record { place = p; hints = hints' } ≡ placed_by row hints (sought_in f r) r.label) where
    placed : eqb r.kind 0 ≡ false → in_order (table_of row f.head) ≡ true → p ≡ place_of r.label f.head.occupied row
    placed k i =
        ap (λ (x : Placed). x.place) at ∙ ap (λ (n : ℕ). (placed_by row hints n r.label).place) (sought k) ∙ known-place (table_of row f.head) i r.label hints
      where
        sought : eqb r.kind 0 ≡ false → sought_in f r ≡ f.head.occupied
        sought k = rw k

    -- a received message: its body lies behind the record
    heard-is : f.used + 16 ≤ length input → length input < 2 ^ 64 → message_in (arrival_in f r p sound) input ≡ body_at input f r
    heard-is stands short =
        let low : ltb f.used 18446744073709551600 ≡ true = lt-ltb f.used 18446744073709551600 (omega (arith, stands, short)) in
        rw (low, drop-drop 16 f.used input)

    received_is : eqb r.kind 5 ≡ true → call_of r (body_at input f r) ≡ On r.label (Receive (body_at input f r) r.time)
    unfolding call_of
    received_is k = rw (other r.kind 5 0 k refl, other r.kind 5 1 k refl, other r.kind 5 2 k refl, other r.kind 5 3 k refl, other r.kind 5 4 k refl, k)

    pub receive-calls : eqb r.kind 5 ≡ true → (x : Arrival) → x ≡ arrival_in f r p sound → (o : Outcome) (zs : List Session) → record { outcome = o; row = zs } ≡ receive_at row x input → Calls row f r input sound o zs
    receive-calls k x ex o zs e mark stands short long =
        let y = arrival_in f r p sound in
        let same : On r.label (Receive (message_in y input) r.time) ≡ call_of r (body_at input f r) = ap (λ (m : List ℕ). On r.label (Receive m r.time)) (heard-is stands short) ∙ sym (received_is k) in
        both-same o zs (receive_at row y input) (e ∙ ap (λ (z : Arrival). receive_at row z input) ex) (call_of r (body_at input f r))
        (subst (λ (c : Call). Steps row f.head c (receive_at row y input)) same (receive-steps row long y input r.label mark (placed (other r.kind 5 0 k refl))), receive-whole row y input)

    -- the others
    tick_is : eqb r.kind 0 ≡ true → call_of r (body_at input f r) ≡ Tick r.time
    unfolding call_of
    tick_is k = rw k

    act-is : eqb r.kind 0 ≡ false → eqb r.kind 1 ≡ false → call_of r (body_at input f r) ≡ On r.label (act_of r.kind (body_at input f r) r.time)
    unfolding call_of
    act-is a b = rw (a, b)

    small-act : eqb r.kind 0 ≡ false → eqb r.kind 5 ≡ false
        → (is_request (On r.label (act_of r.kind (body_at input f r) r.time)) ≡ true) × (request_in r ≡ request_on r.label (act_of r.kind (body_at input f r) r.time))
    small-act z k =
        split (eqb r.kind 2)
        (λ a. rw (z, a) (refl, refl))
        (λ a. split (eqb r.kind 3)
        (λ b. rw (z, a, b) (refl, refl))
        (λ b. split (eqb r.kind 4)
        (λ d. rw (z, a, b, d) (refl, refl))
        (λ d. split (eqb r.kind 6)
        (λ g. rw (z, a, b, d, k, g) (refl, refl))
        (λ g. split (eqb r.kind 7)
        (λ h. rw (z, a, b, d, k, g, h) (refl, refl))
        (λ h. rw (z, a, b, d, k, g, h) (refl, refl))))))

    pub request-calls : eqb r.kind 1 ≡ false → eqb r.kind 5 ≡ false → (s : Summary) → s ≡ seen_at p sound → (q : Request) → q ≡ request_in r
        → (o : Outcome) (zs : List Session) → record { outcome = o; row = zs } ≡ obey_at row f.head s q → Calls row f r input sound o zs
    request-calls k₁ k₅ s es q eq o zs e mark stands short long =
        let v = seen_at p sound in
        let now : record { outcome = o; row = zs } ≡ obey_at row f.head v (request_in r) = e ∙ ap (λ (z : Summary). obey_at row f.head z q) es ∙ ap (obey_at row f.head v) eq in
        split (eqb r.kind 0)
        (λ z.
        let w : request_in r ≡ request_of (Tick r.time) = rw z in
        both-same o zs (obey_at row f.head v (request_of (Tick r.time))) (now ∙ ap (obey_at row f.head v) w) (call_of r (body_at input f r))
        (subst (λ (c : Call). Steps row f.head c (obey_at row f.head v (request_of (Tick r.time)))) (sym (tick_is z)) (tick-steps row f.head long v mark r.time), obey-whole row f.head v (request_of (Tick r.time)) (omega arith)))
        (λ z.
        let a = act_of r.kind (body_at input f r) r.time in
        let w = small-act z k₅ in
        both-same o zs (obey_at row f.head v (request_on r.label a)) (now ∙ ap (obey_at row f.head v) w.1) (call_of r (body_at input f r))
        (subst (λ (c : Call). Steps row f.head c (obey_at row f.head v (request_on r.label a))) (sym (act-is z k₁)) (act-steps row f.head long v mark r.label a w.0 (placed z)), obey-whole row f.head v (request_on r.label a) (subst (λ (y : Request). room_of y ≤ 44) w.1 (room_in r))))
