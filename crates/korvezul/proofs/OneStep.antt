-- What the call on the lent row leaves is one step of the table: what every public call cites. The row has a length that a machine can hold.
--     tick-step, act-step, open_step, receive-step        the call behind the scan is the table's step
--     one-step                                            from what the lent call ensures to what the public call does
--     tick-call, act-call, open-call                      the same with the request that was made, receive-call with the scan and the arrival too
-- Assumes nothing.
use Prim.Native.Nat.{ℕ, ◌<◌, ◌^◌}
use mathlib.Core.Path.{◌≡◌, refl, ap, subst, ◌∙◌}
use mathlib.Core.Bool.{true}
use mathlib.Core.List.{List}
use lib.Dec.{eqb}
use lib.ListN.{length}
use lib.Seq.{take-length}
use Rattle.rules.specs.Calls.{Act, Close, Lock, Unlock, Receive, ReportOn, WriteCc, WriteCv, Call, Tick, Open, On, Said, number_only}
use Rattle.rules.specs.declared.Settings.{Settings}
use Rattle.rules.proofs.Bools.{split}
use Rattle.rules.proofs.Fitting.{settings-say}
use Rattle.session.specs.declared.Session.{Session}
use Rattle.table.specs.declared.Head.{Head}
use Rattle.table.specs.Places.{place_of}
use Rattle.scan.specs.declared.Summary.{Summary}
use Rattle.scan.specs.declared.Target.{Target}
use Rattle.scan.specs.Passing.{summary_of}
use Rattle.scan.proofs.Scanned.{summary-sound, summary-place, summary-rival, summary-full}
use Rattle.step.specs.declared.Arrival.{Arrival}
use Rattle.step.specs.declared.Opening.{Opening}
use Rattle.step.specs.declared.Outcome.{Outcome}
use Rattle.step.specs.declared.Request.{Request}
use Rattle.step.specs.Requests.{is_request, request_on, request_of, aimed_at, target_of}
use Rattle.step.specs.Saying.{said_of, Steps}
use Rattle.step.specs.Stepping.{table_of, opening_target, Obeyed}
use Rattle.step.specs.Arriving.{receive_at}
use Rattle.step.proofs.TableStep.{tick-steps, act-steps, open-steps}
use Rattle.step.proofs.Arriving.{receive-steps}
use Rattle.korvezul.specs.declared.ReportAnswer.{ReportAnswer}
use Rattle.korvezul.specs.Calling.{called, obey_lent, open_lent, arrival_of, receive_lent, said_in, report_of}

-- an act looks for its label
aims : (l : ℕ) (a : Act) → target_of (request_on l a) ≡ aimed_at l
aims l (Close u) = refl
aims l (Lock u) = refl
aims l (Unlock u) = refl
aims l (Receive m u) = refl
aims l ReportOn = refl
aims l (WriteCc b) = refl
aims l (WriteCv b) = refl

module _ (row : List Session) (head : Head) (long : length row < 2 ^ 64) where
  pub tick-step : (u : ℕ) → Steps row head (Tick u) (obey_lent row head (request_of (Tick u)))
  tick-step u = tick-steps row head long (summary_of row head (aimed_at 0)) (summary-sound row head (aimed_at 0)) u

  pub act-step : (l : ℕ) (a : Act) → is_request (On l a) ≡ true → Steps row head (On l a) (obey_lent row head (request_on l a))
  act-step l a small =
      let t = target_of (request_on l a) in
      act-steps row head long (summary_of row head t) (summary-sound row head t) l a small
      (λ k. summary-place row head t k ∙ ap (λ (x : Target). place_of x.label head.occupied row) (aims l a))

  pub open_step : (g : Opening) → Steps row head (Open g.settings g.reading) (open_lent row head g)
  open_step g =
      let t = opening_target g in
      open-steps row head long (summary_of row head t) (summary-sound row head t) g (λ k f. summary-rival row head t k (settings-say g.settings f).discriminator) (summary-full row head t)

  -- all the octets that are lent are the message
  pub receive-step : (l : ℕ) (m : List ℕ) (u : ℕ) → Steps row head (On l (Receive m u)) (receive_lent row head l m u)
  receive-step l m u =
      let t = aimed_at l in
      let x = arrival_of head (summary_of row head t) (length m) u in
      subst (λ (heard : List ℕ). Steps row head (On l (Receive heard u)) (receive_at row x m)) (take-length m)
      (receive-steps row long x m l (summary-sound row head t) (λ k. summary-place row head t k))

module _ (row : List Session) (head : Head) (c : Call) (x : Obeyed) (steps : Steps row head c x) (o : Outcome) (zs : List Session) (h : Head)
    (e : record { outcome = o; row = zs } ≡ x) (e' : h ≡ o.head) where
  -- whatever is the same as what the outcome says
  pub one-step : (said : Said) → said ≡ said_of c o → record { said = said; table = table_of zs h } ≡ called (table_of row head) c
  one-step said w =
      let s : said ≡ _ = w ∙ ap (λ (y : Obeyed). said_of c y.outcome) e ∙ steps.0 in
      let t : table_of zs h ≡ _ = ap (table_of zs) e' ∙ ap (λ (y : Obeyed). table_of y.row y.outcome.head) e ∙ steps.1 in
      λ i. record { said = s i; table = t i }

-- a report says what its outcome says
pub report-says : (l : ℕ) (o : Outcome) (r : ReportAnswer) → r ≡ report_of o → said_in r ≡ said_of (On l ReportOn) o
report-says l o r e = ap said_in e ∙ split (eqb o.answer 0) (λ z. rw z) (λ z. rw z)

-- what a public call leaves, from what its callees ensure: o, zs and h are what the lent call left
module _ (row : List Session) (head : Head) (long : length row < 2 ^ 64) where
  pub tick-call : (u : ℕ) (q : Request) → q ≡ request_of (Tick u) → (o : Outcome) (zs : List Session) (h : Head)
      → (record { outcome = o; row = zs } ≡ obey_lent row head q) × (h ≡ o.head) → (said : Said) → said ≡ said_of (Tick u) o
      → record { said = said; table = table_of zs h } ≡ called (table_of row head) (Tick u)
  tick-call u q e o zs h l = one-step row head (Tick u) (obey_lent row head (request_of (Tick u))) (tick-step row head long u) o zs h (l.0 ∙ ap (obey_lent row head) e) l.1

  pub act-call : (l : ℕ) (a : Act) → is_request (On l a) ≡ true → (q : Request) → q ≡ request_on l a → (o : Outcome) (zs : List Session) (h : Head)
      → (record { outcome = o; row = zs } ≡ obey_lent row head q) × (h ≡ o.head) → (said : Said) → said ≡ said_of (On l a) o
      → record { said = said; table = table_of zs h } ≡ called (table_of row head) (On l a)
  act-call l a small q e o zs h k =
      one-step row head (On l a) (obey_lent row head (request_on l a)) (act-step row head long l a small) o zs h (k.0 ∙ ap (obey_lent row head) e) k.1

  pub open-call : (s : Settings) (u : ℕ) (g : Opening) → g ≡ record { settings = s; reading = u } → (o : Outcome) (zs : List Session) (h : Head)
      → (record { outcome = o; row = zs } ≡ open_lent row head g) × (h ≡ o.head) → (said : Said) → said ≡ said_of (Open s u) o
      → record { said = said; table = table_of zs h } ≡ called (table_of row head) (Open s u)
  open-call s u g e o zs h l =
      let made : Opening = record { settings = s; reading = u } in
      one-step row head (Open s u) (open_lent row head made) (open_step row head long made) o zs h (l.0 ∙ ap (open_lent row head) e) l.1

  pub receive-call : (l : ℕ) (m : List ℕ) (u : ℕ) (t : Target) → t ≡ aimed_at l → (z : Summary) → z ≡ summary_of row head t → (x : Arrival) → x ≡ arrival_of head z (length m) u
      → (o : Outcome) (zs : List Session) → record { outcome = o; row = zs } ≡ receive_at row x m → (n : ℕ) → n ≡ o.answer
      → record { said = number_only (On l (Receive m u)) n; table = table_of zs o.head } ≡ called (table_of row head) (On l (Receive m u))
  receive-call l m u t e₁ z e₂ x e₃ o zs e₄ n e₅ =
      let seen : z ≡ summary_of row head (aimed_at l) = e₂ ∙ ap (summary_of row head) e₁ in
      let arrived : x ≡ arrival_of head (summary_of row head (aimed_at l)) (length m) u = e₃ ∙ ap (λ (y : Summary). arrival_of head y (length m) u) seen in
      one-step row head (On l (Receive m u)) (receive_lent row head l m u) (receive-step row head long l m u) o zs o.head (e₄ ∙ ap (λ (y : Arrival). receive_at row y m) arrived) refl (number_only (On l (Receive m u)) n)
      (ap (number_only (On l (Receive m u))) e₅)
