-- What a call on a group leaves on the lent row is one command of the table, and what asking tells is what the table tells. The row has a length that a machine can hold.
--     ordinary-command     a call that there was before is the table's step as it was
--     group-command        from what `group_lent` ensures to what a public call on groups does
--     group-told           from what asking and the report on the DNI-PW ensure to what `korvezul_ask_group` does
-- Assumes nothing.
use Prim.Native.Nat.{ℕ, ◌<◌, ◌^◌}
use mathlib.Core.Path.{◌≡◌, refl, sym, ap, ◌∙◌}
use mathlib.Core.Bool.{Bool, true, false, cond, ◌&&◌}
use mathlib.Core.List.{List}
use lib.Dec.{eqb}
use lib.ListN.{length}
use Rattle.rules.specs.Calls.{Call, On, ReportOn, is_accepted, number_only, reporting}
use Rattle.rules.proofs.Bools.{split}
use Rattle.session.specs.declared.Session.{Session}
use Rattle.table.specs.declared.Head.{Head}
use Rattle.table.specs.Table.{Table, answer, act_done, done, next}
use Rattle.grouping.specs.Commands.{Command, Ordinary, silent}
use Rattle.grouping.specs.Grouped.{answer_to}
use Rattle.grouping.specs.Asking.{asked_of}
use Rattle.grouping.proofs.Apart.{ordinary-next}
use Rattle.step.specs.declared.Outcome.{Outcome}
use Rattle.step.specs.declared.Request.{Request}
use Rattle.step.specs.Requests.{request_on}
use Rattle.step.specs.Saying.{said_of}
use Rattle.step.specs.Stepping.{table_of, Obeyed}
use Rattle.group_step.specs.declared.GroupRequest.{GroupRequest}
use Rattle.group_step.specs.declared.GroupRequest.TheVariants.{Ask}
use Rattle.group_step.specs.declared.GroupOutcome.{GroupOutcome}
use Rattle.group_step.specs.GroupStepping.{is_on_groups, request_of, GroupObeyed, up_in, group_told}
use Rattle.group_step.proofs.GroupSteps.{group-steps}
use Rattle.group_step.proofs.GroupAsks.{told_with, group-asks, asks-kept}
use Rattle.korvezul.specs.declared.groups.GroupAnswer.{GroupAnswer}
use Rattle.korvezul.specs.Calling.{called, obey_lent}
use Rattle.korvezul.specs.Commanding.{commanded, group_lent, is_up_by, group_answer_of, told_in, asked_on}
use Rattle.korvezul.proofs.OneStep.{act-step}

pub ordinary-command : (t : Table) (c : Call) → commanded t (Ordinary c) ≡ called t c
unfolding answer_to
ordinary-command t c = λ i. record { said = answer t c; table = ordinary-next t c i }

module _ (row : List Session) (head : Head) (long : length row < 2 ^ 64) where
  -- o, zs and h are what the call left
  pub group-command : (c : Command) → is_on_groups c ≡ true → (q : GroupRequest) → q ≡ request_of c → (o : GroupOutcome) (zs : List Session) (h : Head)
      → (record { outcome = o; row = zs } ≡ group_lent row head q) × (h ≡ o.head) → (n : ℕ) → n ≡ o.answer → record { said = silent n; table = table_of zs h } ≡ commanded (table_of row head) c
  group-command c g q e o zs h l n m =
      let made : record { outcome = o; row = zs } ≡ group_lent row head (request_of c) = l.0 ∙ ap (group_lent row head) e in
      let steps = group-steps row head long c g in
      let said : silent n ≡ _ = ap silent m ∙ ap (λ (y : GroupObeyed). silent y.outcome.answer) made ∙ steps.0 in
      let left : table_of zs h ≡ _ = ap (table_of zs) l.1 ∙ ap (λ (y : GroupObeyed). table_of y.row y.outcome.head) made ∙ steps.1 in
      λ i. record { said = said i; table = left i }

-- a report changes nothing
report-keeps : (t : Table) (l : ℕ) → next t (On l ReportOn) ≡ t
unfolding next done act_done
report-keeps t l = split (is_accepted (answer t (On l ReportOn))) (λ e. rw e) (λ e. rw e)

-- and says UP where its outcome does
says-by : (l : ℕ) (x : Outcome) (b : Bool) → eqb x.answer 0 ≡ b
    → (b && eqb x.told.report.state 3) ≡ up_in (cond b (reporting x.told.report) (number_only (On l ReportOn) x.answer))
says-by l x true e = refl
says-by l x false e = rw e

says-up : (l : ℕ) (x : Outcome) → is_up_by x ≡ up_in (said_of (On l ReportOn) x)
says-up l x = says-by l x (eqb x.answer 0) refl

module _ (row : List Session) (head : Head) (long : length row < 2 ^ 64) (p id : ℕ) where
  abbrev t : Table
  t = table_of row head

  -- u, zs and h₁ are what asking left, x, ws and h₂ what the report on the DNI-PW left
  pub group-told : (c : GroupRequest) → c ≡ Ask p id → (u : GroupOutcome) (zs : List Session) (h₁ : Head) → (record { outcome = u; row = zs } ≡ group_lent row head c) × (h₁ ≡ u.head)
      → (d : Request) → d ≡ request_on u.told.dni ReportOn → (x : Outcome) (ws : List Session) (h₂ : Head) → (record { outcome = x; row = ws } ≡ obey_lent zs h₁ d) × (h₂ ≡ x.head)
      → (r : GroupAnswer) → r ≡ group_answer_of u x → record { told = told_in r; table = table_of ws h₂ } ≡ asked_on t p id
  group-told c e u zs h₁ l d k x ws h₂ m r n =
      let dni = u.told.dni in
      let asked : record { outcome = u; row = zs } ≡ group_lent row head (Ask p id) = l.0 ∙ ap (group_lent row head) e in
      let same = asks-kept row head p id long in
      let rows : zs ≡ row = ap (λ (y : GroupObeyed). y.row) asked ∙ same.0 in
      let heads : h₁ ≡ head = l.1 ∙ ap (λ (y : GroupObeyed). y.outcome.head) asked ∙ same.1 in
      let reported : record { outcome = x; row = ws } ≡ obey_lent row head (request_on dni ReportOn) = m.0 ∙ (λ i. obey_lent (rows i) (heads i) (k i)) in
      let steps = act-step row head long dni ReportOn refl in
      let up : is_up_by x ≡ up_in (answer t (On dni ReportOn)) =
      says-up dni x ∙ ap up_in (ap (λ (y : Obeyed). said_of (On dni ReportOn) y.outcome) reported ∙ steps.0) in
      let by : told_in (group_answer_of u x) ≡ told_with t u = λ i. record { number = u.answer; group = group_told u.told (up i) } in
      let told : told_in r ≡ asked_of t p id = ap told_in n ∙ by ∙ ap (λ (y : GroupObeyed). told_with t y.outcome) asked ∙ sym (group-asks row head p id) in
      let left : table_of ws h₂ ≡ t = ap (table_of ws) m.1 ∙ ap (λ (y : Obeyed). table_of y.row y.outcome.head) reported ∙ steps.1 ∙ report-keeps t dni in
      λ i. record { told = told i; table = left i }
