-- Asking of a group: its number, and with the report of the label that it tells the three numbers of the group, are what the table tells. It changes nothing. For every row, clock, set, party and
-- ID whatever.
-- Assumes nothing.
use Prim.Native.Nat.{ℕ, ◌^◌, ◌<◌}
use mathlib.Core.Path.{◌≡◌, refl, sym, ap, ◌∙◌}
use mathlib.Core.Bool.{Bool, true, false, cond}
use mathlib.Core.Option.{Option, none, some}
use mathlib.Core.List.{List}
use lib.Dec.{eqb}
use lib.ListN.{length, get_or}
use Rattle.rules.specs.Calls.{On, ReportOn}
use Rattle.rules.proofs.Bools.{split}
use Rattle.session.specs.declared.Session.{Session}
use Rattle.session.specs.Queries as Queries
use Rattle.table.specs.declared.Head.{Head}
use Rattle.table.specs.Table.{Table, open_of, in_order, find, absent, act_answer, answer, report_answer}
use Rattle.table.specs.Table as Table
use Rattle.grouping.specs.Grouped.{find_group}
use Rattle.grouping.specs.Asking.{Told, nothing, refused_with, is_up, told_of, asked_of}
use Rattle.step.specs.Stepping.{table_of, is_place}
use Rattle.step.proofs.TableStep.{of-64}
use Rattle.group_step.specs.declared.GroupRequest.TheVariants.{Ask}
use Rattle.group_step.specs.declared.GroupOutcome.{GroupOutcome}
use Rattle.group_step.specs.GroupStepping.{target_of, sound_answer, answer_of, head_after, stored_at, acted_of, nothing_told, told_by, step_of, GroupObeyed, group_at, up_in, group_told}
use Rattle.group_step.specs.GroupSeeing.{holder_place, seen_in}
use Rattle.group_step.proofs.GroupPlaces.{holder-found}
use Rattle.group_step.proofs.GroupSteps.{seen-sound, kept}

-- noughts tell noughts, whatever is known of a DNI-PW
told-nothing : (up : Bool) → nothing ≡ group_told nothing_told up
told-nothing true = refl
told-nothing false = refl

-- the DNI-PW is up where the report on its label is accepted and says UP
reported : (clock l : ℕ) (o : Option Session) → is_up clock o ≡ up_in (report_answer (On l ReportOn) clock o)
reported clock l none = refl
reported clock l (some r) = refl

report-says : (t : Table) (l : ℕ) → in_order t ≡ true → is_up t.clock (find l (open_of t)) ≡ up_in (answer t (On l ReportOn))
unfolding answer Table.asked act_answer
report-says t l k = rw k (reported t.clock l (find l (open_of t)))

-- what the caller is told: the number, and from what the step tells and the report on the label of the DNI-PW the rest
abbrev pub told_with : Table → GroupOutcome → Told
told_with t o = record { number = o.answer; group = group_told o.told (up_in (answer t (On o.told.dni ReportOn))) }

module _ (row : List Session) (head : Head) (p id : ℕ) where
  abbrev t : Table
  t = table_of row head

  abbrev i : ℕ
  i = holder_place p id head.occupied row

  abbrev r : Session
  r = get_or row i absent

  abbrev x : GroupObeyed
  x = group_at row head (seen_in row head (target_of (Ask p id))) (Ask p id)

  abbrev n : ℕ
  n = answer_of (seen_in row head (target_of (Ask p id))) head (Ask p id) r

  -- a refusal tells its number alone
  refused : eqb n 0 ≡ false → told_with t x.outcome ≡ refused_with n
  unfolding group_at step_of
  refused z = rw z (λ j. record { number = n; group = sym (told-nothing (up_in (answer t (On 0 ReportOn)))) j })

  -- an accepted one what the record has at the clock
  accepted : in_order t ≡ true → n ≡ 0 → told_with t x.outcome ≡ told_of t (some r)
  unfolding group_at step_of told_by Queries.group_at
  accepted k z = rw (z, ← report-says t r.group.dni k)

  number-26 : in_order t ≡ false → n ≡ 26
  unfolding answer_of
  number-26 k = rw (seen-sound row head (target_of (Ask p id)), k)

  number-24 : in_order t ≡ true → n ≡ cond (is_place i) 0 24
  unfolding answer_of sound_answer
  number-24 k = rw (seen-sound row head (target_of (Ask p id)), k)

  -- what the table tells, by the place of the group
  in-order-tells : in_order t ≡ true → asked_of t p id ≡ told_of t (cond (is_place i) (some r) none)
  unfolding asked_of
  in-order-tells k =
      let there : find_group p id (open_of t) ≡ cond (is_place i) (some r) none = holder-found p id head.occupied row absent ∙ rw (of-64 row head k) in
      rw k (ap (told_of t) there)

  unordered-tells : in_order t ≡ false → asked_of t p id ≡ refused_with 26
  unfolding asked_of
  unordered-tells k = rw k

  pub group-asks : asked_of t p id ≡ told_with t x.outcome
  group-asks =
      split (in_order t)
      (λ k.
      split (is_place i)
      (λ e. in-order-tells k ∙ ap (λ (b : Bool). told_of t (cond b (some r) none)) e ∙ sym (accepted k (number-24 k ∙ rw e)))
      (λ e.
      let z : n ≡ 24 = number-24 k ∙ rw e in
      in-order-tells k ∙ ap (λ (b : Bool). told_of t (cond b (some r) none)) e ∙ sym (ap refused_with z) ∙ sym (refused (ap (λ (m : ℕ). eqb m 0) z))))
      (λ k.
      let z : n ≡ 26 = number-26 k in
      unordered-tells k ∙ sym (ap refused_with z) ∙ sym (refused (ap (λ (m : ℕ). eqb m 0) z)))

  -- the row and the head stay
  pub asks-kept : length row < 2 ^ 64 → (x.row ≡ row) × (x.outcome.head ≡ head)
  unfolding group_at step_of stored_at head_after acted_of
  asks-kept long =
      split (eqb n 0)
      (λ z. (rw (z, kept row head long r), rw z))
      (λ z. (rw (z, kept row head long r), rw z))
