-- Asked of a group, a table in step with the commands tells what they come to.
-- Assumes nothing.
use Prim.Native.Nat.{ℕ}
use mathlib.Core.Path.{◌≡◌, refl, sym, ap, ◌∙◌}
use mathlib.Core.Bool.{Bool, cond}
use mathlib.Core.Option.{Option, none, some}
use lib.Dec.{eqb}
use Rattle.rules.specs.declared.State.{State}
use Rattle.rules.specs.States.{reported}
use Rattle.homing.specs.declared.Group.{Group}
use Rattle.homing.specs.Forwarding.{report_of}
use Rattle.session.specs.declared.Session.{Session}
use Rattle.session.specs.Queries.{report_at, group_at}
use Rattle.table.specs.Table.{Table, open_of, find}
use Rattle.grouping.specs.Grouped.{find_group}
use Rattle.grouping.specs.Asking.{refused_with, is_up, told_of, asked_of}
use Rattle.grouping.proofs.Holders.{holder-is}
use Rattle.meaning.specs.Stories.{Story}
use Rattle.meaning.specs.Histories.{story, labels}
use Rattle.meaning.proofs.Fits.{same-state}
use Rattle.meaning.proofs.Sim.{Fit, sim-order}
use Rattle.switching.specs.Groups.{Past, plain, now_of, group_among, group_with, up_by, up_on, tells_of, tells}
use Rattle.switching.specs.Switching.{group_in}
use Rattle.switching.proofs.Alone.{holder-shown, among-open}
use Rattle.switching.proofs.Kept.{Kept}

-- a session is up in its record where it is up in its story
up_same : (now : ℕ) (o : Option Session) (p : Option Story) → Fit now o p → is_up now o ≡ up_by now p
unfolding report_at
up_same now none none f = refl
up_same now none (some s) f = absurd f
up_same now (some r) none f = absurd f
up_same now (some r) (some s) f = ap (λ (x : State). eqb (reported x) 3) (same-state f now)

module _ (h : Past) (t : Table) (K : Kept h t) where
  -- the party's group of an ID is the same on both sides
  pub with-found : (p id : ℕ) → group_with p id h ≡ group_in (now_of h) (find_group p id (open_of t))
  with-found p id =
      ap (λ (of : ℕ → Option Group). group_among p id of (labels (plain h))) (λ i l. K.groups l i) ∙ among-open K.in_step p id

  up-on : (l : ℕ) → is_up t.clock (find l (open_of t)) ≡ up_on l h
  up-on l = ap (λ (n : ℕ). is_up n (find l (open_of t))) K.in_step.clock ∙ up_same (now_of h) (find l (open_of t)) (story l (plain h)) (K.in_step.fit l)

  told_same : (p id : ℕ) (o : Option Session) → find_group p id (open_of t) ≡ o → told_of t o ≡ tells_of h (group_in (now_of h) o)
  unfolding group_at
  told_same p id none f = refl
  told_same p id (some r) f =
      (λ i. record { number = 0; group = report_of (up-on r.group.dni i) (group_at r (K.in_step.clock i)) })
      ∙ ap (tells_of h) (sym (holder-shown p id (now_of h) r (holder-is p id (open_of t) r f).1).0)

  pub asked-same : (p id : ℕ) → asked_of t p id ≡ tells p id h
  unfolding asked_of tells
  asked-same p id =
      ap (λ (b : Bool). cond b (told_of t (find_group p id (open_of t))) (refused_with 26)) (sim-order K.in_step)
      ∙ told_same p id (find_group p id (open_of t)) refl
      ∙ ap (tells_of h) (sym (with-found p id))
