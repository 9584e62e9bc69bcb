-- A command on a group, on a row of which it is known what its request looks for, is the table's step: what is said, and the table afterwards. For every row, clock, set and command whatever.
-- Assumes nothing.
use Prim.Native.Nat.{ℕ, ◌^◌, ◌<◌}
use native.Mathlib.Omega.{arith}
use mathlib.Core.Path.{◌≡◌, refl, sym, ap, ◌∙◌}
use mathlib.Core.Bool.{Bool, true, false}
use mathlib.Core.Option.{Option, none, some}
use mathlib.Core.List.{List}
use lib.Dec.{eqb}
use lib.ListN.{length, get_or, set}
use lib.Seq.{set_out}
use borrow.Author.Tests.{eqb-true, ltb-true}
use Rattle.octets.specs.Choice.{need}
use Rattle.octets.proofs.Chain.{need-passed, bar-passed, or_else-passed}
use Rattle.coordination.specs.declared.Dhc.{Dhc}
use Rattle.coordination.specs.Message.{dhc_refusal, dhc_of}
use Rattle.rules.specs.Times.{late}
use Rattle.rules.specs.Parties.{party_of, own_label}
use Rattle.rules.proofs.Bools.{split, no_way}
use Rattle.homing.specs.declared.GroupSettings.{GroupSettings}
use Rattle.session.specs.declared.Session.{Session}
use Rattle.session.specs.Steps.{new_session}
use Rattle.table.specs.declared.Head.{Head}
use Rattle.table.specs.Places.{opens, place_of}
use Rattle.table.specs.Table.{Table, has_group, in_order, find, is_found, absent, altered}
use Rattle.table.proofs.Found.{first-label}
use Rattle.grouping.specs.Commands.{Command, Ordinary, SetGroup, SetAc, ReturnGroup, Coordinate, silent}
use Rattle.grouping.specs.Grouped.{find_group, label_of, is_grouped, set_number, named_number, taken_by, holder_of, coordinate_number, command_number, answer_to, done_by, next_by, set_in, ac_set_in, returned_in, coordinated_in}
use Rattle.scan.specs.Passing.{summary_of}
use Rattle.scan.proofs.Scanned.{summary-sound, summary-place}
use Rattle.step.specs.Stepping.{table_of, is_place, nowhere}
use Rattle.step.proofs.TableStep.{place_found, of-64}
use Rattle.group_step.specs.declared.GroupRequest.{GroupRequest}
use Rattle.group_step.specs.declared.GroupTarget.{GroupTarget}
use Rattle.group_step.specs.declared.GroupSeen.{GroupSeen}
use Rattle.group_step.specs.GroupStepping.{is_on_groups, request_of, target_of, plain_of, takes_in, sound_answer, answer_of, head_after, stored_at, acted_of, step_of, group_at, GroupSteps}
use Rattle.group_step.specs.GroupSeeing.{holder_place, seen_in}
use Rattle.group_step.proofs.GroupPlaces.{holder-found, holder-label, found-test, found-any}

-- a record that is not there has no group, and takes no message
none-there : has_group absent ≡ false
unfolding new_session
none-there = refl

none-takes : (l : ℕ) (d : Dhc) → takes_in l d absent ≡ false
unfolding new_session
none-takes l d = refl

-- what takes a message was found
taken-found : (l : ℕ) (d : Dhc) (o : Option Session) → taken_by l d o ≡ true → is_found o ≡ true
taken-found l d none e = no_way e refl
taken-found l d (some r) e = refl

-- what follows a test is asked only where it holds
need-like : (a b : Bool) (m n : ℕ) → a ≡ b → (b ≡ true → m ≡ n) → need a 26 m ≡ need b 26 n
need-like a true m n e f = rw e (f refl)
need-like a false m n e f = rw e

-- the number of a command on groups
abbrev number_to : Table → Command → ℕ
number_to t (Ordinary c) = 0
number_to t (SetGroup p s u) = command_number t (set_number t p s u)
number_to t (SetAc p id ac u) = command_number t (named_number t p id u)
number_to t (ReturnGroup p id u) = command_number t (named_number t p id u)
number_to t (Coordinate l m u) = command_number t (coordinate_number t l m u)

says-number : (t : Table) (c : Command) → is_on_groups c ≡ true → answer_to t c ≡ silent (number_to t c)
unfolding answer_to
says-number t (Ordinary c) g = no_way g refl
says-number t (SetGroup p s u) g = refl
says-number t (SetAc p id ac u) g = refl
says-number t (ReturnGroup p id u) g = refl
says-number t (Coordinate l m u) g = refl

module _ (row : List Session) (head : Head) where
  abbrev t : Table
  t = table_of row head

  abbrev on : ℕ
  on = head.occupied

  -- the record that a target's call meets
  abbrev met : GroupTarget → Session
  met g = get_or row (seen_in row head g).place absent

  pub seen-sound : (g : GroupTarget) → (seen_in row head g).sound ≡ in_order t
  seen-sound g = summary-sound row head (plain_of g)

  -- what is seen of a table in order
  module _ (k : in_order t ≡ true) where
    full : length row ≡ 64
    full = of-64 row head k

    at_label : (g : GroupTarget) → (summary_of row head (plain_of g)).place ≡ place_of g.label on row
    at_label g = summary-place row head (plain_of g) k

    place-open : (l i : ℕ) → i ≡ place_of l on row → is_found (find l (opens on row)) ≡ is_place i
    place-open l i e = found-any row (place_of l on row) (find l (opens on row)) (place_found l on row absent) ∙ rw (full, e)

    seen_first : (g : GroupTarget) → is_found (find g.label (opens on row)) ≡ (seen_in row head g).first
    seen_first g = place-open g.label _ (at_label g)

    seen-second : (g : GroupTarget) → is_found (find g.second (opens on row)) ≡ (seen_in row head g).second
    seen-second g = place-open g.second _ (first-label t k g.second)

    seen-taken : (g : GroupTarget) → is_found (find_group g.party g.id (opens on row)) ≡ (seen_in row head g).taken
    seen-taken g = found-any row _ _ (holder-found g.party g.id on row absent) ∙ rw full

    -- setting meets the record of the service PW
    seen-grouped : (p : ℕ) (s : GroupSettings) (u : ℕ) → is_grouped (find (own_label p s.service) (opens on row)) ≡ has_group (met (target_of (request_of (SetGroup p s u))))
    seen-grouped p s u =
        found-test row (place_of (own_label p s.service) on row) _ (place_found (own_label p s.service) on row absent) is_grouped has_group (λ r. refl) refl none-there
        ∙ rw (at_label (target_of (request_of (SetGroup p s u))))

    -- a message meets the record of the group
    seen-takes : (l : ℕ) (m : List ℕ) (u : ℕ) → taken_by l (dhc_of m) (holder_of l (dhc_of m) (opens on row)) ≡ takes_in l (dhc_of m) (met (target_of (request_of (Coordinate l m u))))
    seen-takes l m u =
        found-test row _ _ (holder-found (party_of l) (dhc_of m).id on row absent) (taken_by l (dhc_of m)) (takes_in l (dhc_of m)) (λ r. refl) refl (none-takes l (dhc_of m))

  -- the number that the step gives is the command's
  abbrev answered : Command → ℕ
  answered c = let g = target_of (request_of c) in answer_of (seen_in row head g) head (request_of c) (met g)

  abbrev asked : Command → ℕ
  asked c = let g = target_of (request_of c) in sound_answer (seen_in row head g) head.clock (request_of c) (met g)

  -- 26 is due exactly where the table is not in order
  step-number : (c : Command) (n : ℕ) → (in_order t ≡ true → asked c ≡ n) → answered c ≡ command_number t n
  unfolding answer_of
  step-number c n f = need-like (seen_in row head (target_of (request_of c))).sound (in_order t) (asked c) n (seen-sound (target_of (request_of c))) f

  answered-number : (c : Command) → is_on_groups c ≡ true → answered c ≡ number_to t c
  unfolding sound_answer set_number named_number coordinate_number
  answered-number (Ordinary c) g = no_way g refl
  answered-number (SetGroup p s u) g =
      let x = target_of (request_of (SetGroup p s u)) in
      step-number (SetGroup p s u) (set_number t p s u) (λ k. rw (seen_first k x, seen-second k x, seen-taken k x, seen-grouped k p s u))
  answered-number (SetAc p id ac u) g = step-number (SetAc p id ac u) (named_number t p id u) (λ k. rw (seen-taken k (target_of (request_of (SetAc p id ac u)))))
  answered-number (ReturnGroup p id u) g = step-number (ReturnGroup p id u) (named_number t p id u) (λ k. rw (seen-taken k (target_of (request_of (ReturnGroup p id u)))))
  answered-number (Coordinate l m u) g =
      step-number (Coordinate l m u) (coordinate_number t l m u) (λ k. rw (seen_first k (target_of (request_of (Coordinate l m u))), seen-takes k l m u))

  -- ---- what an accepted one leaves
  -- the record of the label of the group that was found
  at-holder : (p id : ℕ) → in_order t ≡ true → is_place (holder_place p id on row) ≡ true → place_of (label_of (find_group p id (opens on row))) on row ≡ holder_place p id on row
  at-holder p id k e = holder-label t k p id (omega (arith, full k, ltb-true (holder_place p id on row) 64 e))

  -- what the table's step stores, where the place is the one that is met
  stored : (l i : ℕ) (f : Session → Session) (clock : ℕ) → place_of l on row ≡ i
      → table_of (set row i (f (get_or row i absent))) (record { clock = clock; occupied = on }) ≡ altered t l f clock
  unfolding altered
  stored l i f clock e = rw e

  in_order_lem : (c : Command) → answered c ≡ 0 → (in_order t ≡ true) × (asked c ≡ 0)
  unfolding answer_of
  in_order_lem c z =
      let w = need-passed (seen_in row head (target_of (request_of c))).sound 25 (asked c) z in
      (sym (seen-sound (target_of (request_of c))) ∙ w.0, w.1)

  command-left : (c : Command) → is_on_groups c ≡ true → answered c ≡ 0
      → table_of (set row (stored_at (seen_in row head (target_of (request_of c))).place (request_of c)) (acted_of (request_of c) (met (target_of (request_of c))))) (head_after head (request_of c)) ≡ done_by t c
  unfolding sound_answer stored_at acted_of head_after done_by
  command-left (Ordinary c) g z = no_way g refl
  command-left (SetGroup p s u) g z =
      let k = (in_order_lem (SetGroup p s u) z).0 in
      stored (own_label p s.service) _ (set_in s u) u (sym (at_label k (target_of (request_of (SetGroup p s u)))))
  command-left (SetAc p id ac u) g z =
      let w = in_order_lem (SetAc p id ac u) z in
      let e = (need-passed (is_place (holder_place p id on row)) 23 0 (bar-passed (late head.clock u) 0 _ w.1).1).0 in
      stored (label_of (find_group p id (opens on row))) _ (ac_set_in ac u) u (at-holder p id w.0 e)
  command-left (ReturnGroup p id u) g z =
      let w = in_order_lem (ReturnGroup p id u) z in
      let e = (need-passed (is_place (holder_place p id on row)) 23 0 (bar-passed (late head.clock u) 0 _ w.1).1).0 in
      stored (label_of (find_group p id (opens on row))) _ (returned_in u) u (at-holder p id w.0 e)
  command-left (Coordinate l m u) g z =
      let c = Coordinate l m u in
      let w = in_order_lem c z in
      let here = (need-passed (seen_in row head (target_of (request_of c))).first 1 _ (bar-passed (late head.clock u) 0 _ w.1).1).1 in
      let takes = (need-passed (takes_in l (dhc_of m) (met (target_of (request_of c)))) 23 0 (or_else-passed (dhc_refusal m) _ here).1).0 in
      let there = taken-found l (dhc_of m) (holder_of l (dhc_of m) (opens on row)) (seen-takes w.0 l m u ∙ takes) in
      stored (label_of (holder_of l (dhc_of m) (opens on row))) _ (coordinated_in (dhc_of m) u) u
      (at-holder (party_of l) (dhc_of m).id w.0 (sym (seen-taken w.0 (target_of (request_of c))) ∙ there))

  -- ---- the step
  module _ (long : length row < 2 ^ 64) where
    pub kept : (x : Session) → set row nowhere x ≡ row
    kept x = set_out row nowhere x (omega (arith, long))

    module _ (seen : GroupSeen) (q : GroupRequest) where
      abbrev r : Session
      r = get_or row seen.place absent

      obey-number : (group_at row head seen q).outcome.answer ≡ answer_of seen head q r
      unfolding group_at step_of
      obey-number = refl

      obey-took : answer_of seen head q r ≡ 0
          → table_of (group_at row head seen q).row (group_at row head seen q).outcome.head ≡ table_of (set row (stored_at seen.place q) (acted_of q r)) (head_after head q)
      unfolding group_at step_of
      obey-took z = rw z

      -- a refusal stores nothing and moves no clock
      obey-left : eqb (answer_of seen head q r) 0 ≡ false → table_of (group_at row head seen q).row (group_at row head seen q).outcome.head ≡ t
      unfolding group_at step_of
      obey-left z = rw (z, kept (acted_of q r))

    pub group-steps : (c : Command) → is_on_groups c ≡ true → GroupSteps row head c (group_at row head (seen_in row head (target_of (request_of c))) (request_of c))
    unfolding next_by
    group-steps c g =
        let seen = seen_in row head (target_of (request_of c)) in
        let q = request_of c in
        let n = answered-number c g in (
          ap silent (obey-number seen q ∙ n) ∙ sym (says-number t c g),
          rw (says-number t c g)
              (split (eqb (answered c) 0)
              (λ z. rw (sym n, z) (obey-took seen q (eqb-true _ 0 z) ∙ command-left c g (eqb-true _ 0 z)))
              (λ z. rw (sym n, z) (obey-left seen q z))),
        )
