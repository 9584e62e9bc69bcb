-- Nothing else depends on a group: a table without its groups is in order where the table is, answers every other call as it does, and is what the same calls
-- leave of it, where an accepted command on groups is a tick to its reading.
-- Assumes nothing.
use Prim.Native.Nat.{ℕ, ◌+◌, ◌-◌, ◌^◌}
use mathlib.Core.Path.{◌≡◌, refl, sym, ap, ◌∙◌}
use mathlib.Core.Bool.{Bool, true, not}
use mathlib.Core.Option
use mathlib.Core.Option.{Option, none, some}
use mathlib.Core.List.{List, [], ◌∷◌, ◌++◌, map}
use lib.Dec.{eqb}
use lib.ListN.{length, get_or, set, length-map}
use lib.Seq.{map-set_same}
use Rattle.octets.specs.Choice.{need, bar, or_else}
use Rattle.octets.specs.Writing.{writing}
use Rattle.octets.proofs.Chain.{and_both}
use Rattle.coordination.specs.Message.{dhc_of}
use Rattle.message.specs.Message.{message_refusal, message_of}
use Rattle.rules.specs.declared.Settings.{Settings}
use Rattle.rules.specs.Times.{late}
use Rattle.rules.specs.Settings.{settings_fit}
use Rattle.rules.specs.Received.{received_as}
use Rattle.rules.specs.Parties.{party_of, is_of, own_label, own_most}
use Rattle.rules.specs.Lists.{any, only, once}
use Rattle.rules.specs.Calls.{Act, Close, Lock, Unlock, Receive, ReportOn, WriteCc, WriteCv, Call, Tick, Open, On, is_accepted, number_only, reporting, writes}
use Rattle.rules.proofs.Bools.{split, both_true}
use Rattle.homing.specs.declared.Group.{Group}
use Rattle.homing.specs.Groups.{grouped, ac_set, returned}
use Rattle.homing.specs.Messages.{coordinated}
use Rattle.homing.proofs.Fits.{no-group-fits}
use Rattle.session.specs.declared.Session.{Session}
use Rattle.session.specs.Queries.{loss_at, crossing_at, group_at}
use Rattle.session.specs.Steps.{new_session, locked_at, unlocked_at, reply_settled}
use Rattle.session.specs.Soundness.{session_sound, ungrouped_sound}
use Rattle.table.specs.Places.{lowest_free, place_of}
use Rattle.table.specs.Table.{Table, open_of, same_group, same_label, same_discriminator, open_by, every, in_order, find, rivals, open_answer, act_answer, asked, answer, absent, altered, added, closed, receiving, act_done, done, next}
use Rattle.table.proofs.Every.{every-on}
use Rattle.table.proofs.GroupsApart.{none-like}
use Rattle.table.proofs.Refusals.{refused-table}
use Rattle.table.proofs.Order.{order-says, says-order}
use Rattle.grouping.specs.Commands.{Command, Ordinary, SetGroup, SetAc, ReturnGroup, Coordinate}
use Rattle.grouping.specs.Grouped.{label_of, find_group, holder_of, answer_to, with_group, set_in, ac_set_in, returned_in, coordinated_in, done_by, next_by}
use Rattle.grouping.specs.Bare.{bare, bare_table, tick_if, calls_of, table_by, calls_by}
use Rattle.grouping.proofs.Accepted.{OnGroups, setting, ac_setting, returning, coordinating, reading-passed}
use Rattle.grouping.proofs.Order.{refused-stays, order-by}
use Rattle.grouping.proofs.BareRecord.{bare-report, bare-cc, bare-cv, bare-ungrouped, bare-received-answer, bare-regrouped, bare-locked, bare-unlocked, bare-receiving, bare-written, bare-new}
use Rattle.grouping.proofs.BareRow.{bare-opens, bare-place, bare-find, bare-at, bare_set, bare-any, bare-once, bare-count}

-- the open records
pub open-bare : (t : Table) → open_of (bare_table t) ≡ map bare (open_of t)
unfolding bare_table
open-bare t = bare-opens t.occupied t.row

pub found-bare : (t : Table) (l : ℕ) → find l (open_of (bare_table t)) ≡ Option.map bare (find l (open_of t))
found-bare t l = ap (find l) (open-bare t) ∙ bare-find l (open_of t)

any-bare : (t : Table) (p : Session → Bool) → ((r : Session) → p (bare r) ≡ p r) → any p (open_of (bare_table t)) ≡ any p (open_of t)
any-bare t p k = ap (any p) (open-bare t) ∙ bare-any p p k (open_of t)

share-bare : (t : Table) (p : ℕ) → open_by p (bare_table t) ≡ open_by p t
unfolding bare with_group
share-bare t p =
    ap (λ (rs : List Session). length (only (λ r. is_of p r.settings.label) rs)) (open-bare t)
    ∙ bare-count (λ (r : Session). is_of p r.settings.label) (λ r. refl) (open_of t)

-- order

sound-bare : (clock : ℕ) (r : Session) → session_sound r clock ≡ true → session_sound (bare r) clock ≡ true
unfolding session_sound bare with_group
sound-bare clock r e = both_true (bare-ungrouped r clock ∙ (and_both (ungrouped_sound r clock) _ e).0) (no-group-fits r.settings.label)

none-grouped : (rs : List Session) → once same_group (map bare rs) ≡ true
unfolding once bare with_group
none-grouped [] = refl
none-grouped (r ∷ rs) = both_true (ap not (none-like (bare r) refl (map bare rs))) (none-grouped rs)

pub bare-order : (t : Table) → in_order t ≡ true → in_order (bare_table t) ≡ true
unfolding bare with_group
bare-order t e =
    let o = order-says t e in
    let sound : Session → Bool = λ r. session_sound r t.clock in
    says-order (bare_table t)
    (record {
      rows = unfold bare_table in length-map t.row bare ∙ o.rows;
      sound =
          unfold bare_table in
          ap (every sound) (open-bare t)
          ∙ ap not (bare-any (λ r. not (sound r)) (λ r. not (sound (bare r))) (λ r. refl) (open_of t))
          ∙ every-on sound (λ r. sound (bare r)) (sound-bare t.clock) (open_of t) o.sound;
      labels = ap (once same_label) (open-bare t) ∙ bare-once same_label (λ a b. refl) (open_of t) ∙ o.labels;
      discriminators = ap (once same_discriminator) (open-bare t) ∙ bare-once same_discriminator (λ a b. refl) (open_of t) ∙ o.discriminators;
      each = λ p. rw (share-bare t p) (o.each p);
      groups = ap (once same_group) (open-bare t) ∙ none-grouped (open_of t);
    })

-- answers

act-bare : (clock : ℕ) (o : Option Session) (l : ℕ) (a : Act) → act_answer clock (Option.map bare o) l a ≡ act_answer clock o l a
unfolding act_answer
act-bare clock none l a = refl
act-bare clock (some r) l (Close u) = refl
act-bare clock (some r) l (Lock u) = refl
act-bare clock (some r) l (Unlock u) = refl
act-bare clock (some r) l (Receive m u) =
    unfold bare with_group in
    ap (λ (n : ℕ). number_only (On l (Receive m u)) (bar (late clock u) 1 (or_else (message_refusal m) n)))
    (bare-received-answer r u (received_as r.settings (message_of m)))
act-bare clock (some r) l ReportOn = ap reporting (bare-report r clock)
act-bare clock (some r) l (WriteCc b) = ap (λ (o : List ℕ). writes (writing 0 o b)) (bare-cc r clock)
act-bare clock (some r) l (WriteCv b) = ap (λ (o : List ℕ). writes (writing 0 o b)) (bare-cv r clock)

open-answer-bare : (t : Table) (g : Settings) (u : ℕ) → open_answer (bare_table t) g u ≡ open_answer t g u
unfolding open_answer
open-answer-bare t g u =
    unfold bare_table in
    λ i. bar (late t.clock u) 1
    (need (settings_fit g) 10
    (bar (any-bare t (rivals g) (λ r. unfold bare with_group in refl) i) 11
    (bar (eqb (share-bare t (party_of g.label) i) own_most) 12 0)))

asked-bare : (t : Table) (c : Call) → asked (bare_table t) c ≡ asked t c
unfolding asked bare_table
asked-bare t (Tick u) = refl
asked-bare t (Open g u) = ap (number_only (Open g u)) (open-answer-bare t g u)
asked-bare t (On l a) = ap (λ (o : Option Session). act_answer t.clock o l a) (found-bare t l) ∙ act-bare t.clock (find l (open_of t)) l a

pub bare-answer : (t : Table) → in_order t ≡ true → (c : Call) → answer t c ≡ answer (bare_table t) c
unfolding answer
bare-answer t e c = rw (e, bare-order t e) (sym (asked-bare t c))

-- what calls leave

altered-bare : (t : Table) (l u : ℕ) (f : Session → Session) → ((r : Session) → bare (f r) ≡ f (bare r)) → bare_table (altered t l f u) ≡ altered (bare_table t) l f u
unfolding altered bare_table
altered-bare t l u f k =
    let place = place_of l t.occupied t.row in
    let record-there = get_or t.row place absent in
    let rows =
    bare_set t.row place (f record-there)
    ∙ ap (set (map bare t.row) place) (k record-there ∙ ap f (sym (bare-at t.row place)))
    ∙ ap (λ (i : ℕ). set (map bare t.row) i (f (get_or (map bare t.row) i absent))) (sym (bare-place l t.occupied t.row)) in
    λ i. record { row = rows i; clock = u; occupied = t.occupied }

added-bare : (t : Table) (g : Settings) (u : ℕ) → bare_table (added t g u) ≡ added (bare_table t) g u
unfolding added bare_table
added-bare t g u =
    let place = lowest_free 64 t.occupied in
    let rows = bare_set t.row place (new_session g u) ∙ ap (set (map bare t.row) place) (bare-new g u) in
    λ i. record { row = rows i; clock = u; occupied = t.occupied + 2 ^ place }

closed-bare : (t : Table) (l u : ℕ) → bare_table (closed t l u) ≡ closed (bare_table t) l u
unfolding closed bare_table
closed-bare t l u = λ i. record { row = map bare t.row; clock = u; occupied = t.occupied - 2 ^ sym (bare-place l t.occupied t.row) i }

act-done-bare : (t : Table) (l : ℕ) (a : Act) → bare_table (act_done t l a) ≡ act_done (bare_table t) l a
unfolding act_done
act-done-bare t l (Close u) = closed-bare t l u
act-done-bare t l (Lock u) = altered-bare t l u (λ r. locked_at r u) (λ r. bare-locked r u)
act-done-bare t l (Unlock u) = altered-bare t l u (λ r. unlocked_at r u) (λ r. bare-unlocked r u)
act-done-bare t l (Receive m u) = altered-bare t l u (receiving m u) (λ r. bare-receiving r u m)
act-done-bare t l ReportOn = refl
act-done-bare t l (WriteCc b) = unfold bare_table in altered-bare t l t.clock reply_settled bare-written
act-done-bare t l (WriteCv b) = refl

done-bare : (t : Table) (c : Call) → bare_table (done t c) ≡ done (bare_table t) c
unfolding done
done-bare t (Tick u) = unfold bare_table in refl
done-bare t (Open g u) = added-bare t g u
done-bare t (On l a) = act-done-bare t l a

pub bare-next : (t : Table) → in_order t ≡ true → (c : Call) → bare_table (next t c) ≡ next (bare_table t) c
unfolding next
bare-next t e c =
    let same = ap is_accepted (bare-answer t e c) in
    split (is_accepted (answer t c)) (λ a. rw (a, sym same ∙ a) (done-bare t c)) (λ a. rw (a, sym same ∙ a))

-- what commands on groups leave: where a record is given another group, the clock alone

regrouped-bare : (t : Table) (l u : ℕ) (g : Session → Group) → bare_table (altered t l (λ r. with_group (g r) r) u) ≡ done (bare_table t) (Tick u)
unfolding altered bare_table done
regrouped-bare t l u g =
    let place = place_of l t.occupied t.row in
    let record-there = get_or t.row place absent in
    let rows = map-set_same bare t.row place (with_group (g record-there) record-there) absent (bare-regrouped (g record-there) record-there) in
    λ i. record { row = rows i; clock = u; occupied = t.occupied }

done-grouped : (t : Table) {c : Command} {u : ℕ} → OnGroups c u → bare_table (done_by t c) ≡ done (bare_table t) (Tick u)
unfolding done_by set_in ac_set_in returned_in coordinated_in
done-grouped t (setting {p} {s} {u}) = regrouped-bare t (own_label p s.service) u (λ r. grouped s (loss_at r u) (crossing_at r u))
done-grouped t (ac_setting {p} {id} {ac} {u}) = regrouped-bare t (label_of (find_group p id (open_of t))) u (λ r. ac_set ac (group_at r u))
done-grouped t (returning {p} {id} {u}) =
    regrouped-bare t (label_of (find_group p id (open_of t))) u (λ r. returned (loss_at r u) (crossing_at r u) (group_at r u))
done-grouped t (coordinating {l} {m} {u}) = regrouped-bare t (label_of (holder_of l (dhc_of m) (open_of t))) u (λ r. coordinated (dhc_of m) (group_at r u))

module _ (t : Table) (e : in_order t ≡ true) {c : Command} {u : ℕ} (on : OnGroups c u) (a : is_accepted (answer_to t c) ≡ true) where
  -- the tick is accepted
  pub bare-tick : answer (bare_table t) (Tick u) ≡ number_only (Tick u) 0
  unfolding answer asked
  bare-tick = rw (bare-order t e) (unfold bare_table in rw (reading-passed t on a))

  pub bare-grouped : bare_table (next_by t c) ≡ next (bare_table t) (Tick u)
  unfolding next_by next
  bare-grouped = let ticked : is_accepted (answer (bare_table t) (Tick u)) ≡ true = ap is_accepted bare-tick in rw (a, ticked) (done-grouped t on)

-- a run

-- a table after calls
unfoldable pub plain_table : Table → List Call → Table
plain_table t [] = t
plain_table t (c ∷ cs) = plain_table (next t c) cs

plain_more : (t : Table) (cs ds : List Call) → plain_table t (cs ++ ds) ≡ plain_table (plain_table t cs) ds
unfolding plain_table
plain_more t [] ds = refl
plain_more t (c ∷ cs) ds = plain_more (next t c) cs ds

-- an ordinary call is what it was
pub ordinary-next : (t : Table) (c : Call) → next_by t (Ordinary c) ≡ next t c
unfolding next_by answer_to done_by
ordinary-next t c = split (is_accepted (answer t c)) (λ a. rw a) (λ a. rw a (sym (refused-table t c a)))

module _ (t : Table) (e : in_order t ≡ true) where
  ticked-bare : {c : Command} {u : ℕ} → OnGroups c u → bare_table (next_by t c) ≡ plain_table (bare_table t) (tick_if (answer_to t c) u)
  unfolding plain_table
  ticked-bare {c} {u} on =
      split (is_accepted (answer_to t c)) (λ a. rw a (bare-grouped t e on a)) (λ a. rw a (ap bare_table (refused-stays t c a)))

  pub bare-command : (c : Command) → bare_table (next_by t c) ≡ plain_table (bare_table t) (calls_of c (answer_to t c))
  bare-command (Ordinary c) = unfold plain_table in ap bare_table (ordinary-next t c) ∙ bare-next t e c
  bare-command (SetGroup p s u) = ticked-bare setting
  bare-command (SetAc p id ac u) = ticked-bare ac_setting
  bare-command (ReturnGroup p id u) = ticked-bare returning
  bare-command (Coordinate l m u) = ticked-bare coordinating

pub order-run : (t : Table) → in_order t ≡ true → (cs : List Command) → in_order (table_by t cs) ≡ true
unfolding table_by
order-run t e [] = e
order-run t e (c ∷ cs) = order-run (next_by t c) (order-by t c e) cs

pub bare-run : (t : Table) → in_order t ≡ true → (cs : List Command) → bare_table (table_by t cs) ≡ plain_table (bare_table t) (calls_by t cs)
unfolding table_by calls_by
bare-run t e [] = unfold plain_table in refl
bare-run t e (c ∷ cs) =
    bare-run (next_by t c) (order-by t c e) cs
    ∙ ap (λ (x : Table). plain_table x (calls_by (next_by t c) cs)) (bare-command t e c)
    ∙ sym (plain_more (bare_table t) (calls_of c (answer_to t c)) (calls_by (next_by t c) cs))

-- so behind any run every other call is answered as by one that knows of no group
pub run-answer : (t : Table) → in_order t ≡ true → (cs : List Command) (c : Call) → answer (table_by t cs) c ≡ answer (plain_table (bare_table t) (calls_by t cs)) c
run-answer t e cs c = bare-answer (table_by t cs) (order-run t e cs) c ∙ ap (λ (x : Table). answer x c) (bare-run t e cs)
