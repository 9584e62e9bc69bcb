-- Another party's accepted command leaves the group of each of a party's labels as it is shown at the clock, and what the party sees as it was.
-- Assumes nothing.
use Prim.Native.Nat.{ℕ, ◌≤◌}
use mathlib.Core.Path.{◌≡◌, refl, sym, ap, ◌∙◌, subst}
use mathlib.Core.Bool.{true, false, cond, ◌&&◌}
use mathlib.Core.Option.{Option}
use mathlib.Core.List.{List}
use lib.Dec.{eqb}
use borrow.Author.Tests.{eqb-true, eq-eqb}
use Rattle.octets.specs.Choice.{need, bar, or_else}
use Rattle.octets.proofs.Chain.{need-passed, bar-passed, and_both}
use Rattle.coordination.specs.Message.{dhc_refusal, dhc_of}
use Rattle.rules.specs.Times.{late}
use Rattle.rules.specs.Parties.{party_of, is_of, own_label}
use Rattle.rules.specs.Calls.{Call, Tick, Open, On, Said, is_accepted, number_only}
use Rattle.rules.proofs.Bools.{split, no_way, refuted, true-false}
use Rattle.rules.proofs.Ages.{not_late}
use Rattle.homing.specs.declared.Group.{Group}
use Rattle.homing.specs.declared.GroupSettings.{GroupSettings}
use Rattle.homing.specs.Groups.{fallen}
use Rattle.table.specs.Table.{Table}
use Rattle.grouping.specs.Commands.{Command, Ordinary, SetGroup, SetAc, ReturnGroup, Coordinate}
use Rattle.grouping.proofs.Accepted.{OnGroups, setting, ac_setting, returning, coordinating}
use Rattle.meaning.specs.Stories.{Story}
use Rattle.meaning.specs.Histories as Histories
use Rattle.meaning.specs.Histories.{clock_of, story, labels}
use Rattle.meaning.specs.Answers.{is_open, says_of, says}
use Rattle.meaning.specs.Lives.{is_on}
use Rattle.meaning.specs.Worlds as Worlds
use Rattle.meaning.specs.Parties.{TickTo, taken}
use Rattle.meaning.proofs.Timer.{in-time}
use Rattle.meaning.proofs.Foreign.{zero-shut, own_same, own-zero, other-accepted}
use Rattle.meaning.proofs.Isolation.{View as CallView, view-other as call-other}
use Rattle.switching.specs.Groups.{Past, start, after, plain, now_of, reading_of, loss_by, changed, changed_if, is_there, has_id_in, called, commanded, group_of, group_with, open_to, sets_to, names_to, takes, coordinates_to, says_to}
use Rattle.switching.specs.Switching.{Right}
use Rattle.switching.proofs.Kept.{Kept}
use Rattle.group_parties.specs.Parties.{NamedCommand, CallFor, SetGroupFor, SetAcFor, ReturnGroupFor, CoordinateFor, command_of, command_names}
use Rattle.group_parties.proofs.Sights.{Sight, shown, View, looked-on, refused-clock, accepted-clock}

-- 1. What an accepted command has passed, by what came before it.

module _ (h : Past) where
  pub set-open : (p : ℕ) (s : GroupSettings) (u : ℕ) → sets_to h p s u ≡ 0
      → (late (now_of h) u ≡ false) × ((open_to p s.service h ≡ true) × (open_to p s.dni h ≡ true))
  unfolding sets_to
  set-open p s u e =
      let third = bar (eqb s.service s.dni) 10 (bar (is_there (group_of s.service h)) 11 (bar (is_there (group_with p s.id h)) 11 0)) in
      let second = need (open_to p s.dni h) 2 third in
      let a = bar-passed (late (now_of h) u) 0 (need (open_to p s.service h) 2 second) e in
      let b = need-passed (open_to p s.service h) 1 second a.1 in
      (a.0, (b.0, (need-passed (open_to p s.dni h) 1 third b.1).0))

  names-time : (p id u : ℕ) → names_to h p id u ≡ 0 → late (now_of h) u ≡ false
  unfolding names_to
  names-time p id u e = (bar-passed (late (now_of h) u) 0 (need (is_there (group_with p id h)) 24 0) e).0

  message-open : (l : ℕ) (m : List ℕ) (u : ℕ) → coordinates_to h l m u ≡ 0 → (late (now_of h) u ≡ false) × (is_open (story l (plain h)) ≡ true)
  unfolding coordinates_to
  message-open l m u e =
      let rest = or_else (dhc_refusal m) (need (takes l (dhc_of m) (group_with (party_of l) (dhc_of m).id h)) 24 0) in
      let a = bar-passed (late (now_of h) u) 0 (need (is_open (story l (plain h))) 2 rest) e in
      (a.0, (need-passed (is_open (story l (plain h))) 1 rest a.1).0)

  group-time : {c : Command} {u : ℕ} → OnGroups c u → is_accepted (says_to h c) ≡ true → late (now_of h) u ≡ false
  unfolding says_to
  group-time (setting {p} {s} {u}) e = (set-open p s u (eqb-true _ 0 e)).0
  group-time (ac_setting {p} {id} {ac} {u}) e = names-time p id u (eqb-true _ 0 e)
  group-time (returning {p} {id} {u}) e = names-time p id u (eqb-true _ 0 e)
  group-time (coordinating {l} {m} {u}) e = (message-open l m u (eqb-true _ 0 e)).0

  -- the clock never goes back
  pub goes_on_lem : (c : Command) → is_accepted (says_to h c) ≡ true → now_of h ≤ reading_of c (now_of h)
  goes_on_lem (Ordinary c) e = in-time (plain h) c (unfold says_to in e)
  goes_on_lem (SetGroup p s u) e = not_late (now_of h) u (group-time {c = SetGroup p s u} setting e)
  goes_on_lem (SetAc p id ac u) e = not_late (now_of h) u (group-time {c = SetAc p id ac u} ac_setting e)
  goes_on_lem (ReturnGroup p id u) e = not_late (now_of h) u (group-time {c = ReturnGroup p id u} returning e)
  goes_on_lem (Coordinate l m u) e = not_late (now_of h) u (group-time {c = Coordinate l m u} coordinating e)

-- 2. To all that knows of no group, a tick.

seen_as : (h : Past) {c : Command} {u : ℕ} → OnGroups c u → (a : Said)
    → plain (after h c a) ≡ cond (is_accepted a) (Histories.after (plain h) (Tick u) (number_only (Tick u) 0)) (plain h)
unfolding plain
seen_as h setting a = refl
seen_as h ac_setting a = refl
seen_as h returning a = refl
seen_as h coordinating a = refl

tick-said : (h : Past) (u : ℕ) → late (now_of h) u ≡ false → number_only (Tick u) 0 ≡ says (plain h) (Tick u)
unfolding says says_of
tick-said h u e = rw e

group-right : (h : Past) {c : Command} {u : ℕ} → OnGroups c u → (a : Said) → a ≡ says_to h c → Worlds.Right (plain h) → Worlds.Right (plain (after h c a))
group-right h {c} {u} g a e r =
    subst Worlds.Right (sym (seen_as h g a))
    (split (is_accepted a)
    (λ y. rw y (unfold Worlds.Right in (r, tick-said h u (group-time h g (ap is_accepted (sym e) ∙ y)))))
    (λ y. rw y r))

call-right : (h : Past) (c : Call) (a : Said) → a ≡ says_to h (Ordinary c) → Worlds.Right (plain h) → Worlds.Right (plain (after h (Ordinary c) a))
unfolding plain Worlds.Right says_to
call-right h c a e r = (r, e)

pub right-plain : (h : Past) → Right h → Worlds.Right (plain h)
unfolding Right
right-plain start r = unfold plain Worlds.Right in tt
right-plain (after h (Ordinary c) a) r = call-right h c a r.1 (right-plain h r.0)
right-plain (after h (SetGroup p s u) a) r = group-right h setting a r.1 (right-plain h r.0)
right-plain (after h (SetAc p id ac u) a) r = group-right h ac_setting a r.1 (right-plain h r.0)
right-plain (after h (ReturnGroup p id u) a) r = group-right h returning a r.1 (right-plain h r.0)
right-plain (after h (Coordinate l m u) a) r = group-right h coordinating a r.1 (right-plain h r.0)

-- so a command on groups alters nothing that a party sees of its calls
pub group-calls : (p : ℕ) (h : Past) {c : Command} {u : ℕ} → OnGroups c u → (a : Said) → a ≡ says_to h c → Worlds.Right (plain h)
    → {st : ℕ → Option Story} {ls : List ℕ} → CallView p (plain h) st ls → CallView p (plain (after h c a)) st ls
group-calls p h {c} {u} g a e r {st} {ls} S =
    subst (λ (x : Histories.History). CallView p x st ls) (sym (seen_as h g a))
    (split (is_accepted a)
    (λ y. rw y (call-other S r (TickTo u) refl (number_only (Tick u) 0) (tick-said h u (group-time h g (ap is_accepted (sym e) ∙ y)))))
    (λ y. rw y S))

-- 3. Another party's accepted command does nothing to the group of a party's label, but that a loss is looked for.

called-off : (l : ℕ) (c : Call) (y : Option Story) (o : Option Group) → is_on l c ≡ false → called l c y o ≡ o
called-off l (Tick t) y o e = refl
called-off l (Open g t) y o e = rw e
called-off l (On m a) y o e = rw e

-- a label of one party is no other's
off-party : (p q l : ℕ) → eqb q p ≡ false → is_of p l ≡ true → is_of q l ≡ false
off-party p q l e o = refuted (is_of q l) (λ z. true-false (eq-eqb q p (sym (eqb-true (party_of l) q z) ∙ eqb-true (party_of l) p o)) e)

-- a label that is open is the party's own
open_own : (h : Past) → Worlds.Right (plain h) → (q l : ℕ) → is_open (story (own_label q l) (plain h)) ≡ true → party_of (own_label q l) ≡ q
open_own h r q l e =
    split (is_of q l)
    (λ z. ap party_of (own_same q l z) ∙ eqb-true (party_of l) q z)
    (λ z. no_way e (ap is_open (ap (λ (k : ℕ). story k (plain h)) (own-zero q l z) ∙ zero-shut (plain h) r)))

module _ (p : ℕ) (h : Past) (r : Worlds.Right (plain h)) (l : ℕ) (own : is_of p l ≡ true) where
  leave-named : (q id : ℕ) (f : Group → Group) (o : Option Group) → is_of q l ≡ false → changed_if (is_of q l && has_id_in id o) f o ≡ o
  leave-named q id f o e = rw e

  pub others-leave : (c : NamedCommand) → command_names p c ≡ false → is_accepted (says_to h (command_of c)) ≡ true
      → (o : Option Group) → commanded l h (command_of c) o ≡ o
  unfolding says_to
  others-leave (CallFor c) e y o =
      called-off l (taken c) (story l (plain h)) o
      (refuted (is_on l (taken c)) (λ n. true-false own
      (other-accepted (clock_of (plain h)) (λ k. story k (plain h)) (labels (plain h)) (zero-shut (plain h) r) p c e (unfold says in y) l n)))
  others-leave (SetGroupFor q s u) e y o =
      let w = (and_both (is_of q s.service) (is_open (story s.service (plain h))) (set-open h q s u (eqb-true _ 0 y)).1.0).0 in
      let off : eqb s.service l ≡ false = refuted (eqb s.service l) (λ z. true-false (ap (is_of q) (sym (eqb-true s.service l z)) ∙ w) (off-party p q l e own)) in
      rw off
  others-leave (SetAcFor q id ac u) e y o = leave-named q id _ o (off-party p q l e own)
  others-leave (ReturnGroupFor q id u) e y o = leave-named q id _ o (off-party p q l e own)
  others-leave (CoordinateFor q k m u) e y o =
      leave-named (party_of (own_label q k)) (dhc_of m).id _ o
      (ap (λ (n : ℕ). is_of n l) (open_own h r q k (message-open h (own_label q k) m u (eqb-true _ 0 y)).1) ∙ off-party p q l e own)

-- 4. What a party sees stays.

module _ {p : ℕ} {h : Past} {s : Sight} (S : View p h s) (r : Worlds.Right (plain h)) where
  calls-other : (c : NamedCommand) → command_names p c ≡ false → (a : Said) → a ≡ says_to h (command_of c)
      → CallView p (plain (after h (command_of c) a)) s.stories s.opens
  calls-other (CallFor c) e a z = unfold plain in call-other S.calls r c e a (unfold says_to in z)
  calls-other (SetGroupFor q g u) e a z = group-calls p h setting a z r S.calls
  calls-other (SetAcFor q id ac u) e a z = group-calls p h ac_setting a z r S.calls
  calls-other (ReturnGroupFor q id u) e a z = group-calls p h returning a z r S.calls
  calls-other (CoordinateFor q l m u) e a z = group-calls p h coordinating a z r S.calls

  module _ (t : Table) (K : Kept h t) where
    -- looked for at a later reading, a group is the one that is seen
    pub seen-later : (u l : ℕ) → now_of h ≤ u → is_of p l ≡ true
        → changed (fallen (loss_by u (story l (plain h)))) (group_of l h) ≡ changed (fallen (loss_by u (s.stories l))) (s.groups l)
    seen-later u l k o =
        let same = S.calls.stories l o in
        ap (changed (fallen (loss_by u (story l (plain h)))))
        (S.groups l o ∙ ap (λ (y : Option Story). changed (fallen (loss_by (now_of h) y)) (s.groups l)) (sym same))
        ∙ looked-on h t K u l k (s.groups l)
        ∙ ap (λ (y : Option Story). changed (fallen (loss_by u y)) (s.groups l)) same

    pub view-other : (c : NamedCommand) → command_names p c ≡ false → (a : Said) → a ≡ says_to h (command_of c) → View p (after h (command_of c) a) s
    view-other c e a z =
        record {
          calls = calls-other c e a z;
          groups = λ l o. unfold group_of in split (is_accepted a)
              (λ y.
              let past = ap is_accepted (sym z) ∙ y in
              let u = reading_of (command_of c) (now_of h) in
              rw y
              (others-leave p h r l o c e past (changed (fallen (loss_by u (story l (plain h)))) (group_of l h))
              ∙ seen-later u l (goes_on_lem h (command_of c) past) o
              ∙ ap (λ (n : ℕ). shown n s l) (sym (accepted-clock h (command_of c) a y))))
              (λ y. rw y (S.groups l o ∙ ap (λ (n : ℕ). shown n s l) (sym (refused-clock h (command_of c) a y))));
          dnis = S.dnis;
        }
