-- What a party is told rests on what it sees and the clock; and what it sees after its own command on what it saw.
-- Assumes nothing.
use Prim.Native.Nat.{ℕ}
use mathlib.Core.Path.{◌≡◌, refl, sym, ap, ◌∙◌, subst}
use mathlib.Core.Bool.{Bool, true, false, cond, ◌&&◌}
use mathlib.Core.Option.{Option, none, some}
use mathlib.Core.List.{List, [], ◌∷◌}
use lib.Dec.{eqb}
use borrow.Author.Tests.{eqb-true}
use Rattle.octets.specs.Choice.{need, bar, or_else}
use Rattle.octets.proofs.Chain.{and_both}
use Rattle.coordination.specs.Message.{dhc_refusal, dhc_of}
use Rattle.rules.specs.Times.{late}
use Rattle.rules.specs.Parties.{party_of, is_of, own_label}
use Rattle.rules.specs.Lists.{only}
use Rattle.rules.specs.Calls.{Act, Close, Lock, Unlock, Receive, ReportOn, WriteCc, WriteCv, Call, Tick, Open, On, Said, is_accepted}
use Rattle.rules.proofs.Bools.{split, no_way}
use Rattle.homing.specs.declared.Group.{Group}
use Rattle.homing.specs.declared.GroupSettings.{GroupSettings}
use Rattle.homing.specs.Groups.{grouped, ac_set, returned, fallen, crossed_by}
use Rattle.homing.specs.Messages.{coordinated}
use Rattle.homing.specs.Forwarding.{report_of}
use Rattle.table.specs.Table.{Table}
use Rattle.grouping.specs.Commands.{Command, Ordinary, SetGroup, SetAc, ReturnGroup, Coordinate, silent}
use Rattle.grouping.proofs.Accepted.{setting, ac_setting, returning, coordinating}
use Rattle.meaning.specs.Stories.{Story}
use Rattle.meaning.specs.Histories.{story, labels}
use Rattle.meaning.specs.Answers.{is_open, says}
use Rattle.meaning.specs.Worlds as Worlds
use Rattle.meaning.specs.Parties.{taken}
use Rattle.meaning.proofs.Foreign.{zero-shut, own_same, own-zero}
use Rattle.meaning.proofs.Isolation.{View as CallView, says-own as call-says, view-own as call-own}
use Rattle.switching.specs.Groups.{Past, after, plain, now_of, reading_of, loss_by, crossing_by, crossed_to, changed, changed_if, is_there, has_id_in, acted, called, group_of, group_among, group_with, up_by, open_to, sets_to, names_to, takes, coordinates_to, tells_of, tells, says_to}
use Rattle.switching.proofs.Kept.{Kept}
use Rattle.group_parties.specs.Parties.{NamedCommand, CallFor, SetGroupFor, SetAcFor, ReturnGroupFor, CoordinateFor, command_of, command_names}
use Rattle.group_parties.proofs.Sights.{Sight, shown, with_id, open_here, sets_by, names_by, coordinates_by, says_by, tells_from, acts, commanded-acts, stories_left, open_left, left_by, OwnDni, View, as-shown, refused-clock}
use Rattle.group_parties.proofs.Others.{set-open, goes_on_lem, group-calls, seen-later}

-- 1. The group of an ID is looked for among one's own labels.

among-own : (p id : ℕ) (of seen : ℕ → Option Group) → ((l : ℕ) → is_of p l ≡ true → of l ≡ seen l) → (ls : List ℕ)
    → group_among p id of ls ≡ group_among p id seen (only (is_of p) ls)
unfolding group_among only
among-own p id of seen same [] = refl
among-own p id of seen same (l ∷ ls) =
    split (is_of p l)
    (λ e. rw (e, e) (λ i. cond (has_id_in id (same l e i)) (same l e i) (among-own p id of seen same ls i)))
    (λ e. rw e (among-own p id of seen same ls))

among-dni : (p id : ℕ) (of : ℕ → Option Group) → ((l : ℕ) → is_of p l ≡ true → OwnDni p (of l)) → (ls : List ℕ) → OwnDni p (group_among p id of ls)
unfolding group_among
among-dni p id of own [] = tt
among-dni p id of own (l ∷ ls) =
    split (is_of p l && has_id_in id (of l))
    (λ e. rw e (own l (and_both (is_of p l) (has_id_in id (of l)) e).0))
    (λ e. rw e (among-dni p id of own ls))

-- 2. The DNI-PW of a group is one's own, whatever happens to the group.

dni-changed : (p : ℕ) (f : Group → Group) → ((g : Group) → (f g).dni ≡ g.dni) → (o : Option Group) → OwnDni p o → OwnDni p (changed f o)
dni-changed p f k none d = d
dni-changed p f k (some g) d = ap (is_of p) (k g) ∙ d

dni-if : (p : ℕ) (b : Bool) (f : Group → Group) → ((g : Group) → (f g).dni ≡ g.dni) → (o : Option Group) → OwnDni p o → OwnDni p (changed_if b f o)
dni-if p true f k o d = dni-changed p f k o d
dni-if p false f k o d = d

dni-cond : (p : ℕ) (b : Bool) (x o : Option Group) → OwnDni p x → OwnDni p o → OwnDni p (cond b x o)
dni-cond p true x o d e = d
dni-cond p false x o d e = e

dni-acted : (p : ℕ) (a : Act) (y : Option Story) (o : Option Group) → OwnDni p o → OwnDni p (acted a y o)
dni-acted p (Close u) y o d = tt
dni-acted p (Lock u) y o d = d
dni-acted p (Unlock u) y o d = d
dni-acted p (Receive m u) y o d = dni-if p (crossed_to m y) crossed_by (λ g. refl) o d
dni-acted p ReportOn y o d = d
dni-acted p (WriteCc b) y o d = d
dni-acted p (WriteCv b) y o d = d

dni-called : (p l : ℕ) (c : Call) (y : Option Story) (o : Option Group) → OwnDni p o → OwnDni p (called l c y o)
dni-called p l (Tick t) y o d = d
dni-called p l (Open g t) y o d = dni-cond p (eqb g.label l) none o tt d
dni-called p l (On m a) y o d = dni-cond p (eqb m l) (acted a y o) o (dni-acted p a y o d) d

-- 3. What is told.

-- what follows a test counts where the test holds
need-under : (b c : Bool) (n : ℕ) {x y : ℕ} → b ≡ c → (c ≡ true → x ≡ y) → need b n x ≡ need c n y
need-under b true n e f = rw e (f refl)
need-under b false n e f = rw e

module _ {p : ℕ} {h : Past} {s : Sight} (S : View p h s) (r : Worlds.Right (plain h)) where
  with-own : (id : ℕ) → group_with p id h ≡ with_id (now_of h) s p id
  with-own id =
      among-own p id (λ l. group_of l h) (shown (now_of h) s) S.groups (labels (plain h))
      ∙ ap (group_among p id (shown (now_of h) s)) S.calls.own

  open-same : (l : ℕ) → open_to p l h ≡ open_here s p l
  open-same l = split (is_of p l) (λ e. rw e (ap is_open (S.calls.stories l e))) (λ e. rw e)

  sets-own : (g : GroupSettings) (u : ℕ) → sets_to h p g u ≡ sets_by (now_of h) s p g u
  unfolding sets_to
  sets-own g u =
      ap (bar (late (now_of h) u) 1)
      (need-under (open_to p g.service h) (open_here s p g.service) 2 (open-same g.service) (λ o.
      λ i. need (open-same g.dni i) 2
      (bar (eqb g.service g.dni) 10
      (bar (is_there (S.groups g.service (and_both (is_of p g.service) _ o).0 i)) 11
      (bar (is_there (with-own g.id i)) 11 0)))))

  names-own : (id u : ℕ) → names_to h p id u ≡ names_by (now_of h) s p id u
  unfolding names_to
  names-own id u = λ i. bar (late (now_of h) u) 1 (need (is_there (with-own id i)) 24 0)

  coordinates-own : (l : ℕ) (m : List ℕ) (u : ℕ) → coordinates_to h (own_label p l) m u ≡ coordinates_by (now_of h) s (own_label p l) m u
  unfolding coordinates_to
  coordinates-own l m u =
      split (is_of p l)
      (λ e.
      subst (λ (k : ℕ). coordinates_to h k m u ≡ coordinates_by (now_of h) s k m u) (sym (own_same p l e))
      (let party : party_of l ≡ p = eqb-true (party_of l) p e in
      let same : group_with (party_of l) (dhc_of m).id h ≡ with_id (now_of h) s (party_of l) (dhc_of m).id =
      subst (λ (q : ℕ). group_with q (dhc_of m).id h ≡ with_id (now_of h) s q (dhc_of m).id) (sym party) (with-own (dhc_of m).id) in
      λ i. bar (late (now_of h) u) 1
      (need (is_open (S.calls.stories l e i)) 2
      (or_else (dhc_refusal m)
      (need (takes l (dhc_of m) (same i)) 24 0)))))
      (λ e.
      subst (λ (k : ℕ). coordinates_to h k m u ≡ coordinates_by (now_of h) s k m u) (sym (own-zero p l e))
      (ap (bar (late (now_of h) u) 1)
      (need-under (is_open (story 0 (plain h))) (is_open (s.stories 0)) 2 (ap is_open (zero-shut (plain h) r ∙ sym S.calls.zero))
      (λ o. no_way o (ap is_open S.calls.zero)))))

  says-for : (q : ℕ) → eqb q p ≡ true → (f : ℕ → Command) → says_to h (f p) ≡ says_by (now_of h) s (f p) → says_to h (f q) ≡ says_by (now_of h) s (f q)
  says-for q e f same = subst (λ (n : ℕ). says_to h (f n) ≡ says_by (now_of h) s (f n)) (sym (eqb-true q p e)) same

  pub says-own : (c : NamedCommand) → command_names p c ≡ true → says_to h (command_of c) ≡ says_by (now_of h) s (command_of c)
  unfolding says_to
  says-own (CallFor c) e = unfold says in call-says S.calls r (now_of h) c e
  says-own (SetGroupFor q g u) e = says-for q e (λ n. SetGroup n g u) (ap silent (sets-own g u))
  says-own (SetAcFor q id ac u) e = says-for q e (λ n. SetAc n id ac u) (ap silent (names-own id u))
  says-own (ReturnGroupFor q id u) e = says-for q e (λ n. ReturnGroup n id u) (ap silent (names-own id u))
  says-own (CoordinateFor q l m u) e = says-for q e (λ n. Coordinate (own_label n l) m u) (ap silent (coordinates-own l m u))

  tells-from : (o : Option Group) → OwnDni p o → tells_of h o ≡ tells_from (now_of h) s o
  tells-from none d = refl
  tells-from (some g) d = λ i. record { number = 0; group = report_of (up_by (now_of h) (S.calls.stories g.dni d i)) g }

  pub tells-own : (q id : ℕ) → eqb q p ≡ true → tells q id h ≡ tells_from (now_of h) s (with_id (now_of h) s q id)
  unfolding tells
  tells-own q id e =
      subst (λ (n : ℕ). tells_of h (group_with n id h) ≡ tells_from (now_of h) s (with_id (now_of h) s n id)) (sym (eqb-true q p e))
      (ap (tells_of h) (with-own id)
      ∙ tells-from (with_id (now_of h) s p id)
      (among-dni p id (shown (now_of h) s) (λ l o. dni-changed p (fallen (loss_by (now_of h) (s.stories l))) (λ g. refl) (s.groups l) (S.dnis l o)) s.opens))

  -- 4. What one's own command leaves.

  calls-left : (c : NamedCommand) → command_names p c ≡ true → (a : Said) → a ≡ says_to h (command_of c)
      → CallView p (plain (after h (command_of c) a)) (stories_left a (command_of c) s.stories) (open_left a (command_of c) s.opens)
  calls-left (CallFor c) e a z = unfold plain in call-own S.calls r c e a (unfold says_to in z)
  calls-left (SetGroupFor q g u) e a z = group-calls p h setting a z r S.calls
  calls-left (SetAcFor q id ac u) e a z = group-calls p h ac_setting a z r S.calls
  calls-left (ReturnGroupFor q id u) e a z = group-calls p h returning a z r S.calls
  calls-left (CoordinateFor q l m u) e a z = group-calls p h coordinating a z r S.calls

  dni-acts : (c : NamedCommand) → command_names p c ≡ true → is_accepted (says_to h (command_of c)) ≡ true
      → (l : ℕ) (y : Option Story) (o : Option Group) → OwnDni p o → OwnDni p (acts l y (command_of c) o)
  unfolding says_to
  dni-acts (CallFor c) e n l y o d = dni-called p l (taken c) y o d
  dni-acts (SetGroupFor q g u) e n l y o d =
      dni-cond p (eqb g.service l) (some (grouped g (loss_by u y) (crossing_by u y))) o
      (subst (λ (x : ℕ). is_of x g.dni ≡ true) (eqb-true q p e)
      (and_both (is_of q g.dni) (is_open (story g.dni (plain h))) (set-open h q g u (eqb-true _ 0 n)).1.1).0) d
  dni-acts (SetAcFor q id ac u) e n l y o d = dni-if p (is_of q l && has_id_in id o) (ac_set ac) (λ g. refl) o d
  dni-acts (ReturnGroupFor q id u) e n l y o d = dni-if p (is_of q l && has_id_in id o) (returned (loss_by u y) (crossing_by u y)) (λ g. refl) o d
  dni-acts (CoordinateFor q k m u) e n l y o d = dni-if p (is_of (party_of (own_label q k)) l && has_id_in (dhc_of m).id o) (coordinated (dhc_of m)) (λ g. refl) o d

  stories-refused : (c : Command) (a : Said) → is_accepted a ≡ false → (l : ℕ) → stories_left a c s.stories l ≡ s.stories l
  stories-refused (Ordinary c) a e l = rw e
  stories-refused (SetGroup q g u) a e l = refl
  stories-refused (SetAc q id ac u) a e l = refl
  stories-refused (ReturnGroup q id u) a e l = refl
  stories-refused (Coordinate k m u) a e l = refl

  module _ (t next : Table) (K : Kept h t) (c : NamedCommand) (e : command_names p c ≡ true) (a : Said) (z : a ≡ says_to h (command_of c))
      (K' : Kept (after h (command_of c) a) next) where
    abbrev u : ℕ
    u = reading_of (command_of c) (now_of h)

    -- the group that is seen next
    acted-on : is_accepted a ≡ true → (l : ℕ) → is_of p l ≡ true
        → group_of l (after h (command_of c) a) ≡ acts l (s.stories l) (command_of c) (changed (fallen (loss_by u (s.stories l))) (s.groups l))
    unfolding group_of
    acted-on y l o =
        rw y
        (commanded-acts l h (command_of c) (changed (fallen (loss_by u (story l (plain h)))) (group_of l h))
        ∙ (λ i. acts l (S.calls.stories l o i) (command_of c) (seen-later S r t K u l (goes_on_lem h (command_of c) (ap is_accepted (sym z) ∙ y)) o i)))

    refused-group : is_accepted a ≡ false → (l : ℕ) → group_of l (after h (command_of c) a) ≡ group_of l h
    unfolding group_of
    refused-group y l = rw y

    groups-left : (l : ℕ) → is_of p l ≡ true
        → group_of l (after h (command_of c) a) ≡ shown (now_of (after h (command_of c) a)) (left_by (now_of h) a (command_of c) s) l
    unfolding left_by
    groups-left l o =
        split (is_accepted a)
        (λ y. rw y
        (as-shown (after h (command_of c) a) next K' l
        ∙ (λ i. changed (fallen (loss_by (now_of (after h (command_of c) a)) ((calls-left c e a z).stories l o i))) (acted-on y l o i))))
        (λ y. rw y
        (refused-group y l ∙ S.groups l o
        ∙ (λ i. changed (fallen (loss_by (sym (refused-clock h (command_of c) a y) i) (sym (stories-refused (command_of c) a y l) i))) (s.groups l))))

    pub view-own : View p (after h (command_of c) a) (left_by (now_of h) a (command_of c) s)
    unfolding left_by
    view-own =
        record {
          calls = calls-left c e a z;
          groups = groups-left;
          dnis = λ l o. split (is_accepted a)
              (λ y. rw y (dni-acts c e (ap is_accepted (sym z) ∙ y) l (s.stories l) (changed (fallen (loss_by u (s.stories l))) (s.groups l)) (dni-changed p (fallen (loss_by u (s.stories l))) (λ g. refl) (s.groups l) (S.dnis l o))))
              (λ y. rw y (S.dnis l o));
        }
