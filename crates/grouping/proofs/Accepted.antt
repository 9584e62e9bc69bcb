-- What a command on groups that is answered 0 has passed.
-- Assumes nothing.
use Prim.Native.Nat.{ℕ}
use mathlib.Core.Path.{◌≡◌}
use mathlib.Core.Bool.{true, false}
use mathlib.Core.Option.{some}
use mathlib.Core.List.{List}
use lib.Dec.{eqb}
use borrow.Author.Tests.{eqb-true, eqb-false}
use Rattle.octets.specs.Choice.{need, bar, or_else}
use Rattle.octets.proofs.Chain.{need-passed, bar-passed, or_else-passed}
use Rattle.coordination.specs.Message.{dhc_refusal, dhc_of}
use Rattle.rules.specs.Times.{late}
use Rattle.rules.specs.Parties.{own_label}
use Rattle.rules.specs.Calls.{is_accepted}
use Rattle.homing.specs.declared.GroupSettings.{GroupSettings}
use Rattle.homing.specs.Setting.{set_refusal}
use Rattle.session.specs.declared.Session.{Session}
use Rattle.table.specs.Table.{Table, open_of, in_order, find, is_found}
use Rattle.grouping.specs.Commands.{Command, SetGroup, SetAc, ReturnGroup, Coordinate, silent}
use Rattle.grouping.specs.Grouped.{find_group, is_grouped, found_for, set_number, named_number, taken_by, holder_of, coordinate_number, command_number, answer_to}
use Rattle.grouping.proofs.Holders.{found_some}

-- an open record that a label finds
abbrev pub FoundBy : Table → ℕ → Type 0
FoundBy t l = (r : Session) × (find l (open_of t) ≡ some r)

-- setting: both labels are open to the party and not equal, the service PW has no group, and no group of the party has the ID
pub record SetPassed (t : Table) (p : ℕ) (s : GroupSettings) (u : ℕ) : Type 0 where
  pub in-time : late t.clock u ≡ false
  pub service : FoundBy t (own_label p s.service)
  pub dni : FoundBy t (own_label p s.dni)
  pub unequal : s.service ≡ s.dni → ⊥
  pub ungrouped : is_grouped (find (own_label p s.service) (open_of t)) ≡ false
  pub untaken : is_found (find_group p s.id (open_of t)) ≡ false

pub set-passed : (t : Table) (p : ℕ) (s : GroupSettings) (u : ℕ) → set_number t p s u ≡ 0 → SetPassed t p s u
unfolding set_number
set-passed t p s u e =
    let f = found_for p s (open_of t) in
    let last = bar f.taken 11 0 in
    let third = bar f.grouped 11 last in
    let second = bar (eqb s.service s.dni) 10 third in
    let a = bar-passed (late t.clock u) 0 (set_refusal s f) e in
    let b = need-passed f.service 1 (need f.dni 2 second) a.1 in
    let c = need-passed f.dni 1 second b.1 in
    let d = bar-passed (eqb s.service s.dni) 9 third c.1 in
    let g = bar-passed f.grouped 10 last d.1 in
    record {
      in-time = a.0;
      service = found_some (find (own_label p s.service) (open_of t)) b.0;
      dni = found_some (find (own_label p s.dni) (open_of t)) c.0;
      unequal = eqb-false s.service s.dni d.0;
      ungrouped = g.0;
      untaken = (bar-passed f.taken 10 0 g.1).0;
    }

-- AC and return: the party has a group of the ID
pub record NamedPassed (t : Table) (p id u : ℕ) : Type 0 where
  pub in-time : late t.clock u ≡ false
  pub holder : (r : Session) × (find_group p id (open_of t) ≡ some r)

pub named-passed : (t : Table) (p id u : ℕ) → named_number t p id u ≡ 0 → NamedPassed t p id u
unfolding named_number
named-passed t p id u e =
    let found = is_found (find_group p id (open_of t)) in
    let a = bar-passed (late t.clock u) 0 (need found 24 0) e in
    record { in-time = a.0; holder = found_some (find_group p id (open_of t)) (need-passed found 23 0 a.1).0 }

-- a DHC message: its label is open, it was read, and the group of its ID in the label's party takes it
pub record CoordinatePassed (t : Table) (l : ℕ) (m : List ℕ) (u : ℕ) : Type 0 where
  pub in-time : late t.clock u ≡ false
  pub label : FoundBy t l
  pub read : dhc_refusal m ≡ 0
  pub taken : taken_by l (dhc_of m) (holder_of l (dhc_of m) (open_of t)) ≡ true

pub coordinate-passed : (t : Table) (l : ℕ) (m : List ℕ) (u : ℕ) → coordinate_number t l m u ≡ 0 → CoordinatePassed t l m u
unfolding coordinate_number
coordinate-passed t l m u e =
    let taken = taken_by l (dhc_of m) (holder_of l (dhc_of m) (open_of t)) in
    let found = is_found (find l (open_of t)) in
    let a = bar-passed (late t.clock u) 0 (need found 2 (or_else (dhc_refusal m) (need taken 24 0))) e in
    let b = need-passed found 1 (or_else (dhc_refusal m) (need taken 24 0)) a.1 in
    let c = or_else-passed (dhc_refusal m) (need taken 24 0) b.1 in
    record {
      in-time = a.0;
      label = found_some (find l (open_of t)) b.0;
      read = c.0;
      taken = (need-passed taken 23 0 c.1).0;
    }

-- behind 26
pub number_passed : (t : Table) (n : ℕ) → is_accepted (silent (command_number t n)) ≡ true → (in_order t ≡ true) × (n ≡ 0)
number_passed t n a = need-passed (in_order t) 25 n (eqb-true _ 0 a)

-- the commands on groups, each with its reading
pub data OnGroups : Command → ℕ → Type 0 where
  setting : {p : ℕ} {s : GroupSettings} {u : ℕ} → OnGroups (SetGroup p s u) u
  ac_setting : {p id ac u : ℕ} → OnGroups (SetAc p id ac u) u
  returning : {p id u : ℕ} → OnGroups (ReturnGroup p id u) u
  coordinating : {l : ℕ} {m : List ℕ} {u : ℕ} → OnGroups (Coordinate l m u) u

-- none is accepted with a late reading
pub reading-passed : (t : Table) {c : Command} {u : ℕ} → OnGroups c u → is_accepted (answer_to t c) ≡ true → late t.clock u ≡ false
unfolding answer_to
reading-passed t (setting {p} {s} {u}) a = (set-passed t p s u (number_passed t (set_number t p s u) a).1).in-time
reading-passed t (ac_setting {p} {id} {ac} {u}) a = (named-passed t p id u (number_passed t (named_number t p id u) a).1).in-time
reading-passed t (returning {p} {id} {u}) a = (named-passed t p id u (number_passed t (named_number t p id u) a).1).in-time
reading-passed t (coordinating {l} {m} {u}) a = (coordinate-passed t l m u (number_passed t (coordinate_number t l m u) a).1).in-time
