-- Each command says to a table in step with the commands what it says from these alone, and that is never 26.
-- Assumes nothing.
use Prim.Native.Nat.{ℕ, ◌≤◌}
use native.Mathlib.Omega.{arith}
use mathlib.Core.Path.{◌≡◌, refl, sym, ap, ◌∙◌}
use mathlib.Core.Bool.{Bool, false, ◌&&◌}
use mathlib.Core.Option.{Option, none, some}
use mathlib.Core.List.{List}
use lib.Dec.{eqb}
use Rattle.octets.specs.Choice.{need, bar, or_else}
use Rattle.octets.proofs.Chain.{need-most, bar-most}
use Rattle.coordination.specs.declared.Dhc.{Dhc}
use Rattle.coordination.specs.Message.{dhc_refusal, dhc_of}
use Rattle.coordination.proofs.Bounds.{dhc-most}
use Rattle.rules.specs.Times.{late}
use Rattle.rules.specs.Parties.{party_of, is_of, own_label}
use Rattle.rules.proofs.Bools.{split, refuted, true-false}
use Rattle.homing.specs.declared.GroupSettings.{GroupSettings}
use Rattle.session.specs.declared.Session.{Session}
use Rattle.session.specs.Queries.{group_at}
use Rattle.table.specs.Table.{Table, open_of, has_group, find, is_found}
use Rattle.grouping.specs.Commands.{Command, Ordinary, SetGroup, SetAc, ReturnGroup, Coordinate, silent}
use Rattle.grouping.specs.Grouped.{find_group, is_grouped, found_for, set_number, named_number, taken_by, holder_of, coordinate_number, command_number, answer_to}
use Rattle.grouping.proofs.Holders.{found_some, holder-is, own_open}
use Rattle.meaning.specs.Histories.{clock_of, story, labels}
use Rattle.meaning.specs.Answers.{is_open, says}
use Rattle.meaning.proofs.Numbers.{says-most}
use Rattle.meaning.proofs.Sim.{fit-open, sim-order}
use Rattle.meaning.proofs.Demand.{answered}
use Rattle.switching.specs.Groups.{Past, plain, now_of, is_there, group_of, group_with, open_to, sets_to, names_to, takes, coordinates_to, says_to, number_of}
use Rattle.switching.specs.Switching.{group_in}
use Rattle.switching.proofs.Alone.{holder-shown}
use Rattle.switching.proofs.Kept.{Kept}
use Rattle.switching.proofs.Asked.{with-found}

-- a record has a group where one is shown
grouped-there : (now : ℕ) (o : Option Session) → is_grouped o ≡ is_there (group_in now o)
grouped-there now none = refl
grouped-there now (some r) = split (has_group r) (λ e. rw e) (λ e. rw e)

module _ (h : Past) (t : Table) (K : Kept h t) where
  -- a label is open to a party
  open-same : (p l : ℕ) → is_found (find (own_label p l) (open_of t)) ≡ open_to p l h
  open-same p l =
      split (is_of p l)
      (λ o. rw o (fit-open (now_of h) (find l (open_of t)) (story l (plain h)) (K.in_step.fit l)))
      (λ o.
      refuted _ (λ z. let w = found_some (find (own_label p l) (open_of t)) z in true-false (own_open t (sim-order K.in_step) p l w.0 w.1) o)
      ∙ sym (ap (λ (b : Bool). b && is_open (story l (plain h))) o))

  -- a party has a group of an ID
  found-there : (p id : ℕ) → is_found (find_group p id (open_of t)) ≡ is_there (group_with p id h)
  found-there p id = go (find_group p id (open_of t)) refl ∙ ap is_there (sym (with-found h t K p id))
    where
      go : (o : Option Session) → find_group p id (open_of t) ≡ o → is_found o ≡ is_there (group_in (now_of h) o)
      go none f = refl
      go (some r) f = ap is_there (sym (holder-shown p id (now_of h) r (holder-is p id (open_of t) r f).1).0)

  set_same : (p : ℕ) (s : GroupSettings) (u : ℕ) → set_number t p s u ≡ sets_to h p s u
  unfolding set_number sets_to
  set_same p s u =
      split (is_of p s.service)
      (λ o.
      let own : own_label p s.service ≡ s.service = rw o in
      let there' : is_grouped (find (own_label p s.service) (open_of t)) ≡ is_there (group_of s.service h) =
      ap (λ (l : ℕ). is_grouped (find l (open_of t))) own ∙ grouped-there (now_of h) (find s.service (open_of t)) ∙ ap is_there (sym (K.groups s.service)) in
      λ i. bar (late (K.in_step.clock i) u) 1
      (need (open-same p s.service i) 2
      (need (open-same p s.dni i) 2
      (bar (eqb s.service s.dni) 10
      (bar (there' i) 11
      (bar (found-there p s.id i) 11 0))))))
      (λ o.
      let shut : open_to p s.service h ≡ false = ap (λ (b : Bool). b && is_open (story s.service (plain h))) o in
      let f = found_for p s (open_of t) in
      (λ i. bar (late (K.in_step.clock i) u) 1
      (need ((open-same p s.service ∙ shut) i) 2
      (need f.dni 2 (bar (eqb s.service s.dni) 10 (bar f.grouped 11 (bar f.taken 11 0))))))
      ∙ (λ i. bar (late (now_of h) u) 1
      (need (sym shut i) 2
      (need (open_to p s.dni h) 2
      (bar (eqb s.service s.dni) 10
      (bar (is_there (group_of s.service h)) 11
      (bar (is_there (group_with p s.id h)) 11 0)))))))

  named-same : (p id u : ℕ) → named_number t p id u ≡ names_to h p id u
  unfolding named_number names_to
  named-same p id u = λ i. bar (late (K.in_step.clock i) u) 1 (need (found-there p id i) 24 0)

  -- what is asked of a group before it takes a message no loss touches
  taken-same : (l : ℕ) (d : Dhc) → taken_by l d (holder_of l d (open_of t)) ≡ takes l d (group_with (party_of l) d.id h)
  unfolding group_at
  taken-same l d = go (holder_of l d (open_of t)) refl ∙ ap (takes l d) (sym (with-found h t K (party_of l) d.id))
    where
      go : (o : Option Session) → holder_of l d (open_of t) ≡ o → taken_by l d o ≡ takes l d (group_in (now_of h) o)
      go none f = refl
      go (some r) f = ap (takes l d) (sym (holder-shown (party_of l) d.id (now_of h) r (holder-is (party_of l) d.id (open_of t) r f).1).0)

  coordinate-same : (l : ℕ) (m : List ℕ) (u : ℕ) → coordinate_number t l m u ≡ coordinates_to h l m u
  unfolding coordinate_number coordinates_to
  coordinate-same l m u =
      λ i. bar (late (K.in_step.clock i) u) 1
      (need (fit-open (now_of h) (find l (open_of t)) (story l (plain h)) (K.in_step.fit l) i) 2
      (or_else (dhc_refusal m)
      (need (taken-same l (dhc_of m) i) 24 0)))

  -- 26 is behind
  said_same : (m n : ℕ) → m ≡ n → silent (command_number t m) ≡ silent n
  said_same m n e = λ i. silent (need (sim-order K.in_step i) 26 (e i))

  pub says_same : (c : Command) → answer_to t c ≡ says_to h c
  unfolding answer_to says_to
  says_same (Ordinary c) = answered (plain h) t K.in_step c
  says_same (SetGroup p s u) = said_same (set_number t p s u) (sets_to h p s u) (set_same p s u)
  says_same (SetAc p id ac u) = said_same (named_number t p id u) (names_to h p id u) (named-same p id u)
  says_same (ReturnGroup p id u) = said_same (named_number t p id u) (names_to h p id u) (named-same p id u)
  says_same (Coordinate l m u) = said_same (coordinate_number t l m u) (coordinates_to h l m u) (coordinate-same l m u)

-- no number is above 25
pub number-most : (h : Past) (c : Command) → number_of h c ≤ 25
unfolding says_to says sets_to names_to coordinates_to
number-most h (Ordinary c) = says-most (clock_of (plain h)) (λ l. story l (plain h)) (labels (plain h)) c
number-most h (SetGroup p s u) =
    bar-most 25 (late (now_of h) u) (omega arith)
    (need-most 25 (open_to p s.service h) (omega arith)
    (need-most 25 (open_to p s.dni h) (omega arith)
    (bar-most 25 (eqb s.service s.dni) (omega arith)
    (bar-most 25 (is_there (group_of s.service h)) (omega arith)
    (bar-most 25 (is_there (group_with p s.id h)) (omega arith) (omega arith))))))
number-most h (SetAc p id ac u) =
    bar-most 25 (late (now_of h) u) (omega arith) (need-most 25 (is_there (group_with p id h)) (omega arith) (omega arith))
number-most h (ReturnGroup p id u) =
    bar-most 25 (late (now_of h) u) (omega arith) (need-most 25 (is_there (group_with p id h)) (omega arith) (omega arith))
number-most h (Coordinate l m u) =
    bar-most 25 (late (now_of h) u) (omega arith)
    (need-most 25 (is_open (story l (plain h))) (omega arith)
    (need-most 25 (eqb (dhc_refusal m) 0) (dhc-most m)
    (need-most 25 (takes l (dhc_of m) (group_with (party_of l) (dhc_of m).id h)) (omega arith) (omega arith))))
