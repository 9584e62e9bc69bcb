-- What the scan's summary means: whether the table is in order, the place of a label's record, whether an open record has the label or the discriminator in its
-- party, and whether that party has opened all that it may.
-- Assumes nothing.
use Prim.Native.Nat.{ℕ, suc, ◌+◌, ◌/◌, ◌%◌, ◌≤◌, ◌<◌}
use native.Mathlib.Omega.{arith}
use mathlib.Core.Path.{◌≡◌, refl, sym, ap, ◌∙◌}
use mathlib.Core.Bool.{Bool, true, false, not, ◌&&◌, ◌||◌}
use mathlib.Core.List.{List, [], ◌∷◌, ◌++◌}
use lib.ListN.{length, length-append, replicate, take, drop}
use lib.Seq.{append_snoc}
use lib.Dec.{eqb, leb}
use borrow.Author.Tests.{eqb-true, eq-eqb, ne_eqb, not-true}
use Rattle.rules.specs.Parties.{party_of, own_most, own_discriminator, own_number}
use Rattle.rules.specs.Lists.{any, once}
use Rattle.rules.proofs.Bools.{split}
use Rattle.session.specs.declared.Session.{Session}
use Rattle.session.specs.Soundness.{session_sound}
use Rattle.table.specs.declared.Head.{Head}
use Rattle.table.specs.Places.{first_on, opens, place_of}
use Rattle.table.specs.Table.{Table, same_label, same_discriminator, has_group, same_group, open_by, every, in_order}
use Rattle.table.proofs.Order.{order-says}
use Rattle.scan.specs.declared.Target.{Target}
use Rattle.scan.specs.declared.Progress.{Progress}
use Rattle.scan.specs.declared.Summary.{Summary}
use Rattle.scan.specs.Distinct.{rival_in}
use Rattle.scan.specs.Passing.{Pass, start_of, passed, passed_with, passed_open, failed, taken_in, places, notes, noted_open, noted, pass_over, groups_apart, judged_of, pass_of, summary_of}
use Rattle.scan.proofs.RowPairs.{entries_of, pair_of, pairs_of, unsound_at, sound-open, sound-free, pairs-apart, pairs-place, pairs-rival}
use Rattle.scan.proofs.Parted.{pairs-shared}
use Rattle.scan.proofs.GroupKeys.{group_key_of, group_keys_of, pair_put, group-put, keys-once}

-- one record on: a sound one at an occupied place, one that is not sound, and one at a free place
abbrev at_open : Pass → ℕ → Session → Pass
at_open p at r = record { progress = passed_open p.progress r; pairs = noted_open p.pairs at r }

abbrev at_fault : Pass → Pass
at_fault p = record { progress = failed p.progress; pairs = p.pairs }

abbrev at_free : Pass → Pass
at_free p = record { progress = passed p.progress; pairs = p.pairs }

-- where no occupied place is left the pass ends
stopped : (at : ℕ) (p : Pass) (rows : List Session) → p.progress.rest ≡ 0 → pass_over at p rows ≡ p
unfolding pass_over
stopped at p [] e = refl
stopped at p (r ∷ rs) e = rw (eq-eqb p.progress.rest 0 e)

-- and a free place alters nothing then
free-end : (p : Pass) → p.progress.rest ≡ 0 → at_free p ≡ p
unfolding passed_with
free-end p e =
    let half : p.progress.rest / 2 ≡ p.progress.rest = omega arith in
    λ i. record {
      progress = record {
        clock = p.progress.clock;
        occupied = p.progress.occupied;
        rest = half i;
        fault = p.progress.fault;
        label = p.progress.label;
        discriminator = p.progress.discriminator;
        grouped = p.progress.grouped;
      };
      pairs = p.pairs;
    }

-- the pass over a row, by its first place

some_left : (rest : ℕ) → first_on rest ≡ true → eqb rest 0 ≡ false
some_left rest o = ne_eqb rest 0 (λ z. omega (arith, eqb-true (rest % 2) 1 o))

on-open : (at : ℕ) (p : Pass) (r : Session) (rs : List Session) → first_on p.progress.rest ≡ true → session_sound r p.progress.clock ≡ true
    → pass_over at p (r ∷ rs) ≡ pass_over (suc at) (at_open p at r) rs
unfolding pass_over taken_in noted
on-open at p r rs o e = simp (some_left p.progress.rest o, o, e)

on-fault : (at : ℕ) (p : Pass) (r : Session) (rs : List Session) → first_on p.progress.rest ≡ true → session_sound r p.progress.clock ≡ false
    → pass_over at p (r ∷ rs) ≡ at_fault p
unfolding pass_over taken_in noted
on-fault at p r rs o e = simp (some_left p.progress.rest o, o, e) (stopped (suc at) (at_fault p) rs (unfold failed in refl))

on-free : (at : ℕ) (p : Pass) (r : Session) (rs : List Session) → first_on p.progress.rest ≡ false
    → pass_over at p (r ∷ rs) ≡ pass_over (suc at) (at_free p) rs
unfolding pass_over taken_in noted
on-free at p r rs o =
    split (eqb p.progress.rest 0)
    (λ z.
    let e : p.progress.rest ≡ 0 = eqb-true p.progress.rest 0 z in
    stopped at p (r ∷ rs) e ∙ sym (ap (λ (q : Pass). pass_over (suc at) q rs) (free-end p e) ∙ stopped (suc at) p rs e))
    (λ z. simp (z, o))

-- what a place leaves as it is the pass leaves
pass-keeps : (f : Progress → ℕ) → ((mark : ℕ) (s : Progress) → f (passed_with mark s) ≡ f s) → ((s : Progress) → f (failed s) ≡ f s)
    → (at : ℕ) (p : Pass) (rows : List Session) → f (pass_over at p rows).progress ≡ f p.progress
pass-keeps f g h at p [] = unfold pass_over in refl
pass-keeps f g h at p (r ∷ rs) =
    let open-on = pass-keeps f g h (suc at) (at_open p at r) rs in
    let free_on = pass-keeps f g h (suc at) (at_free p) rs in
    split (first_on p.progress.rest)
    (λ o.
    split (session_sound r p.progress.clock)
    (λ e. ap (λ (q : Pass). f q.progress) (on-open at p r rs o e) ∙ open-on ∙ g _ p.progress)
    (λ e. ap (λ (q : Pass). f q.progress) (on-fault at p r rs o e) ∙ h p.progress))
    (λ o. ap (λ (q : Pass). f q.progress) (on-free at p r rs o) ∙ free_on ∙ g _ p.progress)

-- soundness: whether all open records so far are sound

and-true : (a : Bool) → a ≡ a && true
and-true true = refl
and-true false = refl

and_none : (a : Bool) → false ≡ a && false
and_none true = refl
and_none false = refl

pass-sound : (at : ℕ) (p : Pass) (rows : List Session)
    → eqb (pass_over at p rows).progress.fault 0
    ≡ eqb p.progress.fault 0 && every (λ r. session_sound r p.progress.clock) (opens p.progress.rest rows)
unfolding opens any passed_with failed
pass-sound at p [] = unfold pass_over in and-true (eqb p.progress.fault 0)
pass-sound at p (r ∷ rs) =
    let open-on = pass-sound (suc at) (at_open p at r) rs in
    let free_on = pass-sound (suc at) (at_free p) rs in
    split (first_on p.progress.rest)
    (λ o.
    split (session_sound r p.progress.clock)
    (λ e. ap (λ (q : Pass). eqb q.progress.fault 0) (on-open at p r rs o e) ∙ open-on ∙ rw (o, e))
    (λ e. ap (λ (q : Pass). eqb q.progress.fault 0) (on-fault at p r rs o e) ∙ rw (some_left p.progress.rest o, o, e) (and_none (eqb p.progress.fault 0))))
    (λ o. ap (λ (q : Pass). eqb q.progress.fault 0) (on-free at p r rs o) ∙ free_on ∙ rw o)

-- What is noted of a row: the numbers of its records in some part of all that is noted, 0 where none stands. `put` is what a record adds to that part.
module _ (view : List ℕ → List ℕ) (entry : Session → ℕ)
    (put : (pairs front behind : List ℕ) (at : ℕ) (r : Session) → at < places → length front ≡ at → view pairs ≡ front ++ (0 ∷ behind) → view (noted_open pairs at r) ≡ front ++ (entry r ∷ behind))
  where
    pass-noted : (at : ℕ) (p : Pass) (rows : List Session) (front : List ℕ) → any (unsound_at p.progress.clock) (opens p.progress.rest rows) ≡ false
        → at + length rows ≤ places → length front ≡ at → view p.pairs ≡ front ++ replicate (length rows) 0
        → view (pass_over at p rows).pairs ≡ front ++ entries_of entry p.progress.rest rows
    unfolding passed_with entries_of
    pass-noted at p [] front e k n z = unfold pass_over in z
    pass-noted at p (r ∷ rs) front e k n z =
        let longer : (x : ℕ) → length (front ++ (x ∷ [])) ≡ suc at = λ x. length-append front (x ∷ []) ∙ omega (arith, n) in
        let room : suc at + length rs ≤ places = omega (arith, k) in
        split (first_on p.progress.rest)
        (λ o.
        let f = sound-open p.progress.clock p.progress.rest r rs o e in
        let there : view (at_open p at r).pairs ≡ (front ++ (entry r ∷ [])) ++ replicate (length rs) 0 =
        put p.pairs front (replicate (length rs) 0) at r (omega (arith, k)) n z ∙ sym (append_snoc front (entry r) (replicate (length rs) 0)) in
        ap (λ (q : Pass). view q.pairs) (on-open at p r rs o f.0)
        ∙ pass-noted (suc at) (at_open p at r) rs (front ++ (entry r ∷ [])) f.1 room (longer (entry r)) there
        ∙ append_snoc front (entry r) (entries_of entry (p.progress.rest / 2) rs)
        ∙ rw o)
        (λ o.
        ap (λ (q : Pass). view q.pairs) (on-free at p r rs o)
        ∙ pass-noted (suc at) (at_free p) rs (front ++ (0 ∷ [])) (sound-free p.progress.clock p.progress.rest r rs o e) room (longer 0) (z ∙ sym (append_snoc front 0 (replicate (length rs) 0)))
        ∙ append_snoc front 0 (entries_of entry (p.progress.rest / 2) rs)
        ∙ rw o)

-- the mark is set exactly where a group was met
pass-marked : (at : ℕ) (p : Pass) (rows : List Session) → any (unsound_at p.progress.clock) (opens p.progress.rest rows) ≡ false
    → eqb (pass_over at p rows).progress.grouped 0 ≡ not (any has_group (opens p.progress.rest rows)) && eqb p.progress.grouped 0
unfolding passed_with opens any
pass-marked at p [] e = unfold pass_over in refl
pass-marked at p (r ∷ rs) e =
    split (first_on p.progress.rest)
    (λ o.
    let f = sound-open p.progress.clock p.progress.rest r rs o e in
    let rest = pass-marked (suc at) (at_open p at r) rs f.1 in
    ap (λ (q : Pass). eqb q.progress.grouped 0) (on-open at p r rs o f.0)
    ∙ rest
    ∙ split (has_group r)
    (λ g. rw (o, g) (sym (and_none (not (any has_group (opens (p.progress.rest / 2) rs))))))
    (λ g. rw (o, g)))
    (λ o.
    ap (λ (q : Pass). eqb q.progress.grouped 0) (on-free at p r rs o)
    ∙ pass-marked (suc at) (at_free p) rs (sound-free p.progress.clock p.progress.rest r rs o e)
    ∙ rw o)

module _ (row : List Session) (head : Head) (target : Target) where
  abbrev table : Table
  table = record { row = row; clock = head.clock; occupied = head.occupied }

  -- the pass before the first record, and behind the last
  abbrev begun : Pass
  begun = record { progress = start_of (length row) head target; pairs = replicate notes 0 }

  abbrev ended : Progress
  ended = (pass_over 0 begun row).progress

  abbrev open_records : List Session
  open_records = opens head.occupied row

  -- no two labels alike, no two discriminators of one party, of neither party more than 32, and no two groups of one party with one ID
  abbrev apart_and_shared : Bool
  apart_and_shared =
      ((once same_label open_records && once same_discriminator open_records) && (leb (open_by 0 table) own_most && leb (open_by 1 table) own_most))
      && once same_group open_records

  set-kept : ended.occupied ≡ head.occupied
  unfolding start_of
  set-kept = pass-keeps (λ (s : Progress). s.occupied) (λ m s. unfold passed_with in refl) (λ s. unfold failed in refl) 0 begun row

  label_kept : ended.label ≡ target.label
  unfolding start_of
  label_kept = pass-keeps (λ (s : Progress). s.label) (λ m s. unfold passed_with in refl) (λ s. unfold failed in refl) 0 begun row

  discriminator-kept : ended.discriminator ≡ target.discriminator
  unfolding start_of
  discriminator-kept = pass-keeps (λ (s : Progress). s.discriminator) (λ m s. unfold passed_with in refl) (λ s. unfold failed in refl) 0 begun row

  -- what the pass says before keys are compared
  sound-so-far : eqb ended.fault 0 ≡ eqb (length row) 64 && every (λ r. session_sound r head.clock) open_records
  unfolding start_of
  sound-so-far =
      pass-sound 0 begun row
      ∙ split (eqb (length row) 64) (λ e. rw e) (λ e. rw e)

  -- a row of 64 whose open records are all sound
  module _ (n : length row ≡ 64) (all : any (unsound_at head.clock) open_records ≡ false) where
    noted_in : (view : List ℕ → List ℕ) (entry : Session → ℕ)
        → ((pairs front behind : List ℕ) (at : ℕ) (r : Session) → at < places → length front ≡ at → view pairs ≡ front ++ (0 ∷ behind) → view (noted_open pairs at r) ≡ front ++ (entry r ∷ behind))
        → view (replicate notes 0) ≡ replicate places 0 → view (pass_over 0 begun row).pairs ≡ entries_of entry head.occupied row
    unfolding start_of
    noted_in view entry put empty =
        let whole = eq-eqb (length row) 64 n in
        pass-noted view entry put 0 begun row [] (rw whole all) (omega (arith, n)) refl (empty ∙ ap (λ (k : ℕ). replicate k 0) (sym n)) ∙ rw whole

    pairs-noted : take places (pass_over 0 begun row).pairs ≡ pairs_of head.occupied row
    pairs-noted = noted_in (take places) pair_of pair_put refl

    groups-noted : drop places (pass_over 0 begun row).pairs ≡ group_keys_of head.occupied row
    groups-noted = noted_in (drop places) group_key_of group-put refl

    marked : eqb ended.grouped 0 ≡ not (any has_group open_records)
    unfolding start_of
    marked =
        let whole = eq-eqb (length row) 64 n in
        pass-marked 0 begun row (rw whole all) ∙ rw whole (sym (and-true (not (any has_group open_records))))

    groups-once : groups_apart (drop places (pass_over 0 begun row).pairs) ended.grouped ≡ once same_group open_records
    unfolding groups_apart
    groups-once = rw (groups-noted, marked) (keys-once head.occupied row)

    -- what the summary is then
    summary-found : summary_of row head target ≡ record {
      place = place_of target.label head.occupied row;
      sound = apart_and_shared;
      rival = rival_in (pairs_of head.occupied row) head.occupied (place_of target.label head.occupied row) target.label target.discriminator;
      full = eqb (open_by (party_of target.label) table) own_most;
    }
    unfolding summary_of judged_of pass_of
    summary-found =
        rw (
          sound-so-far,
          eq-eqb (length row) 64 n,
          all,
          set-kept,
          label_kept,
          discriminator-kept,
          pairs-noted,
          groups-once,
          pairs-apart head.clock head.occupied row n all,
          pairs-shared head.clock head.occupied row n all target.label,
          pairs-place head.clock target.label head.occupied row n all,
        )

  fault-said : eqb ended.fault 0 ≡ false → (summary_of row head target).sound ≡ false
  unfolding summary_of judged_of pass_of
  fault-said e = rw e

  rowed : (a b c d e : Bool) → ((a && b) && (c && d)) && e ≡ (((a && b) && c) && d) && e
  rowed true true c d e = refl
  rowed true false c d e = refl
  rowed false b c d e = refl

  -- the summary says sound exactly where the table is in order
  pub summary-sound : (summary_of row head target).sound ≡ in_order table
  unfolding in_order
  summary-sound =
      split (eqb (length row) 64)
      (λ e.
      split (any (unsound_at head.clock) open_records)
      (λ f. fault-said (sound-so-far ∙ rw (e, f)) ∙ rw (e, f))
      (λ f. ap (λ (s : Summary). s.sound) (summary-found (eqb-true (length row) 64 e) f) ∙ rw (e, f) (rowed (once same_label open_records) (once same_discriminator open_records) _ _ _)))
      (λ e. fault-said (sound-so-far ∙ rw e) ∙ rw e)

  -- what a table in order says
  module _ (o : in_order table ≡ true) where
    parts : (length row ≡ 64) × (any (unsound_at head.clock) open_records ≡ false)
    parts = let said = order-says table o in (said.rows, not-true _ said.sound)

    in_order_lem : summary_of row head target ≡ record {
      place = place_of target.label head.occupied row;
      sound = apart_and_shared;
      rival = rival_in (pairs_of head.occupied row) head.occupied (place_of target.label head.occupied row) target.label target.discriminator;
      full = eqb (open_by (party_of target.label) table) own_most;
    }
    in_order_lem = summary-found parts.0 parts.1

  -- the place of the open record with the label; 64 where there is none
  pub summary-place : in_order table ≡ true → (summary_of row head target).place ≡ place_of target.label head.occupied row
  summary-place o = ap (λ (s : Summary). s.place) (in_order_lem o)

  -- an open record has the label, or the discriminator in the label's party; nothing is said of the mark where no discriminator is looked for
  pub summary-rival : in_order table ≡ true → (target.discriminator ≡ 0 → ⊥)
      → (summary_of row head target).rival
      ≡ any (λ r. eqb r.settings.label target.label || eqb (own_discriminator r.settings) (own_number target.label target.discriminator)) (opens head.occupied row)
  summary-rival o d =
      ap (λ (s : Summary). s.rival) (in_order_lem o)
      ∙ pairs-rival head.clock target.label target.discriminator head.occupied row (parts o).0 d (parts o).1

  -- the label's party has opened all that it may
  pub summary-full : in_order table ≡ true → (summary_of row head target).full ≡ eqb (open_by (party_of target.label) table) own_most
  summary-full o = ap (λ (s : Summary). s.full) (in_order_lem o)
