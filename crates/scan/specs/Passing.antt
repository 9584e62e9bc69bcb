-- The pass over a row, record by record, and what it comes to. This is what the code is proved to do; `proofs/Scanned.antt` says what it means.
-- Assumes nothing.
use Rattle.std.specs.Prelude.{ℕ, suc, ◌+◌, ◌-◌, ◌/◌, Bool, true, false, cond, ◌&&◌, ◌||◌, List, [], ◌∷◌, length, set, replicate, take, drop, eqb, ltb, leb}
use Rattle.rules.specs.Parties.{is_of, own_most}
use Rattle.session.specs.declared.Session.{Session}
use Rattle.session.specs.Soundness.{session_sound}
use Rattle.table.specs.declared.Head.{Head}
use Rattle.table.specs.Places.{first_on, occupied_of}
use Rattle.table.specs.Table.{has_group}
use Rattle.scan.specs.declared.Target.{Target}
use Rattle.scan.specs.declared.Progress.{Progress}
use Rattle.scan.specs.declared.Summary.{Summary}
use Rattle.scan.specs.declared.Share.{Share}
use Rattle.scan.specs.Distinct.{key_pair, group_key, once_in, distinct_in, reach_of, theirs_of, place_in, rival_in}

-- before the first record: a row that is not of 64 is not in order, and none of its records is looked at
unfoldable pub start_of : ℕ → Head → Target → Progress
start_of records head target =
    record {
      clock = head.clock;
      occupied = head.occupied;
      rest = cond (eqb records 64) head.occupied 0;
      fault = cond (eqb records 64) 0 1;
      label = target.label;
      discriminator = target.discriminator;
      grouped = 0;
    }

-- one place on, with this mark of groups
unfoldable pub passed_with : ℕ → Progress → Progress
passed_with mark s =
    record {
      clock = s.clock;
      occupied = s.occupied;
      rest = s.rest / 2;
      fault = s.fault;
      label = s.label;
      discriminator = s.discriminator;
      grouped = mark;
    }

abbrev pub passed : Progress → Progress
passed s = passed_with s.grouped s

-- a sound open record: a group is marked
abbrev pub passed_open : Progress → Session → Progress
passed_open s r = passed_with (cond (has_group r) 1 s.grouped) s

-- a record that is not sound ends the pass; what is left of the set, at an occupied place, is no 0
unfoldable pub failed : Progress → Progress
failed s =
    record {
      clock = s.clock;
      occupied = s.occupied;
      rest = 0;
      fault = s.rest;
      label = s.label;
      discriminator = s.discriminator;
      grouped = s.grouped;
    }

-- a record in a free place is not looked at
unfoldable pub taken_in : Progress → ℕ → Session → Progress
taken_in s at r = cond (first_on s.rest) (cond (session_sound r s.clock) (passed_open s r) (failed s)) (passed s)

-- how many numbers are noted: a key pair for each place, and behind them all a group's key for each
abbrev pub places : ℕ
places = 64

abbrev pub notes : ℕ
notes = 128

-- the key of a group is noted 64 places behind its record's; there are no more places
unfoldable pub noted_group : List ℕ → ℕ → ℕ → List ℕ
noted_group pairs at key = cond (ltb at places) (set pairs (at + places) key) pairs

-- the key pair of a sound open record is noted at its place, and then the key of its group where it has one
unfoldable pub noted_open : List ℕ → ℕ → Session → List ℕ
noted_open pairs at r =
    let keyed = set pairs at (key_pair r.settings.label r.settings.discriminator) in
    cond (has_group r) (noted_group keyed at (group_key r.settings.label r.group.id)) keyed

unfoldable pub noted : List ℕ → Progress → ℕ → Session → List ℕ
noted pairs s at r = cond (first_on s.rest && session_sound r s.clock) (noted_open pairs at r) pairs

-- what is known at a place of the row: the progress, and what was noted
pub record Pass : Type 0 where
  pub progress : Progress
  pub pairs : List ℕ

abbrev pub taken : Pass → ℕ → Session → Pass
taken p at r = record { progress = taken_in p.progress at r; pairs = noted p.pairs p.progress at r }

-- the records from a place on; once no occupied place is left the pass ends
unfoldable pub pass_over : ℕ → Pass → List Session → Pass
pass_over at p [] = p
pass_over at p (r ∷ rs) = cond (eqb p.progress.rest 0) p (pass_over (suc at) (taken p at r) rs)

-- no two labels and no two discriminators of one party are alike; one record alone has nothing to be alike to
unfoldable pub apart : List ℕ → ℕ → Bool
apart pairs occupied =
    ltb (occupied_of 64 occupied) 2 || (distinct_in true (reach_of occupied) pairs && distinct_in false (reach_of occupied) pairs)

-- how many are the party's of a label
abbrev pub own_count : ℕ → ℕ → ℕ → ℕ
own_count label ours theirs = cond (is_of 0 label) ours theirs

-- of so many open ones these are theirs: neither party has more than 32, and the label's has them all
abbrev pub shared_of : ℕ → ℕ → ℕ → Share
shared_of label all theirs =
    record { kept = leb (all - theirs) own_most && leb theirs own_most; full = eqb (own_count label (all - theirs) theirs) own_most }

-- where fewer than 32 are open nobody has 32, and none is counted
unfoldable pub share_in : List ℕ → ℕ → ℕ → Share
share_in pairs occupied label =
    let all = occupied_of 64 occupied in
    cond (ltb all own_most) (record { kept = true; full = false }) (shared_of label all (theirs_of pairs))

-- no two groups have one ID in a party; where no group was met none is looked for
unfoldable pub groups_apart : List ℕ → ℕ → Bool
groups_apart keys grouped = eqb grouped 0 || once_in keys

-- from all that was noted: the key pairs, and behind them the keys of groups
unfoldable pub judged_of : List ℕ → Progress → Summary
judged_of noted s =
    let pairs = take places noted in
    let share = share_in pairs s.occupied s.label in
    record {
      place = place_in s.label s.occupied pairs;
      sound = eqb s.fault 0 && ((apart pairs s.occupied && share.kept) && groups_apart (drop places noted) s.grouped);
      rival = rival_in pairs s.occupied (place_in s.label s.occupied pairs) s.label s.discriminator;
      full = share.full;
    }

-- the whole scan
unfoldable pub pass_of : List Session → Head → Target → Pass
pass_of row head target = pass_over 0 (record { progress = start_of (length row) head target; pairs = replicate notes 0 }) row

unfoldable pub summary_of : List Session → Head → Target → Summary
summary_of row head target = judged_of (pass_of row head target).pairs (pass_of row head target).progress
