-- What the laws of a loop over the records of one label ask of the pacing, proved: what is kept of a record by value, before its call, is what is kept of the call.
-- Assumes nothing.
use mathlib.Core.Path.{◌≡◌, refl, sym, ap, ◌∙◌}
use mathlib.Core.Bool.{Bool, true, cond}
use Prim.Native.Nat.{ℕ}
use mathlib.Core.List.{List}
use lib.Dec.{eqb}
use lib.ListN.{drop}
use Rattle.rules.specs.Calls.{is_accepted}
use Rattle.rules.proofs.Bools.{split}
use Rattle.table.specs.Table.{Table, answer}
use Rattle.capture.specs.declared.Record.{Record}
use Rattle.capture.specs.Records.{call_of, next_in, is_whole}
use Rattle.feed.specs.declared.Fed.{Fed}
use Rattle.feed.specs.Watching.{before_of, Behind, WatchLaws}
use Rattle.feed.proofs.Watched.{ordered}
use Rattle.interval.specs.declared.Pace.{Pace}
use Rattle.interval.specs.Spacing.{call_event}
use Rattle.interval.specs.Pacing.{paced_by, settings_for, paced}
use Rattle.interval.proofs.Recorded.{event-is}
use Rattle.pace.specs.declared.Pacing.{Pacing}
use Rattle.pace.specs.Pacing.{more_of}
use Rattle.pace.specs.Calling.{pacing_by, note_of, kept_by}

stands : (x : Pacing) (input : List ℕ) → more_of x input ≡ true → is_whole (next_in (drop x.fed.used input)) ≡ true
unfolding more_of
stands x input m = m

fed_kept : (x : Pacing) (f : Fed) (a : ℕ) (n : Pace) (body kept : List ℕ) → (kept_by x f a n body kept).carried.fed ≡ f
unfolding kept_by
fed_kept x f a n body kept = refl

module _ (x : Pacing) (t : Table) (r : Record) (f : Fed) (a : ℕ) (body kept : List ℕ) (acc : is_accepted (answer t (call_of r body)) ≡ eqb a 0) where
  -- what is kept, by the record that the search finds
  abbrev note : Pace
  note = note_of x (before_of t x.label r) r body

  abbrev behind : Pace → Behind Pacing
  behind p = record { carried = record { fed = f; pace = p; label = x.label }; kept = kept }

  pace-is : cond (eqb a 0) note x.pace ≡ paced x.label x.pace t (call_of r body)
  unfolding paced
  pace-is =
      split (eqb a 0)
      (λ z. let y = acc ∙ z in
      ap (λ (b : Bool). cond b note x.pace) z
      ∙ ap (paced_by x.pace) (event-is t (ordered t (call_of r body) y) x.label r body y)
      ∙ sym (ap (λ (b : Bool). cond b (paced_by x.pace (call_event x.label (settings_for x.label t) (call_of r body))) x.pace) y))
      (λ z. rw (z, acc ∙ z))

  notes : kept_by x f a note body kept ≡ record { carried = pacing_by.after x f t (call_of r body); kept = pacing_by.kept x kept t (call_of r body) }
  unfolding kept_by
  notes = ap behind pace-is

pub pacing_laws : WatchLaws pacing_by note_of kept_by
pacing_laws = record { stands = stands; fed_after = λ x f t c. refl; fed_kept = fed_kept; notes = notes }
