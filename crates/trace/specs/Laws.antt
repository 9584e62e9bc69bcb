-- What the laws of a loop over the records of one label ask of the tracing, proved: what is noted of a record by value, before its call, is what is noted of the call.
-- Assumes nothing.
use mathlib.Core.Path.{◌≡◌, refl, sym, ap, ◌∙◌}
use mathlib.Core.Bool.{Bool, true, cond, ◌&&◌}
use Prim.Native.Nat.{ℕ}
use mathlib.Core.List.{List}
use lib.Dec.{eqb, ltb}
use lib.ListN.{drop}
use lib.Seq.{sets}
use Rattle.octets.proofs.Chain.{and_both}
use Rattle.rules.specs.Calls.{is_accepted}
use Rattle.rules.proofs.Bools.{split}
use Rattle.table.specs.Table.{Table, answer, open_of, find}
use Rattle.capture.specs.declared.Record.{Record}
use Rattle.capture.specs.Records.{call_of, next_in, is_whole}
use Rattle.capture.specs.Lines.{numbered}
use Rattle.feed.specs.declared.Fed.{Fed}
use Rattle.feed.specs.Watching.{before_of, Behind, WatchLaws}
use Rattle.feed.proofs.Watched.{ordered}
use Rattle.cause.specs.declared.Noted.{Noted}
use Rattle.cause.specs.declared.Marks.{Marks}
use Rattle.cause.specs.Noting.{call_noted, noted, call_kept, kept_after}
use Rattle.cause.proofs.Recorded.{noted-is}
use Rattle.trace.specs.declared.Tracing.{Tracing}
use Rattle.trace.specs.Tracing.{more_of}
use Rattle.trace.specs.Calling.{traced, note_of, kept_by}

stands : (x : Tracing) (input : List ℕ) → more_of x input ≡ true → is_whole (next_in (drop x.fed.used input)) ≡ true
unfolding more_of
stands x input m = (and_both (ltb x.fed.number x.upto) (is_whole (next_in (drop x.fed.used input))) m).1

module _ (x : Tracing) (t : Table) (r : Record) (f : Fed) (a : ℕ) (body kept : List ℕ) (acc : is_accepted (answer t (call_of r body)) ≡ eqb a 0) where
  -- what is noted, by the record that the search finds
  abbrev note : Noted
  note = note_of x (before_of t x.label r) r body

  abbrev behind : Marks → List ℕ → Behind Tracing
  behind m octets = record { carried = record { fed = f; upto = x.upto; marks = m; label = x.label }; kept = octets }

  marks-are : cond (eqb a 0) note.marks x.marks ≡ noted x.label x.marks (numbered x.fed.number) t (call_of r body)
  unfolding noted
  marks-are =
      split (eqb a 0)
      (λ z. let y = acc ∙ z in
      ap (λ (b : Bool). cond b note.marks x.marks) z
      ∙ (noted-is t (ordered t (call_of r body) y) x.label x.marks (numbered x.fed.number) kept r body y).0
      ∙ sym (ap (λ (b : Bool). cond b (call_noted x.label x.marks (numbered x.fed.number) (find x.label (open_of t)) (call_of r body)) x.marks) y))
      (λ z. rw (z, acc ∙ z))

  kept-are : cond (eqb a 0 && note.crossed) (sets kept 0 body) kept ≡ kept_after x.label kept t (call_of r body)
  unfolding kept_after
  kept-are =
      split (eqb a 0)
      (λ z. let y = acc ∙ z in
      ap (λ (b : Bool). cond (b && note.crossed) (sets kept 0 body) kept) z
      ∙ (noted-is t (ordered t (call_of r body) y) x.label x.marks (numbered x.fed.number) kept r body y).1
      ∙ sym (ap (λ (b : Bool). cond b (call_kept x.label kept (find x.label (open_of t)) (call_of r body)) kept) y))
      (λ z. rw (z, acc ∙ z))

  notes : kept_by x f a note body kept ≡ record { carried = traced.after x f t (call_of r body); kept = traced.kept x kept t (call_of r body) }
  unfolding kept_by
  notes =
      ap (λ (m : Marks). behind m (cond (eqb a 0 && note.crossed) (sets kept 0 body) kept)) marks-are
      ∙ ap (behind (noted x.label x.marks (numbered x.fed.number) t (call_of r body))) kept-are

fed_kept : (x : Tracing) (f : Fed) (a : ℕ) (n : Noted) (body kept : List ℕ) → (kept_by x f a n body kept).carried.fed ≡ f
unfolding kept_by
fed_kept x f a n body kept = refl

pub tracing_laws : WatchLaws traced note_of kept_by
tracing_laws = record { stands = stands; fed_after = λ x f t c. refl; fed_kept = fed_kept; notes = notes }
