-- An index built in one call: the parts come to `build_of`, and a refusal writes nothing.
-- Assumes nothing.
use Prim.Native.Nat.{ℕ, min, ◌≤◌}
use native.Mathlib.Omega.{arith}
use native.Mathlib.Nat.{min-eq_left}
use mathlib.Core.Path.{◌≡◌, refl, sym, ap, subst, ◌∙◌}
use mathlib.Core.Bool.{◌&&◌}
use mathlib.Core.List.{List}
use lib.Dec.{eqb, ltb}
use lib.ListN.{length}
use borrow.Author.Tests.{ne_eqb, ltb-true}
use Rattle.std.specs.Prelude.{Ok, Err}
use Rattle.octets.specs.declared.refusals.Refusal.{Refusal}
use Rattle.octets.specs.Refusals.{number_of}
use Rattle.octets.proofs.Chain.{and_both}
use Rattle.rules.proofs.Bools.{split}
use Rattle.session.specs.declared.Session.{Session}
use Rattle.walks.specs.AtPlace.{Afterwards}
use Rattle.call_log.specs.declared.Ended.{Ended}
use Rattle.call_log.specs.Records.{header_fits}
use Rattle.call_log.specs.Reading.{count_of, counted_by, read_all}
use Rattle.indexing.specs.declared.Filling.{Filling}
use Rattle.indexing.specs.Filling.{Begun, begun_in, build_answer, begun_of, fills_of, fill_all, Noted, notes_of, note_all}
use Rattle.indexing.specs.Asking.{room_of}
use Rattle.indexing.specs.Building.{built_in, Index, head_by, build_of}
use Rattle.indexing.proofs.Refused.{some_number}

-- a log has at most 65,535 records, so an index at most 256 entries
counted-few : (e : Ended) → (counted_by e).count ≤ 65535
counted-few e =
    split (eqb e.left 0 && ltb 0 e.spare)
    (λ h. rw h (omega (arith, ltb-true 0 e.spare (and_both (eqb e.left 0) (ltb 0 e.spare) h).1)))
    (λ h. rw h (omega arith))

pub records-few : (log : List ℕ) → (count_of log).count ≤ 65535
unfolding count_of
records-few log = split (header_fits log) (λ h. rw h (counted-few (read_all log))) (λ h. rw h (omega arith))

pub entries-few : (log : List ℕ) (l room : ℕ) → (begun_of log l room).filling.count ≤ 256
unfolding begun_of
entries-few log l room =
    split (eqb (build_answer log room) 0) (λ h. rw h (omega (arith, records-few log))) (λ h. rw h (omega arith))

module _ (m : List ℕ) (l : ℕ) (cs ps : List ℕ) (ys : List Session) (room : ℕ) (er : room ≡ room_of (length cs) (length ps) (length ys)) where
  -- a log that is refused
  pub build-refused : (r : Refusal) → begun_in l (Err r) ≡ begun_of m l room
      → ◌≡◌ {A = Index} (record { built = built_in (Err r); clocks = cs; places = ps; records = ys }) (build_of m l cs ps ys)
  unfolding build_of notes_of fills_of
  build-refused r e =
      let b : begun_in l (Err r) ≡ begun_of m l (room_of (length cs) (length ps) (length ys)) = e ∙ ap (begun_of m l) er in
      rw (← b, ne_eqb (number_of r) 0 (some_number r))

  -- the parts together
  pub build-done : (x : Filling) → begun_in l (Ok x) ≡ begun_of m l room
      → (f : Filling) (cs' ps' : List ℕ) → ◌≡◌ {A = Noted} (record { filling = f; clocks = cs'; places = ps' }) (note_all cs ps x m)
      → (z : Filling) (ys' : List Session) → ◌≡◌ {A = Afterwards Filling Session} (record { outcome = z; row = ys' }) (fill_all ys x m)
      → (n : ℕ) → n ≡ min x.count 256
      → ◌≡◌ {A = Index} (record { built = built_in (Ok (record { length = length m; label = l; count = n })); clocks = cs'; places = ps'; records = ys' }) (build_of m l cs ps ys)
  unfolding build_of
  build-done x e f cs' ps' e₁ z ys' e₂ n en =
      let room₀ = room_of (length cs) (length ps) (length ys) in
      let b : begun_in l (Ok x) ≡ begun_of m l room₀ = e ∙ ap (begun_of m l) er in
      let few : x.count ≤ 256 = subst (λ (w : Begun). w.filling.count ≤ 256) (sym b) (entries-few m l room₀) in
      let count : n ≡ x.count = en ∙ min-eq_left few in
      (λ i. record { built = record { head = record { length = length m; label = l; count = count i }; answer = 0 }; clocks = (e₁ i).clocks; places = (e₁ i).places; records = (e₂ i).row })
      ∙ ap (λ (w : Begun). record {
        built = record { head = head_by w.answer (length m) l w.filling.count; answer = w.answer };
        clocks = (note_all cs ps w.filling m).clocks;
        places = (note_all cs ps w.filling m).places;
        records = (fill_all ys w.filling m).row;
      }) b

-- beside a refusal every element is as it was
pub refused-untouched : (log : List ℕ) (l : ℕ) (cs ps : List ℕ) (rs : List Session) → (build_answer log (room_of (length cs) (length ps) (length rs)) ≡ 0 → ⊥)
    → ((build_of log l cs ps rs).clocks ≡ cs) × (((build_of log l cs ps rs).places ≡ ps) × ((build_of log l cs ps rs).records ≡ rs))
unfolding build_of begun_of fills_of notes_of
refused-untouched log l cs ps rs h = rw (ne_eqb (build_answer log (room_of (length cs) (length ps) (length rs))) 0 h) (refl, (refl, refl))
