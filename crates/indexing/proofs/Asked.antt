-- What the code asks of an index comes to the answer of `ask_of`.
-- Assumes nothing.
use Prim.Native.Nat.{ℕ, min, ◌≤◌}
use native.Mathlib.Omega.{arith}
use native.Mathlib.Nat.{min-le_left, min-eq_left}
use mathlib.Core.Path.{◌≡◌, sym, ap, ◌∙◌}
use mathlib.Core.Bool.{Bool, true, false, ◌&&◌}
use mathlib.Core.List.{List}
use lib.ListN.{length, get_or}
use borrow.Author.Tests.{eq-eqb, ne_eqb}
use Rattle.octets.specs.declared.refusals.Refusal.{Refusal}
use Rattle.octets.specs.Refusals.{number_of}
use Rattle.session.specs.declared.Session.{Session}
use Rattle.table.specs.Table.{absent}
use Rattle.halving.specs.declared.Found.{Found}
use Rattle.halving.specs.Search.{found, looks}
use Rattle.call_log.specs.Reading.{refused_with}
use Rattle.indexing.specs.declared.IndexHead.{IndexHead}
use Rattle.indexing.specs.Asking.{ask_refusal, answer_at, room_of, fits_at, all_fit, ask_of}
use Rattle.indexing.specs.Judging.{judged_of}
use Rattle.indexing.proofs.Looks.{head_passed, ask-passed}
use Rattle.indexing.proofs.Refused.{some_number}
use Rattle.indexing.proofs.Halved.{judged-is}

module _ (log : List ℕ) (h : IndexHead) (clocks places : List ℕ) (records : List Session) (l u : ℕ) where
  abbrev refusal : ℕ
  refusal = ask_refusal log h l u (room_of (length clocks) (length places) (length records))

  abbrev fits : ℕ → Bool
  fits = fits_at (length log) clocks places records l

  pub ask-refused : (r : Refusal) (room : ℕ) → room ≡ room_of (length clocks) (length places) (length records) → number_of r ≡ ask_refusal log h l u room
      → refused_with (number_of r) ≡ ask_of log h clocks places records l u
  unfolding ask_of
  ask-refused r room er e =
      let same : number_of r ≡ refusal = e ∙ ap (ask_refusal log h l u) er in
      rw (ne_eqb refusal 0 (λ z. some_number r (same ∙ z))) (ap refused_with same)

  -- an index that is not refused has at most 256 entries, and as many clocks
  pub ask-few : refusal ≡ 0 → (h.count ≤ 256) × (h.count ≤ length clocks)
  ask-few e =
      let room = room_of (length clocks) (length places) (length records) in
      let counted = head_passed h l (length log) room (ask-passed log h l u room e).1.1 in
      (counted.1.0, omega (arith, counted.1.1, min-le_left (length clocks) (min (length places) (length records))))

  module _ (e : refusal ≡ 0) (f : Found) (ef : f ≡ found clocks u 0 (min h.count (length clocks))) (b : Bool) (eb : b ≡ judged_of fits f.place 0 h.count) where
    found-is : f ≡ found clocks u 0 h.count
    found-is = ef ∙ ap (found clocks u 0) (min-eq_left (ask-few e).1)

    judges-is : (all_fit fits (looks clocks u 0 h.count) && fits (found clocks u 0 h.count).place) ≡ b
    unfolding judged_of found looks
    judges-is = sym (judged-is fits clocks u h.count 0 h.count) ∙ ap (λ (g : Found). judged_of fits g.place 0 h.count) (sym found-is) ∙ sym eb

    pub ask-out : b ≡ false → refused_with 20 ≡ ask_of log h clocks places records l u
    unfolding ask_of
    ask-out t = rw (eq-eqb refusal 0 e, judges-is ∙ t)

    pub ask-used : b ≡ true
        → answer_at log (get_or places f.place 0) (get_or records f.place absent) (get_or clocks f.place 0) l u f.looked ≡ ask_of log h clocks places records l u
    unfolding ask_of
    ask-used t =
        rw (eq-eqb refusal 0 e, judges-is ∙ t)
        (ap (λ (g : Found). answer_at log (get_or places g.place 0) (get_or records g.place absent) (get_or clocks g.place 0) l u g.looked) found-is)
