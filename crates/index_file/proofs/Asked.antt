-- Asked of an index file, with a window of the log behind the entry that is used: the answer is `ask_of`'s, over the whole log and the lists that the file holds.
-- Assumes nothing.
use Prim.Native.Nat.{ℕ, zero, suc, min, ◌+◌, ◌-◌, ◌/◌, ◌≤◌, ◌<◌}
use native.Mathlib.Omega.{arith}
use native.Mathlib.Nat.{min-eq_left}
use mathlib.Core.Path.{◌≡◌, refl, sym, ap, ◌∙◌}
use mathlib.Core.Bool.{Bool, ◌&&◌}
use mathlib.Core.List.{List}
use lib.ListN.{length, get_or}
use lib.Dec.{eqb, ltb, leb}
use borrow.Author.Tests.{eqb-true, ltb-false}
use Rattle.rules.proofs.Bools.{split}
use Rattle.table.specs.Table.{absent}
use Rattle.halving.specs.declared.Found.{Found}
use Rattle.halving.specs.Search.{found, looks_of, looks}
use Rattle.halving.proofs.Halves.{found_inside}
use Rattle.call_log.specs.Records.{header_fits}
use Rattle.call_log.specs.Reading.{Answer, entry_fits}
use Rattle.indexing.specs.Asking.{ask_refusal, answer_at, room_of, fits_at, all_fit, answer_of, searched, ask_of}
use Rattle.index_file.specs.Octets.{entry_in}
use Rattle.index_file.specs.Files.{head_of, clock_at, entry_at, clocks_in, places_in, records_in}
use Rattle.indexing.specs.Judging.{judged_of}
use Rattle.index_file.specs.Seeking.{Sought, fits_in, seek_refusal, used_in, sought_by, sought_in, asked_from}
use Rattle.index_file.specs.Windows.{window_of}
use Rattle.index_file.proofs.Lists.{each-length, each_at}
use Rattle.indexing.proofs.Halved.{judged-is}
use Rattle.index_file.proofs.Seeks.{head_few}
use Rattle.index_file.proofs.Windows.{window-enough}

-- entries that are judged alike
same-looks : (f g : ℕ → Bool) (k : ℕ) (clocks : List ℕ) (u first n : ℕ) → ((i : ℕ) → first ≤ i → i < first + n → f i ≡ g i)
    → all_fit f (looks_of k clocks u first n) ≡ all_fit g (looks_of k clocks u first n)
unfolding looks_of all_fit
same-looks f g zero clocks u first n are = refl
same-looks f g (suc k) clocks u first n are =
    split (ltb n 2) (λ e. rw e refl)
    (λ e.
    let two = ltb-false n 2 e in
    let here = are (first + n / 2) (omega arith) (omega arith) in
    split (leb (get_or clocks (first + n / 2) 0) u)
    (λ d. let on = same-looks f g k clocks u (first + n / 2) (n - n / 2) (λ i a b. are i (omega arith) (omega arith)) in rw (e, d) (λ i. here i && on i))
    (λ d. let on = same-looks f g k clocks u first (n / 2) (λ i a b. are i (omega arith) (omega arith)) in rw (e, d) (λ i. here i && on i)))

module _ (log s : List ℕ) (l u : ℕ) where
  pub clock-at : (i : ℕ) → i < 256 → get_or (clocks_in s) i 0 ≡ (entry_at s i).clock
  clock-at i h = unfold entry_in in each_at (clock_at s) 256 i 0 h

  pub place_at_lem : (i : ℕ) → i < 256 → get_or (places_in s) i 0 ≡ (entry_at s i).place
  place_at_lem i h = each_at (λ k. (entry_at s k).place) 256 i 0 h

  pub record-at : (i : ℕ) → i < 256 → get_or (records_in s) i absent ≡ (entry_at s i).session
  record-at i h = each_at (λ k. (entry_at s k).session) 256 i absent h

  fits-at : (i : ℕ) → i < 256 → fits_in s l (length log) i ≡ fits_at (length log) (clocks_in s) (places_in s) (records_in s) l i
  fits-at i h = λ j. entry_fits (sym (record-at i h) j) (sym (clock-at i h) j) (sym (place_at_lem i h) j) l (length log)

  -- what the search found, of so many entries
  module _ (count : ℕ) (few : count ≤ 256) (some : 0 < count) where
    abbrev f : Found
    f = found (clocks_in s) u 0 count

    inside : f.place < 256
    inside = omega (arith, (found_inside (clocks_in s) u 0 count some).1)

    judged : judged_of (fits_in s l (length log)) f.place 0 count
        ≡ (all_fit (fits_at (length log) (clocks_in s) (places_in s) (records_in s) l) (looks (clocks_in s) u 0 count) && fits_at (length log) (clocks_in s) (places_in s) (records_in s) l f.place)
    unfolding judged_of found looks
    judged =
        let own = fits_in s l (length log) in
        let all = same-looks own (fits_at (length log) (clocks_in s) (places_in s) (records_in s) l) count (clocks_in s) u 0 count (λ i a b. fits-at i (omega arith)) in
        let one = fits-at f.place inside in
        judged-is own (clocks_in s) u count 0 count ∙ (λ i. all i && one i)

    answer-from : answer_at (window_of log (entry_at s f.place).place) 0 (entry_at s f.place).session (entry_at s f.place).clock l u f.looked
        ≡ answer_of log (clocks_in s) (places_in s) (records_in s) l u f.place f.looked
    answer-from =
        let k = f.place in
        window-enough log (entry_at s k).place (entry_at s k).session (entry_at s k).clock l u f.looked
        ∙ (λ i. answer_at log (sym (place_at_lem k inside) i) (sym (record-at k inside) i) (sym (clock-at k inside) i) l u f.looked)

    abbrev told : Sought → Answer
    told x = asked_from x (window_of log x.entry.place) l u

    told-used : told (used_in s count (length log) l f) ≡ searched log (clocks_in s) (places_in s) (records_in s) l u count
    unfolding asked_from
    told-used =
        split (judged_of (fits_in s l (length log)) f.place 0 count)
        (λ e. rw (e, sym judged ∙ e) answer-from)
        (λ e. rw (e, sym judged ∙ e) refl)

    pub told-sought : told (sought_by s count (length log) l u) ≡ searched log (clocks_in s) (places_in s) (records_in s) l u count
    unfolding sought_by
    told-sought =
        let m : min count 256 ≡ count = min-eq_left few in
        ap (λ (n : ℕ). told (used_in s count (length log) l (found (clocks_in s) u 0 n))) m ∙ told-used

  -- the head's own refusals
  pub refusal_is : ask_refusal log (head_of s) l u (room_of (length (clocks_in s)) (length (places_in s)) (length (records_in s))) ≡ seek_refusal (head_of s) (header_fits log) (length log) l u
  unfolding ask_refusal
  refusal_is = rw (each-length (clock_at s) 0 256, each-length (λ k. (entry_at s k).place) 0 256, each-length (λ k. (entry_at s k).session) 0 256) refl

  -- asked of the file, the answer is that of asking its lists
  pub asked-file : asked_from (sought_in s (header_fits log) (length log) l u) (window_of log (sought_in s (header_fits log) (length log) l u).entry.place) l u
      ≡ ask_of log (head_of s) (clocks_in s) (places_in s) (records_in s) l u
  unfolding ask_of sought_in
  asked-file =
      let refusal = seek_refusal (head_of s) (header_fits log) (length log) l u in
      split (eqb refusal 0)
      (λ e.
      let passed = eqb-true refusal 0 e in
      rw (refusal_is, e) (told-sought (head_of s).count (head_few (head_of s) (header_fits log) (length log) l u passed).1 (head_few (head_of s) (header_fits log) (length log) l u passed).0))
      (λ e. rw (refusal_is, e) (unfold asked_from in rw e refl))
