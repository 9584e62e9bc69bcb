-- An index file built block by block from windows of a log that is counted with 0: every entry is put, each with what stands behind its 256 k records.
-- Assumes nothing.
use Prim.Native.Nat.{ℕ, zero, suc, min, ◌+◌, ◌*◌, ◌-◌, ◌/◌, ◌≤◌, ◌<◌}
use native.Mathlib.Omega.{arith}
use mathlib.Core.Path.{◌≡◌, refl, sym, ap, ◌∙◌}
use mathlib.Core.Bool.{Bool, true, false, ◌&&◌}
use mathlib.Core.List.{List, []}
use lib.ListN.{length, take, drop, length-drop}
use lib.Seq.{sets, drop-drop}
use lib.Dec.{eqb, ltb}
use borrow.Author.Tests.{eqb-true, eqb-false, eq-eqb, ne_eqb, lt-ltb, ltb-true, ltb-false}
use Rattle.octets.specs.Choice.{need}
use Rattle.octets.proofs.Chain.{and_both}
use Rattle.rules.proofs.Bools.{split}
use Rattle.call_log.specs.declared.Ended.{Ended}
use Rattle.call_log.specs.Records.{header_fits}
use Rattle.call_log.specs.Reading.{read_to, ended_at, never, at_start, read_all, count_of}
use Rattle.call_log.specs.Entries.{rest_after, point_after, entry_point, entry_rest, entry_place}
use Rattle.call_log.proofs.Asking.{OurLog}
use Rattle.call_log.proofs.Turns.{left-most, spare-most}
use Rattle.indexing.specs.Filling.{entries_of}
use Rattle.indexing.proofs.Counts.{header-size}
use Rattle.indexing.proofs.Filled.{place_rest, entry_next}
use Rattle.session.specs.declared.Session.{Session}
use Rattle.index_file.specs.Octets.{entry_octets}
use Rattle.index_file.specs.Files.{place_of}
use Rattle.index_file.specs.Windows.{window_of}
use Rattle.index_file.specs.Blocks.{Indexing, start_of, refused_at, entry_for, Building, block_of, blocks_of}
use Rattle.index_file.proofs.Streamed.{step_of, block-step}
use Rattle.index_file.proofs.Goes.{joined-read, stopped-read, same_reads}
use Rattle.index_file.proofs.Windows.{header-front}

-- where no entry is to be put, nothing changes
done : (j : ℕ) (log : List ℕ) (b : Building) → b.indexing.more ≡ false → blocks_of j log b ≡ b
unfolding blocks_of
done zero log b e = refl
done (suc j) log b e = rw e

module _ (log : List ℕ) (l : ℕ) where
  -- what the first 256 k records leave
  abbrev pub behind_entry : ℕ → Ended
  behind_entry k = read_to (256 * k) l never (drop 8 log) at_start

  -- before entry k is put
  abbrev pub entry_before : ℕ → Indexing
  entry_before k = record { point = (behind_entry k).point; place = length log - (behind_entry k).left; count = k; label = l; answer = 0; more = true }

  abbrev put_at : ℕ → List ℕ → List ℕ
  put_at k out = sets out (place_of k) (entry_octets (entry_for (entry_before k)) [])

  -- n entries from entry k on
  unfoldable pub put_from : ℕ → ℕ → List ℕ → List ℕ
  put_from zero k out = out
  put_from (suc n) k out = put_from n (suc k) (put_at k out)

  -- behind the last entry
  abbrev pub ended_after : ℕ → Indexing
  ended_after k = record { point = (behind_entry k).point; place = length log; count = min k 255 + 1; label = l; answer = 0; more = false }

  module _ (small : length log ≤ 18446744073709551615) (header : 8 ≤ length log) where
    low : (k : ℕ) → (behind_entry k).left + 8 ≤ length log
    low k = omega (arith, left-most l never (256 * k) (drop 8 log) at_start, length-drop 8 log)

    -- the 256 records behind an entry
    next-read : (k : ℕ) → (behind_entry k).spare ≡ 0 → read_to 256 l never (drop (length log - (behind_entry k).left) log) (behind_entry k).point ≡ behind_entry (suc k)
    next-read k e =
        let r = behind_entry k in
        let s = drop 8 log in
        let more : 256 * k + 256 ≡ 256 * suc k = omega arith in
        let place : 8 + (length s - r.left) ≡ length log - r.left = omega (arith, length-drop 8 log, low k) in
        let there : drop (length s - r.left) s ≡ drop (length log - r.left) log = drop-drop (length s - r.left) 8 log ∙ ap (λ (n : ℕ). drop n log) place in
        ap (λ (y : List ℕ). read_to 256 l never y r.point) (sym there) ∙ sym (joined-read l never (256 * k) 256 s at_start e) ∙ ap (λ (n : ℕ). read_to n l never s at_start) more

    block_at : (k : ℕ) (out : List ℕ) → (behind_entry k).spare ≡ 0
        → block_of out (entry_before k) (window_of log (entry_before k).place) ≡ record { indexing = step_of log (entry_before k) (behind_entry (suc k)); out = put_at k out }
    block_at k out e =
        let a : (block_of out (entry_before k) (window_of log (entry_before k).place)).indexing ≡ step_of log (entry_before k) (behind_entry (suc k)) =
        block-step log (entry_before k) small (omega arith) out ∙ ap (step_of log (entry_before k)) (next-read k e) in
        let b : (block_of out (entry_before k) (window_of log (entry_before k).place)).out ≡ put_at k out = unfold block_of in refl in
        λ i. record { indexing = a i; out = b i }

    step-on : (k : ℕ) → k < 255 → (behind_entry (suc k)).spare ≡ 0 → step_of log (entry_before k) (behind_entry (suc k)) ≡ entry_before (suc k)
    step-on k h e =
        let c : min k 255 + 1 ≡ suc k = omega arith in
        rw (eq-eqb (behind_entry (suc k)).spare 0 e, lt-ltb k 255 h)
        (λ i. record { point = (behind_entry (suc k)).point; place = length log - (behind_entry (suc k)).left; count = c i; label = l; answer = 0; more = true })

    step-over : (k : ℕ) → 0 < (behind_entry (suc k)).spare → (behind_entry (suc k)).left ≡ 0 → step_of log (entry_before k) (behind_entry (suc k)) ≡ ended_after k
    step-over k h e = rw (ne_eqb (behind_entry (suc k)).spare 0 (λ z. omega arith), eq-eqb (behind_entry (suc k)).left 0 e) refl

    -- a log that is counted: everything was read, and that were fewer than 65,536 records
    module _ (left : (behind_entry 256).left ≡ 0) (spare : 0 < (behind_entry 256).spare) where
      abbrev records : ℕ
      records = 65536 - (behind_entry 256).spare

      abbrev last : ℕ
      last = records / 256

      full : (k : ℕ) → k ≤ last → (behind_entry k).spare ≡ 0
      full k h =
          split (eqb (behind_entry k).spare 0) (λ e. eqb-true (behind_entry k).spare 0 e)
          (λ e.
          let some = eqb-false (behind_entry k).spare 0 e in
          let n : 256 * k + (256 * 256 - 256 * k) ≡ 256 * 256 = omega arith in
          let w = (stopped-read l never (256 * k) (256 * 256 - 256 * k) (drop 8 log) at_start (omega (arith, some))).1 in
          let m : (behind_entry 256).spare ≡ (behind_entry k).spare + (256 * 256 - 256 * k) = ap (λ (x : ℕ). (read_to x l never (drop 8 log) at_start).spare) (sym n) ∙ w in
          absurd (omega (arith, m, some, h, spare-most l never (256 * k) (drop 8 log) at_start)))

      beyond : 0 < (behind_entry (suc last)).spare
      beyond =
          split (eqb (behind_entry (suc last)).spare 0)
          (λ e.
          let k = suc last in
          let n : 256 * k + (256 * 256 - 256 * k) ≡ 256 * 256 = omega arith in
          let r = behind_entry k in
          let w = joined-read l never (256 * k) (256 * 256 - 256 * k) (drop 8 log) at_start (eqb-true r.spare 0 e) in
          let m : (behind_entry 256).spare ≤ 256 * 256 - 256 * k =
          omega (arith, ap (λ (x : Ended). x.spare) (ap (λ (x : ℕ). read_to x l never (drop 8 log) at_start) (sym n) ∙ w), spare-most l never (256 * 256 - 256 * k) (drop (length (drop 8 log) - r.left) (drop 8 log)) r.point) in
          absurd (omega (arith, m)))
          (λ e. let some = eqb-false (behind_entry (suc last)).spare 0 e in omega (arith, some))

      all : (behind_entry (suc last)).left ≡ 0
      all =
          let k = suc last in
          let n : 256 * k + (256 * 256 - 256 * k) ≡ 256 * 256 = omega arith in
          let w = (stopped-read l never (256 * k) (256 * 256 - 256 * k) (drop 8 log) at_start beyond).0 in
          sym w ∙ ap (λ (x : ℕ). (read_to x l never (drop 8 log) at_start).left) n ∙ left

      -- from entry k on, every entry up to the last
      pub runs : (j k : ℕ) (out : List ℕ) → j + k ≡ 256 → k ≤ last
          → blocks_of j log (record { indexing = entry_before k; out = out }) ≡ record { indexing = ended_after last; out = put_from (suc last - k) k out }
      runs zero k out e h = absurd (omega arith)
      runs (suc j) k out e h =
          let one_block : blocks_of (suc j) log (record { indexing = entry_before k; out = out }) ≡ blocks_of j log (block_of out (entry_before k) (window_of log (entry_before k).place)) = unfold blocks_of in refl in
          let goes = one_block ∙ ap (blocks_of j log) (block_at k out (full k h)) in
          split (eqb k last)
          (λ q.
          let at = eqb-true k last q in
          let over : step_of log (entry_before k) (behind_entry (suc k)) ≡ ended_after last = ap (λ (n : ℕ). step_of log (entry_before n) (behind_entry (suc n))) at ∙ step-over last beyond all in
          let one : 1 ≡ suc last - k = omega arith in
          let put : put_at k out ≡ put_from 1 k out = unfold put_from in refl in
          goes ∙ ap (λ (x : Indexing). blocks_of j log (record { indexing = x; out = put_at k out })) over ∙ done j log _ refl
          ∙ (λ i. record { indexing = ended_after last; out = (put ∙ ap (λ (n : ℕ). put_from n k out) one) i }))
          (λ q.
          let apart = eqb-false k last q in
          let less : k < last = omega (arith, apart, h) in
          let more : suc (suc last - suc k) ≡ suc last - k = omega arith in
          let put : put_from (suc last - suc k) (suc k) (put_at k out) ≡ put_from (suc (suc last - suc k)) k out = unfold put_from in refl in
          goes ∙ ap (λ (x : Indexing). blocks_of j log (record { indexing = x; out = put_at k out })) (step-on k (omega arith) (full (suc k) less))
          ∙ runs j (suc k) (put_at k out) (omega arith) less
          ∙ (λ i. record { indexing = ended_after last; out = (put ∙ ap (λ (n : ℕ). put_from n k out) more) i }))

    -- a log that is not counted with 0: a cut record, or one too many
    module _ (bad : (behind_entry 256).left ≡ 0 → 0 < (behind_entry 256).spare → ⊥) where
      step_cut : (k : ℕ) → k < 256 → 0 < (behind_entry (suc k)).spare → step_of log (entry_before k) (behind_entry (suc k)) ≡ refused_at (entry_before k)
      step_cut k h some =
          let n : 256 * suc k + (256 * 256 - 256 * suc k) ≡ 256 * 256 = omega arith in
          let w = stopped-read l never (256 * suc k) (256 * 256 - 256 * suc k) (drop 8 log) at_start some in
          let left : (behind_entry 256).left ≡ (behind_entry (suc k)).left = ap (λ (x : ℕ). (read_to x l never (drop 8 log) at_start).left) (sym n) ∙ w.0 in
          let spare : (behind_entry 256).spare ≡ (behind_entry (suc k)).spare + (256 * 256 - 256 * suc k) = ap (λ (x : ℕ). (read_to x l never (drop 8 log) at_start).spare) (sym n) ∙ w.1 in
          let cut : (behind_entry (suc k)).left ≡ 0 → ⊥ = λ z. bad (left ∙ z) (omega (arith, spare, some)) in
          rw (ne_eqb (behind_entry (suc k)).spare 0 (λ z. omega arith), ne_eqb (behind_entry (suc k)).left 0 cut) refl

      step-many : (behind_entry 256).spare ≡ 0 → step_of log (entry_before 255) (behind_entry 256) ≡ refused_at (entry_before 255)
      step-many e = rw (eq-eqb (behind_entry 256).spare 0 e) refl

      runs-refused : (j k : ℕ) (out : List ℕ) → j + k ≡ 256 → k < 256 → (behind_entry k).spare ≡ 0
          → (blocks_of j log (record { indexing = entry_before k; out = out })).indexing.answer ≡ 19
      runs-refused zero k out e h full = absurd (omega arith)
      runs-refused (suc j) k out e h full =
          let one_block : blocks_of (suc j) log (record { indexing = entry_before k; out = out }) ≡ blocks_of j log (block_of out (entry_before k) (window_of log (entry_before k).place)) = unfold blocks_of in refl in
          let goes = one_block ∙ ap (blocks_of j log) (block_at k out full) in
          let ends : step_of log (entry_before k) (behind_entry (suc k)) ≡ refused_at (entry_before k) → (blocks_of (suc j) log (record { indexing = entry_before k; out = out })).indexing.answer ≡ 19 =
          λ z. ap (λ (b : Building). b.indexing.answer) (goes ∙ ap (λ (x : Indexing). blocks_of j log (record { indexing = x; out = put_at k out })) z ∙ done j log _ refl) in
          split (eqb (behind_entry (suc k)).spare 0)
          (λ q.
          let more = eqb-true (behind_entry (suc k)).spare 0 q in
          split (ltb k 255)
          (λ f.
          let less = ltb-true k 255 f in
          ap (λ (b : Building). b.indexing.answer) (goes ∙ ap (λ (x : Indexing). blocks_of j log (record { indexing = x; out = put_at k out })) (step-on k less more))
          ∙ runs-refused j (suc k) (put_at k out) (omega arith) (omega arith) more)
          (λ f.
          let here : 255 ≡ k = omega (arith, ltb-false k 255 f) in
          let next : suc k ≡ 256 = omega arith in
          ends (ap (λ (m : ℕ). step_of log (entry_before m) (behind_entry (suc m))) (sym here) ∙ step-many (ap (λ (m : ℕ). (behind_entry m).spare) (sym next) ∙ more) ∙ ap (λ (m : ℕ). refused_at (entry_before m)) here)))
          (λ q. let some = eqb-false (behind_entry (suc k)).spare 0 q in ends (step_cut k h (omega (arith, some))))

-- ---- from the header on
-- what counting says
record Counts (log : List ℕ) : Type 0 where
  pub header : header_fits log ≡ true
  pub left : (read_all log).left ≡ 0
  pub spare : 0 < (read_all log).spare
  pub count : (count_of log).count ≡ 65536 - (read_all log).spare

counted : (log : List ℕ) → (count_of log).answer ≡ 0 → Counts log
unfolding count_of
counted log e =
    split (header_fits log)
    (λ h. let r = read_all log in
    split (eqb r.left 0 && ltb 0 r.spare)
    (λ t. let b = and_both (eqb r.left 0) (ltb 0 r.spare) t in
    record { header = h; left = eqb-true r.left 0 b.0; spare = ltb-true 0 r.spare b.1; count = rw (h, t) refl })
    (λ t. absurd (let z : ◌≡◌ {A = ℕ} 19 0 = rw (h, t) at e in omega arith)))
    (λ h. absurd (let z : ◌≡◌ {A = ℕ} 19 0 = rw h at e in omega arith))

starts : (log : List ℕ) (l w : ℕ) → 8 ≤ w → header_fits log ≡ true → start_of (take w log) l ≡ entry_before log l 0
unfolding read_to
starts log l w h e =
    let f = header-front w log h ∙ e in
    let place : 8 ≡ length log - length (drop 8 log) = omega (arith, length-drop 8 log, header-size log e) in
    λ i. record { point = at_start; place = place i; count = 0; label = l; answer = need (f i) 19 0; more = f i }

-- of a log that is counted with 0, however long its front is: every entry is put, and the place behind the last is the log's length
pub streamed : (log : List ℕ) (l w : ℕ) (out : List ℕ) → 8 ≤ w → length log ≤ 18446744073709551615 → (count_of log).answer ≡ 0
    → blocks_of 256 log (record { indexing = start_of (take w log) l; out = out })
    ≡ record { indexing = ended_after log l ((count_of log).count / 256); out = put_from log l (entries_of (count_of log).count) 0 out }
streamed log l w out h small e =
    let c = counted log e in
    let r = same_reads l 0 never 65536 (drop 8 log) at_start at_start in
    let left : (behind_entry log l 256).left ≡ 0 = r.0 ∙ c.left in
    let spare : 0 < (behind_entry log l 256).spare = omega (arith, r.1, c.spare) in
    let n : 65536 - (behind_entry log l 256).spare ≡ (count_of log).count = ap (λ (x : ℕ). 65536 - x) r.1 ∙ sym c.count in
    let all : suc ((count_of log).count / 256) - 0 ≡ entries_of (count_of log).count = omega arith in
    ap (λ (x : Indexing). blocks_of 256 log (record { indexing = x; out = out })) (starts log l w h c.header)
    ∙ runs log l small (header-size log c.header) left spare 256 0 out (omega arith) (omega arith)
    ∙ (λ i. record { indexing = ended_after log l (n i / 256); out = put_from log l (suc (n i / 256) - 0) 0 out })
    ∙ (λ i. record { indexing = ended_after log l ((count_of log).count / 256); out = put_from log l (all i) 0 out })

-- counting says 0 or 19
nineteen : (log : List ℕ) → ((count_of log).answer ≡ 0 → ⊥) → (count_of log).answer ≡ 19
unfolding count_of
nineteen log other =
    split (header_fits log)
    (λ f. split (eqb (read_all log).left 0 && ltb 0 (read_all log).spare) (λ t. absurd (other (rw (f, t) refl))) (λ t. rw (f, t) refl))
    (λ f. rw f refl)

-- a good header, and yet refused
unread : (log : List ℕ) → header_fits log ≡ true → ((count_of log).answer ≡ 0 → ⊥) → (read_all log).left ≡ 0 → 0 < (read_all log).spare → ⊥
unfolding count_of
unread log f other a b = other (rw (f, eq-eqb (read_all log).left 0 a, lt-ltb 0 (read_all log).spare b) refl)

-- of any log, the answer is that of counting: 0, or 19
pub streamed-answer : (log : List ℕ) (l w : ℕ) (out : List ℕ) → 8 ≤ w → length log ≤ 18446744073709551615
    → (blocks_of 256 log (record { indexing = start_of (take w log) l; out = out })).indexing.answer ≡ (count_of log).answer
streamed-answer log l w out h small =
    split (eqb (count_of log).answer 0)
    (λ e. let good = eqb-true (count_of log).answer 0 e in ap (λ (b : Building). b.indexing.answer) (streamed log l w out h small good) ∙ sym good)
    (λ e.
    let other = eqb-false (count_of log).answer 0 e in
    split (header_fits log)
    (λ f.
    let r = same_reads l 0 never 65536 (drop 8 log) at_start at_start in
    let bad : (behind_entry log l 256).left ≡ 0 → 0 < (behind_entry log l 256).spare → ⊥ = λ a b. unread log f other (sym r.0 ∙ a) (omega (arith, r.1, b)) in
    let none : (behind_entry log l 0).spare ≡ 0 = unfold read_to in refl in
    ap (λ (x : Indexing). (blocks_of 256 log (record { indexing = x; out = out })).indexing.answer) (starts log l w h f)
    ∙ runs-refused log l small (header-size log f) bad 256 0 out (omega arith) (omega arith) none ∙ sym (nineteen log other))
    (λ f.
    let none = header-front w log h ∙ f in
    ap (λ (b : Building). b.indexing.answer) (done 256 log (record { indexing = start_of (take w log) l; out = out }) none)
    ∙ ap (λ (b : Bool). need b 19 0) none ∙ sym (nineteen log other)))

-- ---- a log whose answers are our run's
-- the entries that are put are those that `records-built` and `numbers-built` find in what building in one call leaves
module _ (row : List Session) (log : List ℕ) (n : ℕ) (our : OurLog row log n) (l : ℕ) (small : length log ≤ 18446744073709551615) (header : 8 ≤ length log) where
  ours-behind : (k : ℕ) → 256 * k ≤ n → behind_entry log l k ≡ ended_at 0 (entry_rest log k) (entry_point l log k)
  ours-behind zero h = unfold read_to rest_after point_after in refl
  ours-behind (suc k) h =
      let e = ours-behind k (omega arith) in
      let one : k + 1 ≡ suc k = omega arith in
      sym (next-read log l small header k (ap (λ (x : Ended). x.spare) e))
      ∙ ap (λ (x : Ended). read_to 256 l never (drop (length log - x.left) log) x.point) e
      ∙ ap (λ (y : List ℕ). read_to 256 l never y (entry_point l log k)) (place_rest row log n our l k header (omega arith))
      ∙ entry_next row log n our l k (omega arith) ∙ ap (λ (j : ℕ). ended_at 0 (entry_rest log j) (entry_point l log j)) one

  pub entry-ours : (k : ℕ) → 256 * k ≤ n → entry_for (entry_before log l k) ≡ record { clock = (entry_point l log k).clock; place = entry_place log k; session = (entry_point l log k).session }
  entry-ours k h = let e = ours-behind k h in λ i. record { clock = (e i).point.clock; place = length log - (e i).left; session = (e i).point.session }
