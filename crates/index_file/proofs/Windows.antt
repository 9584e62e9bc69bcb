-- A window of a log is enough: what is read of at most n records is the same from the front of the octets, if that could hold so many.
-- Assumes nothing.
use Prim.Native.Nat.{ℕ, zero, suc, ◌+◌, ◌*◌, ◌-◌, ◌≤◌, ◌<◌}
use native.Mathlib.Omega.{arith}
use mathlib.Core.Path.{◌≡◌, refl, sym, ap, subst, ◌∙◌}
use mathlib.Core.Bool.{true, cond, not, ◌&&◌}
use mathlib.Core.List.{List, [], ◌∷◌}
use lib.ListN.{length, get_or, take, drop, length-take, length-drop}
use lib.Seq.{take-take, get_or-take, take-nil}
use lib.Dec.{eqb, ltb, leb}
use borrow.Author.Tests.{leb-true, leb-false, le-leb, lt-leb, eqb-true, eqb-false, eq-eqb, ne_eqb}
use Rattle.octets.proofs.Chain.{and_both}
use Rattle.octets.proofs.Cuts.{at_front_lem}
use Rattle.rules.proofs.Bools.{split}
use Rattle.session.specs.declared.Session.{Session}
use Rattle.capture.specs.declared.Record.{Record}
use Rattle.capture.specs.Records.{record_in}
use Rattle.own.specs.Records.{record_after}
use Rattle.call_log.specs.declared.Point.{Point}
use Rattle.call_log.specs.declared.Ended.{Ended}
use Rattle.call_log.specs.Records.{header_fits, header_is, answer_in, body_in, size_in, whole_of, is_whole, is_cut, behind}
use Rattle.session.specs.Queries.{report_at}
use Rattle.call_log.specs.Reading.{later_of, clock_after, followed, more_of, ended_at, read_to, ticked_to, refused_with, answer_from}
use Rattle.call_log.proofs.Turns.{more-whole, whole-size, left-most, stops, turns}
use Rattle.indexing.specs.Asking.{answer_at}
use Rattle.index_file.specs.Windows.{window_size, window_of}

-- ---- parts of parts
pub drop-take : (k w : ℕ) (s : List ℕ) → k ≤ w → drop k (take w s) ≡ take (w - k) (drop k s)
drop-take zero w s h = let e : w ≡ w - 0 = omega arith in ap (λ (n : ℕ). take n s) e
drop-take (suc k) zero s h = absurd (omega arith)
drop-take (suc k) (suc w) [] h = sym (take-nil (suc w - suc k))
drop-take (suc k) (suc w) (x ∷ s) h = let e : w - k ≡ suc w - suc k = omega arith in drop-take k w s (omega arith) ∙ ap (λ (n : ℕ). take n (drop k s)) e

-- ---- the record at the front
module _ (w : ℕ) (s : List ℕ) (h : 2066 ≤ w) where
  front-record : record_in (take w s) ≡ record_in s
  unfolding record_in
  front-record =
      let a = at_front_lem 8 w s 0 (omega arith) in
      let b = at_front_lem 4 w s 8 (omega arith) in
      let c = at_front_lem 2 w s 12 (omega arith) in
      let d = at_front_lem 2 w s 14 (omega arith) in
      λ i. record { time = a i; label = b i; kind = c i; size = d i }

  front-answer : answer_in (take w s) ≡ answer_in s
  front-answer = at_front_lem 2 w s 16 (omega arith)

  -- whether so many octets are there
  front-has : (n : ℕ) → n ≤ w → leb n (length (take w s)) ≡ leb n (length s)
  front-has n m =
      split (leb n (length s))
      (λ e. le-leb n (length (take w s)) (omega (arith, leb-true n (length s) e, length-take w s)) ∙ sym e)
      (λ e. lt-leb n (length (take w s)) (omega (arith, leb-false n (length s) e, length-take w s)) ∙ sym e)

  front-whole : is_whole (take w s) ≡ is_whole s
  unfolding is_whole
  front-whole =
      let r = record_in s in
      ap (λ (x : Record). whole_of (length (take w s)) x.kind x.size) front-record
      ∙ split (leb r.size 2048)
      (λ e. let n : 18 + r.size ≤ w = omega (arith, leb-true r.size 2048 e) in
      λ i. front-has 18 (omega arith) i && leb r.kind 8 && leb r.size 2048 && front-has (18 + r.size) n i)
      (λ e. split (leb 18 (length (take w s)) && leb r.kind 8)
      (λ g. split (leb 18 (length s) && leb r.kind 8) (λ f. rw (e, g, f) refl) (λ f. rw (e, g, f) refl))
      (λ g. split (leb 18 (length s) && leb r.kind 8) (λ f. rw (e, g, f) refl) (λ f. rw (e, g, f) refl)))

  front-none : eqb (length (take w s)) 0 ≡ eqb (length s) 0
  front-none =
      split (eqb (length s) 0)
      (λ e. eq-eqb (length (take w s)) 0 (omega (arith, eqb-true (length s) 0 e, length-take w s)) ∙ sym e)
      (λ e. ne_eqb (length (take w s)) 0 (λ z. eqb-false (length s) 0 e (omega (arith, z, length-take w s))) ∙ sym e)

  front_cut : is_cut (take w s) ≡ is_cut s
  unfolding is_cut
  front_cut = λ i. not (front-none i) && not (front-whole i)

  front-more : (u n : ℕ) → more_of u n (take w s) ≡ more_of u n s
  unfolding more_of
  front-more u n = λ i. ltb 0 n && front-whole i && not (later_of u (front-record i) (front-answer i))

  whole-fits : is_whole s ≡ true → size_in s ≤ 2066
  unfolding is_whole
  whole-fits e =
      let r = record_in s in
      let a = and_both (leb 18 (length s) && leb r.kind 8 && leb r.size 2048) (leb (size_in s) (length s)) e in
      let b = and_both (leb 18 (length s) && leb r.kind 8) (leb r.size 2048) a.0 in
      omega (arith, leb-true r.size 2048 b.1)

  front-body : is_whole s ≡ true → body_in (take w s) (record_in s).size ≡ body_in s (record_in s).size
  front-body e =
      let n = whole-fits e in
      ap (take (record_in s).size) (drop-take 18 w s (omega arith)) ∙ take-take (record_in s).size (w - 18) (drop 18 s) (omega arith)

  front-followed : (l : ℕ) (p : Point) → is_whole s ≡ true → followed l (take w s) p ≡ followed l s p
  unfolding followed
  front-followed l p e =
      let r = record_in s in
      let b : body_in (take w s) (record_in (take w s)).size ≡ body_in s r.size = ap (λ (x : Record). body_in (take w s) x.size) front-record ∙ front-body e in
      λ i. cond (eqb (front-answer i) 0)
      (record { session = record_after (front-record i) (b i) l p.session; clock = clock_after (front-record i) p.clock })
      p

  front-behind : is_whole s ≡ true → behind (take w s) ≡ take (w - size_in s) (behind s)
  unfolding behind
  front-behind e =
      let n = whole-fits e in
      ap (λ (x : Record). drop (18 + x.size) (take w s)) front-record ∙ drop-take (size_in s) w s (omega arith)

-- ---- what is read
-- the same point, the same records to spare, cut or not, and as many octets gone through
pub record Alike (e : Ended) (m : ℕ) (f : Ended) (n : ℕ) : Type 0 where
  pub point : e.point ≡ f.point
  pub spare : e.spare ≡ f.spare
  pub cut : e.cut ≡ f.cut
  pub gone : m - e.left ≡ n - f.left
  pub over : 0 < e.spare → eqb e.left 0 ≡ eqb f.left 0

shorter-by : (size w : ℕ) (s b : List ℕ) → length b ≡ length s - size → size ≤ w → size ≤ length s → length (take w s) ≡ size + length (take (w - size) b)
shorter-by size w s b e h g = rw (length-take w s, length-take (w - size) b, e) (omega arith)

gone-on : (size m n m' n' x y : ℕ) → m ≡ size + m' → n ≡ size + n' → x ≤ m' → y ≤ n' → m' - x ≡ n' - y → m - x ≡ n - y
gone-on size m n m' n' x y a b h g e = omega arith

moved : (d e f g : Ended) (m n : ℕ) → d ≡ e → f ≡ g → Alike e m g n → Alike d m f n
moved d e f g m n x y a =
    record {
      point = ap (λ (z : Ended). z.point) x ∙ a.point ∙ ap (λ (z : Ended). z.point) (sym y);
      spare = ap (λ (z : Ended). z.spare) x ∙ a.spare ∙ ap (λ (z : Ended). z.spare) (sym y);
      cut = ap (λ (z : Ended). z.cut) x ∙ a.cut ∙ ap (λ (z : Ended). z.cut) (sym y);
      gone = ap (λ (z : Ended). m - z.left) x ∙ a.gone ∙ ap (λ (z : Ended). n - z.left) (sym y);
      over =
          λ h. ap (λ (z : Ended). eqb z.left 0) x ∙ a.over (subst (λ (k : ℕ). 0 < k) (ap (λ (z : Ended). z.spare) x) h) ∙ ap (λ (z : Ended). eqb z.left 0) (sym y);
    }

module _ (n w l u : ℕ) (s : List ℕ) (p : Point) (wide : 2066 ≤ w) where
  -- no record is gone through
  alike-ended : Alike (ended_at n (take w s) p) (length (take w s)) (ended_at n s p) (length s)
  alike-ended =
      record { point = refl; spare = refl; cut = λ i. ltb 0 n && front_cut w s wide i; gone = omega arith; over = λ z. front-none w s wide }

  -- one is, and what is read behind it is alike
  module _ (e : more_of u (suc n) s ≡ true) where
    one_less : suc n - 1 ≡ n
    one_less = omega arith

    inner : read_to (suc n) l u (take w s) p ≡ read_to n l u (take (w - size_in s) (behind s)) (followed l s p)
    inner =
        let whole = more-whole u (suc n) s e in
        turns l u (suc n) (take w s) p (front-more w s wide u (suc n) ∙ e)
        ∙ (λ i. read_to (one_less i) l u (front-behind w s wide whole i) (front-followed w s wide l p whole i))

    outer : read_to (suc n) l u s p ≡ read_to n l u (behind s) (followed l s p)
    outer = turns l u (suc n) s p e ∙ ap (λ (k : ℕ). read_to k l u (behind s) (followed l s p)) one_less

    alike-on : (x y : Ended) → x.left ≤ length (take (w - size_in s) (behind s)) → y.left ≤ length (behind s)
        → Alike x (length (take (w - size_in s) (behind s))) y (length (behind s)) → Alike x (length (take w s)) y (length s)
    alike-on x y a b on =
        let whole = more-whole u (suc n) s e in
        let size = size_in s in
        let fits = whole-fits w s wide whole in
        let some = whole-size s whole in
        let long : length (behind s) ≡ length s - size = unfold behind in length-drop size s in
        let back : length s ≡ size + length (behind s) = omega (arith, long, some) in
        record {
          point = on.point;
          spare = on.spare;
          cut = on.cut;
          gone =
              gone-on size (length (take w s)) (length s) (length (take (w - size) (behind s))) (length (behind s)) x.left y.left
              (shorter-by size w s (behind s) long (omega arith) some) back a b on.gone;
          over = on.over;
        }

pub alike : (n w l u : ℕ) (s : List ℕ) (p : Point) → 2066 * n ≤ w
    → Alike (read_to n l u (take w s) p) (length (take w s)) (read_to n l u s p) (length s)
alike zero w l u s p h = unfold read_to in record { point = refl; spare = refl; cut = refl; gone = omega arith; over = λ z. absurd (omega arith) }
alike (suc n) w l u s p h =
    let wide : 2066 ≤ w = omega arith in
    split (more_of u (suc n) s)
    (λ e.
    let fits = whole-fits w s wide (more-whole u (suc n) s e) in
    let t = take (w - size_in s) (behind s) in
    let q = followed l s p in
    moved _ (read_to n l u t q) _ (read_to n l u (behind s) q) _ _ (inner n w l u s p wide e) (outer n w l u s p wide e)
    (alike-on n w l u s p wide e (read_to n l u t q) (read_to n l u (behind s) q) (left-most l u n t q) (left-most l u n (behind s) q)
    (alike n (w - size_in s) l u (behind s) q (omega arith))))
    (λ e.
    moved _ (ended_at (suc n) (take w s) p) _ (ended_at (suc n) s p) _ _ (stops l u (suc n) (take w s) p (front-more w s wide u (suc n) ∙ e)) (stops l u (suc n) s p e)
    (alike-ended (suc n) w l u s p wide))

-- the answer from an entry, with a window of the log behind the entry's place
pub window-enough : (log : List ℕ) (place : ℕ) (s : Session) (clock l u looked : ℕ)
    → answer_at (window_of log place) 0 s clock l u looked ≡ answer_at log place s clock l u looked
unfolding answer_at answer_from
window-enough log place s clock l u looked =
    let a = alike 256 window_size l u (drop place log) (record { session = s; clock = clock }) (omega arith) in
    let cut = a.cut in
    let point = a.point in
    λ i. cond (cut i) (refused_with 19)
    (cond (eqb (point i).session.settings.label 0) (refused_with 2)
    (record { answer = 0; looked = looked; report = report_at (point i).session (ticked_to (point i).clock u) }))

-- the header, from the front of a log
pub header-front : (w : ℕ) (log : List ℕ) → 8 ≤ w → header_fits (take w log) ≡ header_fits log
unfolding header_fits
header-front w log h =
    let one : (i : ℕ) → i < 8 → get_or (take w log) i 0 ≡ get_or log i 0 = λ i b. get_or-take w log i 0 (omega arith) in
    let version = at_front_lem 2 w log 3 (omega arith) in
    let long : leb 8 (length (take w log)) ≡ leb 8 (length log) =
    split (leb 8 (length log))
    (λ e. le-leb 8 (length (take w log)) (omega (arith, leb-true 8 (length log) e, length-take w log)) ∙ sym e)
    (λ e. lt-leb 8 (length (take w log)) (omega (arith, leb-false 8 (length log) e, length-take w log)) ∙ sym e) in
    λ i. long i
    && header_is (one 0 (omega arith) i) (one 1 (omega arith) i) (one 2 (omega arith) i) (version i) (one 5 (omega arith) i) (one 6 (omega arith) i) (one 7 (omega arith) i)
