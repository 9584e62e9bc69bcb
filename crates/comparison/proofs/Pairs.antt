-- One pair of records more: its entries stand before those of the records behind it.
-- Assumes nothing.
use Prim.Native.Nat.{ℕ, suc, ◌+◌, ◌-◌, ◌≤◌}
use native.Mathlib.Omega.{arith}
use mathlib.Core.Path.{◌≡◌, refl, sym, ap, ◌∙◌}
use mathlib.Core.Bool.{Bool, true, false, not, ◌&&◌, ◌||◌}
use mathlib.Core.List.{List, [], ◌∷◌, ◌++◌, map, append-nil}
use lib.Dec.{eqb, eqb-suc-zero}
use lib.ListN.{length, take, drop, length-drop}
use Rattle.rules.proofs.Bools.{split, no_way}
use Rattle.capture.specs.declared.Record.{Record}
use Rattle.capture.specs.Records.{record_in, record_from, body_in}
use Rattle.capture.specs.Raws.{Raw, Raws, raw_in, raw_size, stands_in, raws_in}
use Rattle.capture.proofs.Raws.{whole-stands, stands-size, raws-none, raws-record}
use borrow.Author.Tests.{le-ltb, eqb-true}
use Rattle.octets.proofs.Chain.{and_both}
use Rattle.comparison.specs.declared.Marks.{Marks}
use Rattle.comparison.specs.Differences.{same_octets, differ, only, fields_of, entry, differences}
use Rattle.comparison.specs.Rest.{alike, agreeing}
use Rattle.comparison.proofs.Octets.{part, same_is}
use Rattle.comparison.specs.Walk.{step_of, marks_between, extra, marks_of, marked, unmarked, alike_in}

-- ---- the octets of a record
module _ (s : List ℕ) where
  pub step-stands : stands_in 16 s ≡ true → step_of s ≡ raw_size 16 s
  unfolding step_of
  step-stands e = rw e

  pub step-none : stands_in 16 s ≡ false → step_of s ≡ 0
  unfolding step_of
  step-none e = rw e

  pub step-most : step_of s ≤ length s
  step-most = split (stands_in 16 s) (λ e. rw (step-stands e) (stands-size 16 s e)) (λ e. rw (step-none e) (omega arith))

  pub step-least : stands_in 16 s ≡ true → 16 ≤ step_of s
  step-least e = rw (step-stands e) (omega arith)

  -- the head of a record that stands there is read
  pub record-there : stands_in 16 s ≡ true → record_from s ≡ record_in s
  record-there e = rw (le-ltb (length s) 16 (omega (arith, stands-size 16 s e)))

  -- the octets by the head that is read
  pub step-read : (r : Record) → r ≡ record_from s → stands_in 16 s ≡ true → (16 + r.size ≡ step_of s) × (16 + r.size ≤ length s)
  step-read r e h =
      let size : 16 + r.size ≡ step_of s = ap (λ (x : Record). 16 + x.size) (e ∙ record-there h) ∙ sym (step-stands h) in
      (size, omega (arith, size, step-most))

  -- the records behind a record, or behind nothing
  pub raws-there : stands_in 16 s ≡ true → (raws_in 16 s).raws ≡ raw_in 16 s ∷ (raws_in 16 (drop (step_of s) s)).raws
  raws-there e =
      ap (λ (x : Raws). x.raws) (raws-record 16 (omega arith) s e)
      ∙ ap (λ (n : ℕ). raw_in 16 s ∷ (raws_in 16 (drop n s)).raws) (sym (step-stands e))

  pub left_there : stands_in 16 s ≡ true → (raws_in 16 s).rest ≡ (raws_in 16 (drop (step_of s) s)).rest
  left_there e =
      ap (λ (x : Raws). x.rest) (raws-record 16 (omega arith) s e)
      ∙ ap (λ (n : ℕ). (raws_in 16 (drop n s)).rest) (sym (step-stands e))

  pub raws-away : stands_in 16 s ≡ false → (raws_in 16 s).raws ≡ []
  raws-away e = ap (λ (x : Raws). x.raws) (raws-none 16 s e)

  pub left-away : stands_in 16 s ≡ false → (raws_in 16 s).rest ≡ s
  left-away e = ap (λ (x : Raws). x.rest) (raws-none 16 s e)

  pub raws-behind : stands_in 16 s ≡ false → (raws_in 16 (drop (step_of s) s)).raws ≡ []
  raws-behind e = ap (λ (n : ℕ). (raws_in 16 (drop n s)).raws) (step-none e) ∙ raws-away e

-- the octets behind a record, as the code takes them
pub passed : (s : List ℕ) (a : ℕ) → a ≡ step_of s → take (length s - a) (drop a s) ≡ drop (step_of s) s
passed s a e = part s a ∙ ap (λ (n : ℕ). drop n s) e

-- they are fewer
pub fewer : (s : List ℕ) → stands_in 16 s ≡ true → length (drop (step_of s) s) + 16 ≤ length s
fewer s e = omega (arith, length-drop (step_of s) s, step-least s e, step-most s)

pub not_more : (s : List ℕ) → length (drop (step_of s) s) ≤ length s
not_more s = omega (arith, length-drop (step_of s) s)

-- ---- entries
only-map : (n : ℕ) (b : Bool) (c : ℕ) → map (entry n) (only b c) ≡ only b (entry n c)
only-map n true c = refl
only-map n false c = refl

only-first : (n : ℕ) (b : Bool) (c : ℕ) (l k : List ℕ) → map (entry n) l ≡ k → map (entry n) (only b c ++ l) ≡ only b (entry n c) ++ k
only-first n true c l k e = ap (λ (z : List ℕ). entry n c ∷ z) e
only-first n false c l k e = e

-- the entries of two records are their fields' codes
pub marked-fields : (n : ℕ) (a b : Raw) → map (entry n) (fields_of a b) ≡ marked n (marks_between a b)
unfolding fields_of marked
marked-fields n a b =
    only-first n (differ a.time b.time) 0 _ _
    (only-first n (differ a.label b.label) 1 _ _
    (only-first n (differ a.kind b.kind) 2 _ _
    (only-first n (differ a.size b.size) 3 _ _
    (only-map n (not (same_octets a.body b.body)) 4 ∙ sym (append-nil _)))))

-- ---- what is marked, as the code finds it
module _ (s t : List ℕ) where
  pub marks-second : (here : Bool) → here ≡ stands_in 16 t → stands_in 16 s ≡ false → extra false here ≡ marks_of s t
  unfolding marks_of
  marks-second here h e = rw (e, h)

  pub marks-first : stands_in 16 s ≡ true → stands_in 16 t ≡ false → extra true false ≡ marks_of s t
  unfolding marks_of
  marks-first e f = rw (e, f)

  pub marks-there : stands_in 16 s ≡ true → stands_in 16 t ≡ true → marks_of s t ≡ marks_between (raw_in 16 s) (raw_in 16 t)
  unfolding marks_of
  marks-there e f = rw (e, f)

  abbrev found : Record → Record → Bool → Marks
  found a b same =
      record {
        time = differ a.time b.time;
        label = differ a.label b.label;
        kind = differ a.kind b.kind;
        size = differ a.size b.size;
        body = not same;
        first = false;
        second = false;
      }

  pub marks-both : stands_in 16 s ≡ true → stands_in 16 t ≡ true → (a b : Record) → a ≡ record_from s → b ≡ record_from t → (x y : List ℕ)
      → x ≡ body_in s a.size → y ≡ body_in t b.size → (same : Bool) → same ≡ same_octets x y → found a b same ≡ marks_of s t
  unfolding raw_in
  marks-both e f a b ea eb x y ex ey same is =
      let p : a ≡ record_in s = ea ∙ record-there s e in
      let q : b ≡ record_in t = eb ∙ record-there t f in
      let u : x ≡ body_in s (record_in s).size = ex ∙ ap (λ (r : Record). body_in s r.size) p in
      let v : y ≡ body_in t (record_in t).size = ey ∙ ap (λ (r : Record). body_in t r.size) q in
      let w : same ≡ same_octets (body_in s (record_in s).size) (body_in t (record_in t).size) =
      is ∙ ap (λ (z : List ℕ). same_octets z y) u ∙ ap (λ (z : List ℕ). same_octets (body_in s (record_in s).size) z) v in
      ap (λ (r : Record). found r b same) p ∙ ap (λ (r : Record). found (record_in s) r same) q ∙ ap (λ (z : Bool). found (record_in s) (record_in t) z) w
      ∙ sym (marks-there e f)

-- ---- records that are alike
none_first : (b : Bool) (c : ℕ) (l : List ℕ) (x : Bool) → x ≡ eqb (length l) 0 → not b && x ≡ eqb (length (only b c ++ l)) 0
none_first true c l x e = sym (eqb-suc-zero (length l))
none_first false c l x e = e

none_last : (b : Bool) (c : ℕ) → not b ≡ eqb (length (only b c)) 0
none_last true c = sym (eqb-suc-zero 0)
none_last false c = refl

pub unmarked-alike : (a b : Raw) → unmarked (marks_between a b) ≡ alike a b
unfolding fields_of
unmarked-alike a b =
    none_first (differ a.time b.time) 0 _ _
    (none_first (differ a.label b.label) 1 _ _
    (none_first (differ a.kind b.kind) 2 _ _
    (none_first (differ a.size b.size) 3 _ _ (none_last (not (same_octets a.body b.body)) 4))))

module _ (s t : List ℕ) where
  pub alike-none-first : stands_in 16 s ≡ false → false ≡ alike_in s t
  unfolding alike_in
  alike-none-first e = rw e

  pub alike-none-second : stands_in 16 s ≡ true → stands_in 16 t ≡ false → false ≡ alike_in s t
  unfolding alike_in
  alike-none-second e f = rw (e, f)

  pub alike-there : stands_in 16 s ≡ true → stands_in 16 t ≡ true → (m : Marks) → m ≡ marks_of s t → unmarked m ≡ alike_in s t
  unfolding alike_in
  alike-there e f m h = rw (e, f) (ap unmarked (h ∙ marks-there s t e f) ∙ unmarked-alike (raw_in 16 s) (raw_in 16 t))

module _ (s t : List ℕ) (n : ℕ) where
  abbrev behind : List ℕ
  behind = differences (suc n) (raws_in 16 (drop (step_of s) s)).raws (raws_in 16 (drop (step_of t) t)).raws

  -- a pair more
  pub pair-more : stands_in 16 s || stands_in 16 t ≡ true
      → differences n (raws_in 16 s).raws (raws_in 16 t).raws ≡ marked n (marks_of s t) ++ behind
  unfolding differences marks_of marked
  pair-more h =
      split (stands_in 16 s)
      (λ e. split (stands_in 16 t)
      (λ f. rw (raws-there s e, raws-there t f, e, f) (ap (λ (z : List ℕ). z ++ behind) (marked-fields n (raw_in 16 s) (raw_in 16 t))))
      (λ f. rw (raws-there s e, raws-away t f, raws-behind t f, e, f) refl))
      (λ e. split (stands_in 16 t)
      (λ f. rw (raws-away s e, raws-behind s e, raws-there t f, e, f) refl)
      (λ f. no_way h (rw (e, f))))

  -- no pair more
  pub pair-none : stands_in 16 s || stands_in 16 t ≡ false → differences n (raws_in 16 s).raws (raws_in 16 t).raws ≡ []
  unfolding differences
  pair-none h =
      split (stands_in 16 s)
      (λ e. no_way (rw e) h)
      (λ e. split (stands_in 16 t)
      (λ f. no_way (rw (e, f)) h)
      (λ f. rw (raws-away s e, raws-away t f)))

-- ---- the octets that agree
module _ (s t : List ℕ) where
  pub alike-none : alike_in s t ≡ false → agreeing (raws_in 16 s).raws (raws_in 16 t).raws ≡ 0
  unfolding agreeing alike_in
  alike-none h =
      split (stands_in 16 s)
      (λ e. split (stands_in 16 t)
      (λ f. rw (raws-there s e, raws-there t f, rw (e, f) at h))
      (λ f. rw (raws-there s e, raws-away t f)))
      (λ e. rw (raws-away s e))

  pub both-stand : alike_in s t ≡ true → (stands_in 16 s ≡ true) × ((stands_in 16 t ≡ true) × (alike (raw_in 16 s) (raw_in 16 t) ≡ true))
  unfolding alike_in
  both-stand h =
      let p = and_both (stands_in 16 s) (stands_in 16 t && alike (raw_in 16 s) (raw_in 16 t)) h in
      (p.0, and_both (stands_in 16 t) (alike (raw_in 16 s) (raw_in 16 t)) p.1)

  pub alike-stands : alike_in s t ≡ true → stands_in 16 s ≡ true
  alike-stands h = (both-stand h).0

  -- records that are alike have the same size
  pub same_step : alike_in s t ≡ true → step_of t ≡ step_of s
  unfolding raw_in
  same_step h =
      let b = both-stand h in
      let u = unmarked-alike (raw_in 16 s) (raw_in 16 t) ∙ b.1.1 in
      let k = record_in s in
      let j = record_in t in
      let v = (and_both (not (differ k.time j.time)) _ u).1 in
      let w = (and_both (not (differ k.label j.label)) _ v).1 in
      let x = (and_both (not (differ k.kind j.kind)) _ w).1 in
      let y = (and_both (not (differ k.size j.size)) _ x).0 in
      let z : k.size ≡ j.size = eqb-true k.size j.size (twice (eqb k.size j.size) y) in
      step-stands t b.1.0 ∙ ap (λ (n : ℕ). 16 + n) (sym z) ∙ sym (step-stands s b.0)
    where
      twice : (a : Bool) → not (not a) ≡ true → a ≡ true
      twice true e = refl
      twice false e = e

  pub alike-more : alike_in s t ≡ true
      → agreeing (raws_in 16 s).raws (raws_in 16 t).raws ≡ step_of s + agreeing (raws_in 16 (drop (step_of s) s)).raws (raws_in 16 (drop (step_of s) t)).raws
  unfolding agreeing raw_in
  alike-more h =
      let b = both-stand h in
      rw (raws-there s b.0, raws-there t b.1.0, b.1.1)
      (ap (λ (n : ℕ). n + agreeing (raws_in 16 (drop (step_of s) s)).raws (raws_in 16 (drop (step_of t) t)).raws) (sym (step-stands s b.0))
      ∙ ap (λ (n : ℕ). step_of s + agreeing (raws_in 16 (drop (step_of s) s)).raws (raws_in 16 (drop n t)).raws) (same_step h))

-- what the cursor takes for whole stands there
pub ruleset stood = (whole-stands)

pub ruleset steps = (step-none, step-read)

pub ruleset marks = (marks-second, marks-first, marks-both, same_is)

pub ruleset alikes = (alike-none-first, alike-none-second, alike-there)
