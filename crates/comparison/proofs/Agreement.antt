-- What the rest of the first capture is.
-- Assumes nothing.
use Prim.Native.Nat.{ℕ, zero, suc, ◌+◌, ◌%◌, ◌≤◌, ◌<◌}
use native.Mathlib.Omega.{arith}
use mathlib.Core.Path.{◌≡◌, refl, sym, ap, ◌∙◌}
use mathlib.Core.Bool.{Bool, true, false, not}
use mathlib.Core.List.{List, [], ◌∷◌, ◌++◌, map}
use lib.Dec.{eqb, leb, eqb-suc-zero}
use lib.ListN.{length, take, drop, take-append-drop}
use lib.Seq.{take_all, length-take-le, take-add, take-take, drop-drop, drop_at, get_or-take}
use borrow.Author.Tests.{leb-true, leb-false, le-leb, eqb-true, eq-eqb, ne_eqb}
use Rattle.octets.proofs.Chain.{and_both}
use Rattle.octets.proofs.Cuts.{at_front_lem}
use Rattle.rules.proofs.Bools.{split, no_way, both_true}
use Rattle.capture.specs.declared.Record.{Record}
use Rattle.capture.specs.Records.{header_fits, record_in, is_broken}
use Rattle.capture.specs.Raws.{Raw, Raws, raw_in, raw_size, stands_in, raws_in}
use Rattle.capture.proofs.Raws.{stands-size, raws-none, raws-record}
use Rattle.comparison.specs.Differences.{same_octets, differ, only, fields_of, entry, differences, records_of, bad_capture, list_of}
use Rattle.comparison.specs.Rest.{alike, agreeing, rest_place, rest_of}
use Rattle.comparison.specs.Walk.{step_of, alike_in}
use Rattle.comparison.specs.Agreement.{agreed, first_number, only_second, count, RestIs}
use Rattle.comparison.proofs.Pairs.{step-stands, step-most, step-least, raws-there, raws-away, left_there, fewer, unmarked-alike, both-stand, same_step, alike-none, alike-more}
use Rattle.comparison.proofs.Whole.{good-header, good_length, bad-cut}

-- ---- records that are alike are the same
same-is : (a b : List ℕ) → same_octets a b ≡ true → a ≡ b
same-is [] [] e = refl
same-is [] (y ∷ ys) e = no_way e refl
same-is (x ∷ xs) [] e = no_way e refl
same-is (x ∷ xs) (y ∷ ys) e =
    let p = and_both (eqb x y) (same_octets xs ys) e in
    ap (λ (z : ℕ). z ∷ xs) (eqb-true x y p.0) ∙ ap (λ (l : List ℕ). y ∷ l) (same-is xs ys p.1)

twice : (a : Bool) → not (not a) ≡ true → a ≡ true
twice true e = refl
twice false e = e

abbrev made : ℕ → ℕ → ℕ → ℕ → List ℕ → Raw
made t l k s b = record { time = t; label = l; kind = k; size = s; body = b }

alike_is : (a b : Raw) → alike a b ≡ true → a ≡ b
alike_is a b e =
    let u = unmarked-alike a b ∙ e in
    let p0 = and_both (not (differ a.time b.time)) _ u in
    let p1 = and_both (not (differ a.label b.label)) _ p0.1 in
    let p2 = and_both (not (differ a.kind b.kind)) _ p1.1 in
    let p3 = and_both (not (differ a.size b.size)) (not (not (same_octets a.body b.body))) p2.1 in
    let e0 = eqb-true a.time b.time (twice _ p0.0) in
    let e1 = eqb-true a.label b.label (twice _ p1.0) in
    let e2 = eqb-true a.kind b.kind (twice _ p2.0) in
    let e3 = eqb-true a.size b.size (twice _ p3.0) in
    let e4 = same-is a.body b.body (twice _ p3.1) in
    ap (λ (x : ℕ). made x a.label a.kind a.size a.body) e0
    ∙ ap (λ (x : ℕ). made b.time x a.kind a.size a.body) e1
    ∙ ap (λ (x : ℕ). made b.time b.label x a.size a.body) e2
    ∙ ap (λ (x : ℕ). made b.time b.label b.kind x a.body) e3
    ∙ ap (λ (x : List ℕ). made b.time b.label b.kind b.size x) e4

nothing : (l : List ℕ) → eqb (length l) 0 ≡ true → l ≡ []
nothing [] e = refl
nothing (x ∷ l) e = no_way e (eqb-suc-zero (length l))

-- ---- on lists of records
same-front : (xs ys : List Raw) → take (agreed xs ys) xs ≡ take (agreed xs ys) ys
unfolding agreed
same-front [] ys = refl
same-front (x ∷ xs) [] = refl
same-front (x ∷ xs) (y ∷ ys) =
    split (alike x y)
    (λ e. rw e (ap (λ (z : Raw). z ∷ take (agreed xs ys) xs) (alike_is x y e) ∙ ap (λ (l : List Raw). y ∷ l) (same-front xs ys)))
    (λ e. rw e refl)

-- two records that are not alike have an entry
some-field : (n : ℕ) (x y : Raw) → alike x y ≡ false → (rest : List ℕ)
    → (first_number (map (entry n) (fields_of x y) ++ rest) ≡ n) × (only_second (map (entry n) (fields_of x y) ++ rest) ≡ false)
unfolding fields_of
some-field n x y e rest =
    found (differ x.time y.time) 0 _ (omega arith)
    (found (differ x.label y.label) 1 _ (omega arith)
    (found (differ x.kind y.kind) 2 _ (omega arith)
    (found (differ x.size y.size) 3 _ (omega arith) (last (not (same_octets x.body y.body))))))
    e
  where
    Found : List ℕ → Type 0
    Found l = eqb (length l) 0 ≡ false → (first_number (map (entry n) l ++ rest) ≡ n) × (only_second (map (entry n) l ++ rest) ≡ false)

    here : (c : ℕ) (l : List ℕ) → c < 5 → (first_number (entry n c ∷ l) ≡ n) × (only_second (entry n c ∷ l) ≡ false)
    here c l h = (omega arith, rw (ne_eqb (entry n c % 8) 6 (λ z. omega arith)))

    found : (b : Bool) (c : ℕ) (l : List ℕ) → c < 5 → Found l → Found (only b c ++ l)
    found true c l h g = λ z. here c (map (entry n) l ++ rest) h
    found false c l h g = g

    last : (b : Bool) → Found (only b 4)
    last true = λ z. here 4 rest (omega arith)
    last false = λ z. no_way refl z

first-number : (n : ℕ) (xs ys : List Raw) → 0 < length (drop (agreed xs ys) xs) → first_number (differences n xs ys) ≡ agreed xs ys + n
unfolding agreed differences
first-number n [] ys h = absurd (omega arith)
first-number n (x ∷ xs) [] h = omega arith
first-number n (x ∷ xs) (y ∷ ys) h =
    split (alike x y)
    (λ e. rw (e, nothing (fields_of x y) e) (first-number (suc n) xs ys (rw e at h) ∙ omega arith))
    (λ e. rw e ((some-field n x y e (differences (suc n) xs ys)).0 ∙ omega arith))

only-second : (n : ℕ) (xs ys : List Raw) → eqb (length (drop (agreed xs ys) xs)) 0 ≡ only_second (differences n xs ys)
unfolding agreed differences
only-second n [] [] = refl
only-second n [] (y ∷ ys) = rw (eq-eqb (entry n 6 % 8) 6 (omega arith)) (only-second (suc n) [] ys)
only-second n (x ∷ xs) [] = rw (ne_eqb (entry n 5 % 8) 6 (λ z. omega arith)) (eqb-suc-zero (length xs))
only-second n (x ∷ xs) (y ∷ ys) =
    split (alike x y)
    (λ e. rw (e, nothing (fields_of x y) e) (only-second (suc n) xs ys))
    (λ e. rw e (eqb-suc-zero (length xs) ∙ sym (some-field n x y e (differences (suc n) xs ys)).1))

-- ---- the octets of the records that agree
-- a part of a longer front
drop-take : (n j : ℕ) (s : List ℕ) → n ≤ length s → drop n (take (n + j) s) ≡ take j (drop n s)
drop-take n j s h = ap (drop n) (take-add n j s) ∙ drop_at (take n s) (take j (drop n s)) n (length-take-le n s h)

least : (n m : ℕ) (s : List ℕ) → n ≤ length s → n ≤ length (take (n + m) s)
least n m s h =
    split (leb (n + m) (length s))
    (λ e. rw (length-take-le (n + m) s (leb-true (n + m) (length s) e)) (omega arith))
    (λ e. let l = leb-false (n + m) (length s) e in rw (take_all (n + m) s (omega arith)) h)

pub record-cut : (m : ℕ) (s : List ℕ) → 16 ≤ m → record_in (take m s) ≡ record_in s
unfolding record_in
record-cut m s h = rw (at_front_lem 8 m s 0 (omega arith), at_front_lem 4 m s 8 (omega arith), at_front_lem 2 m s 12 (omega arith), at_front_lem 2 m s 14 (omega arith))

module _ (s : List ℕ) (m : ℕ) (e : stands_in 16 s ≡ true) where
  abbrev cut : List ℕ
  cut = take (step_of s + m) s

  cut_record : record_in cut ≡ record_in s
  cut_record = record-cut (step_of s + m) s (omega (arith, step-least s e))

  pub cut-size : raw_size 16 cut ≡ step_of s
  cut-size = ap (λ (r : Record). 16 + r.size) cut_record ∙ sym (step-stands s e)

  pub cut_stands : stands_in 16 cut ≡ true
  unfolding stands_in
  cut_stands =
      let sound = (and_both (not (is_broken (record_in s).kind (record_in s).size)) (leb (raw_size 16 s) (length s)) e).0 in
      both_true (ap (λ (r : Record). not (is_broken r.kind r.size)) cut_record ∙ sound)
      (le-leb (raw_size 16 cut) (length cut) (omega (arith, cut-size, least (step_of s) m s (step-most s))))

  pub cut-raw : raw_in 16 cut ≡ raw_in 16 s
  unfolding raw_in
  cut-raw =
      let size = (record_in s).size in
      let n : step_of s + m ≡ 16 + (size + m) = omega (arith, step-stands s e) in
      let body : take size (drop 16 cut) ≡ take size (drop 16 s) =
      ap (λ (k : ℕ). take size (drop 16 (take k s))) n
      ∙ ap (take size) (drop-take 16 (size + m) s (omega (arith, step-least s e, step-most s)))
      ∙ take-take size (size + m) (drop 16 s) (omega arith) in
      ap (λ (r : Record). made r.time r.label r.kind r.size (take r.size (drop 16 cut))) cut_record
      ∙ ap (made (record_in s).time (record_in s).label (record_in s).kind size) body

  cut-behind : drop (raw_size 16 cut) cut ≡ take m (drop (step_of s) s)
  cut-behind = ap (λ (k : ℕ). drop k cut) cut-size ∙ drop-take (step_of s) m s (step-most s)

  -- one record more, of a front
  pub cut-raws : raws_in 16 cut
      ≡ record { raws = raw_in 16 s ∷ (raws_in 16 (take m (drop (step_of s) s))).raws; rest = (raws_in 16 (take m (drop (step_of s) s))).rest }
  cut-raws =
      raws-record 16 (omega arith) cut cut_stands
      ∙ ap (λ (x : Raw). record { raws = x ∷ (raws_in 16 (drop (raw_size 16 cut) cut)).raws; rest = (raws_in 16 (drop (raw_size 16 cut) cut)).rest }) cut-raw
      ∙ ap (λ (x : List ℕ). record { raws = raw_in 16 s ∷ (raws_in 16 x).raws; rest = (raws_in 16 x).rest }) cut-behind

none-stands : stands_in 16 [] ≡ false
none-stands = split (stands_in 16 []) (λ e. absurd (omega (arith, stands-size 16 [] e))) (λ e. e)

module _ (s t : List ℕ) where
  abbrev xs : List Raw
  xs = (raws_in 16 s).raws

  abbrev ys : List Raw
  ys = (raws_in 16 t).raws

  agreed-none : alike_in s t ≡ false → agreed xs ys ≡ 0
  unfolding agreed alike_in
  agreed-none h =
      split (stands_in 16 s)
      (λ e. split (stands_in 16 t)
      (λ f. rw (raws-there s e, raws-there t f, rw (e, f) at h))
      (λ f. rw (raws-there s e, raws-away t f)))
      (λ e. rw (raws-away s e))

  agreed-more : alike_in s t ≡ true → agreed xs ys ≡ suc (agreed (raws_in 16 (drop (step_of s) s)).raws (raws_in 16 (drop (step_of s) t)).raws)
  unfolding agreed
  agreed-more h =
      let b = both-stand s t h in
      rw (raws-there s b.0, raws-there t b.1.0, b.1.1)
      (ap (λ (n : ℕ). suc (agreed (raws_in 16 (drop (step_of s) s)).raws (raws_in 16 (drop n t)).raws)) (same_step s t h))

-- the front holds the records that agree, the rest the others
record Cut (s t : List ℕ) : Type 0 where
  front : raws_in 16 (take (agreeing (raws_in 16 s).raws (raws_in 16 t).raws) s)
      ≡ record { raws = take (agreed (raws_in 16 s).raws (raws_in 16 t).raws) (raws_in 16 s).raws; rest = [] }
  behind : raws_in 16 (drop (agreeing (raws_in 16 s).raws (raws_in 16 t).raws) s)
      ≡ record { raws = drop (agreed (raws_in 16 s).raws (raws_in 16 t).raws) (raws_in 16 s).raws; rest = (raws_in 16 s).rest }

cut-none : (s t : List ℕ) → alike_in s t ≡ false → Cut s t
cut-none s t h =
    let a = alike-none s t h in
    let k = agreed-none s t h in
    record {
      front =
          ap (λ (n : ℕ). raws_in 16 (take n s)) a ∙ raws-none 16 [] none-stands
          ∙ ap (λ (n : ℕ). record { raws = take n (raws_in 16 s).raws; rest = [] }) (sym k);
      behind =
          ap (λ (n : ℕ). raws_in 16 (drop n s)) a
          ∙ ap (λ (n : ℕ). record { raws = drop n (raws_in 16 s).raws; rest = (raws_in 16 s).rest }) (sym k);
    }

cut-more : (s t : List ℕ) → alike_in s t ≡ true → Cut (drop (step_of s) s) (drop (step_of s) t) → Cut s t
cut-more s t h c =
    let e = (both-stand s t h).0 in
    let s' = drop (step_of s) s in
    let m = agreeing (raws_in 16 s').raws (raws_in 16 (drop (step_of s) t)).raws in
    let k = agreed (raws_in 16 s').raws (raws_in 16 (drop (step_of s) t)).raws in
    let a = alike-more s t h in
    let b = agreed-more s t h in
    record {
      front =
          ap (λ (n : ℕ). raws_in 16 (take n s)) a ∙ cut-raws s m e
          ∙ ap (λ (x : Raws). record { raws = raw_in 16 s ∷ x.raws; rest = x.rest }) c.front
          ∙ ap (λ (l : List Raw). record { raws = take (suc k) l; rest = [] }) (sym (raws-there s e))
          ∙ ap (λ (n : ℕ). record { raws = take n (raws_in 16 s).raws; rest = [] }) (sym b);
      behind =
          ap (λ (n : ℕ). raws_in 16 (drop n s)) a ∙ ap (raws_in 16) (sym (drop-drop m (step_of s) s)) ∙ c.behind
          ∙ ap (λ (l : List Raw). record { raws = drop (suc k) l; rest = (raws_in 16 s').rest }) (sym (raws-there s e))
          ∙ ap (λ (n : ℕ). record { raws = drop n (raws_in 16 s).raws; rest = (raws_in 16 s').rest }) (sym b)
          ∙ ap (λ (l : List ℕ). record { raws = drop (agreed (raws_in 16 s).raws (raws_in 16 t).raws) (raws_in 16 s).raws; rest = l }) (sym (left_there s e));
    }

cut_all : (n : ℕ) (s t : List ℕ) → length s ≤ n → Cut s t
cut_all zero s t l = split (alike_in s t) (λ h. absurd (omega (arith, fewer s (both-stand s t h).0))) (cut-none s t)
cut_all (suc n) s t l =
    split (alike_in s t)
    (λ h. cut-more s t h (cut_all n (drop (step_of s) s) (drop (step_of s) t) (omega (arith, fewer s (both-stand s t h).0))))
    (cut-none s t)

-- ---- whole captures
header-cut : (m : ℕ) (s : List ℕ) → 8 ≤ length s → header_fits (take (8 + m) s) ≡ header_fits s
unfolding header_fits
header-cut m s h =
    let l = least 8 m s h in
    rw (
      le-leb 8 (length (take (8 + m) s)) l,
      le-leb 8 (length s) h,
      get_or-take (8 + m) s 0 0 (omega arith),
      get_or-take (8 + m) s 1 0 (omega arith),
      get_or-take (8 + m) s 2 0 (omega arith),
      at_front_lem 2 (8 + m) s 3 (omega arith),
      get_or-take (8 + m) s 5 0 (omega arith),
      get_or-take (8 + m) s 6 0 (omega arith),
      get_or-take (8 + m) s 7 0 (omega arith),
    )

-- no record and nothing left: no octet
no-octets : (s : List ℕ) (l : List Raw) → raws_in 16 s ≡ record { raws = l; rest = [] } → eqb (length s) 0 ≡ eqb (length l) 0
no-octets s l e =
    split (stands_in 16 s)
    (λ f.
    let there = sym (raws-there s f) ∙ ap (λ (x : Raws). x.raws) e in
    ne_eqb (length s) 0 (λ z. omega (arith, fewer s f))
    ∙ sym (eqb-suc-zero (length (raws_in 16 (drop (step_of s) s)).raws))
    ∙ ap (λ (x : List Raw). eqb (length x) 0) there)
    (λ f.
    let q = sym (raws-none 16 s f) ∙ e in
    ap (λ (x : Raws). eqb (length x.rest) 0) q ∙ ap (λ (x : Raws). eqb (length x.raws) 0) q)

some-too : (p q : ℕ) → eqb p 0 ≡ eqb q 0 → 0 < p → 0 < q
some-too p zero e l = absurd (omega (arith, eqb-true p 0 e))
some-too p (suc q) e l = omega arith

module _ (first second : List ℕ) (a : bad_capture first ≡ false) (b : bad_capture second ≡ false) where
  abbrev m : ℕ
  m = agreeing (records_of first) (records_of second)

  place_is : rest_place first second ≡ 8 + m
  unfolding rest_place
  place_is = rw (a, b)

  c : Cut (drop 8 first) (drop 8 second)
  c = cut_all (length (drop 8 first)) (drop 8 first) (drop 8 second) (omega arith)

  nothing_left : (raws_in 16 (drop 8 first)).rest ≡ []
  nothing_left =
      let e = bad-cut first (good-header first a) ∙ a in
      nothing (raws_in 16 (drop 8 first)).rest (kept (eqb (length (raws_in 16 (drop 8 first)).rest) 0) e)
    where
      kept : (x : Bool) → not x ≡ false → x ≡ true
      kept true e = refl
      kept false e = sym e

  behind-is : raws_in 16 (rest_of first second) ≡ record { raws = drop (count first second) (records_of first); rest = [] }
  unfolding rest_of records_of
  behind-is =
      ap (λ (n : ℕ). raws_in 16 (drop n first)) place_is ∙ ap (raws_in 16) (sym (drop-drop m 8 first)) ∙ c.behind
      ∙ ap (λ (l : List ℕ). record { raws = drop (count first second) (records_of first); rest = l }) nothing_left

  front-is : raws_in 16 (drop 8 (take (rest_place first second) first)) ≡ record { raws = take (count first second) (records_of first); rest = [] }
  unfolding records_of
  front-is =
      ap (λ (n : ℕ). raws_in 16 (drop 8 (take n first))) place_is ∙ ap (raws_in 16) (drop-take 8 m first (good_length first a)) ∙ c.front

  pub rest-is : RestIs first second
  unfolding rest_of records_of bad_capture list_of
  rest-is =
      let no = no-octets (rest_of first second) (drop (count first second) (records_of first)) behind-is in
      record {
        octets = take-append-drop (rest_place first second) first;
        front-good =
            let h : header_fits (take (rest_place first second) first) ≡ true =
            ap (λ (n : ℕ). header_fits (take n first)) place_is ∙ header-cut m first (good_length first a) ∙ good-header first a in
            rw (h, front-is);
        front = ap (λ (x : Raws). x.raws) front-is;
        same = same-front (records_of first) (records_of second);
        behind = behind-is;
        next = λ l. first-number 1 (records_of first) (records_of second) (some-too (length (rest_of first second)) (length (drop (count first second) (records_of first))) no l);
        none = no ∙ only-second 1 (records_of first) (records_of second);
      }
