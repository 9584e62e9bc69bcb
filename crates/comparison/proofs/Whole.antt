-- Whole captures: which are bad, the answers in their order, and where the rest begins.
-- Assumes nothing.
use Prim.Native.Nat.{ℕ, ◌+◌, ◌≤◌, ◌<◌}
use native.Mathlib.Omega.{arith}
use mathlib.Core.Path.{◌≡◌, refl, sym, ap, ◌∙◌}
use mathlib.Core.Bool.{Bool, true, false, not, ◌||◌}
use mathlib.Core.List.{List}
use lib.Dec.{eqb, leb}
use lib.ListN.{length, drop, length-drop}
use lib.Seq.{drop-drop}
use borrow.Author.Tests.{lt-ltb, le-ltb, leb-true}
use Rattle.octets.proofs.Chain.{and_both}
use Rattle.rules.proofs.Bools.{split, no_way}
use Rattle.capture.specs.Records.{header_fits}
use Rattle.capture.specs.Raws.{raws_in}
use Rattle.comparison.specs.Differences.{Listed, bad_capture, records_of, list_of, compared}
use Rattle.comparison.specs.Rest.{agreeing, rest_place}
use Rattle.comparison.specs.Walk.{step_of, alike_in, Put}
use Rattle.comparison.proofs.Octets.{put-room}
use Rattle.comparison.proofs.Pairs.{step-least, step-most, alike-none, alike-stands, alike-more}

-- ---- bad captures
module _ (s : List ℕ) where
  pub bad-header : header_fits s ≡ false → true ≡ bad_capture s
  unfolding bad_capture
  bad-header e = rw e

  pub bad-cut : header_fits s ≡ true → not (eqb (length (raws_in 16 (drop 8 s)).rest) 0) ≡ bad_capture s
  unfolding bad_capture
  bad-cut e = rw e

  pub good-header : bad_capture s ≡ false → header_fits s ≡ true
  good-header e = split (header_fits s) (λ h. h) (λ h. no_way (sym (bad-header h)) e)

  pub good_length : bad_capture s ≡ false → 8 ≤ length s
  unfolding header_fits
  good_length e = leb-true 8 (length s) (and_both (leb 8 (length s)) _ (good-header e)).0

-- ---- the list
module _ (first second list : List ℕ) where
  -- the answer and the number of entries, as the code gives them
  pub said : {a k n : ℕ} → (a ≡ n) × (k ≡ 0) → record { answer = n; count = 0; list = list } ≡ compared first second list
      → record { answer = a; count = k; list = list } ≡ compared first second list
  said {a} {k} {n} p e =
      let made : ℕ → ℕ → Listed = λ x y. record { answer = x; count = y; list = list } in
      ap (λ (x : ℕ). made x k) p.0 ∙ ap (made n) p.1 ∙ e

  pub refused-first : bad_capture first ≡ true → record { answer = 22; count = 0; list = list } ≡ compared first second list
  unfolding compared
  refused-first e = rw e

  pub refused-second : bad_capture first ≡ false → bad_capture second ≡ true → record { answer = 23; count = 0; list = list } ≡ compared first second list
  unfolding compared
  refused-second e f = rw (e, f)

  pub refused-short : bad_capture first ≡ false → bad_capture second ≡ false → length list < length (list_of first second)
      → record { answer = 13; count = 0; list = list } ≡ compared first second list
  unfolding compared
  refused-short e f l = rw (e, f, lt-ltb (length list) (length (list_of first second)) l)

  pub listed-all : bad_capture first ≡ false → bad_capture second ≡ false → length (list_of first second) ≤ length list → (out : List ℕ) (count : ℕ)
      → Put list 0 (list_of first second) out count → record { answer = 0; count = count; list = out } ≡ compared first second list
  unfolding compared
  listed-all e f l out count p =
      let c : count ≡ length (list_of first second) = p.behind-is ∙ omega arith in
      let made : ℕ → List ℕ → Listed = λ n x. record { answer = 0; count = n; list = x } in
      rw (e, f, le-ltb (length list) (length (list_of first second)) l) (ap (λ (n : ℕ). made n out) c ∙ ap (made (length (list_of first second))) (put-room l p))

-- ---- the records that agree, up to a place
pub record Agreed (s t : List ℕ) (at : ℕ) : Type 0 where
  pub within : at ≤ length s
  pub further : agreeing (raws_in 16 s).raws (raws_in 16 t).raws ≡ at + agreeing (raws_in 16 (drop at s)).raws (raws_in 16 (drop at t)).raws

pub agreed-first : (s t : List ℕ) → Agreed s t 0
agreed-first s t = record { within = omega arith; further = omega arith }

module _ {s t : List ℕ} {at : ℕ} (g : Agreed s t at) (x y : List ℕ) (ex : x ≡ drop at s) (ey : y ≡ drop at t) where
  alike-here : {b : Bool} → alike_in x y ≡ b → alike_in (drop at s) (drop at t) ≡ b
  alike-here h = ap (λ (z : List ℕ). alike_in z (drop at t)) (sym ex) ∙ ap (λ (z : List ℕ). alike_in x z) (sym ey) ∙ h

  pub agreed-step : alike_in x y ≡ true → (n : ℕ) → n ≡ step_of (drop at s) → (16 ≤ n) × (at + n ≤ length s)
  agreed-step h n e = (
    omega (arith, step-least (drop at s) (alike-stands (drop at s) (drop at t) (alike-here h))),
    omega (arith, step-most (drop at s), length-drop at s, g.within),
  )

  pub agreed-more : alike_in x y ≡ true → (n : ℕ) → n ≡ step_of (drop at s) → Agreed s t (at + n)
  agreed-more h n e =
      let left : ℕ → ℕ = λ k. agreeing (raws_in 16 (drop k s)).raws (raws_in 16 (drop k t)).raws in
      let there : (agreeing (raws_in 16 (drop n (drop at s))).raws (raws_in 16 (drop n (drop at t))).raws) ≡ left (at + n) =
      ap (λ (z : List ℕ). agreeing (raws_in 16 z).raws (raws_in 16 (drop n (drop at t))).raws) (drop-drop n at s)
      ∙ ap (λ (z : List ℕ). agreeing (raws_in 16 (drop (at + n) s)).raws (raws_in 16 z).raws) (drop-drop n at t) in
      let one : left at ≡ n + agreeing (raws_in 16 (drop n (drop at s))).raws (raws_in 16 (drop n (drop at t))).raws =
      alike-more (drop at s) (drop at t) (alike-here h)
      ∙ ap (λ (k : ℕ). k + agreeing (raws_in 16 (drop k (drop at s))).raws (raws_in 16 (drop k (drop at t))).raws) (sym e) in
      record { within = (agreed-step h n e).1; further = omega (arith, g.further, one, there) }

  pub agreed-all : alike_in x y ≡ false → (at ≡ agreeing (raws_in 16 s).raws (raws_in 16 t).raws) × (at ≤ length s)
  agreed-all h = (omega (arith, g.further, alike-none (drop at s) (drop at t) (alike-here h)), g.within)

-- ---- the rest
-- one of the two is bad, by what the code asks
pub either-bad : (first second : List ℕ) {a b r : Bool} → a ≡ bad_capture first → b ≡ bad_capture second → r ≡ (a || b) → bad_capture first || bad_capture second ≡ r
either-bad first second {a} {b} {r} e f h = ap (λ (x : Bool). x || bad_capture second) (sym e) ∙ ap (λ (x : Bool). a || x) (sym f) ∙ sym h

module _ (first second : List ℕ) where
  pub no-rest : bad_capture first || bad_capture second ≡ true → (length first ≡ rest_place first second) × (length first ≤ length first)
  unfolding rest_place
  no-rest e = (rw e, omega arith)

  pub rest-begins : bad_capture first || bad_capture second ≡ false → (s t : List ℕ) → s ≡ drop 8 first → t ≡ drop 8 second → (n : ℕ)
      → (n ≡ agreeing (raws_in 16 s).raws (raws_in 16 t).raws) × (n ≤ length s) → (8 + n ≡ rest_place first second) × (8 + n ≤ length first)
  unfolding rest_place records_of
  rest-begins e s t es et n p = (
    rw e
        (ap (λ (x : ℕ). 8 + x)
        (p.0 ∙ ap (λ (x : List ℕ). agreeing (raws_in 16 x).raws (raws_in 16 t).raws) es
        ∙ ap (λ (x : List ℕ). agreeing (raws_in 16 (drop 8 first)).raws (raws_in 16 x).raws) et)),
    omega (arith, p.1, ap length es, length-drop 8 first, good_length first (left (bad_capture first) (bad_capture second) e)),
  )
    where
      left : (a b : Bool) → a || b ≡ false → a ≡ false
      left true b h = h
      left false b h = refl

pub ruleset answers = (refused-first, refused-second, refused-short, listed-all)

pub ruleset places = (no-rest, rest-begins)
