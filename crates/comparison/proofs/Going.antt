-- The walk over both captures, pair by pair: what is put and what is still to come.
-- Assumes nothing.
use Prim.Native.Nat.{ℕ, suc, ◌+◌, ◌*◌, ◌-◌, ◌^◌, ◌≤◌, ◌<◌}
use native.Mathlib.Omega.{arith}
use native.Mathlib.Numerals.{add-one}
use mathlib.Core.Path.{◌≡◌, refl, sym, ap, subst, ◌∙◌}
use mathlib.Core.Bool.{true, false, ◌||◌}
use mathlib.Core.List.{List, ◌++◌}
use lib.ListN.{length, take, drop, length-append, length-drop}
use lib.Seq.{sets, length-sets}
use Rattle.octets.proofs.Runs.{joined}
use Rattle.rules.proofs.Bools.{split, no_way}
use Rattle.capture.specs.Raws.{stands_in, raws_in}
use Rattle.comparison.specs.declared.Marks.{Marks}
use Rattle.comparison.specs.Differences.{differences, records_of, list_of}
use Rattle.comparison.specs.Walk.{step_of, marks_of, marked, Put}
use Rattle.comparison.proofs.Pairs.{passed, fewer, not_more, pair-more, pair-none}

-- what is put of the first part leaves the second to put
put_rest : {l k out xs ys : List ℕ} {a b end : ℕ} → Put l a xs k b → Put l a (xs ++ ys) out end → Put k b ys out end
put_rest {l} {k} {out} {xs} {ys} {a} {b} {end} p q =
    record {
      list-is =
          q.list-is ∙ joined xs ys l a ∙ ap (λ (z : List ℕ). sets z (a + length xs) ys) (sym p.list-is)
          ∙ ap (λ (n : ℕ). sets k n ys) (sym p.behind-is);
      behind-is = omega (arith, p.behind-is, q.behind-is, length-append xs ys);
    }

-- before the records s and t with the number n, with so many entries put
pub record Going (first second list₀ list s t : List ℕ) (n count : ℕ) : Type 0 where
  pub put : Put list count (differences n (raws_in 16 s).raws (raws_in 16 t).raws) (sets list₀ 0 (list_of first second)) (length (list_of first second))
  pub same : length list ≡ length list₀
  pub room : 16 * n + (length s + length t) ≤ 16 + (length first + length second)
  pub few : count + 7 ≤ 7 * n

pub begins : (first second list s t : List ℕ) → s ≡ drop 8 first → t ≡ drop 8 second → Going first second list list s t 1 0
unfolding list_of records_of
begins first second list s t e f =
    let all : list_of first second ≡ differences 1 (raws_in 16 s).raws (raws_in 16 t).raws =
    ap (λ (x : List ℕ). differences 1 (raws_in 16 x).raws (raws_in 16 (drop 8 second)).raws) (sym e)
    ∙ ap (λ (x : List ℕ). differences 1 (raws_in 16 s).raws (raws_in 16 x).raws) (sym f) in
    record {
      put = record { list-is = ap (sets list 0) all; behind-is = ap length all ∙ omega arith };
      same = refl;
      room = omega (arith, ap length e, ap length f, length-drop 8 first, length-drop 8 second);
      few = omega arith;
    }

module _ {first second list₀ list s t : List ℕ} {n count : ℕ} (g : Going first second list₀ list s t n count) where
  -- a record has 16 octets at least, and no slice has 2^63: the numbers of records and of entries fit
  pub fit : length first < 2 ^ 63 → length second < 2 ^ 63 → (count + 7 < 2 ^ 64) × (8 * n + 6 < 2 ^ 64)
  fit a b = (omega (arith, g.few, g.room), omega (arith, g.few, g.room))

  less : stands_in 16 s || stands_in 16 t ≡ true → (a b : ℕ) → a ≡ step_of s → b ≡ step_of t
      → length (take (length s - a) (drop a s)) + length (take (length t - b) (drop b t)) + 16 ≤ length s + length t
  less h a b e f =
      split (stands_in 16 s)
      (λ x. omega (arith, ap length (passed s a e), ap length (passed t b f), fewer s x, not_more t))
      (λ x. split (stands_in 16 t)
      (λ y. omega (arith, ap length (passed s a e), ap length (passed t b f), fewer t y, not_more s))
      (λ y. no_way h (rw (x, y))))

  pub falls : stands_in 16 s || stands_in 16 t ≡ true → (a b : ℕ) → a ≡ step_of s → b ≡ step_of t
      → length (take (length s - a) (drop a s)) + length (take (length t - b) (drop b t)) < length s + length t
  falls h a b e f = omega (arith, less h a b e f)

  pub more : stands_in 16 s || stands_in 16 t ≡ true → (m : Marks) → m ≡ marks_of s t → (out : List ℕ) (end : ℕ)
      → (Put list count (marked n m) out end) × (end ≤ count + 7) → (a b : ℕ) → a ≡ step_of s → b ≡ step_of t
      → Going first second list₀ out (take (length s - a) (drop a s)) (take (length t - b) (drop b t)) (n + 1) end
  more h m em out end p a b e f =
      let r =
      ap (λ (x : List ℕ). marked n m ++ differences (suc n) (raws_in 16 x).raws (raws_in 16 (drop (step_of t) t)).raws) (sym (passed s a e)) in
      record {
        put =
            put_rest p.0
            (subst (λ (x : List ℕ). Put list count x (sets list₀ 0 (list_of first second)) (length (list_of first second)))
            (pair-more s t n h ∙ ap (λ (x : Marks). marked n x ++ differences (suc n) (raws_in 16 (drop (step_of s) s)).raws (raws_in 16 (drop (step_of t) t)).raws) (sym em)
            ∙ r
            ∙ ap (λ (x : List ℕ). marked n m ++ differences (suc n) (raws_in 16 (take (length s - a) (drop a s))).raws (raws_in 16 x).raws) (sym (passed t b f))
            ∙ ap (λ (k : ℕ). marked n m ++ differences k (raws_in 16 (take (length s - a) (drop a s))).raws (raws_in 16 (take (length t - b) (drop b t))).raws) (sym (add-one n)))
            g.put);
        same = ap length p.0.list-is ∙ length-sets list count (marked n m) ∙ g.same;
        room = omega (arith, less h a b e f, g.room);
        few = omega (arith, g.few, p.1);
      }

  -- nothing is left: all is put
  pub ended : stands_in 16 s || stands_in 16 t ≡ false → Put list₀ 0 (list_of first second) list count
  ended h =
      let e = pair-none s t n h in
      let p = subst (λ (x : List ℕ). Put list count x (sets list₀ 0 (list_of first second)) (length (list_of first second))) e g.put in
      record { list-is = sym p.list-is; behind-is = omega (arith, p.behind-is) }
