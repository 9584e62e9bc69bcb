-- What halving the candidates comes to, how often it is done, and what is found where the clocks rise.
-- Assumes nothing.
use mathlib.Core.Path.{◌≡◌, refl, sym, ap, ◌∙◌}
use mathlib.Core.Bool.{Bool, true, false, cond}
use mathlib.Core.List.{List, [], ◌∷◌}
use mathlib.Core.Logic.{⊎_elim}
use Prim.Native.Nat.{ℕ, zero, suc, ◌+◌, ◌*◌, ◌-◌, ◌/◌, ◌^◌, ◌≤◌, ◌<◌}
use native.Mathlib.Omega.{arith}
use native.Mathlib.Nat.{pow-suc}
use lib.ListN.{length, get_or}
use lib.Dec.{ltb, leb}
use borrow.Author.Tests.{lt-ltb, le-ltb, ltb-true, ltb-false, le-leb, lt-leb, leb-true, leb-false}
use Rattle.halving.specs.declared.Found.{Found}
use Rattle.halving.specs.Search.{looking, halving, found, looks_of, looks}

-- a test, with what it shows
pub split : {A : Type 0} (b : Bool) → (b ≡ true → A) → (b ≡ false → A) → A
split true y n = y refl
split false y n = n refl

abbrev stop : ℕ → Found
stop first = record { place = first; looked = 0 }

module _ (clocks : List ℕ) (at : ℕ) where
  few : (k first n : ℕ) → n < 2 → halving k clocks at first n ≡ stop first
  unfolding halving
  few zero first n h = refl
  few (suc k) first n h = rw (lt-ltb n 2 h)

  enough : (k j first n : ℕ) → n ≤ suc k → n ≤ suc j → halving k clocks at first n ≡ halving j clocks at first n
  unfolding halving
  enough zero j first n p q = sym (few j first n (omega arith))
  enough (suc k) zero first n p q = few (suc k) first n (omega arith)
  enough (suc k) (suc j) first n p q =
      split (ltb n 2) (λ e. rw e)
      (λ e. let m : 2 ≤ n = ltb-false n 2 e in
      rw (enough k j (first + n / 2) (n - n / 2) (omega arith) (omega arith), enough k j first (n / 2) (omega arith) (omega arith)))

  turn : (k first n : ℕ) → 2 ≤ n → halving (suc k) clocks at first n
      ≡ cond (leb (get_or clocks (first + n / 2) 0) at) (looking (halving k clocks at (first + n / 2) (n - n / 2))) (looking (halving k clocks at first (n / 2)))
  unfolding halving
  turn k first n m = rw (le-ltb n 2 m)

  module _ (first n : ℕ) where
    pub found-few : n < 2 → found clocks at first n ≡ stop first
    unfolding found
    found-few h = few n first n h

    opens : 2 ≤ n → found clocks at first n
        ≡ cond (leb (get_or clocks (first + n / 2) 0) at) (looking (found clocks at (first + n / 2) (n - n / 2))) (looking (found clocks at first (n / 2)))
    unfolding found
    opens m =
        enough n (suc (n - 1)) first n (omega arith) (omega arith) ∙ turn (n - 1) first n m
        ∙ rw (enough (n - 1) (n - n / 2) (first + n / 2) (n - n / 2) (omega arith) (omega arith), enough (n - 1) (n / 2) first (n / 2) (omega arith) (omega arith))

    pub found-later : 2 ≤ n → get_or clocks (first + n / 2) 0 ≤ at → found clocks at first n ≡ looking (found clocks at (first + n / 2) (n - n / 2))
    found-later m h = opens m ∙ rw (le-leb _ _ h)

    pub found-earlier : 2 ≤ n → at < get_or clocks (first + n / 2) 0 → found clocks at first n ≡ looking (found clocks at first (n / 2))
    found-earlier m h = opens m ∙ rw (lt-leb _ _ h)

  -- fewer entries are looked at than there are candidates
  few-looked : (k first n : ℕ) → (halving k clocks at first n).looked ≤ k
  unfolding halving
  few-looked zero first n = omega arith
  few-looked (suc k) first n =
      split (ltb n 2) (λ e. rw e (omega arith))
      (λ e. rw e (split (leb (get_or clocks (first + n / 2) 0) at)
      (λ d. rw d (omega (arith, few-looked k (first + n / 2) (n - n / 2))))
      (λ d. rw d (omega (arith, few-looked k first (n / 2))))))

  pub looked-at-most : (first n : ℕ) → (found clocks at first n).looked ≤ n
  unfolding found
  looked-at-most first n = few-looked n first n

  -- of at most 2 ^ k candidates at most k are looked at
  halved : (j k first n : ℕ) → n ≤ 2 ^ k → (halving j clocks at first n).looked ≤ k
  unfolding halving
  halved zero k first n h = omega arith
  halved (suc j) zero first n h = rw (lt-ltb n 2 (omega arith)) (omega arith)
  halved (suc j) (suc k) first n h =
      let p : n ≤ 2 ^ k * 2 = rw (pow-suc 2 k) at h in
      split (ltb n 2) (λ e. rw e (omega arith))
      (λ e. rw e (split (leb (get_or clocks (first + n / 2) 0) at)
      (λ d. rw d (omega (arith, halved j k (first + n / 2) (n - n / 2) (omega arith))))
      (λ d. rw d (omega (arith, halved j k first (n / 2) (omega arith))))))

  pub looks-most : (k first n : ℕ) → n ≤ 2 ^ k → (found clocks at first n).looked ≤ k
  unfolding found
  looks-most k first n h = halved n k first n h

  -- so at most 8 of 256
  pub looks-eight : (first n : ℕ) → n ≤ 256 → (found clocks at first n).looked ≤ 8
  looks-eight first n h = looks-most 8 first n h

  -- the number of entries looked at is that of the list of looks
  counted : (k first n : ℕ) → (halving k clocks at first n).looked ≡ length (looks_of k clocks at first n)
  unfolding halving looks_of
  counted zero first n = refl
  counted (suc k) first n =
      split (ltb n 2) (λ e. rw e)
      (λ e. rw e (split (leb (get_or clocks (first + n / 2) 0) at)
      (λ d. rw d (omega (arith, counted k (first + n / 2) (n - n / 2))))
      (λ d. rw d (omega (arith, counted k first (n / 2))))))

  pub looked-is : (first n : ℕ) → (found clocks at first n).looked ≡ length (looks clocks at first n)
  unfolding found looks
  looked-is first n = counted n first n

  -- the place found is one of the candidates
  inside : (k first n : ℕ) → 0 < n → (first ≤ (halving k clocks at first n).place) × ((halving k clocks at first n).place < first + n)
  unfolding halving
  inside zero first n h = (omega arith, omega arith)
  inside (suc k) first n h =
      split (ltb n 2) (λ e. rw e (omega arith, omega arith))
      (λ e. let two : 2 ≤ n = ltb-false n 2 e in
      rw e (split (leb (get_or clocks (first + n / 2) 0) at)
      (λ d. rw d (let i = inside k (first + n / 2) (n - n / 2) (omega arith) in (omega (arith, i.0), omega (arith, i.1))))
      (λ d. rw d (let i = inside k first (n / 2) (omega arith) in (omega (arith, i.0), omega (arith, i.1))))))

  pub found_inside : (first n : ℕ) → 0 < n → (first ≤ (found clocks at first n).place) × ((found clocks at first n).place < first + n)
  unfolding found
  found_inside first n h = inside n first n h

  -- as the code has it: r is what the call gave
  pub looked-of : (r : Found) (first n : ℕ) → r ≡ found clocks at first n → r.looked ≤ n
  looked-of r first n e = rw e (looked-at-most first n)

  pub said-later : (r : Found) (first n : ℕ) → 2 ≤ n → get_or clocks (first + n / 2) 0 ≤ at
      → r ≡ found clocks at (first + n / 2) (n - n / 2) → looking r ≡ found clocks at first n
  said-later r first n m h e = ap looking e ∙ sym (found-later first n m h)

  pub said-earlier : (r : Found) (first n : ℕ) → 2 ≤ n → at < get_or clocks (first + n / 2) 0
      → r ≡ found clocks at first (n / 2) → looking r ≡ found clocks at first n
  said-earlier r first n m h e = ap looking e ∙ sym (found-earlier first n m h)

-- the clocks below the place m rise
unfoldable pub Rising : List ℕ → ℕ → Type 0
Rising clocks m = (i j : ℕ) → i ≤ j → j < m → get_or clocks i 0 ≤ get_or clocks j 0

-- p is the last of the n candidates whose clock is not later than `at`
pub record Last (clocks : List ℕ) (at first n p : ℕ) : Type 0 where
  pub from : first ≤ p
  pub within : p < first + n
  pub serves : get_or clocks p 0 ≤ at
  pub later : (i : ℕ) → p < i → i < first + n → at < get_or clocks i 0

module _ (clocks : List ℕ) (at : ℕ) where
  on-later : (first n p : ℕ) → Last clocks at (first + n / 2) (n - n / 2) p → Last clocks at first n p
  on-later first n p r =
      record {
        from = omega (arith, r.from);
        within = omega (arith, r.within);
        serves = r.serves;
        later = λ i h m. r.later i h (omega arith);
      }

  on-earlier : (first n p : ℕ) → Rising clocks (first + n) → at < get_or clocks (first + n / 2) 0 → Last clocks at first (n / 2) p → Last clocks at first n p
  unfolding Rising
  on-earlier first n p up h r =
      record {
        from = r.from;
        within = omega (arith, r.within);
        serves = r.serves;
        later = λ i g m. split (ltb i (first + n / 2)) (λ e. r.later i g (ltb-true _ _ e))
            (λ e. omega (arith, up (first + n / 2) i (ltb-false _ _ e) m));
      }

  last : (k first n : ℕ) → n ≤ suc k → 0 < n → Rising clocks (first + n) → get_or clocks first 0 ≤ at → Last clocks at first n (halving k clocks at first n).place
  unfolding halving Rising
  last zero first n p q up h =
      record { from = omega arith; within = omega arith; serves = h; later = λ i g m. absurd (omega arith) }
  last (suc k) first n p q up h =
      split (ltb n 2)
      (λ e. rw e (record { from = omega arith; within = omega arith; serves = h; later = λ i g m. absurd (omega (arith, ltb-true n 2 e)) }))
      (λ e. let two : 2 ≤ n = ltb-false _ _ e in
      rw e (split (leb (get_or clocks (first + n / 2) 0) at)
      (λ d. rw d (on-later first n _ (last k (first + n / 2) (n - n / 2) (omega arith) (omega arith) (λ i j u v. up i j u (omega arith)) (leb-true _ _ d))))
      (λ d. rw d (on-earlier first n _ up (leb-false _ _ d) (last k first (n / 2) (omega arith) (omega arith) (λ i j u v. up i j u (omega arith)) h)))))

  pub found-last : (first n : ℕ) → 0 < n → Rising clocks (first + n) → get_or clocks first 0 ≤ at → Last clocks at first n (found clocks at first n).place
  unfolding found
  found-last first n q up h = last n first n (omega arith) q up h
