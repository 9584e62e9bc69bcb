-- The 64-bit set of occupied places: what its trailing zeros and its ones count, and what a place taken or freed changes.
-- Assumes nothing.
use Prim.Native.Nat.{ℕ, zero, suc, ◌+◌, ◌-◌, ◌*◌, ◌/◌, ◌%◌, ◌^◌, ◌≤◌, ◌<◌}
use native.Mathlib.Omega.{arith}
use native.Mathlib.Nat.{pow-suc, div-eq_of_lt, lt_of_lt_of_le, mod-eq_of_lt, div-one, one-mul}
use native.Mathlib.Numerals.{one-add}
use mathlib.Core.Path.{◌≡◌, refl, sym, ap, ◌∙◌}
use mathlib.Core.Bool.{true, false}
use lib.Dec.{eqb, ltb}
use lib.Count.{ones, count_trailing_zeros, ones_step}
use lib.Pow.{pow_mono, pow-lt, shr-shr}
use borrow.Author.Tests.{eqb-true, eqb-false, eq-eqb, ne_eqb, lt-ltb, le-ltb}
use Rattle.rules.proofs.Bools.{split}
use Rattle.table.specs.Places.{first_on, lowest_free, occupied_of, occupied_at, with_place, without_place}

-- ---- the two counts

-- the trailing zeros of the complement end at the lowest free place
pub lowest-free-zeros : (n x : ℕ) → x < 2 ^ n → count_trailing_zeros n ((2 ^ n - 1) - x) ≡ lowest_free n x
unfolding lowest_free count_trailing_zeros
lowest-free-zeros zero x h = refl
lowest-free-zeros (suc n) x h =
    let p : 2 ^ suc n ≡ 2 ^ n * 2 = pow-suc 2 n in
    let l : x / 2 < 2 ^ n = omega arith in
    let half : ((2 ^ suc n - 1) - x) / 2 ≡ (2 ^ n - 1) - x / 2 = omega arith in
    let rest = lowest-free-zeros n (x / 2) l in
    split (first_on x)
    (λ o.
    let low : ((2 ^ suc n - 1) - x) % 2 ≡ 0 = omega (arith, eqb-true (x % 2) 1 o) in
    simp (o, low, half) (ap suc rest))
    (λ o.
    let low : ((2 ^ suc n - 1) - x) % 2 ≡ 1 = omega (arith, eqb-false (x % 2) 1 o) in
    simp (o, low))

-- the ones are the occupied places
pub occupied-ones : (n x : ℕ) → x < 2 ^ n → ones x ≡ occupied_of n x
unfolding occupied_of ones
occupied-ones zero zero h = refl
occupied-ones zero (suc x) h = absurd (omega arith)
occupied-ones (suc n) x h =
    let p : 2 ^ suc n ≡ 2 ^ n * 2 = pow-suc 2 n in
    let l : x / 2 < 2 ^ n = omega arith in
    let rest = occupied-ones n (x / 2) l in
    split (first_on x)
    (λ o. rw o (omega (arith, ones_step x, eqb-true (x % 2) 1 o)))
    (λ o. rw o (omega (arith, ones_step x, eqb-false (x % 2) 1 o)))

-- ---- one place

pub at_zero : (x : ℕ) → occupied_at x 0 ≡ first_on x
unfolding occupied_at
at_zero x = ap (λ (y : ℕ). eqb (y % 2) 1) (div-one x)

pub at_suc : (x i : ℕ) → occupied_at x (suc i) ≡ occupied_at (x / 2) i
unfolding occupied_at
at_suc x i = ap (λ (y : ℕ). eqb (y % 2) 1) (ap (λ (j : ℕ). x / 2 ^ j) (sym (one-add i)) ∙ sym (shr-shr x 1 i))

-- the first place, or one of the half
at_all : (x i : ℕ) → first_on x ≡ true → ((j : ℕ) → i ≡ suc j → occupied_at (x / 2) j ≡ true) → occupied_at x i ≡ true
at_all x zero o rest = at_zero x ∙ o
at_all x (suc j) o rest = at_suc x j ∙ rest j refl

-- a place that the set has no bit for
pub free-past : (n x i : ℕ) → x < 2 ^ n → n ≤ i → occupied_at x i ≡ false
unfolding occupied_at
free-past n x i h l =
    let z : x / 2 ^ i ≡ 0 = div-eq_of_lt (lt_of_lt_of_le h (pow_mono l)) in
    simp z

-- a free place's power fits
pub taken-fits : (n x i : ℕ) → x < 2 ^ n → i < n → occupied_at x i ≡ false → x + 2 ^ i < 2 ^ n
taken-fits zero x i h l f = absurd (omega arith)
taken-fits (suc n) x zero h l f =
    let p : 2 ^ suc n ≡ 2 ^ n * 2 = pow-suc 2 n in
    omega (arith, eqb-false (x % 2) 1 (sym (at_zero x) ∙ f))
taken-fits (suc n) x (suc i) h l f =
    let p : 2 ^ suc n ≡ 2 ^ n * 2 = pow-suc 2 n in
    let q : 2 ^ suc i ≡ 2 ^ i * 2 = pow-suc 2 i in
    omega (arith, taken-fits n (x / 2) i (omega arith) (omega arith) (sym (at_suc x i) ∙ f))

-- an occupied place's power is within the set
pub occupied-within : (x i : ℕ) → occupied_at x i ≡ true → 2 ^ i ≤ x
occupied-within x zero o = omega (arith, eqb-true (x % 2) 1 (sym (at_zero x) ∙ o))
occupied-within x (suc i) o =
    let q : 2 ^ suc i ≡ 2 ^ i * 2 = pow-suc 2 i in
    omega (arith, occupied-within (x / 2) i (sym (at_suc x i) ∙ o))

-- what a shift of 1 by a place gives
pub shifted_one : (n i : ℕ) → i < n → 1 * 2 ^ i % 2 ^ n ≡ 2 ^ i
shifted_one n i l = ap (λ (y : ℕ). y % 2 ^ n) (one-mul (2 ^ i)) ∙ mod-eq_of_lt (pow-lt l)

-- the two changes by their cases
pub with-past : (x i : ℕ) → 64 ≤ i → x ≡ with_place x i
unfolding with_place
with-past x i l = let w : ltb i 64 ≡ false = le-ltb i 64 l in simp w

pub with-taken : (x i : ℕ) → i < 64 → occupied_at x i ≡ true → x ≡ with_place x i
unfolding with_place
with-taken x i l o = let w : ltb i 64 ≡ true = lt-ltb i 64 l in simp (w, o)

pub with-free : (x i : ℕ) → i < 64 → occupied_at x i ≡ false → x + 2 ^ i ≡ with_place x i
unfolding with_place
with-free x i l f = let w : ltb i 64 ≡ true = lt-ltb i 64 l in simp (w, f)

pub without-taken : (x i : ℕ) → occupied_at x i ≡ true → x - 2 ^ i ≡ without_place x i
unfolding without_place
without-taken x i o = rw o

pub without-free : (x i : ℕ) → occupied_at x i ≡ false → x ≡ without_place x i
unfolding without_place
without-free x i f = rw f

-- ---- the lowest free place is free, and those below it are occupied

pub lowest-is-free : (n x : ℕ) → lowest_free n x < n → occupied_at x (lowest_free n x) ≡ false
unfolding lowest_free
lowest-is-free zero x h = absurd (omega arith)
lowest-is-free (suc n) x h =
    split (first_on x)
    (λ o.
    let k : lowest_free n (x / 2) < n = omega (arith, rw o at h) in
    rw o (at_suc x (lowest_free n (x / 2)) ∙ lowest-is-free n (x / 2) k))
    (λ o. rw o (at_zero x ∙ o))

pub below-lowest : (n x i : ℕ) → i < lowest_free n x → occupied_at x i ≡ true
unfolding lowest_free
below-lowest zero x i h = absurd (omega arith)
below-lowest (suc n) x i h =
    split (first_on x)
    (λ o. at_all x i o (λ j e. below-lowest n (x / 2) j (omega (arith, rw o at h))))
    (λ o. absurd (omega (arith, rw o at h)))

-- ---- the count is the width where every place is occupied, and there alone

pub count-le : (n x : ℕ) → occupied_of n x ≤ n
unfolding occupied_of
count-le zero x = omega arith
count-le (suc n) x =
    let l = count-le n (x / 2) in
    split (first_on x) (λ o. rw o (omega arith)) (λ o. rw o (omega arith))

pub full-occupied : (n x : ℕ) → occupied_of n x ≡ n → (i : ℕ) → i < n → occupied_at x i ≡ true
unfolding occupied_of
full-occupied zero x e i h = absurd (omega arith)
full-occupied (suc n) x e i h =
    split (first_on x)
    (λ o. at_all x i o (λ j d. full-occupied n (x / 2) (omega (arith, rw o at e)) j (omega arith)))
    (λ o. absurd (omega (arith, count-le n (x / 2), rw o at e)))

pub occupied-full : (n x : ℕ) → ((i : ℕ) → i < n → occupied_at x i ≡ true) → occupied_of n x ≡ n
unfolding occupied_of
occupied-full zero x all = refl
occupied-full (suc n) x all =
    let o : first_on x ≡ true = sym (at_zero x) ∙ all 0 (omega arith) in
    rw o (ap suc (occupied-full n (x / 2) (λ i l. sym (at_suc x i) ∙ all (suc i) (omega arith))))

-- and there alone no place is free
pub full-lowest : (n x : ℕ) → occupied_of n x ≡ n → lowest_free n x ≡ n
unfolding occupied_of lowest_free
full-lowest zero x e = refl
full-lowest (suc n) x e =
    split (first_on x)
    (λ o. rw o (ap suc (full-lowest n (x / 2) (omega (arith, rw o at e)))))
    (λ o. absurd (omega (arith, count-le n (x / 2), rw o at e)))

pub lowest-full : (n x : ℕ) → lowest_free n x ≡ n → occupied_of n x ≡ n
unfolding occupied_of lowest_free
lowest-full zero x e = refl
lowest-full (suc n) x e =
    split (first_on x)
    (λ o. rw o (ap suc (lowest-full n (x / 2) (omega (arith, rw o at e)))))
    (λ o. absurd (omega (arith, rw o at e)))

-- ---- a place taken or freed: that place alone changes

added-here : (x i : ℕ) → occupied_at x i ≡ false → occupied_at (x + 2 ^ i) i ≡ true
added-here x zero f = at_zero (x + 1) ∙ eq-eqb ((x + 1) % 2) 1 (omega (arith, eqb-false (x % 2) 1 (sym (at_zero x) ∙ f)))
added-here x (suc i) f =
    let q : 2 ^ suc i ≡ 2 ^ i * 2 = pow-suc 2 i in
    let half : (x + 2 ^ suc i) / 2 ≡ x / 2 + 2 ^ i = omega arith in
    at_suc (x + 2 ^ suc i) i ∙ ap (λ (y : ℕ). occupied_at y i) half ∙ added-here (x / 2) i (sym (at_suc x i) ∙ f)

added-elsewhere : (x i j : ℕ) → occupied_at x i ≡ false → (j ≡ i → ⊥) → occupied_at (x + 2 ^ i) j ≡ occupied_at x j
added-elsewhere x zero zero f d = absurd (d refl)
added-elsewhere x zero (suc j) f d =
    let half : (x + 1) / 2 ≡ x / 2 = omega (arith, eqb-false (x % 2) 1 (sym (at_zero x) ∙ f)) in
    at_suc (x + 1) j ∙ ap (λ (y : ℕ). occupied_at y j) half ∙ sym (at_suc x j)
added-elsewhere x (suc i) zero f d =
    let q : 2 ^ suc i ≡ 2 ^ i * 2 = pow-suc 2 i in
    let low : (x + 2 ^ suc i) % 2 ≡ x % 2 = omega arith in
    at_zero (x + 2 ^ suc i) ∙ ap (λ (y : ℕ). eqb y 1) low ∙ sym (at_zero x)
added-elsewhere x (suc i) (suc j) f d =
    let q : 2 ^ suc i ≡ 2 ^ i * 2 = pow-suc 2 i in
    let half : (x + 2 ^ suc i) / 2 ≡ x / 2 + 2 ^ i = omega arith in
    at_suc (x + 2 ^ suc i) j ∙ ap (λ (y : ℕ). occupied_at y j) half
    ∙ added-elsewhere (x / 2) i j (sym (at_suc x i) ∙ f) (λ e. d (ap suc e)) ∙ sym (at_suc x j)

removed-here : (x i : ℕ) → occupied_at x i ≡ true → occupied_at (x - 2 ^ i) i ≡ false
removed-here x zero o = at_zero (x - 1) ∙ ne_eqb ((x - 1) % 2) 1 (λ e. omega (arith, eqb-true (x % 2) 1 (sym (at_zero x) ∙ o)))
removed-here x (suc i) o =
    let q : 2 ^ suc i ≡ 2 ^ i * 2 = pow-suc 2 i in
    let half : (x - 2 ^ suc i) / 2 ≡ x / 2 - 2 ^ i = omega arith in
    at_suc (x - 2 ^ suc i) i ∙ ap (λ (y : ℕ). occupied_at y i) half ∙ removed-here (x / 2) i (sym (at_suc x i) ∙ o)

removed-elsewhere : (x i j : ℕ) → occupied_at x i ≡ true → (j ≡ i → ⊥) → occupied_at (x - 2 ^ i) j ≡ occupied_at x j
removed-elsewhere x i j o d =
    let back : (x - 2 ^ i) + 2 ^ i ≡ x = omega (arith, occupied-within x i o) in
    sym (added-elsewhere (x - 2 ^ i) i j (removed-here x i o) d) ∙ ap (λ (y : ℕ). occupied_at y j) back

pub with-here : (x i : ℕ) → i < 64 → occupied_at (with_place x i) i ≡ true
unfolding with_place
with-here x i l =
    let w : ltb i 64 ≡ true = lt-ltb i 64 l in
    split (occupied_at x i) (λ o. simp (w, o)) (λ f. simp (w, f) (added-here x i f))

pub with-elsewhere : (x i j : ℕ) → (j ≡ i → ⊥) → occupied_at (with_place x i) j ≡ occupied_at x j
unfolding with_place
with-elsewhere x i j d =
    split (ltb i 64)
    (λ w. split (occupied_at x i) (λ o. simp (w, o)) (λ f. simp (w, f) (added-elsewhere x i j f d)))
    (λ w. simp w)

pub without-here : (x i : ℕ) → occupied_at (without_place x i) i ≡ false
unfolding without_place
without-here x i = split (occupied_at x i) (λ o. simp o (removed-here x i o)) (λ f. simp f)

pub without-elsewhere : (x i j : ℕ) → (j ≡ i → ⊥) → occupied_at (without_place x i) j ≡ occupied_at x j
unfolding without_place
without-elsewhere x i j d = split (occupied_at x i) (λ o. simp o (removed-elsewhere x i j o d)) (λ f. simp f)

-- the lowest free place taken
pub with-lowest : (x : ℕ) → lowest_free 64 x < 64 → with_place x (lowest_free 64 x) ≡ x + 2 ^ lowest_free 64 x
with-lowest x l = sym (with-free x (lowest_free 64 x) l (lowest-is-free 64 x l))
