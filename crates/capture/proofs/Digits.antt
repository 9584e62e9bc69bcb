-- The digits of a number: how many there are, by comparisons with powers of ten, and that stores from the last one back leave them.
-- Assumes nothing.
use Prim.Native.Nat.{ℕ, zero, suc, ◌+◌, ◌-◌, ◌*◌, ◌/◌, ◌%◌, ◌^◌, ◌≤◌, ◌<◌}
use native.Mathlib.Omega.{arith}
use native.Mathlib.Nat.{zero-add, add-zero, suc-add, div-one, div-div-eq-div-mul, div-lt_iff_lt-mul, mod-eq_of_lt, pow-succ', one-le-pow}
use native.Mathlib.Numerals.{add-one}
use mathlib.Core.Path.{◌≡◌, refl, sym, ap, ◌∙◌}
use mathlib.Core.Bool.{cond}
use mathlib.Core.List.{List, [], ◌∷◌, ◌++◌}
use lib.Dec.{ltb}
use lib.ListN.{length, set, take, drop, length-append}
use lib.Seq.{sets, sets-eq, set_comm, take_at}
use borrow.Author.Tests.{lt-ltb, le-ltb, ltb-true, ltb-false}
use Rattle.rules.proofs.Bools.{split}
use Rattle.capture.specs.Lines.{digits, decimal}
use Rattle.capture.specs.Typing.{Put, pushed, typed}
use Rattle.capture.proofs.Typing.{room}

-- a number below 10 is one digit
pub one-digit : (k n : ℕ) → n < 10 → digits (suc k) n ≡ (48 + n % 10) ∷ []
unfolding digits
one-digit k n h = rw (lt-ltb n 10 h)

-- of any other the last digit stands behind those of the rest
last-digit : (k n : ℕ) → 10 ≤ n → digits (suc k) n ≡ digits k (n / 10) ++ (48 + n % 10) ∷ []
unfolding digits
last-digit k n h = rw (le-ltb n 10 h)

-- ---- how many
pub digits-short : (k n : ℕ) → length (digits k n) ≤ k
unfolding digits
digits-short zero n = omega arith
digits-short (suc k) n =
    rw (length-append (cond (ltb n 10) [] (digits k (n / 10))) ((48 + n % 10) ∷ []))
    (split (ltb n 10) (λ e. rw e (omega arith)) (λ e. rw e (omega (arith, digits-short k (n / 10)))))

last-count : (k n : ℕ) → 10 ≤ n → length (digits (suc k) n) ≡ suc (length (digits k (n / 10)))
last-count k n h = ap length (last-digit k n h) ∙ length-append (digits k (n / 10)) ((48 + n % 10) ∷ []) ∙ omega arith

-- a number from 10 ^ k on has k digits more than its quotient
pub quotient-count : (k j n : ℕ) → 10 ^ k ≤ n → length (digits (k + j) n) ≡ k + length (digits j (n / 10 ^ k))
quotient-count zero j n h = rw (zero-add j, div-one n, zero-add)
quotient-count (suc k) j n h =
    let power : 10 ^ suc k ≡ 10 * 10 ^ k = pow-succ' 10 k in
    let some : 1 ≤ 10 ^ k = one-le-pow k 10 (omega arith) in
    let front : length (digits (k + j) (n / 10)) ≡ k + length (digits j (n / 10 / 10 ^ k)) = quotient-count k j (n / 10) (omega arith) in
    rw (suc-add k j, last-count (k + j) n (omega arith), front, div-div-eq-div-mul n 10 (10 ^ k), power, suc-add)

-- from 10 ^ k on and below ten times that there are k and one
pub power_count : (k j n : ℕ) → 10 ^ k ≤ n → n < 10 * 10 ^ k → length (digits (k + suc j) n) ≡ suc k
power_count k j n h l =
    let few : n / 10 ^ k < 10 = (div-lt_iff_lt-mul (one-le-pow k 10 (omega arith))).1 l in
    quotient-count k (suc j) n h ∙ rw (one-digit j (n / 10 ^ k) few) (add-one k)

first_count : (n : ℕ) → length (digits 1 n) ≡ 1
unfolding digits
first_count n = split (ltb n 10) (λ e. rw e) (λ e. rw e)

-- from 10 ^ k on the last k and one are there
pub full-count : (k n : ℕ) → 10 ^ k ≤ n → length (digits (suc k) n) ≡ suc k
full-count k n h =
    ap (λ (j : ℕ). length (digits j n)) (sym (add-one k)) ∙ quotient-count k 1 n h ∙ rw (first_count (n / 10 ^ k)) (add-one k)

-- digits that are not there are not counted
pub digits-enough : (k j n : ℕ) → n < 10 ^ suc k → digits (suc k + j) n ≡ digits (suc k) n
digits-enough zero j n h = rw (suc-add zero j, one-digit (zero + j) n h, one-digit zero n h)
digits-enough (suc k) j n h =
    let power : 10 ^ suc (suc k) ≡ 10 * 10 ^ suc k = pow-succ' 10 (suc k) in
    rw (suc-add (suc k) j)
    (split (ltb n 10)
    (λ e. rw (one-digit (suc k + j) n (ltb-true n 10 e), one-digit (suc k) n (ltb-true n 10 e)))
    (λ e.
    let ten : 10 ≤ n = ltb-false n 10 e in
    rw (last-digit (suc k + j) n ten, last-digit (suc k) n ten, digits-enough k j (n / 10) (omega arith))))

-- one digit put
pub digit-typed : (n : ℕ) (p : Put) {r : Put} → n < 10 → r ≡ pushed p (48 + n) → r ≡ typed p (decimal n)
unfolding typed
digit-typed n p h e = rw (one-digit 19 n h, mod-eq_of_lt h) e

-- ---- from the last one back
-- so many of the last digits, the last one stored first
unfoldable pub filled : ℕ → ℕ → ℕ → List ℕ → List ℕ
filled zero at n out = out
filled (suc k) at n out = filled k at (n / 10) (set out (at + k) (48 + n % 10))

-- one turn
pub filled_more : (left at n : ℕ) (out : List ℕ) → 0 < left
    → filled (left - 1) at (n / 10) (set out (at + (left - 1)) (48 + n % 10)) ≡ filled left at n out
unfolding filled
filled_more zero at n out h = absurd (omega arith)
filled_more (suc k) at n out h = let same : suc k - 1 ≡ k = omega arith in rw same

pub filled_none : (left at n : ℕ) (out : List ℕ) → left ≤ 0 → filled left at n out ≡ out
unfolding filled
filled_none zero at n out h = refl
filled_none (suc k) at n out h = absurd (omega arith)

-- what is stored behind a run before it is what is stored behind it after
set_before : (xs out : List ℕ) (at x : ℕ) → sets (set out (at + length xs) x) at xs ≡ sets out at (xs ++ x ∷ [])
set_before [] out at x = rw (add-zero at)
set_before (y ∷ ys) out at x =
    let behind : at + suc (length ys) ≡ suc at + length ys = omega arith in
    rw (set_comm out (at + suc (length ys)) at x y (λ e. omega arith), behind) (set_before ys (set out at y) (suc at) x)

filled-digits : (k n at : ℕ) (out : List ℕ) → filled (length (digits k n)) at n out ≡ sets out at (digits k n)
unfolding filled digits
filled-digits zero n at out = refl
filled-digits (suc k) n at out =
    split (ltb n 10)
    (λ e. rw (e, add-zero at))
    (λ e.
    let ds = digits k (n / 10) in
    let x = 48 + n % 10 in
    let count : length (ds ++ x ∷ []) ≡ suc (length ds) = length-append ds (x ∷ []) ∙ add-one (length ds) in
    rw (e, count) (filled-digits k (n / 10) at (set out (at + length ds) x) ∙ set_before ds out at x))

module _ (n at count : ℕ) (out : List ℕ) (e : count ≡ length (decimal n)) (h : at + count ≤ length out) where
  pub filled-typed : {now : List ℕ} → now ≡ filled count at n out
      → record { buffer = now; at = at + count } ≡ typed (record { buffer = out; at = at }) (decimal n)
  filled-typed f =
      let fits : at + length (decimal n) ≤ length out = omega (arith, e) in
      rw (f, e, filled-digits 20 n at out) (sym (room (decimal n) out at fits))

-- a text at a buffer's front
pub front-typed : (z text : List ℕ) {now : List ℕ} {end : ℕ} → length text ≤ length z
    → record { buffer = now; at = end } ≡ typed (record { buffer = z; at = 0 }) text → (end ≡ length text) × (take end now ≡ text)
front-typed z text {now} {end} h e =
    let p : Put = record { buffer = now; at = end } in
    let put : p ≡ record { buffer = sets z 0 text; at = 0 + length text } = e ∙ room text z 0 (omega arith) in (
      ap (λ (q : Put). q.at) put ∙ zero-add (length text),
      ap (λ (q : Put). take q.at q.buffer) put
          ∙ rw (sets-eq text z 0 (omega arith), zero-add (length text)) (take_at text (drop (length text) z) (length text) refl),
    )

-- one digit, and digits from the last one back
pub ruleset one = (digit-typed)

pub ruleset back = (filled_more, filled_none, filled-typed)
