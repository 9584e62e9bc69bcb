-- A number in decimal: what is written reads back, and any digits are read for what they are worth.
-- Assumes nothing.
use Prim.Native.Nat.{ℕ, zero, suc, ◌+◌, ◌-◌, ◌*◌, ◌/◌, ◌%◌, ◌^◌, ◌≤◌, ◌<◌}
use native.Mathlib.Omega.{arith}
use native.Mathlib.Nat.{pow-succ', mul_assoc, add-mul}
use mathlib.Core.Path.{◌≡◌, refl, ap, ◌∙◌}
use mathlib.Core.Bool.{true, false, cond}
use mathlib.Core.Option.{none, some}
use mathlib.Core.List.{List, [], ◌∷◌, ◌++◌}
use lib.Dec.{ltb, eqb}
use lib.ListN.{length, drop, length-append}
use borrow.Author.Tests.{ltb-true, lt-ltb, eqb-true, eq-eqb}
use Rattle.rules.proofs.Bools.{split, no_way, both_true}
use Rattle.capture.specs.Lines.{digits, decimal}
use Rattle.inquiry.specs.Questions.{is_digit, number_from, number_in, all_digits, worth, begins}

numbered : (s : List ℕ) → 1 ≤ length s → number_in s ≡ number_from 0 s
unfolding number_in
numbered [] h = absurd (omega arith)
numbered (d ∷ ds) h = refl

-- ---- digits are read for what they are worth
regroup : (n x p w : ℕ) → (n * 10 + x) * p + w ≡ n * (10 * p) + (x * p + w)
regroup n x p w = omega (arith, add-mul (n * 10) x p, mul_assoc n 10 p)

pub worth-read : (n : ℕ) (ds : List ℕ) → all_digits ds ≡ true → number_from n ds ≡ some (n * 10 ^ length ds + worth ds)
unfolding number_from all_digits worth
worth-read n [] h = ap some (omega arith)
worth-read n (d ∷ ds) h =
    split (is_digit d)
    (λ e.
    let power : 10 ^ suc (length ds) ≡ 10 * 10 ^ length ds = pow-succ' 10 (length ds) in
    let rest : all_digits ds ≡ true = rw e at h in
    rw e (worth-read (n * 10 + (d - 48)) ds rest ∙ ap some (regroup n (d - 48) (10 ^ length ds) (worth ds) ∙ rw power)))
    (λ e. let z : all_digits (d ∷ ds) ≡ false = rw e in no_way h z)

pub digits-worth : (ds : List ℕ) → 1 ≤ length ds → all_digits ds ≡ true → number_in ds ≡ some (worth ds)
digits-worth ds l h = numbered ds l ∙ worth-read 0 ds h ∙ ap some (omega arith)

-- ---- what is written reads back
last-read : (m : ℕ) (xs : List ℕ) (y v : ℕ) → number_from m xs ≡ some v → is_digit y ≡ true → number_from m (xs ++ y ∷ []) ≡ some (v * 10 + (y - 48))
unfolding number_from
last-read m [] y v e d = let same : m ≡ v = cc in rw (d, same)
last-read m (x ∷ xs) y v e d =
    split (is_digit x)
    (λ t. rw t (last-read (m * 10 + (x - 48)) xs y v (rw t at e) d))
    (λ t. let z : none ≡ some v = rw t at e in cc)

is_digit_lem : (n : ℕ) → is_digit (48 + n % 10) ≡ true
is_digit_lem n = both_true (lt-ltb 47 (48 + n % 10) (omega arith)) (lt-ltb (48 + n % 10) 58 (omega arith))

digits-back : (k n : ℕ) → n < 10 ^ suc k → number_from 0 (digits (suc k) n) ≡ some n
unfolding digits number_from
digits-back zero n h =
    let small : n < 10 = h in
    rw (lt-ltb n 10 small, is_digit_lem n) (ap some (omega arith))
digits-back (suc k) n h =
    split (ltb n 10)
    (λ e. let small : n < 10 = ltb-true n 10 e in rw (e, is_digit_lem n) (ap some (omega arith)))
    (λ e.
    let power : 10 ^ suc (suc k) ≡ 10 * 10 ^ suc k = pow-succ' 10 (suc k) in
    let front = digits-back k (n / 10) (omega arith) in
    rw e (last-read 0 (digits (suc k) (n / 10)) (48 + n % 10) (n / 10) front (is_digit_lem n) ∙ ap some (omega arith)))

some-digit : (k n : ℕ) → 1 ≤ length (digits (suc k) n)
unfolding digits
some-digit k n = rw (length-append (cond (ltb n 10) [] (digits k (n / 10))) ((48 + n % 10) ∷ [])) (omega arith)

pub decimal-back : (n : ℕ) → n < 10 ^ 20 → number_in (decimal n) ≡ some n
decimal-back n h = numbered (decimal n) (some-digit 19 n) ∙ digits-back 19 n h

-- ---- a word begins with octets exactly if it is those and something behind them
pub begins-front : (f w : List ℕ) → begins f (f ++ w) ≡ true
unfolding begins
begins-front [] w = refl
begins-front (x ∷ xs) w = both_true (eq-eqb x x refl) (begins-front xs w)

pub front-begins : (f w : List ℕ) → begins f w ≡ true → w ≡ f ++ drop (length f) w
unfolding begins
front-begins [] w h = refl
front-begins (x ∷ xs) [] h = no_way h refl
front-begins (x ∷ xs) (b ∷ bs) h =
    split (eqb b x)
    (λ e. let same : b ≡ x = eqb-true b x e in rw same (ap (x ∷◌) (front-begins xs bs (rw e at h))))
    (λ e. let z : begins (x ∷ xs) (b ∷ bs) ≡ false = rw e in no_way h z)
