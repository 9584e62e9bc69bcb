-- The five numbers of errors: they combine in any cut, and the number of pairs and the sum of sizes alone decide whether all fit.
-- Assumes nothing.
use mathlib.Core.Path.{◌≡◌, refl, sym, ap, ◌∙◌}
use mathlib.Core.Bool.{Bool, true, false, cond, ◌&&◌}
use mathlib.Core.List.{List, [], ◌∷◌, ◌++◌}
use Prim.Native.Nat.{ℕ, suc, ◌+◌, ◌≤◌}
use native.Mathlib.Omega.{arith}
use lib.Dec.{ltb, eqb}
use borrow.Author.Tests.{lt-ltb, le-ltb, ltb-true, ltb-false, ne_eqb, eqb-true, eqb-false}
use lib.IntN.{ℤ, pos, negsuc, nat_abs, sub_ℕ, ◌+ℤ◌, +ℤ_assoc, +ℤ_idl, +ℤ_idr}
use lib.Signed.{lt_z, mag}
use Rattle.account.specs.declared.Account.{Account}
use Rattle.account.specs.Figures.{Exact, none, one, lesser, greater, chosen, joined, exact, fits, fit, given, refused, finished}
use Rattle.account.specs.Accounts.{kept, spent, account_of, combined, added, finished_of}
use Rattle.account.proofs.Integers.{split}
use Rattle.account.proofs.Kept.{cond_yes, cond_no}
use Rattle.account.proofs.Made.{fit-sizes, fit-three, mag-size}

no : {A : Type 0} → ◌≡◌ {A = Bool} true false → A
no e = absurd (let z : ◌≡◌ {A = ℕ} 0 1 = cc in omega arith)

-- the order of the integers, by its test
below : (a b c : ℤ) → lt_z a b ≡ true → lt_z b c ≡ true → lt_z a c ≡ true
below (pos a) (pos b) (pos c) p q = lt-ltb a c (omega (arith, ltb-true a b p, ltb-true b c q))
below (pos a) (pos b) (negsuc c) p q = no (sym q)
below (pos a) (negsuc b) c p q = no (sym p)
below (negsuc a) (pos b) (pos c) p q = refl
below (negsuc a) (pos b) (negsuc c) p q = no (sym q)
below (negsuc a) (negsuc b) (pos c) p q = refl
below (negsuc a) (negsuc b) (negsuc c) p q = lt-ltb c a (omega (arith, ltb-true b a p, ltb-true c b q))

not-below : (a b c : ℤ) → lt_z a b ≡ false → lt_z b c ≡ false → lt_z a c ≡ false
not-below (pos a) (pos b) (pos c) p q = le-ltb a c (omega (arith, ltb-false a b p, ltb-false b c q))
not-below (pos a) b (negsuc c) p q = refl
not-below (pos a) (negsuc b) (pos c) p q = no q
not-below (negsuc a) (pos b) c p q = no p
not-below (negsuc a) (negsuc b) (pos c) p q = no q
not-below (negsuc a) (negsuc b) (negsuc c) p q = le-ltb c a (omega (arith, ltb-false b a p, ltb-false c b q))

lesser-assoc : (a b c : ℤ) → lesser (lesser a b) c ≡ lesser a (lesser b c)
lesser-assoc a b c =
    split (lt_z a b)
    (λ p. split (lt_z b c) (λ q. rw (p, q, p, below a b c p q)) (λ q. rw (p, q)))
    (λ p. split (lt_z b c) (λ q. rw (p, q, p)) (λ q. rw (p, q, not-below a b c p q)))

greater-assoc : (a b c : ℤ) → greater (greater a b) c ≡ greater a (greater b c)
greater-assoc a b c =
    split (lt_z a b)
    (λ p. split (lt_z b c) (λ q. rw (p, q, below a b c p q)) (λ q. rw (p, q, p)))
    (λ p. split (lt_z b c) (λ q. rw (p, q)) (λ q. rw (p, q, p, not-below a b c p q)))

-- the least or the greatest of three sides
module _ (f : ℤ → ℤ → ℤ) (assoc : (a b c : ℤ) → f (f a b) c ≡ f a (f b c)) where
  three-sides : (m n k : ℕ) (p q r : ℤ) → chosen f (m + n) (chosen f m p n q) k r ≡ chosen f m p (n + k) (chosen f n q k r)
  three-sides m n k p q r =
      split (eqb m 0)
      (λ a. let z : m + n ≡ n = omega (arith, eqb-true m 0 a) in let s : eqb (m + n) 0 ≡ eqb n 0 = ap (λ (j : ℕ). eqb j 0) z in rw (s, a))
      (λ a. let s = ne_eqb (m + n) 0 (λ y. eqb-false m 0 a (omega arith)) in
      split (eqb n 0)
      (λ b. let z : n + k ≡ k = omega (arith, eqb-true n 0 b) in let t : eqb (n + k) 0 ≡ eqb k 0 = ap (λ (j : ℕ). eqb j 0) z in rw (s, a, b, t))
      (λ b. let t = ne_eqb (n + k) 0 (λ y. eqb-false n 0 b (omega arith)) in
      split (eqb k 0) (λ c. rw (s, a, b, t, c)) (λ c. rw (s, a, b, t, c, assoc p q r))))

same : {x y : Exact} → x.pairs ≡ y.pairs → x.least ≡ y.least → x.greatest ≡ y.greatest → x.sum ≡ y.sum → x.sizes ≡ y.sizes → x ≡ y
same a b c d e i = record { pairs = a i; least = b i; greatest = c i; sum = d i; sizes = e i }

pub joined-assoc : (x y z : Exact) → joined (joined x y) z ≡ joined x (joined y z)
unfolding joined
joined-assoc x y z =
    same (omega arith) (three-sides lesser lesser-assoc x.pairs y.pairs z.pairs x.least y.least z.least)
    (three-sides greater greater-assoc x.pairs y.pairs z.pairs x.greatest y.greatest z.greatest)
    (+ℤ_assoc x.sum y.sum z.sum) (omega arith)

none_left : (y : Exact) → joined none y ≡ y
unfolding joined
none_left y = same (omega arith) refl refl (+ℤ_idl y.sum) (omega arith)

-- a list cut in two
pub parts : (ds es : List ℤ) → exact (ds ++ es) ≡ joined (exact ds) (exact es)
unfolding exact
parts [] es = sym (none_left (exact es))
parts (d ∷ ds) es = ap (joined (one d)) (parts ds es) ∙ sym (joined-assoc (one d) (exact ds) (exact es))

pub exact_one : (e : ℤ) → exact (e ∷ []) ≡ one e
unfolding exact joined
exact_one e = same refl refl refl (+ℤ_idr e) (omega arith)

-- no number is larger than the sum of sizes
pub record Bounded (x : Exact) : Type 0 where
  pub least : nat_abs x.least ≤ x.sizes
  pub greatest : nat_abs x.greatest ≤ x.sizes
  pub sum : nat_abs x.sum ≤ x.sizes

sub-size : (a b : ℕ) → nat_abs (sub_ℕ a b) ≤ a + b
sub-size a b = split (ltb a b) (λ e. rw e (omega (arith, ltb-true a b e))) (λ e. rw e (omega arith))

sum-size : (a b : ℤ) → nat_abs (a +ℤ b) ≤ nat_abs a + nat_abs b
sum-size (pos m) (pos n) = omega arith
sum-size (pos m) (negsuc n) = sub-size m (suc n)
sum-size (negsuc m) (pos n) = omega (arith, sub-size n (suc m))
sum-size (negsuc m) (negsuc n) = omega arith

picked-size : (b : Bool) (p q : ℤ) (s : ℕ) → nat_abs p ≤ s → nat_abs q ≤ s → nat_abs (cond b p q) ≤ s
picked-size true p q s h k = h
picked-size false p q s h k = k

bounded-none : Bounded none
bounded-none = record { least = omega arith; greatest = omega arith; sum = omega arith }

pub bounded-one : (e : ℤ) → Bounded (one e)
bounded-one e = record { least = omega arith; greatest = omega arith; sum = omega arith }

pub bounded-joined : (x y : Exact) → Bounded x → Bounded y → Bounded (joined x y)
unfolding joined
bounded-joined x y b c =
    let s = x.sizes + y.sizes in
    let xl : nat_abs x.least ≤ s = omega (arith, b.least) in
    let yl : nat_abs y.least ≤ s = omega (arith, c.least) in
    let xg : nat_abs x.greatest ≤ s = omega (arith, b.greatest) in
    let yg : nat_abs y.greatest ≤ s = omega (arith, c.greatest) in
    record {
      least = picked-size (eqb x.pairs 0) y.least _ s yl (picked-size (eqb y.pairs 0) x.least _ s xl (picked-size (lt_z x.least y.least) x.least y.least s xl yl));
      greatest =
          picked-size (eqb x.pairs 0) y.greatest _ s yg
          (picked-size (eqb y.pairs 0) x.greatest _ s xg (picked-size (lt_z x.greatest y.greatest) y.greatest x.greatest s yg xg));
      sum = omega (arith, sum-size x.sum y.sum, b.sum, c.sum);
    }

pub bounded-exact : (es : List ℤ) → Bounded (exact es)
unfolding exact
bounded-exact [] = bounded-none
bounded-exact (e ∷ es) = bounded-joined (one e) (exact es) (bounded-one e) (bounded-exact es)

within : (z : ℤ) (s : ℕ) → nat_abs z ≤ s → fits (pos s) ≡ true → fits z ≡ true
within z s h e = lt-ltb (mag z) 9223372036854775808 (omega (arith, mag-size z, ltb-true s 9223372036854775808 e))

three-two : (p s z : Bool) → (z ≡ true → s ≡ true) → p && (s && z) ≡ p && z
three-two false s z f = refl
three-two true true z f = refl
three-two true false false f = refl
three-two true false true f = no (sym (f refl))

-- All five numbers fit exactly if the number of pairs and the sum of sizes do.
pub decided : (x : Exact) → Bounded x → fit x ≡ (fits (pos x.pairs) && fits (pos x.sizes))
decided x b =
    split (fits (pos x.sizes))
    (λ e. fit-three x (within x.least x.sizes b.least e) (within x.greatest x.sizes b.greatest e)
    ∙ three-two (fits (pos x.pairs)) (fits x.sum) (fits (pos x.sizes)) (λ z. within x.sum x.sizes b.sum z))
    (λ e. fit-sizes x e ∙ sym (and-false (fits (pos x.pairs)) (fits (pos x.sizes)) e))
  where
    and-false : (p z : Bool) → z ≡ false → p && z ≡ false
    and-false false z e = refl
    and-false true z e = e

pub sizes-decide : (es : List ℤ) → fit (exact es) ≡ (fits (pos (exact es).pairs) && fits (pos (exact es).sizes))
sizes-decide es = decided (exact es) (bounded-exact es)

-- An account of exact numbers, and what is done with it
module _ (x : Exact) where
  pub account-fits : fit x ≡ true → account_of x ≡ kept x
  unfolding account_of
  account-fits e = cond_yes (kept x) spent e

  pub account-over : fit x ≡ false → account_of x ≡ spent
  unfolding account_of
  account-over e = cond_no (kept x) spent e

  pub finished-account : finished_of (account_of x) ≡ finished x
  unfolding finished_of finished
  finished-account =
      split (fit x) (λ e. ap finished_of (account-fits e)) (λ e. ap finished_of (account-over e) ∙ sym (cond_no (given x) refused e))

-- what does not fit on one side does not fit on both
either-false : (p z : Bool) → p && z ≡ false → (p' z' : Bool) → (p ≡ false → p' ≡ false) → (z ≡ false → z' ≡ false) → p' && z' ≡ false
either-false p z e false z' f g = refl
either-false false z e true z' f g = no (f refl)
either-false true z e true z' f g = g e

grown : (m n : ℕ) → m ≤ n → fits (pos m) ≡ false → fits (pos n) ≡ false
grown m n h e = le-ltb n 9223372036854775808 (omega (arith, ltb-false m 9223372036854775808 e))

module _ (x y : Exact) (b : Bounded x) (d : Bounded y) where
  both : fit (joined x y) ≡ (fits (pos (joined x y).pairs) && fits (pos (joined x y).sizes))
  both = decided (joined x y) (bounded-joined x y b d)

  first-over : fit x ≡ false → fit (joined x y) ≡ false
  unfolding joined
  first-over e =
      both ∙ either-false (fits (pos x.pairs)) (fits (pos x.sizes)) (sym (decided x b) ∙ e) _ _
      (grown x.pairs (x.pairs + y.pairs) (omega arith)) (grown x.sizes (x.sizes + y.sizes) (omega arith))

  second-over : fit y ≡ false → fit (joined x y) ≡ false
  unfolding joined
  second-over e =
      both ∙ either-false (fits (pos y.pairs)) (fits (pos y.sizes)) (sym (decided y d) ∙ e) _ _
      (grown y.pairs (x.pairs + y.pairs) (omega arith)) (grown y.sizes (x.sizes + y.sizes) (omega arith))

  -- two accounts of exact numbers combine to that of both
  pub combined-accounts : combined (account_of x) (account_of y) ≡ account_of (joined x y)
  unfolding combined
  combined-accounts =
      split (fit x)
      (λ e. split (fit y)
      (λ f. (λ i. combined (account-fits x e i) (account-fits y f i)))
      (λ f. (λ i. combined (account-fits x e i) (account-over y f i)) ∙ sym (account-over (joined x y) (second-over f))))
      (λ e. ap (λ (a : Account). combined a (account_of y)) (account-over x e) ∙ sym (account-over (joined x y) (first-over e)))

pub added-account : (x : Exact) (e : ℤ) → Bounded x → added (account_of x) e ≡ account_of (joined x (one e))
unfolding added
added-account x e b =
    split (fit x) (λ f. ap (λ (a : Account). added a e) (account-fits x f))
    (λ f. ap (λ (a : Account). added a e) (account-over x f) ∙ sym (account-over (joined x (one e)) (first-over x (one e) b (bounded-one e) f)))

-- one error more
pub one_more : (es : List ℤ) (e : ℤ) → added (account_of (exact es)) e ≡ account_of (exact (es ++ e ∷ []))
one_more es e =
    added-account (exact es) e (bounded-exact es) ∙ ap account_of (sym (parts es (e ∷ []) ∙ ap (joined (exact es)) (exact_one e)))

-- a list cut in two: the accounts of its parts combine to its own
pub parts-account : (ds es : List ℤ) → combined (account_of (exact ds)) (account_of (exact es)) ≡ account_of (exact (ds ++ es))
parts-account ds es = combined-accounts (exact ds) (exact es) (bounded-exact ds) (bounded-exact es) ∙ ap account_of (sym (parts ds es))

-- before any error
pub account-none : account_of (exact []) ≡ kept none
unfolding exact account_of fit
account-none = refl
