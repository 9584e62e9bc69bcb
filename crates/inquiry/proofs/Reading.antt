-- Octets read one by one: a number in decimal, the first slash, the front of a word.
-- Assumes nothing.
use Prim.Native.Nat.{ℕ, zero, suc, ◌+◌, ◌-◌, ◌*◌, ◌≤◌, ◌<◌}
use native.Mathlib.Omega.{arith}
use native.Mathlib.Numerals.{add-one}
use mathlib.Core.Path.{◌≡◌, refl, sym, ap, ◌∙◌}
use mathlib.Core.Bool.{Bool, true, false, cond, ◌&&◌, and-false}
use mathlib.Core.Option.{Option, none, some}
use mathlib.Core.List.{List, [], ◌∷◌}
use lib.Dec.{ltb, eqb}
use lib.ListN.{length, take, drop, get_or}
use lib.Seq.{drop-cons}
use borrow.Author.Tests.{ltb-true, ltb-false, lt-ltb, le-ltb, eqb-true, eq-eqb, ne_eqb}
use Rattle.rules.proofs.Bools.{split, no_way}
use Rattle.std.specs.Prelude.{Option as Held, Some, None, unwrap_or}
use Rattle.std.specs.Cmp.Lexicographic.{pointwise}
use Rattle.std.specs.List.{position_or_len}
use Rattle.inquiry.specs.declared.question.Question.{Question}
use Rattle.inquiry.specs.Questions.{Number, is_digit, number_from, number_in, no_number, within, up_to, numeral, slash_at, begins, is_word, word_if, word_global, word_upto, no_such, label_taken, thing_taken, interface_taken, global_taken, upto_taken, option_taken, word_taken}

-- ---- a number
pub digit-range : (d : ℕ) → is_digit d ≡ true → (48 ≤ d) × (d < 58)
digit-range d e =
    split (ltb 47 d)
    (λ t. (omega (arith, ltb-true 47 d t), ltb-true d 58 (rw t at e)))
    (λ t. let z : is_digit d ≡ false = rw t in no_way e z)

-- past the greatest it only grows
pub too_large : (most n : ℕ) (ds : List ℕ) → most < n → up_to most (number_from n ds) ≡ no_number
unfolding number_from
too_large most n [] h = rw (lt-ltb most n h)
too_large most n (d ∷ ds) h = split (is_digit d) (λ e. rw e (too_large most (n * 10 + (d - 48)) ds (omega arith))) (λ e. rw e)

pub some-octets : (most : ℕ) (s : List ℕ) → (length s ≡ 0 → ⊥) → numeral most s ≡ up_to most (number_from 0 s)
unfolding numeral number_in
some-octets most [] h = absurd (h refl)
some-octets most (d ∷ ds) h = refl

pub no-octets : (most : ℕ) (s : List ℕ) → length s ≡ 0 → numeral most s ≡ no_number
unfolding numeral number_in
no-octets most [] h = refl
no-octets most (d ∷ ds) h = absurd (omega arith)

module _ (n i : ℕ) (s : List ℕ) (h : i < length s) where
  -- a digit at a place, and what is no digit
  pub digit-read : is_digit (get_or s i 0) ≡ true → number_from n (drop i s) ≡ number_from (n * 10 + (get_or s i 0 - 48)) (drop (i + 1) s)
  unfolding number_from
  digit-read e = rw (add-one i, drop-cons s i 0 h, e)

  pub none_read : is_digit (get_or s i 0) ≡ false → number_from n (drop i s) ≡ none
  unfolding number_from
  none_read e = rw (drop-cons s i 0 h, e)

drop_all_lem : (i : ℕ) (s : List ℕ) → length s ≤ i → drop i s ≡ []
drop_all_lem zero [] h = refl
drop_all_lem zero (x ∷ xs) h = absurd (omega arith)
drop_all_lem (suc i) [] h = refl
drop_all_lem (suc i) (x ∷ xs) h = drop_all_lem i xs (omega arith)

pub all_read : (most n i : ℕ) (s : List ℕ) → n ≤ most → length s ≤ i → up_to most (number_from n (drop i s)) ≡ record { value = n; good = true }
unfolding number_from
all_read most n i s h l = rw (drop_all_lem i s l, le-ltb most n h)

pub none-over : (most n : ℕ) → no_number ≡ within most n → most < n
none-over most n e =
    split (ltb most n) (λ t. ltb-true most n t) (λ t. let z : (within most n).good ≡ true = rw t in no_way z (sym (ap (λ (x : Number). x.good) e)))

pub some-fits : (most n v : ℕ) → record { value = v; good = true } ≡ within most n → (n ≤ most) × (v ≡ n)
some-fits most n v e =
    split (ltb most n)
    (λ t. let z : (within most n).good ≡ false = rw t in no_way (sym (ap (λ (x : Number). x.good) e)) z)
    (λ t. let z : (within most n).value ≡ n = rw t in (ltb-false most n t, ap (λ (x : Number). x.value) e ∙ z))

-- it is never past the greatest
up-to-most : (most : ℕ) (o : Option ℕ) → (up_to most o).value ≤ most
up-to-most most none = omega arith
up-to-most most (some n) = split (ltb most n) (λ t. rw t (omega arith)) (λ t. rw t (ltb-false most n t))

pub numeral-most : (most : ℕ) (s : List ℕ) → (numeral most s).value ≤ most
unfolding numeral
numeral-most most s = up-to-most most (number_in s)

-- a number that was found is as small as was asked
pub found-most : (most : ℕ) (s : List ℕ) (n : ℕ) → record { value = n; good = true } ≡ numeral most s → n ≤ most
found-most most s n e = omega (arith, ap (λ (x : Number). x.value) e, numeral-most most s)

-- ---- words
-- the first slash, as the library looks for it
slash_is : (s : List ℕ) → position_or_len (λ b. eqb b 47) s ≡ slash_at s
unfolding slash_at
slash_is [] = refl
slash_is (b ∷ bs) = split (eqb b 47) (λ e. rw e) (λ e. rw e (omega (arith, slash_is bs)))

slash-within : (s : List ℕ) → slash_at s ≤ length s
unfolding slash_at
slash-within [] = omega arith
slash-within (b ∷ bs) = split (eqb b 47) (λ e. rw e (omega arith)) (λ e. rw e (omega (arith, slash-within bs)))

pub slash_found : (s : List ℕ) (r : Held ℕ) → r ≡ cond (ltb (position_or_len (λ b. eqb b 47) s) (length s)) (Some (position_or_len (λ b. eqb b 47) s)) None
    → unwrap_or r (length s) ≡ slash_at s
slash_found s r e =
    split (ltb (position_or_len (λ b. eqb b 47) s) (length s))
    (λ t. rw (e, t) (slash_is s))
    (λ t. rw (e, t) (omega (arith, ltb-false (position_or_len (λ b. eqb b 47) s) (length s) t, slash_is s, slash-within s)))

-- the front of a word
pub front_is : (f w : List ℕ) → pointwise eqb (take (length f) w) f ≡ begins f w
unfolding begins
front_is [] w = refl
front_is (x ∷ xs) [] = refl
front_is (x ∷ xs) (b ∷ bs) = ap (λ (r : Bool). eqb b x && r) (front_is xs bs)

eqb-suc : (a b : ℕ) → eqb (suc a) (suc b) ≡ eqb a b
eqb-suc a b =
    split (eqb a b)
    (λ e. rw e (eq-eqb (suc a) (suc b) (ap (λ (n : ℕ). suc n) (eqb-true a b e))))
    (λ e. rw e (ne_eqb (suc a) (suc b) (λ s. no_way (eq-eqb a b (omega arith)) e)))

-- all of it
pub word_is : (word w : List ℕ) → pointwise eqb w word ≡ is_word word w
unfolding begins
word_is [] [] = refl
word_is (x ∷ xs) [] = sym (and-false (eqb 0 (length (x ∷ xs))))
word_is [] (b ∷ bs) = rw (ne_eqb (length (b ∷ bs)) 0 (λ e. absurd (omega arith)))
word_is (x ∷ xs) (b ∷ bs) =
    rw (eqb-suc (length bs) (length xs))
    (split (eqb b x) (λ e. rw e (word_is xs bs)) (λ e. rw e (sym (and-false (eqb (length bs) (length xs))))))

-- ---- the word that is taken
yes : {A : Type 0} (b : Bool) (x y : A) → b ≡ true → cond b x y ≡ x
yes b x y e = rw e

no : {A : Type 0} (b : Bool) (x y : A) → b ≡ false → cond b x y ≡ y
no b x y e = rw e

-- ---- the word that is taken, by what was asked so far
module _ (q : Question) (w : List ℕ) (g : q.good ≡ true) where
  abbrev behind-label : Question
  behind-label = cond (eqb q.kind 0) (thing_taken q w) (option_taken q w)

  abbrev behind-good : Question
  behind-good = cond q.labelled behind-label (label_taken q w)

  pub word_label : q.labelled ≡ false → label_taken q w ≡ word_taken q w
  unfolding word_taken
  word_label l = sym (yes q.good behind-good q g ∙ no q.labelled behind-label (label_taken q w) l)

  module _ (l : q.labelled ≡ true) where
    behind : word_taken q w ≡ behind-label
    unfolding word_taken
    behind = yes q.good behind-good q g ∙ yes q.labelled behind-label (label_taken q w) l

    pub word_thing : q.kind ≡ 0 → thing_taken q w ≡ word_taken q w
    word_thing k = sym (behind ∙ yes (eqb q.kind 0) (thing_taken q w) (option_taken q w) (eq-eqb q.kind 0 k))

    pub word_option : (q.kind ≡ 0 → ⊥) → option_taken q w ≡ word_taken q w
    word_option k = sym (behind ∙ no (eqb q.kind 0) (thing_taken q w) (option_taken q w) (ne_eqb q.kind 0 k))

pub ruleset taken = (word_label, word_thing, word_option)

-- words that are no question stay so, with all that they said
pub word_kept : (q : Question) (w : List ℕ) → q.good ≡ false → q ≡ word_taken q w
unfolding word_taken
word_kept q w g = sym (no q.good _ q g)

-- ---- the words behind the first two, by the front that is taken away
module _ (q : Question) (w : List ℕ) where
  begins-as : (f : List ℕ) {b : Bool} → pointwise eqb (take (length f) w) f ≡ b → begins f w ≡ b
  begins-as f e = sym (front_is f w) ∙ e

  pub option-interface : {s : List ℕ} → pointwise eqb (take 3 w) word_if ≡ true → s ≡ drop 3 w → interface_taken q s ≡ option_taken q w
  unfolding option_taken
  option-interface a d = rw (d, begins-as word_if a)

  module _ (a : pointwise eqb (take 3 w) word_if ≡ false) where
    pub option-global : {s : List ℕ} → pointwise eqb (take 7 w) word_global ≡ true → s ≡ drop 7 w → global_taken q s ≡ option_taken q w
    unfolding option_taken
    option-global b d = rw (d, begins-as word_if a, begins-as word_global b)

    module _ (b : pointwise eqb (take 7 w) word_global ≡ false) where
      pub option-upto : {s : List ℕ} → pointwise eqb (take 5 w) word_upto ≡ true → s ≡ drop 5 w → upto_taken q s ≡ option_taken q w
      unfolding option_taken
      option-upto e d = rw (d, begins-as word_if a, begins-as word_global b, begins-as word_upto e)

      pub option-none : pointwise eqb (take 5 w) word_upto ≡ false → no_such ≡ option_taken q w
      unfolding option_taken
      option-none e = rw (begins-as word_if a, begins-as word_global b, begins-as word_upto e)
