-- What was noted of entries says what their definition asks of them: marks are `any`, counts are counts up to many, and the two numbers are the entries' own.
-- Assumes nothing.
use mathlib.Core.Path.{◌≡◌, refl, sym, ap, ◌∙◌}
use mathlib.Core.Bool.{Bool, true, false, cond, ◌&&◌, ◌||◌}
use mathlib.Core.List.{List, [], ◌∷◌}
use Prim.Native.Nat.{ℕ, zero, suc, ◌+◌, min}
use native.Mathlib.Omega.{arith}
use lib.ListN.{length}
use lib.Dec.{ltb, eqb}
use borrow.Author.Tests.{ltb-true, ltb-false, eqb-true, eq-eqb}
use Rattle.octets.specs.Numbers.{number_at}
use Rattle.octets.specs.Choice.{need, bar, answer}
use Rattle.rules.specs.Lists.{any, only}
use Rattle.rules.proofs.Bools.{split, same_test}
use Rattle.configuration.specs.declared.Seen.{Seen}
use Rattle.configuration.specs.Entries.{Entry, is_functions, is_configuration, is_discriminator, is_timers, entries_in}
use Rattle.configuration.specs.declared.Offer.{Offer}
use Rattle.configuration.specs.Reading.{clashes, wrong_length, count, once_each, number_in, offer_of, offer_fits, refusal_of, read_configuration}
use Rattle.configuration.specs.Noting.{tally, noted, noted_all, start, seen_refusal}

or_assoc : (x y z : Bool) → (x || y) || z ≡ x || (y || z)
or_assoc true y z = refl
or_assoc false y z = refl

-- a count that stops at many
unfoldable tallies : (Entry → Bool) → ℕ → List Entry → ℕ
tallies test n [] = n
tallies test n (e ∷ es) = tallies test (tally (test e) n) es

module _ (test : Entry → Bool) where
  one_more : (n c : ℕ) → min 2 (tally true n + c) ≡ min 2 (n + suc c)
  one_more n c = split (ltb n 2) (λ h. rw h (omega arith)) (λ h. rw h (omega (arith, ltb-false n 2 h)))

  capped : (n : ℕ) (es : List Entry) → min 2 (tallies test n es) ≡ min 2 (n + count test es)
  unfolding tallies only
  capped n [] = omega arith
  capped n (e ∷ es) =
      split (test e)
      (λ h. rw h (capped (tally true n) es ∙ one_more n (count test es)))
      (λ h. rw h (capped n es))

  -- met once is counted once
  tallied-once : (es : List Entry) → eqb (tallies test 0 es) 1 ≡ eqb (count test es) 1
  tallied-once es =
      let c = capped 0 es in
      same_test _ _
      (λ h. let e = eqb-true (tallies test 0 es) 1 h in eq-eqb (count test es) 1 (omega arith))
      (λ h. let e = eqb-true (count test es) 1 h in eq-eqb (tallies test 0 es) 1 (omega arith))

module _ (a : ℕ) where
  functions-are : (s : Seen) (es : List Entry) → (noted_all a s es).functions ≡ tallies is_functions s.functions es
  unfolding noted_all noted tallies
  functions-are s [] = refl
  functions-are s (e ∷ es) = functions-are (noted a s e) es

  configurations-are : (s : Seen) (es : List Entry) → (noted_all a s es).configurations ≡ tallies is_configuration s.configurations es
  unfolding noted_all noted tallies
  configurations-are s [] = refl
  configurations-are s (e ∷ es) = configurations-are (noted a s e) es

  discriminators-are : (s : Seen) (es : List Entry) → (noted_all a s es).discriminators ≡ tallies is_discriminator s.discriminators es
  unfolding noted_all noted tallies
  discriminators-are s [] = refl
  discriminators-are s (e ∷ es) = discriminators-are (noted a s e) es

  timers-are : (s : Seen) (es : List Entry) → (noted_all a s es).timers ≡ tallies is_timers s.timers es
  unfolding noted_all noted tallies
  timers-are s [] = refl
  timers-are s (e ∷ es) = timers-are (noted a s e) es

  pub discriminator-is : (s : Seen) (es : List Entry) → (noted_all a s es).discriminator ≡ number_in is_discriminator s.discriminator es
  unfolding noted_all noted number_in
  discriminator-is s [] = refl
  discriminator-is s (e ∷ es) = discriminator-is (noted a s e) es

  pub period-is : (s : Seen) (es : List Entry) → (noted_all a s es).period ≡ number_in is_timers s.period es
  unfolding noted_all noted number_in
  period-is s [] = refl
  period-is s (e ∷ es) = period-is (noted a s e) es

  or-none : (b : Bool) → b || false ≡ b
  or-none true = refl
  or-none false = refl

  past_is : (s : Seen) (es : List Entry) → (noted_all a s es).past ≡ s.past || any (λ e. e.past) es
  unfolding noted_all noted any
  past_is s [] = sym (or-none s.past)
  past_is s (e ∷ es) = past_is (noted a s e) es ∙ or_assoc s.past e.past (any (λ f. f.past) es)

  wrong-is : (s : Seen) (es : List Entry) → (noted_all a s es).wrong ≡ s.wrong || any (wrong_length a) es
  unfolding noted_all noted any
  wrong-is s [] = sym (or-none s.wrong)
  wrong-is s (e ∷ es) = wrong-is (noted a s e) es ∙ or_assoc s.wrong (wrong_length a e) (any (wrong_length a) es)

  -- the refusal from what was noted is the refusal of the entries
  pub refusal_is : (es : List Entry) → seen_refusal a (noted_all a start es) ≡ refusal_of a es
  unfolding seen_refusal refusal_of
  refusal_is es =
      rw (
        past_is start es,
        wrong-is start es,
        functions-are start es,
        configurations-are start es,
        discriminators-are start es,
        timers-are start es,
        discriminator-is start es,
        period-is start es,
        tallied-once is_functions es,
        tallied-once is_configuration es,
        tallied-once is_discriminator es,
        tallied-once is_timers es,
      )

  -- and the answer from what was noted is that of the octets
  pub answer-is : (xs : List ℕ) (s : Seen) → s ≡ noted_all a start (entries_in 3 xs)
      → answer (seen_refusal a s) (record { discriminator = s.discriminator; period = s.period }) ≡ read_configuration a xs
  unfolding read_configuration
  answer-is xs s e = rw (e, refusal_is (entries_in 3 xs), discriminator-is start (entries_in 3 xs), period-is start (entries_in 3 xs))
