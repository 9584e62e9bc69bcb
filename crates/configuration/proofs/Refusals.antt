-- Each refusal is given exactly where its words hold and those of the refusals before it do not.
-- Assumes nothing.
use mathlib.Core.Path.{◌≡◌, refl, sym, ap, ◌∙◌}
use mathlib.Core.Bool.{Bool, true, false, cond, not, ◌&&◌, ◌||◌}
use mathlib.Core.List.{List, [], ◌∷◌, Memᴰ}
use mathlib.Core.Logic.{◌⊎◌, inl, inr, ⊎_elim, ◌↔◌}
use Prim.Native.Nat.{ℕ, zero, suc, ◌+◌, ◌≤◌, ◌<◌}
use native.Mathlib.Omega.{arith}
use lib.ListN.{length}
use lib.Dec.{ltb, leb, eqb, eqb-suc-zero}
use borrow.Author.Tests.{ltb-true, leb-false, eqb-true, eqb-false, lt-ltb, lt-leb, eq-eqb, ne_eqb, not-true}
use Rattle.octets.specs.Numbers.{number_at}
use Rattle.octets.specs.Choice.{need, bar, Answer, accepted, refused, answer, number}
use Rattle.octets.proofs.Chain.{and_both, answer-accepted, answer-refused}
use Rattle.rules.specs.Lists.{any, only}
use Rattle.rules.proofs.Bools.{no_way, split, both_true, or_cases, or_left, or_right, refuted, forced, true-false}
use Rattle.rules.proofs.Lists.{any_at, any-who}
use Rattle.rules.proofs.Failing.{one-fails, nought, nought-fails, and-false}
use Rattle.configuration.specs.Entries.{Entry, named, is_functions, is_configuration, is_discriminator, is_timers, is_authentication, is_holder, entries_in}
use Rattle.configuration.specs.declared.Offer.{Offer}
use Rattle.configuration.specs.Reading.{clashes, wrong_length, count, once_each, number_in, offer_of, offer_fits, refusal_of, read_configuration}
use Rattle.configuration.specs.Refused.{Some, Clash, Past, WrongLength, functions_short, configuration_short, discriminator_not_four, timers_not_twelve, authentication_not_four, Needed, MissingOrTwice, missing, twice, UnfitOffer, no_discriminator, period_below, period_above}
use Rattle.configuration.specs.Refused as words

-- a test that holds exactly where the words do
abbrev Says : Bool → Type 0 → Type 0
Says test Words = (test ≡ true → Words) × (Words → test ≡ true)

says-not : {test : Bool} {Words : Type 0} → Says test Words → (test ≡ false) ↔ (Words → ⊥)
says-not {test} s = ((λ e w. true-false (s.1 w) e), (λ n. refuted test (λ t. n (s.0 t))))

clash-says : (a : ℕ) → Says (clashes a) (Clash a)
clash-says a = (to, from)
  where
    to : clashes a ≡ true → Clash a
    to e = ⊎_elim (λ p. words.discriminators (eqb-true a 1 p)) (λ p. words.timers (eqb-true a 2 p)) (or_cases (eqb a 1) (eqb a 2) e)

    from : Clash a → clashes a ≡ true
    from (words.discriminators e) = or_left (eqb a 2) (eq-eqb a 1 e)
    from (words.timers e) = or_right (eqb a 1) (eq-eqb a 2 e)

-- some entry passes a test
some-says : (test : Entry → Bool) (P : Entry → Type 0) → ((e : Entry) → Says (test e) (P e)) → (es : List Entry) → Says (any test es) (Some P es)
some-says test P s es = (
  (λ e. let m = any-who test es e in (m.0, m.1, (s m.0).0 m.2)),
  (λ m. any_at test m.1 ((s m.0).1 m.2)),
)

named-parts : (l k : ℕ) (e : Entry) → named l k e ≡ true → (e.levels ≡ l) × (e.kind ≡ k)
named-parts l k e h = let b = and_both (eqb e.levels l) (eqb e.kind k) h in (eqb-true e.levels l b.0, eqb-true e.kind k b.1)

named-true : (l k : ℕ) (e : Entry) → e.levels ≡ l → e.kind ≡ k → named l k e ≡ true
named-true l k e p q = both_true (eq-eqb e.levels l p) (eq-eqb e.kind k q)

module _ (a : ℕ) (e : Entry) where
  wrong-told : wrong_length a e ≡ true → WrongLength a e
  unfolding wrong_length
  wrong-told h =
      ⊎_elim
      (λ p. let b = and_both (is_holder e) (ltb e.size 4) p in
      ⊎_elim
      (λ q. let n = named-parts 3 16 e q in functions_short n.0 n.1 (ltb-true e.size 4 b.1))
      (λ q. let n = named-parts 2 1 e q in configuration_short n.0 n.1 (ltb-true e.size 4 b.1))
      (or_cases (is_functions e) (is_configuration e) b.0))
      (λ p. ⊎_elim
      (λ q. let b = and_both (is_discriminator e) _ q in let n = named-parts 1 1 e b.0 in discriminator_not_four n.0 n.1 (eqb-false e.size 4 (not-true _ b.1)))
      (λ q. ⊎_elim
      (λ r. let b = and_both (is_timers e) _ r in let n = named-parts 1 2 e b.0 in timers_not_twelve n.0 n.1 (eqb-false e.size 12 (not-true _ b.1)))
      (λ r. let b = and_both (is_authentication a e) _ r in let n = named-parts 1 a e b.0 in authentication_not_four n.0 n.1 (eqb-false e.size 4 (not-true _ b.1)))
      (or_cases (is_timers e && not (eqb e.size 12)) _ q))
      (or_cases (is_discriminator e && not (eqb e.size 4)) _ p))
      (or_cases (is_holder e && ltb e.size 4) _ h)

  wrong-untold : WrongLength a e → wrong_length a e ≡ true
  unfolding wrong_length
  wrong-untold (functions_short p q h) = or_left _ (both_true (or_left (is_configuration e) (named-true 3 16 e p q)) (lt-ltb e.size 4 h))
  wrong-untold (configuration_short p q h) = or_left _ (both_true (or_right (is_functions e) (named-true 2 1 e p q)) (lt-ltb e.size 4 h))
  wrong-untold (discriminator_not_four p q h) = or_right (is_holder e && ltb e.size 4) (or_left _ (both_true (named-true 1 1 e p q) (ap not (ne_eqb e.size 4 h))))
  wrong-untold (timers_not_twelve p q h) =
      or_right (is_holder e && ltb e.size 4)
      (or_right (is_discriminator e && not (eqb e.size 4)) (or_left _ (both_true (named-true 1 2 e p q) (ap not (ne_eqb e.size 12 h)))))
  wrong-untold (authentication_not_four p q h) =
      or_right (is_holder e && ltb e.size 4)
      (or_right (is_discriminator e && not (eqb e.size 4))
      (or_right (is_timers e && not (eqb e.size 12)) (both_true (named-true 1 a e p q) (ap not (ne_eqb e.size 4 h)))))

module _ (es : List Entry) where
  not-one : {test : Entry → Bool} → Needed test → eqb (count test es) 1 ≡ false → MissingOrTwice es
  not-one {test} n e =
      split (eqb (count test es) 0)
      (λ z. missing test n (eqb-true (count test es) 0 z))
      (λ z. let p = eqb-false (count test es) 0 z in let q = eqb-false (count test es) 1 e in twice test n (two (count test es) p q))
    where
      two : (c : ℕ) → (c ≡ 0 → ⊥) → (c ≡ 1 → ⊥) → 2 ≤ c
      two zero p q = absurd (p refl)
      two (suc zero) p q = absurd (q refl)
      two (suc (suc c)) p q = omega arith

  lacking-told : once_each es ≡ false → MissingOrTwice es
  lacking-told =
      one-fails
      (one-fails (not-one words.functions) (not-one words.configuration))
      (one-fails (not-one words.discriminator) (not-one words.timers))

  one-not : (test : Entry → Bool) → Needed test → eqb (count test es) 1 ≡ false → once_each es ≡ false
  one-not test words.functions e = rw e
  one-not test words.configuration e = simp (e, and-false)
  one-not test words.discriminator e = simp (e, and-false)
  one-not test words.timers e = simp (e, and-false)

  lacking-untold : MissingOrTwice es → once_each es ≡ false
  lacking-untold (missing test n e) = one-not test n (ne_eqb (count test es) 1 (λ z. omega arith))
  lacking-untold (twice test n h) = one-not test n (ne_eqb (count test es) 1 (λ z. omega arith))

module _ (d p : ℕ) where
  unfit-told : offer_fits d p ≡ false → UnfitOffer d p
  unfit-told = one-fails (λ e. no_discriminator (nought d e)) (one-fails (λ e. period_below (leb-false 1000 p e)) (λ e. period_above (leb-false p 10000000 e)))

  unfit-untold : UnfitOffer d p → offer_fits d p ≡ false
  unfit-untold (no_discriminator h) = rw (nought-fails d h)
  unfit-untold (period_below h) = simp (lt-leb 1000 p h, and-false)
  unfit-untold (period_above h) = simp (lt-leb p 10000000 h, and-false)

  pub unfit-exactly : (offer_fits d p ≡ false) ↔ UnfitOffer d p
  unfit-exactly = (unfit-told, unfit-untold)

-- five tests in the order of the refusals
abbrev chain : Bool → Bool → Bool → Bool → Bool → ℕ
chain c p w o f = bar c 10 (bar p 16 (bar w 17 (need o 18 (need f 10 0))))

by-16 : (c p w o f : Bool) → (chain c p w o f ≡ 16) ↔ ((c ≡ false) × (p ≡ true))
by-16 c p w o f = (to c p w o f, λ h. rw (h.0, h.1))
  where
    to : (c p w o f : Bool) → chain c p w o f ≡ 16 → (c ≡ false) × (p ≡ true)
    to false true w o f e = (refl, refl)
    to true p w o f e = absurd (omega arith)
    to false false true o f e = absurd (omega arith)
    to false false false true true e = absurd (omega arith)
    to false false false true false e = absurd (omega arith)
    to false false false false f e = absurd (omega arith)

by-17 : (c p w o f : Bool) → (chain c p w o f ≡ 17) ↔ ((c ≡ false) × (p ≡ false) × (w ≡ true))
by-17 c p w o f = (to c p w o f, λ h. rw (h.0, h.1, h.2))
  where
    to : (c p w o f : Bool) → chain c p w o f ≡ 17 → (c ≡ false) × (p ≡ false) × (w ≡ true)
    to false false true o f e = (refl, refl, refl)
    to true p w o f e = absurd (omega arith)
    to false true w o f e = absurd (omega arith)
    to false false false true true e = absurd (omega arith)
    to false false false true false e = absurd (omega arith)
    to false false false false f e = absurd (omega arith)

by-18 : (c p w o f : Bool) → (chain c p w o f ≡ 18) ↔ ((c ≡ false) × (p ≡ false) × (w ≡ false) × (o ≡ false))
by-18 c p w o f = (to c p w o f, λ h. rw (h.0, h.1, h.2, h.3))
  where
    to : (c p w o f : Bool) → chain c p w o f ≡ 18 → (c ≡ false) × (p ≡ false) × (w ≡ false) × (o ≡ false)
    to false false false false f e = (refl, refl, refl, refl)
    to true p w o f e = absurd (omega arith)
    to false true w o f e = absurd (omega arith)
    to false false true o f e = absurd (omega arith)
    to false false false true true e = absurd (omega arith)
    to false false false true false e = absurd (omega arith)

by-10 : (c p w o f : Bool) → (chain c p w o f ≡ 10) ↔ ((c ≡ true) ⊎ ((c ≡ false) × (p ≡ false) × (w ≡ false) × (o ≡ true) × (f ≡ false)))
by-10 c p w o f = (to c p w o f, from)
  where
    to : (c p w o f : Bool) → chain c p w o f ≡ 10 → (c ≡ true) ⊎ ((c ≡ false) × (p ≡ false) × (w ≡ false) × (o ≡ true) × (f ≡ false))
    to true p w o f e = inl refl
    to false false false true false e = inr (refl, refl, refl, refl, refl)
    to false true w o f e = absurd (omega arith)
    to false false true o f e = absurd (omega arith)
    to false false false true true e = absurd (omega arith)
    to false false false false f e = absurd (omega arith)

    from : (c ≡ true) ⊎ ((c ≡ false) × (p ≡ false) × (w ≡ false) × (o ≡ true) × (f ≡ false)) → chain c p w o f ≡ 10
    from (inl e) = rw e
    from (inr h) = rw (h.0, h.1, h.2, h.3, h.4)

by-0 : (c p w o f : Bool) → (chain c p w o f ≡ 0) ↔ ((c ≡ false) × (p ≡ false) × (w ≡ false) × (o ≡ true) × (f ≡ true))
by-0 c p w o f = (to c p w o f, λ h. rw (h.0, h.1, h.2, h.3, h.4))
  where
    to : (c p w o f : Bool) → chain c p w o f ≡ 0 → (c ≡ false) × (p ≡ false) × (w ≡ false) × (o ≡ true) × (f ≡ true)
    to false false false true true e = (refl, refl, refl, refl, refl)
    to true p w o f e = absurd (omega arith)
    to false true w o f e = absurd (omega arith)
    to false false true o f e = absurd (omega arith)
    to false false false true false e = absurd (omega arith)
    to false false false false f e = absurd (omega arith)

past-says : (e : Entry) → Says e.past (Past e)
past-says e = ((λ h. h), (λ h. h))

module _ (a : ℕ) (xs : List ℕ) where
  abbrev es : List Entry
  es = entries_in 3 xs

  abbrev overrun : Bool
  overrun = any (λ e. e.past) es

  abbrev unallowed : Bool
  unallowed = any (wrong_length a) es

  abbrev fitting : Bool
  fitting = offer_fits (offer_of es).discriminator (offer_of es).period

  no-clash : (clashes a ≡ false) ↔ (Clash a → ⊥)
  no-clash = says-not (clash-says a)

  some-past : Says overrun (Some Past es)
  some-past = some-says (λ e. e.past) Past past-says es

  some-wrong : Says unallowed (Some (WrongLength a) es)
  some-wrong = some-says (wrong_length a) (WrongLength a) (λ e. (wrong-told a e, wrong-untold a e)) es

  once-told : (once_each es ≡ true) ↔ (MissingOrTwice es → ⊥)
  once-told = ((λ e m. true-false e (lacking-untold es m)), (λ n. forced (once_each es) (λ e. n (lacking-told es e))))

  fits_told : (fitting ≡ true) ↔ (UnfitOffer (offer_of es).discriminator (offer_of es).period → ⊥)
  fits_told = ((λ e u. true-false e (unfit-untold _ _ u)), (λ n. forced _ (λ e. n (unfit-told _ _ e))))

  refusal-by : (n : ℕ) → read_configuration a xs ≡ refused n → refusal_of a es ≡ n
  unfolding read_configuration
  refusal-by n e = (answer-refused (refusal_of a es) n (offer_of es) (sym e)).0

  by-refusal : (n : ℕ) → refusal_of a es ≡ suc n → read_configuration a xs ≡ refused (suc n)
  unfolding read_configuration
  by-refusal n e = rw (e, eqb-suc-zero n)

  -- 10 before all, whatever the octets are
  pub reading-10-setting : Clash a → read_configuration a xs ≡ refused 10
  unfolding refusal_of
  reading-10-setting c = by-refusal 9 (rw ((clash-says a).1 c))

  pub reading-16 : (read_configuration a xs ≡ refused 16) ↔ ((Clash a → ⊥) × Some Past es)
  unfolding refusal_of
  reading-16 = (
    (λ e. let b = (by-16 (clashes a) overrun unallowed (once_each es) fitting).0 (refusal-by 16 e) in (no-clash.0 b.0, some-past.0 b.1)),
    (λ w. by-refusal 15 ((by-16 (clashes a) overrun unallowed (once_each es) fitting).1 (no-clash.1 w.0, some-past.1 w.1))),
  )

  pub reading-17 : (read_configuration a xs ≡ refused 17) ↔ ((Clash a → ⊥) × (Some Past es → ⊥) × Some (WrongLength a) es)
  unfolding refusal_of
  reading-17 = (
    (λ e. let b = (by-17 (clashes a) overrun unallowed (once_each es) fitting).0 (refusal-by 17 e) in (no-clash.0 b.0, (says-not some-past).0 b.1, some-wrong.0 b.2)),
    (λ w. by-refusal 16 ((by-17 (clashes a) overrun unallowed (once_each es) fitting).1 (no-clash.1 w.0, (says-not some-past).1 w.1, some-wrong.1 w.2))),
  )

  pub reading-18 : (read_configuration a xs ≡ refused 18) ↔ ((Clash a → ⊥) × (Some Past es → ⊥) × (Some (WrongLength a) es → ⊥) × MissingOrTwice es)
  unfolding refusal_of
  reading-18 = (
    (λ e. let b = (by-18 (clashes a) overrun unallowed (once_each es) fitting).0 (refusal-by 18 e) in (no-clash.0 b.0, (says-not some-past).0 b.1, (says-not some-wrong).0 b.2, lacking-told es b.3)),
    (λ w. by-refusal 17 ((by-18 (clashes a) overrun unallowed (once_each es) fitting).1 (no-clash.1 w.0, (says-not some-past).1 w.1, (says-not some-wrong).1 w.2, lacking-untold es w.3))),
  )

  -- 10 for the setting, or behind all others for the two numbers
  pub reading-10 : (read_configuration a xs ≡ refused 10)
      ↔ (Clash a
      ⊎ ((Clash a → ⊥) × (Some Past es → ⊥) × (Some (WrongLength a) es → ⊥) × (MissingOrTwice es → ⊥) × UnfitOffer (offer_of es).discriminator (offer_of es).period))
  unfolding refusal_of
  reading-10 = (
    (λ e.
        ⊎_elim (λ c. inl ((clash-says a).0 c))
        (λ b. inr (no-clash.0 b.0, (says-not some-past).0 b.1, (says-not some-wrong).0 b.2, once-told.0 b.3, unfit-told _ _ b.4))
        ((by-10 (clashes a) overrun unallowed (once_each es) fitting).0 (refusal-by 10 e))),
    (λ w.
        by-refusal 9
        ((by-10 (clashes a) overrun unallowed (once_each es) fitting).1
        (⊎_elim (λ c. inl ((clash-says a).1 c))
        (λ v. inr (no-clash.1 v.0, (says-not some-past).1 v.1, (says-not some-wrong).1 v.2, once-told.1 v.3, unfit-untold _ _ v.4))
        w))),
  )

  -- accepted exactly where none of these words holds, with the two numbers of the entries
  pub reading-0 : (o : Offer) → (read_configuration a xs ≡ accepted o)
      ↔ ((Clash a → ⊥) × (Some Past es → ⊥) × (Some (WrongLength a) es → ⊥) × (MissingOrTwice es → ⊥)
      × (UnfitOffer (offer_of es).discriminator (offer_of es).period → ⊥) × (o ≡ offer_of es))
  unfolding refusal_of read_configuration
  reading-0 o = (
    (λ e. let x = answer-accepted (refusal_of a es) o (offer_of es) (sym e) in
        let b = (by-0 (clashes a) overrun unallowed (once_each es) fitting).0 x.0 in
        (no-clash.0 b.0, (says-not some-past).0 b.1, (says-not some-wrong).0 b.2, once-told.0 b.3, fits_told.0 b.4, x.1)),
    (λ w.
        let z : refusal_of a es ≡ 0 = (by-0 (clashes a) overrun unallowed (once_each es) fitting).1 (no-clash.1 w.0, (says-not some-past).1 w.1, (says-not some-wrong).1 w.2, once-told.1 w.3, fits_told.1 w.4) in
        rw (z, w.5)),
  )

-- the number that is offered is that of the one entry
module _ (test : Entry → Bool) where
  none_number : (v : ℕ) (es : List Entry) → count test es ≡ 0 → number_in test v es ≡ v
  unfolding number_in only
  none_number v [] h = refl
  none_number v (e ∷ es) h = split (test e) (λ t. absurd (omega (arith, rw t at h))) (λ t. rw t (none_number v es (rw t at h)))

  none-at : (e : Entry) (es : List Entry) → count test es ≡ 0 → Memᴰ e es → test e ≡ true → ⊥
  unfolding only
  none-at e [] h m t = elim m [ ]
  none-at e (f ∷ es) h (Memᴰ.head q) t = let u : test f ≡ true = ap test (sym q) ∙ t in omega (arith, rw u at h)
  none-at e (f ∷ es) h (Memᴰ.tail m) t = split (test f) (λ u. omega (arith, rw u at h)) (λ u. none-at e es (rw u at h) m t)

  pub number-of-one : (v : ℕ) (e : Entry) (es : List Entry) → count test es ≡ 1 → Memᴰ e es → test e ≡ true → number_in test v es ≡ number_at 4 e.value 0
  unfolding number_in only
  number-of-one v e [] h m t = elim m [ ]
  number-of-one v e (f ∷ es) h (Memᴰ.head q) t =
      let u : test f ≡ true = ap test (sym q) ∙ t in
      let z : count test es ≡ 0 = omega (arith, rw u at h) in
      rw u (none_number (number_at 4 f.value 0) es z) ∙ ap (λ (g : Entry). number_at 4 g.value 0) (sym q)
  number-of-one v e (f ∷ es) h (Memᴰ.tail m) t =
      split (test f)
      (λ u. absurd (none-at e es (omega (arith, rw u at h)) m t))
      (λ u. rw u (number-of-one v e es (rw u at h) m t))
