-- Of a session's conditions the choice by readings is the choice by record numbers, as far as reading and end go: of two records the later has no smaller reading.
-- Assumes nothing.
use Prim.Native.Nat.{ℕ, suc, ◌≤◌, ◌<◌}
use native.Mathlib.Omega.{arith}
use mathlib.Core.Path.{◌≡◌, refl, sym, ap, ◌∙◌, subst}
use mathlib.Core.Bool.{Bool, true, false, cond, ◌&&◌}
use mathlib.Core.Option.{some}
use mathlib.Core.Logic.{⊎_elim}
use mathlib.Core.List.{List}
use lib.Dec.{ltb, eqb}
use borrow.Author.Tests.{ltb-true, ltb-false, eqb-true, eq-eqb}
use Rattle.octets.proofs.Chain.{and_both}
use Rattle.fault.specs.declared.Fault.{Fault}
use Rattle.message.specs.Message.{message_of}
use Rattle.rules.specs.declared.Key.{Key}
use Rattle.rules.specs.Times.{crossing_time, detection_time}
use Rattle.rules.specs.Received.{received_as}
use Rattle.rules.proofs.Bools.{split, no_way, or_cases}
use Rattle.rules.proofs.Failing.{both-fail, one-fails}
use Rattle.conditions.specs.declared.Condition.{Condition}
use Rattle.conditions.specs.declared.Conditions.{Conditions}
use Rattle.conditions.specs.Standing.{filled, place_stands}
use Rattle.session.specs.declared.Session.{Session}
use Rattle.session.specs.Queries.{loss_at, crossing_at}
use Rattle.meaning.specs.Stories.{Story, settings_of}
use Rattle.meaning.specs.Histories.{History, story}
use Rattle.meaning.specs.Accounts.{ReceivedSince}
use Rattle.meaning.specs.Worlds.{Right}
use Rattle.cause.specs.declared.Marks.{Marks}
use Rattle.cause.specs.declared.Thing.{Thing}
use Rattle.cause.specs.declared.Thing.TheVariants.{Crossing, Loss, Condition as OfKey, HeldBack}
use Rattle.cause.specs.declared.answer.Candidate.{Candidate}
use Rattle.cause.specs.Marks.{Mark, if_of_key, last_of_key}
use Rattle.cause.specs.FromMarks.{later_by, candidate, ends_before, later_of, best_of, because, because_of, stands_as, cause_from}
use Rattle.cause.proofs.Lasts.{Known, known}
use Rattle.cause.proofs.Sorts.{Was, received_as_lem, message-kind}
use Rattle.cause.proofs.Readings.{messages-in-turn}
use Rattle.cause.proofs.Traced.{PlacedIf, FourPlaced, Traced}
use Rattle.live.specs.Live.{without_number, live_marks}

-- a test of two candidates, as numbers have it
before-true : (c d : Candidate) → ends_before c d ≡ true → (P : Type 0) → (c.end < d.end → P) → (c.end ≡ d.end → c.number < d.number → P) → P
before-true c d e P f g =
    ⊎_elim (λ z. f (ltb-true c.end d.end z))
    (λ z. let w = and_both (eqb c.end d.end) (ltb c.number d.number) z in g (eqb-true c.end d.end w.0) (ltb-true c.number d.number w.1))
    (or_cases _ _ e)

before-false : (c d : Candidate) → ends_before c d ≡ false → (d.end ≤ c.end) × (c.end ≡ d.end → d.number ≤ c.number)
before-false c d =
    both-fail {a = ltb c.end d.end} {b = eqb c.end d.end && ltb c.number d.number}
    (λ e f. (
      ltb-false c.end d.end e,
      λ same. one-fails {a = eqb c.end d.end} {b = ltb c.number d.number} (λ z. no_way (eq-eqb c.end d.end same) z) (λ z. ltb-false c.number d.number z) f,
    ))

-- `Dates n a`: the record of number n has the reading a; a later one has no smaller reading
module _ (Dates : ℕ → ℕ → Type 0) (in-turn : (n m a b : ℕ) → Dates n a → Dates m b → n ≤ m → a ≤ b) where
  -- one by its record number and one by its reading, which say the same
  pub record Agree (c d : Candidate) : Type 0 where
    pub at : c.place.at ≡ d.place.at
    pub end : c.end ≡ d.end
    pub by-reading : d.number ≡ d.place.at
    pub dated : Dates c.number c.place.at

  pub record Same (c d : Candidate) : Type 0 where
    pub standing : c.stands ≡ d.stands
    pub agree : d.stands ≡ true → Agree c d

  picked : (c d : Candidate) {x y z : Bool} → c.stands ≡ x → d.stands ≡ y → ends_before c d ≡ z → later_of c d ≡ cond x (cond y (cond z d c) c) d
  picked c d p q r = λ i. cond (p i) (cond (q i) (cond (r i) d c) c) d

  module _ (c c' d d' : Candidate) (S : Same c c') (T : Same d d') where
    -- whichever of the two each side takes
    took : {x : Candidate} {y : Candidate} → later_of c d ≡ x → later_of c' d' ≡ y → Same x y → Same (later_of c d) (later_of c' d')
    took {x} {y} e f s = subst (λ (u : Candidate). Same (later_of c d) u) (sym f) (subst (λ (u : Candidate). Same u y) (sym e) s)

    module _ (s : c'.stands ≡ true) (t : d'.stands ≡ true) where
      abbrev A : Agree c c'
      A = S.agree s

      abbrev B : Agree d d'
      B = T.agree t

      -- the later record has the same reading
      crossed_over : ends_before c d ≡ true → ends_before c' d' ≡ false → Same d c'
      crossed_over e f =
          let w = before-false c' d' f in
          let ends : c.end ≡ c'.end = A.end in
          let ends' : d.end ≡ d'.end = B.end in
          let low : d'.end ≤ c'.end = w.0 in
          before-true c d e (Same d c')
          (λ i. absurd (omega arith))
          (λ same i.
          let back : d'.number ≤ c'.number = w.1 (sym A.end ∙ same ∙ B.end) in
          let n : c'.number ≡ c'.place.at = A.by-reading in
          let n' : d'.number ≡ d'.place.at = B.by-reading in
          let a : c.place.at ≡ c'.place.at = A.at in
          let a' : d.place.at ≡ d'.place.at = B.at in
          let on : c.place.at ≤ d.place.at = in-turn c.number d.number c.place.at d.place.at A.dated B.dated (omega arith) in
          record {
            standing = T.standing ∙ t ∙ sym s;
            agree = λ z. record { at = omega arith; end = omega arith; by-reading = A.by-reading; dated = B.dated };
          })

      -- a greater reading is of a later record
      not-over : ends_before c d ≡ false → ends_before c' d' ≡ true → ⊥
      not-over e f =
          let w = before-false c d e in
          let low : d.end ≤ c.end = w.0 in
          let ends : c.end ≡ c'.end = A.end in
          let ends' : d.end ≡ d'.end = B.end in
          before-true c' d' f ⊥
          (λ i. omega arith)
          (λ same i.
          let n : c'.number ≡ c'.place.at = A.by-reading in
          let n' : d'.number ≡ d'.place.at = B.by-reading in
          let a : c.place.at ≡ c'.place.at = A.at in
          let a' : d.place.at ≡ d'.place.at = B.at in
          let back : d.number ≤ c.number = w.1 (A.end ∙ same ∙ sym B.end) in
          let on : d.place.at ≤ c.place.at = in-turn d.number c.number d.place.at c.place.at B.dated A.dated back in
          omega arith)

      first : {z : Bool} → ends_before c d ≡ z → later_of c d ≡ cond z d c
      first e = picked c d (S.standing ∙ s) (T.standing ∙ t) e

      second : {z : Bool} → ends_before c' d' ≡ z → later_of c' d' ≡ cond z d' c'
      second e = picked c' d' s t e

      both-stand : Same (later_of c d) (later_of c' d')
      both-stand =
          split (ends_before c d)
          (λ e. split (ends_before c' d') (λ f. took (first e) (second f) T) (λ f. took (first e) (second f) (crossed_over e f)))
          (λ e. split (ends_before c' d') (λ f. absurd (not-over e f)) (λ f. took (first e) (second f) S))

    pub later_same : Same (later_of c d) (later_of c' d')
    later_same =
        split c'.stands
        (λ s.
        split d'.stands
        (λ t. both-stand s t)
        (λ t. took (picked c d (S.standing ∙ s) (T.standing ∙ t) refl) (picked c' d' s t refl) S))
        (λ s. took (picked c d (S.standing ∙ s) refl refl) (picked c' d' s refl refl) T)

  pub because-same : (now : ℕ) (c d : Candidate) → Same c d → without_number (because_of now c) ≡ without_number (because_of now d)
  because-same now c d S =
      split d.stands
      (λ z.
      let A = S.agree z in
      (λ i. without_number (because ((S.standing ∙ z) i) now c.number (A.at i) (A.end i)))
      ∙ sym (λ i. without_number (because (z i) now d.number d.place.at d.end)))
      (λ z.
      (λ i. without_number (because ((S.standing ∙ z) i) now c.number c.place.at c.end))
      ∙ sym (λ i. without_number (because (z i) now d.number d.place.at d.end)))

-- without its number an answer by a date is the same, whatever the number
pub number-apart : (b : Bool) (now n m at end : ℕ) → without_number (because b now n at end) ≡ without_number (because b now m at end)
number-apart true now n m at end = refl
number-apart false now n m at end = refl

module _ (h : History) (right : Right h) (l : ℕ) (s : Story) (e : story l h ≡ some s) where
  -- a fault message's record number, and its reading
  pub record Dates (n a : ℕ) : Type 0 where
    pub key : Key
    pub mark : Mark Fault
    pub last : last_of_key l key h ≡ some mark
    pub number-so : n ≡ suc mark.position
    pub reading-so : a ≡ mark.reading

  of-key : (key : Key) → Known (Was (if_of_key key)) h l (settings_of s) (last_of_key l key h)
  of-key key = known (message-kind (if_of_key key)) h l s e

  was : {n a : ℕ} (D : Dates n a)
      → ReceivedSince h l (of-key D.key).o (settings_of s) D.mark.position D.mark.reading
      (received_as (settings_of s) (message_of ((of-key D.key).there D.mark D.last).octets))
  was D = received_as_lem (if_of_key D.key) ((of-key D.key).there D.mark D.last) refl

  dates-in-turn : (n m a b : ℕ) → Dates n a → Dates m b → n ≤ m → a ≤ b
  dates-in-turn n m a b D E i =
      let p : n ≡ suc D.mark.position = D.number-so in
      let q : m ≡ suc E.mark.position = E.number-so in
      let t : a ≡ D.mark.reading = D.reading-so in
      let u : b ≡ E.mark.reading = E.reading-so in
      let j : D.mark.position ≤ E.mark.position = omega arith in
      let k : D.mark.reading ≤ E.mark.reading = messages-in-turn h right j (was D) (was E) in
      omega arith

  -- a place that passes a test, by its record number and by its reading
  one_same : (p : Bool) (c : Condition) (n : ℕ) → PlacedIf h l c n → (p ≡ true → filled c ≡ true) → Same Dates dates-in-turn (candidate p c n) (candidate p c c.at)
  one_same p c n P f =
      record {
        standing = refl;
        agree = λ z.
            let w = P (f z) in
            record {
              at = refl;
              end = refl;
              by-reading = refl;
              dated = record { key = c.key; mark = w.mark; last = w.found; number-so = w.number-so; reading-so = ap (λ (x : Condition). x.at) w.so };
            };
      }

  module _ (cs : Conditions) (m : Marks) (F : FourPlaced h l cs m.first m.second m.third m.fourth) (p : Condition → Bool)
      (f : (c : Condition) → p c ≡ true → filled c ≡ true) where
    abbrev by_number : Condition → ℕ → Candidate
    by_number c n = candidate (p c) c n

    abbrev by-date : Condition → Candidate
    by-date c = candidate (p c) c c.at

    best-same : Same Dates dates-in-turn (best_of p cs m) (best_of p cs (live_marks cs))
    best-same =
        let four = one_same (p cs.fourth) cs.fourth m.fourth F.fourth (f cs.fourth) in
        let third = later_same Dates dates-in-turn (by_number cs.third m.third) (by-date cs.third) (by_number cs.fourth m.fourth) (by-date cs.fourth)
        (one_same (p cs.third) cs.third m.third F.third (f cs.third)) four in
        let second = later_same Dates dates-in-turn (by_number cs.second m.second) (by-date cs.second) (later_of (by_number cs.third m.third) (by_number cs.fourth m.fourth))
        (later_of (by-date cs.third) (by-date cs.fourth)) (one_same (p cs.second) cs.second m.second F.second (f cs.second)) third in
        later_same Dates dates-in-turn (by_number cs.first m.first) (by-date cs.first)
        (later_of (by_number cs.second m.second) (later_of (by_number cs.third m.third) (by_number cs.fourth m.fourth)))
        (later_of (by-date cs.second) (later_of (by-date cs.third) (by-date cs.fourth)))
        (one_same (p cs.first) cs.first m.first F.first (f cs.first)) second

    best-told : (now : ℕ) → without_number (because_of now (best_of p cs (live_marks cs))) ≡ without_number (because_of now (best_of p cs m))
    best-told now = sym (because-same Dates dates-in-turn now (best_of p cs m) (best_of p cs (live_marks cs)) best-same)

  -- the answer from the record alone is the answer from the marks, without its number
  module _ (r : Session) (m : Marks) (kept : List ℕ) (T : Traced h l r m kept) (now : ℕ) where
    pub live-traced : (thing : Thing) → without_number (cause_from (live_marks r.conditions) r now thing) ≡ without_number (cause_from m r now thing)
    unfolding cause_from place_stands
    live-traced Crossing = number-apart (crossing_at r now) now 0 m.crossed r.crossed (later_by r.crossed crossing_time)
    live-traced Loss =
        number-apart (loss_at r now) now 0 m.timed r.timed (later_by r.timed (suc (detection_time r.settings.period r.peer.multiplier)))
    live-traced (OfKey key) = best-told r.conditions m T.places (stands_as key now) (λ c z. (and_both _ _ (and_both _ _ z).0).0) now
    live-traced HeldBack =
        split (loss_at r now)
        (λ z. rw z (best-told r.conditions m T.places (λ c. place_stands c now) (λ c w. (and_both _ _ w).0) now))
        (λ z. rw z)
