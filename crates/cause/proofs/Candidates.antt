-- The code's choice among the four places is the history's choice among the last messages of their keys.
-- Assumes nothing.
use Prim.Native.Nat.{ℕ, suc, ◌+◌, ◌≤◌, ◌<◌}
use native.Mathlib.Nat.{min-eq_left}
use native.Mathlib.Omega.{arith}
use mathlib.Core.Path.{◌≡◌, refl, sym, ap, ◌∙◌, subst, fun_ext}
use mathlib.Core.Bool.{Bool, true, false, cond, ◌&&◌, ◌||◌}
use mathlib.Core.Option.{Option, none, some}
use mathlib.Core.List.{List, [], ◌∷◌}
use lib.Dec.{ltb, eqb}
use borrow.Author.Tests.{ltb-true, lt-ltb}
use Rattle.fault.specs.declared.Fault.{Fault}
use Rattle.rules.specs.declared.Key.{Key}
use Rattle.rules.specs.declared.Received.{Received}
use Rattle.rules.specs.declared.Received.TheVariants.{CrossedMessage, HeardCc, HeardCv, FaultMessage}
use Rattle.rules.specs.Times.{latest, lifetime}
use Rattle.rules.specs.Conditions.{key_of, same_key}
use Rattle.rules.specs.Lists.{any}
use Rattle.rules.proofs.Bools.{split, same_test}
use Rattle.rules.proofs.Lists.{any_at, any-who, swap-same}
use Rattle.rules.proofs.SameKeys.{keys-alike, same_refl}
use Rattle.conditions.specs.declared.Condition.{Condition}
use Rattle.conditions.specs.declared.Conditions.{Conditions}
use Rattle.conditions.specs.Standing.{filled}
use Rattle.conditions.specs.Taking.{condition_of}
use Rattle.conditions.specs.Soundness.{place_sound, conditions_sound}
use Rattle.conditions.proofs.Fading.{place-says}
use Rattle.conditions.proofs.Taken.{sound-says}
use Rattle.meaning.specs.Stories.{Story}
use Rattle.meaning.specs.Histories.{History, story}
use Rattle.meaning.proofs.Places.{places, keys_in}
use Rattle.cause.specs.declared.Marks.{Marks}
use Rattle.cause.specs.declared.answer.Candidate.{Candidate}
use Rattle.cause.specs.Marks.{Mark, received, if_of_key, last_mark, last_of_key}
use Rattle.cause.specs.Causes.{condition_end, is_before, last_to_end, last_ending, cause_by}
use Rattle.cause.specs.FromMarks.{later_by, candidate, ends_before, later_of, best_of, because, because_of}
use Rattle.cause.proofs.Lasts.{none-some}
use Rattle.cause.proofs.Conditions.{same_place}
use Rattle.cause.proofs.HeldBack.{AtMost, ending-who, ending-most}
use Rattle.cause.proofs.Traced.{PlacedIf, FourPlaced}

-- a date that is not too great does not stay behind
pub later-by : (at time : ℕ) → at + time ≤ 18446744073709551615 → later_by at time ≡ at + time
later-by at time i = min-eq_left i

-- a candidate is a mark, or none
abbrev pub Like : Candidate → Option (Mark Fault) → Type 0
Like c none = c.stands ≡ false
Like c (some k) = (c.stands ≡ true) × (c.number ≡ suc k.position) × (c.place ≡ condition_of k.what k.reading) × (c.end ≡ condition_end k)

suc-ltb : (a b : ℕ) → ltb (suc a) (suc b) ≡ ltb a b
suc-ltb a b =
    same_test (ltb (suc a) (suc b)) (ltb a b)
    (λ e. lt-ltb a b (let i : suc a < suc b = ltb-true (suc a) (suc b) e in omega arith))
    (λ e. lt-ltb (suc a) (suc b) (let i : a < b = ltb-true a b e in omega arith))

same-before : (c d : Candidate) (j k : Mark Fault) → Like c (some j) → Like d (some k) → ends_before c d ≡ is_before j k
same-before c d j k v w =
    (λ i. ltb (v.3 i) (w.3 i) || eqb (v.3 i) (w.3 i) && ltb (v.1 i) (w.1 i))
    ∙ ap (λ (b : Bool). ltb (condition_end j) (condition_end k) || eqb (condition_end j) (condition_end k) && b) (suc-ltb j.position k.position)

-- by the three tests
picked : (c d : Candidate) {x y z : Bool} → c.stands ≡ x → d.stands ≡ y → ends_before c d ≡ z → later_of c d ≡ cond x (cond y (cond z d c) c) d
picked c d p q r = λ i. cond (p i) (cond (q i) (cond (r i) d c) c) d

later-like : (c d : Candidate) (m n : Option (Mark Fault)) → Like c m → Like d n → Like (later_of c d) (last_to_end m n)
later-like c d none none v w = subst (λ (x : Candidate). Like x none) (sym (picked c d v w refl)) w
later-like c d none (some k) v w = subst (λ (x : Candidate). Like x (some k)) (sym (picked c d v w.0 refl)) w
later-like c d (some j) none v w = subst (λ (x : Candidate). Like x (some j)) (sym (picked c d v.0 w refl)) v
later-like c d (some j) (some k) v w =
    split (is_before j k)
    (λ z. rw z (subst (λ (x : Candidate). Like x (some k)) (sym (picked c d v.0 w.0 (same-before c d j k v w ∙ z))) w))
    (λ z. rw z (subst (λ (x : Candidate). Like x (some j)) (sym (picked c d v.0 w.0 (same-before c d j k v w ∙ z))) v))

-- so the answer by a candidate is that by its mark
pub because-like : (now : ℕ) (c : Candidate) (m : Option (Mark Fault)) → Like c m → because_of now c ≡ cause_by now condition_end m
because-like now c none v = λ i. because (v i) now c.number c.place.at c.end
because-like now c (some k) v = λ i. because (v.0 i) now (v.1 i) (v.2 i).at (v.3 i)

-- a place that passes a test, whose end is not too great
one-like : (h : History) (l : ℕ) (p : Bool) (c : Condition) (n : ℕ) → PlacedIf h l c n → (p ≡ true → filled c ≡ true)
    → (filled c ≡ true → c.at + lifetime c.refresh ≤ 18446744073709551615) → Like (candidate p c n) (cond p (last_of_key l c.key h) none)
one-like h l true c n P f small =
    let w = P (f refl) in
    rw w.found (refl, w.number-so, w.so, later-by c.at (lifetime c.refresh) (small (f refl)) ∙ (λ i. (w.so i).at + lifetime (w.so i).refresh))
one-like h l false c n P f small = refl

-- a sound place's end is not too great
place-small : (c : Condition) (now : ℕ) → now ≤ latest → place_sound c now ≡ true → filled c ≡ true → c.at + lifetime c.refresh ≤ 18446744073709551615
place-small c now i e f =
    let s = place-says c now e f in
    let a : c.at ≤ now = s.date in
    let b : c.refresh ≤ 20 = s.high in omega arith

module _ (h : History) (l : ℕ) (p : Condition → Bool) where
  abbrev tried : Condition → ℕ → Candidate
  tried c n = candidate (p c) c n

  abbrev found : Condition → Option (Mark Fault)
  found c = cond (p c) (last_of_key l c.key h) none

  ending-place : (c : Condition) (cs : List Condition)
      → last_ending l h (keys_in p (c ∷ cs)) ≡ last_to_end (cond (p c) (last_of_key l c.key h) none) (last_ending l h (keys_in p cs))
  unfolding keys_in last_ending
  ending-place c cs = split (p c) (λ z. rw z) (λ z. rw z)

  ending-none : last_ending l h (keys_in p []) ≡ none
  unfolding keys_in last_ending
  ending-none = refl

  with_none : (m : Option (Mark Fault)) → last_to_end m none ≡ m
  with_none none = refl
  with_none (some k) = refl

  -- the best of four places is the mark that ends last of those that pass
  pub best-like : (cs : Conditions) (m : Marks) (now : ℕ) → FourPlaced h l cs m.first m.second m.third m.fourth → now ≤ latest
      → conditions_sound cs now ≡ true → ((c : Condition) → p c ≡ true → filled c ≡ true) → Like (best_of p cs m) (last_ending l h (keys_in p (places cs)))
  best-like cs m now F i sound f =
      let s = sound-says cs now sound in
      rw (
        ending-place cs.first (cs.second ∷ cs.third ∷ cs.fourth ∷ []),
        ending-place cs.second (cs.third ∷ cs.fourth ∷ []),
        ending-place cs.third (cs.fourth ∷ []),
        ending-place cs.fourth [],
        ending-none,
        with_none,
      )
      (later-like (tried cs.first m.first) (later_of (tried cs.second m.second) (later_of (tried cs.third m.third) (tried cs.fourth m.fourth)))
      (found cs.first) (last_to_end (found cs.second) (last_to_end (found cs.third) (found cs.fourth)))
      (one-like h l (p cs.first) cs.first m.first F.first (f cs.first) (place-small cs.first now i s.first))
      (later-like (tried cs.second m.second) (later_of (tried cs.third m.third) (tried cs.fourth m.fourth))
      (found cs.second) (last_to_end (found cs.third) (found cs.fourth))
      (one-like h l (p cs.second) cs.second m.second F.second (f cs.second) (place-small cs.second now i s.second))
      (later-like (tried cs.third m.third) (tried cs.fourth m.fourth) (found cs.third) (found cs.fourth)
      (one-like h l (p cs.third) cs.third m.third F.third (f cs.third) (place-small cs.third now i s.third))
      (one-like h l (p cs.fourth) cs.fourth m.fourth F.fourth (f cs.fourth) (place-small cs.fourth now i s.fourth)))))

-- one key's mark is that of a list of it alone
pub only_one : (h : History) (l : ℕ) (key : Key) → last_ending l h (key ∷ []) ≡ last_of_key l key h
unfolding last_ending
only_one h l key = with_none h l (λ d. true) (last_of_key l key h)

-- Alike keys have one mark, and lists of alike keys one that ends last
same-pick : (a b : Key) → same_key a b ≡ true → (m : List ℕ) (x : Received) → if_of_key a m x ≡ if_of_key b m x
same-pick a b e m CrossedMessage = refl
same-pick a b e m (HeardCc p) = refl
same-pick a b e m HeardCv = refl
same-pick a b e m (FaultMessage f) = ap (λ (t : Bool). cond t (some f) none) (swap-same same_key keys-alike a b (key_of f) e)

alike-mark : (l : ℕ) (h : History) (a b : Key) → same_key a b ≡ true → last_of_key l a h ≡ last_of_key l b h
alike-mark l h a b e =
    ap (λ (f : List ℕ → Received → Option Fault). last_mark none (received f) l h) (fun_ext (λ m. fun_ext (same-pick a b e m)))

-- each key of the one list is alike a key of the other
abbrev pub Within : List Key → List Key → Type 0
Within xs ys = (key : Key) → any (same_key key) xs ≡ true → any (same_key key) ys ≡ true

module _ (h : History) (l : ℕ) (s : Story) (e : story l h ≡ some s) where
  no-sooner : (xs ys : List Key) → Within xs ys → (j : Mark Fault) → last_ending l h xs ≡ some j → (k : Mark Fault) × (last_ending l h ys ≡ some k) × AtMost j k
  no-sooner xs ys w j f =
      let a = ending-who l h xs j f in
      let b = any-who (same_key a.0) ys (w a.0 (any_at (same_key a.0) a.1 (same_refl a.0))) in
      ending-most l h b.1 j (sym (alike-mark l h a.0 b.0 b.2) ∙ a.2)

  pub alike-ending : (xs ys : List Key) → Within xs ys → Within ys xs → last_ending l h xs ≡ last_ending l h ys
  alike-ending xs ys v w = go (last_ending l h xs) refl (last_ending l h ys) refl
    where
      go : (m : Option (Mark Fault)) → last_ending l h xs ≡ m → (n : Option (Mark Fault)) → last_ending l h ys ≡ n → last_ending l h xs ≡ last_ending l h ys
      go none f none g = f ∙ sym g
      go none f (some k) g = none-some (sym f ∙ (no-sooner ys xs w k g).1)
      go (some j) f none g = none-some (sym g ∙ (no-sooner xs ys v j f).1)
      go (some j) f (some k) g =
          let a = no-sooner xs ys v j f in
          let b = no-sooner ys xs w k g in
          let x : a.0 ≡ k = cc (sym a.1 ∙ g) in
          let y : b.0 ≡ j = cc (sym b.1 ∙ f) in
          let p : AtMost j k = subst (λ (i : Mark Fault). AtMost j i) x a.2 in
          let q : AtMost k j = subst (λ (i : Mark Fault). AtMost k i) y b.2 in
          let c : condition_end j ≤ condition_end k = p.sooner in
          let d : condition_end k ≤ condition_end j = q.sooner in
          let t : j.position ≤ k.position = p.ties (omega arith) in
          let u : k.position ≤ j.position = q.ties (omega arith) in
          let wj = ending-who l h xs j f in
          let wk = ending-who l h ys k g in
          f ∙ ap some (same_place h l wj.0 wk.0 s e j k wj.2 wk.2 (omega arith)) ∙ sym g
