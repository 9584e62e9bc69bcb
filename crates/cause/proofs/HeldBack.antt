-- The cause of an alarm held back is of the standing conditions the one that ends last, of equal ends the later record.
-- Assumes nothing.
use Prim.Native.Nat.{ℕ, ◌+◌, ◌-◌, ◌*◌, ◌≤◌, ◌<◌}
use native.Mathlib.Omega.{arith}
use mathlib.Core.Path.{◌≡◌, refl, sym, ap, ◌∙◌, subst}
use mathlib.Core.Bool.{Bool, true, false, cond, not}
use mathlib.Core.Option.{Option, none, some}
use mathlib.Core.Logic.{◌⊎◌, ⊎_elim, ◌↔◌}
use mathlib.Core.List.Memᴰ
use mathlib.Core.List.{List, [], ◌∷◌, Memᴰ}
use lib.Dec.{ltb}
use borrow.Author.Tests.{ltb-true, ltb-false, eqb-true, eqb-false, eq-eqb, ne_eqb, not-true}
use Rattle.octets.specs.Choice.{accepted}
use Rattle.octets.proofs.Chain.{and_both}
use Rattle.fault.specs.declared.Fault.{Fault}
use Rattle.rules.specs.declared.Key.{Key}
use Rattle.rules.specs.Conditions.{key_of, same_key}
use Rattle.rules.specs.Lists.{only}
use Rattle.rules.proofs.Bools.{split, both_true, or_cases, or_left, or_right, refuted, true-false}
use Rattle.rules.proofs.Lists.{any-who}
use Rattle.rules.proofs.SameKeys.{same-sym, same-trans}
use Rattle.meaning.specs.Stories.{Story}
use Rattle.meaning.specs.Standing.{loss, stands, keys_of, conditions}
use Rattle.meaning.specs.Histories.{History, clock_of, story}
use Rattle.meaning.specs.Accounts.{AccountsForCondition, AccountsForHeldBack}
use Rattle.meaning.specs.Worlds.{Right}
use Rattle.meaning.proofs.Places.{stands_alike}
use Rattle.meaning.proofs.Accounted.{stands-some, keys-standing, some-stands}
use Rattle.meaning.proofs.Conditions.{condition-accounted}
use Rattle.meaning.proofs.Losses.{loss-accounted}
use Rattle.cause.specs.Marks.{Mark, last_of_key}
use Rattle.cause.specs.Causes.{HeldBack, Cause, is_held_back, condition_end, is_before, last_to_end, last_ending, last_holding, cause_of, fault_by, reason_by}
use Rattle.cause.specs.Reasons.{HeldBackReason}
use Rattle.cause.proofs.Lasts.{none-some}
use Rattle.cause.proofs.Conditions.{condition-marked, mark-accounts, mark-place, mark-reading, mark-fault, mark-end, mark-present, condition-until, mark-past}
use Rattle.cause.proofs.Losses.{lost, loss-from}
use Rattle.cause.proofs.Asked.{some_of, granted, by-mark}

-- no later than: it ends no later, and where it ends at the same reading it is no later record
pub record AtMost (j k : Mark Fault) : Type 0 where
  pub sooner : condition_end j ≤ condition_end k
  pub ties : condition_end j ≡ condition_end k → j.position ≤ k.position

pub itself : (k : Mark Fault) → AtMost k k
itself k = record { sooner = omega arith; ties = λ e. omega arith }

through : (i j k : Mark Fault) → AtMost i j → AtMost j k → AtMost i k
through i j k v w =
    let a : condition_end i ≤ condition_end j = v.sooner in
    let b : condition_end j ≤ condition_end k = w.sooner in
    record { sooner = omega arith; ties = λ e. let x = v.ties (omega arith) in let y = w.ties (omega arith) in omega arith }

-- the test says it
before-so : (j k : Mark Fault) → is_before j k ≡ true → AtMost j k
before-so j k e =
    ⊎_elim
    (λ z. let i : condition_end j < condition_end k = ltb-true _ _ z in record { sooner = omega arith; ties = λ f. absurd (omega arith) })
    (λ z.
    let w = and_both _ _ z in
    let i : condition_end j ≡ condition_end k = eqb-true _ _ w.0 in
    let n : j.position < k.position = ltb-true _ _ w.1 in
    record { sooner = omega arith; ties = λ f. omega arith })
    (or_cases _ _ e)

not-before : (j k : Mark Fault) → is_before j k ≡ false → AtMost k j
not-before j k e =
    let a : condition_end k ≤ condition_end j = ltb-false _ _ (refuted _ (λ z. true-false (or_left _ z) e)) in
    record {
      sooner = a;
      ties = λ f.
          ltb-false j.position k.position
          (refuted _ (λ z. true-false (or_right (ltb (condition_end j) (condition_end k)) (both_true (eq-eqb (condition_end j) (condition_end k) (sym f)) z)) e));
    }

-- of two the one named is no sooner than either
first-most : (j : Mark Fault) (n : Option (Mark Fault)) → (k : Mark Fault) × (last_to_end (some j) n ≡ some k) × AtMost j k
first-most j none = (j, refl, itself j)
first-most j (some i) = split (is_before j i) (λ z. (i, rw z, before-so j i z)) (λ z. (j, rw z, itself j))

second-most : (m : Option (Mark Fault)) (j : Mark Fault) → (k : Mark Fault) × (last_to_end m (some j) ≡ some k) × AtMost j k
second-most none j = (j, refl, itself j)
second-most (some i) j = split (is_before i j) (λ z. (j, rw z, itself j)) (λ z. (i, rw z, not-before i j z))

module _ (l : ℕ) (h : History) where
  -- what is named is the mark of one of the keys
  pub ending-who : (keys : List Key) (k : Mark Fault) → last_ending l h keys ≡ some k → (key : Key) × Memᴰ key keys × (last_of_key l key h ≡ some k)
  unfolding last_ending
  ending-who [] k e = none-some e
  ending-who (key ∷ keys) k e = go (ending-who keys) (last_of_key l key h) refl (last_ending l h keys) refl e
    where
      Found : List Key → Mark Fault → Type 0
      Found ks j = (x : Key) × Memᴰ x ks × (last_of_key l x h ≡ some j)

      go : ((j : Mark Fault) → last_ending l h keys ≡ some j → Found keys j) → (m : Option (Mark Fault)) → last_of_key l key h ≡ m
          → (n : Option (Mark Fault)) → last_ending l h keys ≡ n → last_to_end m n ≡ some k → Found (key ∷ keys) k
      go rest none f n g z = let w = rest k (g ∙ z) in (w.0, Memᴰ.tail w.1, w.2)
      go rest (some i) f none g z = (key, Memᴰ.head refl, f ∙ z)
      go rest (some i) f (some j) g z =
          split (is_before i j)
          (λ b. let y : some j ≡ some k = ap (λ (t : Bool). cond t (some j) (some i)) (sym b) ∙ z in let w = rest k (g ∙ y) in (w.0, Memᴰ.tail w.1, w.2))
          (λ b. let y : some i ≡ some k = ap (λ (t : Bool). cond t (some j) (some i)) (sym b) ∙ z in (key, Memᴰ.head refl, f ∙ y))

  -- and no key's mark is later
  pub ending-most : {key : Key} {keys : List Key} → Memᴰ key keys → (j : Mark Fault) → last_of_key l key h ≡ some j
      → (k : Mark Fault) × (last_ending l h keys ≡ some k) × AtMost j k
  unfolding last_ending
  ending-most (Memᴰ.head {x = y} {xs} e) j f =
      let g : last_of_key l y h ≡ some j = ap (λ (x : Key). last_of_key l x h) (sym e) ∙ f in
      let w = first-most j (last_ending l h xs) in (w.0, ap (λ (m : Option (Mark Fault)). last_to_end m (last_ending l h xs)) g ∙ w.1, w.2)
  ending-most (Memᴰ.tail {x = y} {xs} m) j f =
      let v = ending-most m j f in
      let w = second-most (last_of_key l y h) v.0 in
      (w.0, ap (last_to_end (last_of_key l y h)) v.1 ∙ w.1, through j v.0 w.0 v.2 w.2)

-- the elements that pass a test pass it
pub only-pass : {A : Type 0} (p : A → Bool) (xs : List A) {x : A} → Memᴰ x (only p xs) → p x ≡ true
unfolding only
only-pass p [] m = absurd (Memᴰ.not-nil m)
only-pass p (y ∷ ys) m =
    split (p y)
    (λ z. ⊎_elim (λ e. ap p e ∙ z) (λ n. only-pass p ys n) (Memᴰ.cases_cons (rw z at m)))
    (λ z. only-pass p ys (rw z at m))

-- a key that stands is alike one of the standing keys
standing-key : (now : ℕ) (s : Story) (key : Key) → stands now s key ≡ true
    → (x : Key) × Memᴰ x (only (stands now s) (keys_of s)) × (same_key key x ≡ true)
standing-key now s key e = any-who (same_key key) (only (stands now s) (keys_of s)) (keys-standing now s key ∙ e)

-- an account of a key is one of an alike key
alike-accounts : {h : History} {l : ℕ} (a b : Key) → same_key a b ≡ true → {now p : ℕ} → AccountsForCondition h l a now p → AccountsForCondition h l b now p
alike-accounts a b e A =
    record {
      o = A.o;
      settings = A.settings;
      opened_at = A.opened_at;
      opening = A.opening;
      reading = A.reading;
      fault = A.fault;
      message = A.message;
      own = same-trans (key_of A.fault) a b A.own e;
      latest = λ q u g i H w. A.latest q u g i H (same-trans (key_of g) b a w (same-sym b a ∙ e));
      present = A.present;
      fresh = A.fresh;
    }

-- held back: a loss, and some condition
pub held_by_lem : (now : ℕ) (s : Story) → is_held_back now s ≡ true → (loss now s ≡ true) × (key : Key) × (stands now s key ≡ true)
held_by_lem now s e =
    let w = and_both (loss now s) _ e in
    let n : conditions now s ≡ 0 → ⊥ = eqb-false (conditions now s) 0 (not-true _ w.1) in
    let k = stands-some now s n in (w.0, k.0, k.1)

pub is-held-back : (now : ℕ) (s : Story) (key : Key) → loss now s ≡ true → stands now s key ≡ true → is_held_back now s ≡ true
is-held-back now s key a b = both_true a (ap not (ne_eqb (conditions now s) 0 (some-stands now s key b)))

module _ (h : History) (l : ℕ) (s : Story) (e : story l h ≡ some s) (now : ℕ) where
  -- a condition that stands has a mark, and the one named is no sooner
  named : (key : Key) → stands now s key ≡ true → {t p : ℕ} (A : AccountsForCondition h l key t p)
      → (j : Mark Fault) × (k : Mark Fault) × (last_ending l h (only (stands now s) (keys_of s)) ≡ some k) × AtMost j k
      × (A.reading + 3500000 * A.fault.refresh ≡ condition_end j) × (p ≡ j.position)
  unfolding alike-accounts
  named key c {t} {p} A =
      let x = standing-key now s key c in
      let B : AccountsForCondition h l x.0 t p = alike-accounts key x.0 x.2 A in
      let d : stands now s x.0 ≡ true = sym (stands_alike key x.0 x.2 now s) ∙ c in
      let j = some_of (last_of_key l x.0 h) (condition-marked h l x.0 s e now d) in
      let k = ending-most l h x.1 j.0 j.1 in
      (j.0, k.0, k.1, k.2, mark-end h l x.0 s e j.0 j.1 B, mark-place h l x.0 s e j.0 j.1 B)

  -- so where an alarm is held back there is a mark
  pub held-marked : is_held_back now s ≡ true → last_ending l h (only (stands now s) (keys_of s)) ≡ none → ⊥
  held-marked c z =
      let k = held_by_lem now s c in
      let w = named k.1 k.2 ((condition-accounted h l s e k.1 now).0 k.2).1 in
      none-some (sym z ∙ w.2)

  module _ (k : Mark Fault) (f : last_ending l h (only (stands now s) (keys_of s)) ≡ some k) where
    -- it is one of a standing condition
    pub whose : (key : Key) × (stands now s key ≡ true) × (last_of_key l key h ≡ some k)
    whose = let w = ending-who l h (only (stands now s) (keys_of s)) k f in (w.0, only-pass (stands now s) (keys_of s) w.1, w.2)

    -- and no standing condition ends later
    pub ends_last : (key : Key) → stands now s key ≡ true → {t p : ℕ} (A : AccountsForCondition h l key t p)
        → (A.reading + 3500000 * A.fault.refresh ≤ condition_end k) × (A.reading + 3500000 * A.fault.refresh ≡ condition_end k → p ≤ k.position)
    ends_last key c {t} {p} A =
        let w = named key c A in
        let j : Mark Fault = w.0 in
        let i : w.1 ≡ k = cc (sym w.2 ∙ f) in
        let m : AtMost j k = subst (λ (x : Mark Fault). AtMost j x) i w.3 in
        let a : A.reading + 3500000 * A.fault.refresh ≡ condition_end j = w.4 in
        let b : p ≡ j.position = w.5 in
        let d : condition_end j ≤ condition_end k = m.sooner in
        (omega arith, λ z. let y : j.position ≤ k.position = m.ties (sym a ∙ z) in omega arith)

    -- it accounts for the alarm
    module _ (c : loss now s ≡ true) where
      held-accounts : AccountsForHeldBack h l now k.position
      held-accounts =
          let w = whose in
          record {
            loss = (loss-accounted h l s e now).0 c;
            condition = (
              w.0,
              mark-accounts h l w.0 s e k w.2 (mark-present h l w.0 s e k w.2 now w.1) now
                  ((condition-until h l w.0 s e k w.2 now w.1 now).0 w.1),
            );
          }

      held-reading : held-accounts.condition.1.reading ≡ k.reading
      unfolding held-accounts
      held-reading = mark-reading h l whose.0 s e k whose.2 held-accounts.condition.1

      held-fault : held-accounts.condition.1.fault ≡ k.what
      unfolding held-accounts
      held-fault = mark-fault h l whose.0 s e k whose.2 held-accounts.condition.1

    -- the alarm is held back exactly until that end
    pub held-until : loss now s ≡ true → (t : ℕ) → now ≤ t → (is_held_back t s ≡ true) ↔ (t < condition_end k)
    held-until c t i = (
      λ d.
          let w = held_by_lem t s d in
          let A = (condition-accounted h l s e w.1 t).0 w.2 in
          let j = some_of (last_of_key l w.1 h) (condition-marked h l w.1 s e t w.2) in
          let u = condition-until h l w.1 s e j.0 j.1 t w.2 in
          let a : t < condition_end j.0 = (u t).0 w.2 in
          let m : A.1.reading + 3500000 * A.1.fault.refresh ≤ condition_end k = (ends_last w.1 ((u now).1 (omega arith)) A.1).0 in
          let b : t < A.1.reading + 3500000 * A.1.fault.refresh = A.1.fresh in omega arith,
      λ b.
          let w = whose in
          is-held-back t s w.0 ((loss-from now s c t).1 (let x = (lost now s c).1 in omega arith))
          ((condition-until h l w.0 s e k w.2 now w.1 t).1 b),
    )

    pub held-past : Right h → k.reading ≤ clock_of h
    held-past r = let w = whose in mark-past h l w.0 s e k w.2 r

-- a call that accounts does so by a condition that stands
standing-at : (h : History) (l : ℕ) (s : Story) → story l h ≡ some s → (now q : ℕ) (B : AccountsForHeldBack h l now q) → stands now s B.condition.0 ≡ true
standing-at h l s e now q B = (condition-accounted h l s e B.condition.0 now).1 q B.condition.1

pub held-back-cause : (h : History) → Right h → (l : ℕ) (c : Cause) → cause_of h l HeldBack ≡ accepted c → HeldBackReason h l c
held-back-cause h r l c e =
    let G = granted h l HeldBack c e in
    let s : Story = G.0 in
    let now : ℕ = clock_of h in
    let f : story l h ≡ some s = G.1.told in
    let M = by-mark now condition_end c (last_holding h l s) G.1.by in
    let k : Mark Fault = M.0 in
    let z : last_holding h l s ≡ some k = M.1.found in
    let n : c.end ≡ condition_end k = M.1.ends in
    let y : loss now s ≡ true = (held_by_lem now s G.1.standing).0 in
    let t : (held-accounts h l s f now k z y).condition.1.reading ≡ k.reading = held-reading h l s f now k z y in
    let x : (held-accounts h l s f now k z y).condition.1.fault ≡ k.what = held-fault h l s f now k z y in
    record {
      position = k.position;
      number = M.1.number;
      accounts = held-accounts h l s f now k z y;
      last = λ q B. let m = (ends_last h l s f now k z B.condition.0 (standing-at h l s f now q B) B.condition.1).0 in omega arith;
      ties = λ q B v. (ends_last h l s f now k z B.condition.0 (standing-at h l s f now q B) B.condition.1).1 (v ∙ n);
      reading = M.1.reading ∙ sym t;
      age = let i : k.reading ≤ now = held-past h l s f now k z r in let j : c.age ≡ now - k.reading = M.1.age in omega arith;
      end = n ∙ (λ i. sym t i + 3500000 * (sym x i).refresh);
      was = G.1.was ∙ ap (reason_by fault_by) z ∙ ap (λ (g : Fault). some (fault_by g)) (sym x);
    }
