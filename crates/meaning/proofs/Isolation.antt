-- What a party is told rests on its own calls and the clock alone, proved.
-- Assumes nothing.
use Prim.Native.Nat.{ℕ}
use native.Mathlib.Omega.{arith}
use mathlib.Core.Path.{◌≡◌, refl, sym, ap, ◌∙◌, subst}
use mathlib.Core.Bool.{Bool, true, false, cond, ◌&&◌, ◌||◌}
use mathlib.Core.Option.{Option, none}
use mathlib.Core.List.{List, [], ◌∷◌}
use lib.Dec.{eqb}
use lib.ListN.{length}
use borrow.Author.Tests.{eqb-true, eq-eqb}
use Rattle.octets.specs.Choice.{need, bar}
use Rattle.rules.specs.declared.Settings.{Settings}
use Rattle.rules.specs.Times.{late}
use Rattle.rules.specs.Settings.{settings_fit}
use Rattle.rules.specs.Parties.{party_of, is_of, own_label, own_most}
use Rattle.rules.specs.Lists.{any, only, without}
use Rattle.rules.specs.Calls.{Close, Lock, Unlock, Receive, ReportOn, WriteCc, WriteCv, Call, Tick, Open, On, Said, is_accepted, number_only}
use Rattle.rules.proofs.Bools.{split, no_way, refuted, true-false}
use Rattle.table.specs.Table.{answer, emptied}
use Rattle.meaning.specs.Stories.{Story}
use Rattle.meaning.specs.Histories.{History, start, after, clock_of, told, story, labels_after, labels}
use Rattle.meaning.specs.Answers.{has_discriminator, claims, rival, full, open_number, act_said, says_of, says}
use Rattle.meaning.specs.Worlds.{World, step, play, begin, Right}
use Rattle.meaning.specs.Lives.{is_on}
use Rattle.meaning.specs.Parties.{Named, TickTo, OpenFor, OnFor, with_label, taken, names, Turn, turns, Question, questions, Isolation}
use Rattle.meaning.proofs.Lives.{told-off}
use Rattle.meaning.proofs.Demand.{answered, Good, good-play, good-begin}
use Rattle.meaning.proofs.Foreign.{open-refused, zero-kept, zero-shut, own_same, own-zero, own-accepted, other-accepted}

-- 1. The labels that pass a test.

module _ (f : ℕ → Bool) where
  any-own : (q r : ℕ → Bool) → ((l : ℕ) → f l ≡ false → q l ≡ false) → ((l : ℕ) → f l ≡ true → q l ≡ r l) → (xs : List ℕ) → any q xs ≡ any r (only f xs)
  unfolding any only
  any-own q r off on [] = refl
  any-own q r off on (x ∷ xs) =
      split (f x)
      (λ e. rw e (λ i. on x e i || any-own q r off on xs i))
      (λ e. rw e (ap (λ (b : Bool). b || any q xs) (off x e) ∙ any-own q r off on xs))

  only-twice : (xs : List ℕ) → only f (only f xs) ≡ only f xs
  unfolding only
  only-twice [] = refl
  only-twice (x ∷ xs) = split (f x) (λ e. rw (e, e) (ap (λ (ys : List ℕ). x ∷ ys) (only-twice xs))) (λ e. rw e (only-twice xs))

  -- a label dropped that passes, and one that does not
  without-own : (k : ℕ) → f k ≡ true → (xs : List ℕ) → only f (without eqb k xs) ≡ without eqb k (only f xs)
  unfolding only without
  without-own k h [] = refl
  without-own k h (x ∷ xs) =
      split (eqb k x)
      (λ e. let z : f x ≡ true = ap f (sym (eqb-true k x e)) ∙ h in rw (e, z, e))
      (λ e. split (f x)
      (λ z. rw (e, z, e) (ap (λ (ys : List ℕ). x ∷ ys) (without-own k h xs)))
      (λ z. rw (e, z) (without-own k h xs)))

  without_other : (k : ℕ) → f k ≡ false → (xs : List ℕ) → only f (without eqb k xs) ≡ only f xs
  unfolding only without
  without_other k h [] = refl
  without_other k h (x ∷ xs) =
      split (eqb k x)
      (λ e. let z : f x ≡ false = ap f (sym (eqb-true k x e)) ∙ h in rw (e, z))
      (λ e. split (f x)
      (λ z. rw (e, z) (ap (λ (ys : List ℕ). x ∷ ys) (without_other k h xs)))
      (λ z. rw (e, z) (without_other k h xs)))

  labels-own : (c : Call) → ((l : ℕ) → is_on l c ≡ true → f l ≡ true) → (ls : List ℕ) → only f (labels_after c ls) ≡ labels_after c (only f ls)
  unfolding only
  labels-own (Tick t) h ls = refl
  labels-own (Open g t) h ls = rw (h g.label (eq-eqb g.label g.label refl))
  labels-own (On l (Close t)) h ls = without-own l (h l (eq-eqb l l refl)) ls
  labels-own (On l (Lock t)) h ls = refl
  labels-own (On l (Unlock t)) h ls = refl
  labels-own (On l (Receive m t)) h ls = refl
  labels-own (On l ReportOn) h ls = refl
  labels-own (On l (WriteCc b)) h ls = refl
  labels-own (On l (WriteCv b)) h ls = refl

  labels-other : (c : Call) → ((l : ℕ) → is_on l c ≡ true → f l ≡ false) → (ls : List ℕ) → only f (labels_after c ls) ≡ only f ls
  unfolding only
  labels-other (Tick t) h ls = refl
  labels-other (Open g t) h ls = rw (h g.label (eq-eqb g.label g.label refl))
  labels-other (On l (Close t)) h ls = without_other l (h l (eq-eqb l l refl)) ls
  labels-other (On l (Lock t)) h ls = refl
  labels-other (On l (Unlock t)) h ls = refl
  labels-other (On l (Receive m t)) h ls = refl
  labels-other (On l ReportOn) h ls = refl
  labels-other (On l (WriteCc b)) h ls = refl
  labels-other (On l (WriteCv b)) h ls = refl

-- 2. What a party can see of a history: the stories of its labels, and which of them are open.

pub record View (p : ℕ) (h : History) (st : ℕ → Option Story) (ls : List ℕ) : Type 0 where
  pub stories : (l : ℕ) → is_of p l ≡ true → story l h ≡ st l
  pub own : only (is_of p) (labels h) ≡ ls
  pub zero : st 0 ≡ none

module _ {p : ℕ} {h : History} {st : ℕ → Option Story} {ls : List ℕ} (S : View p h st ls) (R : Right h) where
  story-own : (l : ℕ) → story (own_label p l) h ≡ st (own_label p l)
  story-own l =
      split (is_of p l)
      (λ e. subst (λ (k : ℕ). story k h ≡ st k) (sym (own_same p l e)) (S.stories l e))
      (λ e. subst (λ (k : ℕ). story k h ≡ st k) (sym (own-zero p l e)) (zero-shut h R ∙ sym S.zero))

  -- 11 and 12 look at no other labels
  open_own : (now : ℕ) (g : Settings) (t : ℕ) → is_of p g.label ≡ true → open_number now (λ l. story l h) (labels h) g t ≡ open_number now st ls g t
  unfolding open_number rival
  open_own now g t y =
      λ i. bar (late now t) 1 (need (settings_fit g) 10 (bar (rivals' i) 11 (bar (full' i) 12 0)))
    where
      same : party_of g.label ≡ p
      same = eqb-true (party_of g.label) p y

      off : (l : ℕ) → is_of p l ≡ false → claims (λ m. story m h) g l ≡ false
      off l e =
          let a : eqb l g.label ≡ false = refuted _ (λ z. true-false (ap (is_of p) (eqb-true l g.label z) ∙ y) e) in
          let b : is_of (party_of g.label) l ≡ false = ap (λ (q : ℕ). is_of q l) same ∙ e in
          λ i. a i || (b i && has_discriminator g.discriminator (story l h))

      rivals' : any (claims (λ m. story m h) g) (labels h) ≡ any (claims st g) ls
      rivals' =
          any-own (is_of p) (claims (λ m. story m h) g) (claims st g) off
          (λ l e. ap (λ (o : Option Story). eqb l g.label || (is_of (party_of g.label) l && has_discriminator g.discriminator o)) (S.stories l e)) (labels h)
          ∙ ap (any (claims st g)) S.own

      full' : full g.label (labels h) ≡ full g.label ls
      full' =
          ap (λ (q : ℕ). eqb (length (only (is_of q) (labels h))) own_most) same
          ∙ ap (λ (ms : List ℕ). eqb (length ms) own_most) (sym (only-twice (is_of p) (labels h)) ∙ ap (only (is_of p)) S.own)
          ∙ ap (λ (q : ℕ). eqb (length (only (is_of q) ls)) own_most) (sym same)

  -- what a call of the party says
  pub says-own : (now : ℕ) (c : Named) → names p c ≡ true → says_of now (λ l. story l h) (labels h) (taken c) ≡ says_of now st ls (taken c)
  unfolding says_of
  says-own now (TickTo t) e = no_way e refl
  says-own now (OpenFor q g t) e =
      subst (λ (r : ℕ). says_of now (λ l. story l h) (labels h) (taken (OpenFor r g t)) ≡ says_of now st ls (taken (OpenFor r g t))) (sym (eqb-true q p e))
      (ap (number_only (taken (OpenFor p g t)))
      (split (is_of p g.label)
      (λ z. open_own now (with_label (own_label p g.label) g) t (ap (is_of p) (own_same p g.label z) ∙ z))
      (λ z.
      open-refused now (λ l. story l h) (labels h) (with_label (own_label p g.label) g) t (own-zero p g.label z)
      ∙ sym (open-refused now st ls (with_label (own_label p g.label) g) t (own-zero p g.label z)))))
  says-own now (OnFor q l a) e =
      subst (λ (r : ℕ). says_of now (λ l. story l h) (labels h) (taken (OnFor r l a)) ≡ says_of now st ls (taken (OnFor r l a))) (sym (eqb-true q p e))
      (ap (λ (o : Option Story). act_said now o (own_label p l) a) (story-own l))

  -- its calls alter the view by what they say
  pub view-own : (c : Named) → names p c ≡ true → (a : Said) → a ≡ says h (taken c)
      → View p (after h (taken c) a) (λ l. cond (is_accepted a) (told l (taken c) (st l)) (st l)) (cond (is_accepted a) (labels_after (taken c) ls) ls)
  unfolding says story labels
  view-own c e a z =
      record {
        stories = λ l o. ap (λ (s : Option Story). cond (is_accepted a) (told l (taken c) s) s) (S.stories l o);
        own =
            split (is_accepted a)
            (λ y. rw y
            (labels-own (is_of p) (taken c)
            (own-accepted (clock_of h) (λ l. story l h) (labels h) (zero-shut h R) p c e (ap is_accepted (sym z) ∙ y)) (labels h)
            ∙ ap (labels_after (taken c)) S.own))
            (λ y. rw y S.own);
        zero =
            split (is_accepted a)
            (λ y. rw y (zero-kept (clock_of h) (λ l. story l h) (labels h) (taken c) (ap is_accepted (sym z) ∙ y) (st 0) S.zero))
            (λ y. rw y S.zero);
      }

  -- and others do not
  pub view-other : (c : Named) → names p c ≡ false → (a : Said) → a ≡ says h (taken c) → View p (after h (taken c) a) st ls
  unfolding says story labels
  view-other c e a z =
      record {
        stories = λ l o. split (is_accepted a)
            (λ y. rw y
            (told-off l (taken c) (story l h) (refuted (is_on l (taken c)) (λ n. true-false o (not_on y l n)))
            ∙ S.stories l o))
            (λ y. rw y (S.stories l o));
        own = split (is_accepted a) (λ y. rw y (labels-other (is_of p) (taken c) (not_on y) (labels h) ∙ S.own)) (λ y. rw y S.own);
        zero = S.zero;
      }
    where
      not_on : is_accepted a ≡ true → (l : ℕ) → is_on l (taken c) ≡ true → is_of p l ≡ false
      not_on y = other-accepted (clock_of h) (λ l. story l h) (labels h) (zero-shut h R) p c e (ap is_accepted (sym z) ∙ y)

-- 3. Turns that are settled by those before them.

Settled : (ℕ → Option Story) → List ℕ → List Turn → Type 0
Settled st ls [] = Unit {0}
Settled st ls (x ∷ xs) =
    (x.said ≡ says_of x.before st ls (taken x.call))
    × Settled (λ l. cond (is_accepted x.said) (told l (taken x.call) (st l)) (st l)) (cond (is_accepted x.said) (labels_after (taken x.call) ls) ls) xs

same-turns : (st : ℕ → Option Story) (ls : List ℕ) (xs ys : List Turn) → Settled st ls xs → Settled st ls ys → questions xs ≡ questions ys → xs ≡ ys
unfolding Settled questions
same-turns st ls [] [] a b e = refl
same-turns st ls [] (y ∷ ys) a b e = absurd (let z : ◌≡◌ {A = ℕ} 0 1 = cc in omega arith)
same-turns st ls (x ∷ xs) [] a b e = absurd (let z : ◌≡◌ {A = ℕ} 0 1 = cc in omega arith)
same-turns st ls (x ∷ xs) (y ∷ ys) a b e =
    let t : questions xs ≡ questions ys = cc in
    let hd : ◌≡◌ {A = Question} (record { before = x.before; call = x.call }) (record { before = y.before; call = y.call }) = cc in
    let p : x.before ≡ y.before = ap (λ (q : Question). q.before) hd in
    let c : x.call ≡ y.call = ap (λ (q : Question). q.call) hd in
    let w : x.said ≡ y.said = a.0 ∙ (λ i. says_of (p i) st ls (taken (c i))) ∙ sym b.0 in
    let r : xs ≡ ys =
    same-turns (λ l. cond (is_accepted x.said) (told l (taken x.call) (st l)) (st l)) (cond (is_accepted x.said) (labels_after (taken x.call) ls) ls) xs ys a.1
    (subst (λ (n : Turn). Settled (λ l. cond (is_accepted n.said) (told l (taken n.call) (st l)) (st l)) (cond (is_accepted n.said) (labels_after (taken n.call) ls) ls) ys)
    (λ i. record { before = sym p i; call = sym c i; said = sym w i }) b.1) t in
    λ i. record { before = p i; call = c i; said = w i } ∷ r i

-- a party's turns are, from where it is seen what it can see
settled : (p : ℕ) (w : World) (cs : List Named) (st : ℕ → Option Story) (ls : List ℕ) → Good w → View p w.past st ls → Settled st ls (turns p w.table cs)
unfolding turns Settled step play
settled p w [] st ls G S = tt
settled p w (c ∷ cs) st ls G S =
    let a = answer w.table (taken c) in
    let said = answered w.past w.table G.in_step (taken c) in
    let on = good-play w (taken c ∷ []) G in
    split (names p c)
    (λ e. rw e (
      said ∙ unfold says in says-own S G.right (clock_of w.past) c e ∙ ap (λ (now : ℕ). says_of now st ls (taken c)) (sym G.in_step.clock),
      settled p (step w (taken c)) cs _ _ on (view-own S G.right c e a said),
    ))
    (λ e. rw e (settled p (step w (taken c)) cs st ls on (view-other S G.right c e a said)))

-- nothing is there to be seen of no calls
pub nothing : (p : ℕ) → View p start (λ l. none) []
nothing p = record { stories = λ l o. unfold story in refl; own = unfold only labels in refl; zero = refl }

pub isolation : Isolation
unfolding begin
isolation row other e f cs ds p same =
    same-turns (λ l. none) [] (turns p (emptied row) cs) (turns p (emptied other) ds)
    (settled p (begin row) cs (λ l. none) [] (good-begin row e) (nothing p))
    (settled p (begin other) ds (λ l. none) [] (good-begin other f) (nothing p)) same
