-- A label's calls settle what they are told: two lives in which the same is asked are the same.
-- Assumes nothing.
use Prim.Native.Nat.{ℕ}
use native.Mathlib.Omega.{arith}
use mathlib.Core.Path.{◌≡◌, refl, sym, ap, ◌∙◌, subst}
use mathlib.Core.Bool.{Bool, true, false, cond}
use mathlib.Core.Option.{Option, none, some}
use mathlib.Core.List.{List, [], ◌∷◌, Memᴰ}
use lib.Dec.{eqb}
use borrow.Author.Tests.{eqb-true, eq-eqb}
use Rattle.octets.specs.Choice.{need, bar}
use Rattle.octets.proofs.Chain.{need-passed, bar-passed}
use Rattle.message.specs.Message.{message_of}
use Rattle.rules.specs.declared.Settings.{Settings}
use Rattle.rules.specs.Times.{late}
use Rattle.rules.specs.Settings.{settings_fit}
use Rattle.rules.specs.Lists.{any}
use Rattle.rules.specs.Calls.{Act, Close, Lock, Unlock, Receive, ReportOn, WriteCc, WriteCv, Call, Tick, Open, On, Said, is_accepted, number_only}
use Rattle.rules.proofs.Bools.{split, no_way, or_left}
use Rattle.rules.proofs.Lists.{any_at, any-who}
use Rattle.meaning.specs.Stories.{Story, opened, lock, unlock, got, wrote_cc}
use Rattle.meaning.specs.Histories.{History, start, after, clock_of, more, act_told, told, story, labels}
use Rattle.meaning.specs.Answers.{is_open, claims, rival, full, open_number, act_said, says_of, says}
use Rattle.meaning.specs.Lives.{is_on, Made, goes_on, lives, Asked, asked_in}

-- 1. What a call on an open label says, from its story and the clock alone.

says_on : ℕ → Option Story → Call → Said
says_on now p (Tick t) = number_only (Tick t) 0
says_on now p (Open g t) = number_only (Open g t) (bar (late now t) 1 (need (settings_fit g) 10 11))
says_on now p (On l a) = act_said now p l a

own : (now : ℕ) (st : ℕ → Option Story) (ls : List ℕ) (l : ℕ) (c : Call) → is_on l c ≡ true → any (eqb l) ls ≡ true → says_of now st ls c ≡ says_on now (st l) c
unfolding says_of says_on open_number rival
own now st ls l (Tick t) e o = no_way e refl
own now st ls l (Open g t) e o =
    let w = any-who (eqb l) ls o in
    let same : l ≡ w.0 = eqb-true l w.0 w.2 in
    let r : any (claims st g) ls ≡ true =
    any_at (claims st g) w.1
    (or_left _ (eq-eqb w.0 g.label (sym same ∙ sym (eqb-true g.label l e)))) in
    rw r
own now st ls l (On m a) e o = ap (λ (k : ℕ). act_said now (st k) m a) (eqb-true m l e)

-- 2. A label's story, from its latest life.

pub life : ℕ → History → List Made
life l start = []
life l (after h c a) =
    cond (is_on l c)
    (cond (is_open (story l h)) (record { before = clock_of h; call = c; said = a } ∷ life l h)
    (cond (is_open (story l (after h c a))) (record { before = clock_of h; call = c; said = a } ∷ []) (life l h)))
    (life l h)

first : List (List Made) → List Made
first [] = []
first (x ∷ xs) = x

first_on_lem : (m : Made) (xs : List (List Made)) → first (goes_on m xs) ≡ m ∷ first xs
unfolding first goes_on
first_on_lem m [] = refl
first_on_lem m (x ∷ xs) = refl

life-first : (l : ℕ) (h : History) → life l h ≡ first (lives l h)
unfolding life lives first
life-first l start = refl
life-first l (after h c a) =
    split (is_on l c)
    (λ e. split (is_open (story l h))
    (λ o. simp (e, o)
    (ap (λ (ms : List Made). record { before = clock_of h; call = c; said = a } ∷ ms) (life-first l h)
    ∙ sym (first_on_lem (record { before = clock_of h; call = c; said = a }) (lives l h))))
    (λ o. split (is_open (story l (after h c a))) (λ n. simp (e, o, n)) (λ n. simp (e, o, n) (life-first l h))))
    (λ e. simp e (life-first l h))

replay : ℕ → List Made → Option Story
replay l [] = none
replay l (m ∷ ms) = cond (is_accepted m.said) (told l m.call (replay l ms)) (replay l ms)

pub told-off : (l : ℕ) (c : Call) (p : Option Story) → is_on l c ≡ false → told l c p ≡ p
told-off l (Tick t) p e = refl
told-off l (Open g t) p e = rw e
told-off l (On m a) p e = rw e

shut : (p : Option Story) → is_open p ≡ false → p ≡ none
shut none e = refl
shut (some s) e = no_way refl e

cond_same : {A : Type 0} (b : Bool) (x : A) → cond b x x ≡ x
cond_same true x = refl
cond_same false x = refl

story-life : (l : ℕ) (h : History) → story l h ≡ replay l (life l h)
unfolding story life replay
story-life l start = refl
story-life l (after h c a) =
    split (is_on l c)
    (λ e. split (is_open (story l h))
    (λ o. simp (e, o) (ap (λ (p : Option Story). cond (is_accepted a) (told l c p) p) (story-life l h)))
    (λ o. split (is_open (story l (after h c a)))
    (λ n. simp (e, o, n) (ap (λ (p : Option Story). cond (is_accepted a) (told l c p) p) (shut (story l h) o)))
    (λ n. simp (e, o, n) (shut (story l (after h c a)) n ∙ sym (sym (story-life l h) ∙ shut (story l h) o)))))
    (λ e. simp e
    (ap (λ (p : Option Story). cond (is_accepted a) p (story l h)) (told-off l c (story l h) e) ∙ cond_same (is_accepted a) (story l h) ∙ story-life l h))

-- 3. A life whose calls settle what they are told.

due : ℕ → List Made → ℕ → Call → Said
due l [] now c = number_only c 0
due l (m ∷ ms) now c = says_on now (replay l (m ∷ ms)) c

pub Settled : ℕ → List Made → Type 0
Settled l [] = Unit {0}
Settled l (m ∷ ms) = (m.said ≡ due l ms m.before m.call) × Settled l ms

pub same-made : (l : ℕ) (xs ys : List Made) → Settled l xs → Settled l ys → asked_in xs ≡ asked_in ys → xs ≡ ys
unfolding Settled asked_in
same-made l [] [] a b e = refl
same-made l [] (y ∷ ys) a b e = absurd (let z : ◌≡◌ {A = ℕ} 0 1 = cc in omega arith)
same-made l (x ∷ xs) [] a b e = absurd (let z : ◌≡◌ {A = ℕ} 0 1 = cc in omega arith)
same-made l (x ∷ xs) (y ∷ ys) a b e =
    let t : asked_in xs ≡ asked_in ys = cc in
    let r : xs ≡ ys = same-made l xs ys a.1 b.1 t in
    let hd : ◌≡◌ {A = Asked} (record { before = x.before; call = x.call }) (record { before = y.before; call = y.call }) = cc in
    let p : x.before ≡ y.before = ap (λ (q : Asked). q.before) hd in
    let c : x.call ≡ y.call = ap (λ (q : Asked). q.call) hd in
    let w : x.said ≡ y.said = a.0 ∙ (λ i. due l (r i) (p i) (c i)) ∙ sym b.0 in
    λ i. record { before = p i; call = c i; said = w i } ∷ r i

due-open : (l : ℕ) (ms : List Made) (now : ℕ) (c : Call) → is_open (replay l ms) ≡ true → due l ms now c ≡ says_on now (replay l ms) c
unfolding due replay
due-open l [] now c e = no_way e refl
due-open l (m ∷ ms) now c e = refl

-- a call that opens a label is an open that answers 0
pub act-shut : (a : Act) → act_told a none ≡ none
act-shut (Close t) = refl
act-shut (Lock t) = refl
act-shut (Unlock t) = refl
act-shut (Receive m t) = refl
act-shut ReportOn = refl
act-shut (WriteCc b) = refl
act-shut (WriteCv b) = refl

still-shut : (b x : Bool) (a : Act) → is_open (cond b (cond x (act_told a none) none) none) ≡ true → ⊥
still-shut true true a e = no_way (ap is_open (sym (act-shut a)) ∙ e) refl
still-shut true false a e = no_way e refl
still-shut false x a e = no_way e refl

opening : (now : ℕ) (st : ℕ → Option Story) (ls : List ℕ) (l : ℕ) (c : Call) (a : Said) → a ≡ says_of now st ls c → (p : Option Story) → p ≡ none
    → is_open (cond (is_accepted a) (told l c p) p) ≡ true → a ≡ number_only c 0
unfolding says_of
opening now st ls l (Tick t) a z p e o =
    absurd (no_way (ap (λ (q : Option Story). is_open (cond (is_accepted a) q q)) (sym e) ∙ o) (ap is_open (cond_same (is_accepted a) none)))
opening now st ls l (Open g t) a z p e o =
    split (is_accepted a)
    (λ y. z ∙ ap (number_only (Open g t)) (eqb-true _ 0 (ap is_accepted (sym z) ∙ y)))
    (λ y. absurd (no_way (ap is_open (sym e) ∙ rw y at o) refl))
opening now st ls l (On m x) a z p e o =
    absurd (still-shut (is_accepted a) (eqb m l) x (ap (λ (q : Option Story). is_open (cond (is_accepted a) (cond (eqb m l) (act_told x q) q) q)) (sym e) ∙ o))

-- the story after one call more
story-after : (h : History) (c : Call) (a : Said) (l : ℕ) → is_open (story l (after h c a)) ≡ true → is_open (cond (is_accepted a) (told l c (story l h)) (story l h)) ≡ true
unfolding story
story-after h c a l e = e

-- 4. Every life.

pub All : ℕ → List (List Made) → Type 0
All l [] = Unit {0}
All l (x ∷ xs) = Settled l x × All l xs

all-on : (l : ℕ) (m : Made) (xs : List (List Made)) → All l xs → Settled l (m ∷ first xs) → All l (goes_on m xs)
unfolding All goes_on first
all-on l m [] q s = (s, tt)
all-on l m (x ∷ xs) q s = (s, q.1)

pub all-at : (l : ℕ) {x : List Made} {xs : List (List Made)} → All l xs → Memᴰ x xs → Settled l x
unfolding All
all-at l q (Memᴰ.head {x = y} {xs} e) = rw e q.0
all-at l q (Memᴰ.tail {x = y} {xs} m) = all-at l q.1 m

module _ (h : History) (c : Call) (a : Said) (l : ℕ) where
  -- a call on an open label says what is due, and one that opens it 0
  settled-next : (is_on l c ≡ true → is_open (story l h) ≡ true → a ≡ due l (life l h) (clock_of h) c)
      → (is_open (story l h) ≡ false → is_open (story l (after h c a)) ≡ true → a ≡ number_only c 0) → Settled l (life l h) → Settled l (life l (after h c a))
  unfolding life Settled due
  settled-next here opens q =
      split (is_on l c)
      (λ e. split (is_open (story l h))
      (λ o. simp (e, o) (here e o, q))
      (λ o. split (is_open (story l (after h c a))) (λ n. simp (e, o, n) (opens o n, tt)) (λ n. simp (e, o, n) q)))
      (λ e. simp e q)

  all-next : Settled l (life l (after h c a)) → All l (lives l h) → All l (lives l (after h c a))
  unfolding life lives All
  all-next s q =
      split (is_on l c)
      (λ e. split (is_open (story l h))
      (λ o. simp (e, o)
      (all-on l (record { before = clock_of h; call = c; said = a }) (lives l h) q
      (subst (λ (ms : List Made). Settled l (record { before = clock_of h; call = c; said = a } ∷ ms)) (life-first l h) (simp (e, o) at s))))
      (λ o. split (is_open (story l (after h c a))) (λ n. simp (e, o, n) (simp (e, o, n) at s, q)) (λ n. simp (e, o, n) q)))
      (λ e. simp e q)

-- the latest life and all lives of every label, settled
pub record Told (h : History) : Type 0 where
  pub latest : (l : ℕ) → Settled l (life l h)
  pub all : (l : ℕ) → All l (lives l h)

pub told-start : Told start
unfolding life lives Settled All
told-start = record { latest = λ l. tt; all = λ l. tt }

-- one call more, that said what the paper says, where the open labels are listed
pub told-next : (h : History) (c : Call) (a : Said) → a ≡ says h c → ((l : ℕ) → any (eqb l) (labels h) ≡ is_open (story l h)) → Told h → Told (after h c a)
unfolding says
told-next h c a z listed T =
    record { latest = λ l. latest l; all = λ l. all-next h c a l (latest l) (T.all l) }
  where
    here : (l : ℕ) → is_on l c ≡ true → is_open (story l h) ≡ true → a ≡ due l (life l h) (clock_of h) c
    here l e o =
        z ∙ own (clock_of h) (λ m. story m h) (labels h) l c e (listed l ∙ o)
        ∙ ap (λ (p : Option Story). says_on (clock_of h) p c) (story-life l h)
        ∙ sym (due-open l (life l h) (clock_of h) c (ap is_open (sym (story-life l h)) ∙ o))

    latest : (l : ℕ) → Settled l (life l (after h c a))
    latest l =
        settled-next h c a l (here l)
        (λ o n. opening (clock_of h) (λ m. story m h) (labels h) l c a z (story l h) (shut (story l h) o) (story-after h c a l n))
        (T.latest l)
