-- The latest life of an open label is its calls from its opening on.
-- Assumes nothing.
use Prim.Native.Nat.{ℕ, ◌≤◌, ◌<◌}
use native.Mathlib.Omega.{arith}
use mathlib.Core.Path.{◌≡◌, refl, sym, ap, ◌∙◌, subst}
use mathlib.Core.Bool.{Bool, true, false, cond}
use mathlib.Core.Option.{Option}
use mathlib.Core.List.{List, [], ◌∷◌}
use mathlib.Core.Logic.{⊎_elim}
use lib.Dec.{eqb, leb}
use borrow.Author.Tests.{eqb-true, eq-eqb, le-leb, lt-leb}
use Rattle.octets.specs.Choice.{need, bar}
use Rattle.octets.proofs.Chain.{need-passed, bar-passed}
use Rattle.rules.specs.declared.Settings.{Settings}
use Rattle.rules.specs.Times.{late}
use Rattle.rules.specs.Settings.{settings_fit}
use Rattle.rules.specs.Lists.{any}
use Rattle.rules.specs.Calls.{Act, Close, Lock, Unlock, Receive, ReportOn, WriteCc, WriteCv, Call, Tick, Open, On, Said, is_accepted}
use Rattle.rules.proofs.Bools.{split, refuted, true-false, or_left}
use Rattle.rules.proofs.Lists.{any_at, any-who}
use Rattle.meaning.specs.Stories.{Story}
use Rattle.meaning.specs.Histories.{History, start, after, clock_of, act_told, told, story, labels}
use Rattle.meaning.specs.Answers.{is_open, claims, rival, full, open_number, says_of, says}
use Rattle.meaning.specs.Accounts.{size, Took, Opening}
use Rattle.meaning.specs.Lives.{is_on, Made, goes_on, lives, calls_from}
use Rattle.meaning.proofs.Positions.{took-below, took-on, took-new, took-cases}
use Rattle.meaning.proofs.Sim.{more-open}

-- every accepted open found its label shut
unfoldable pub Begun : History → Type 0
Begun start = Unit {0}
Begun (after h c a) = Begun h × ((g : Settings) (t : ℕ) → c ≡ Open g t → is_accepted a ≡ true → is_open (story g.label h) ≡ false)

pub begun-start : Begun start
unfolding Begun
begun-start = tt

-- as where it said what the paper says, and the open labels are listed: an open label is a rival
shut-before : (h : History) (g : Settings) (t : ℕ) → ((l : ℕ) → any (eqb l) (labels h) ≡ is_open (story l h)) → is_accepted (says h (Open g t)) ≡ true
    → is_open (story g.label h) ≡ false
unfolding says says_of open_number rival
shut-before h g t listed y =
    let l = g.label in
    let st : ℕ → Option Story = λ m. story m h in
    let named = claims st g in
    let b = bar-passed (late (clock_of h) t) 0 (need (settings_fit g) 10 (bar (any named (labels h)) 11 (bar (full l (labels h)) 12 0))) (eqb-true _ 0 y) in
    let c = need-passed (settings_fit g) 9 (bar (any named (labels h)) 11 (bar (full l (labels h)) 12 0)) b.1 in
    let d = bar-passed (any named (labels h)) 10 (bar (full l (labels h)) 12 0) c.1 in
    refuted (is_open (story l h))
    (λ e.
    let w = any-who (eqb l) (labels h) (listed l ∙ e) in
    true-false (any_at named w.1 (or_left _ (eq-eqb w.0 l (sym (eqb-true l w.0 w.2))))) d.0)

pub begun-next : (h : History) (c : Call) (a : Said) → a ≡ says h c → ((l : ℕ) → any (eqb l) (labels h) ≡ is_open (story l h)) → Begun h → Begun (after h c a)
unfolding Begun
begun-next h c a z listed B = (B, λ g t e y. shut-before h g t listed (ap (λ (d : Call). is_accepted (says h d)) (sym e) ∙ ap is_accepted (sym z) ∙ y))

-- an open label stays open but for an accepted close
act-open : (x : Act) (p : Option Story) → is_open p ≡ true → ((u : ℕ) → x ≡ Close u → ⊥) → is_open (act_told x p) ≡ true
act-open (Close t) p e k = absurd (k t refl)
act-open (Lock t) p e k = more-open _ p ∙ e
act-open (Unlock t) p e k = more-open _ p ∙ e
act-open (Receive m t) p e k = more-open _ p ∙ e
act-open ReportOn p e k = e
act-open (WriteCc b) p e k = more-open _ p ∙ e
act-open (WriteCv b) p e k = e

told-open : (l : ℕ) (y : Bool) (c : Call) (p : Option Story) → is_open p ≡ true → ((u : ℕ) → c ≡ On l (Close u) → y ≡ true → ⊥)
    → is_open (cond y (told l c p) p) ≡ true
told-open l false c p e k = e
told-open l true (Tick t) p e k = e
told-open l true (Open g t) p e k = split (eqb g.label l) (λ q. rw q) (λ q. rw q e)
told-open l true (On m x) p e k =
    split (eqb m l)
    (λ q. rw q (act-open x p e (λ u z. k u (λ i. On (eqb-true m l q i) (z i)) refl)))
    (λ q. rw q e)

-- an open label whose latest life is its calls from position o on
record Latest (h : History) (l o : ℕ) : Type 0 where
  opened : is_open (story l h) ≡ true
  earlier : List (List Made)
  life : lives l h ≡ calls_from l o h ∷ earlier

-- no call stands at the next position
none_from : (l o : ℕ) (h : History) → size h ≤ o → calls_from l o h ≡ []
unfolding calls_from size
none_from l o start b = refl
none_from l o (after h c a) b =
    let n : leb o (size h) ≡ false = lt-leb o (size h) (omega arith) in
    split (is_on l c) (λ e. simp (e, n) (none_from l o h (omega arith))) (λ e. simp e (none_from l o h (omega arith)))

-- a later call
module _ (h : History) (c : Call) (a : Said) (l o : ℕ) (b : o < size h) (L : Latest h l o) where
  still_open : ((u : ℕ) → c ≡ On l (Close u) → is_accepted a ≡ true → ⊥) → is_open (story l (after h c a)) ≡ true
  unfolding story
  still_open k = told-open l (is_accepted a) c (story l h) L.opened k

  goes_on_lem : lives l (after h c a) ≡ calls_from l o (after h c a) ∷ L.earlier
  unfolding lives calls_from goes_on
  goes_on_lem =
      let later : leb o (size h) ≡ true = le-leb o (size h) (omega arith) in
      split (is_on l c)
      (λ e. simp (e, L.opened, later) (ap (goes_on (record { before = clock_of h; call = c; said = a })) L.life))
      (λ e. simp e L.life)

  latest-on : ((u : ℕ) → c ≡ On l (Close u) → is_accepted a ≡ true → ⊥) → Latest (after h c a) l o
  latest-on k = record { opened = still_open k; earlier = L.earlier; life = goes_on_lem }

-- the open itself
module _ (h : History) (g : Settings) (t : ℕ) (a : Said) (y : is_accepted a ≡ true) (shut : is_open (story g.label h) ≡ false) where
  own : eqb g.label g.label ≡ true
  own = eq-eqb g.label g.label refl

  opens : is_open (story g.label (after h (Open g t) a)) ≡ true
  unfolding story
  opens = rw (y, own)

  begins : lives g.label (after h (Open g t) a) ≡ calls_from g.label (size h) (after h (Open g t) a) ∷ lives g.label h
  unfolding lives calls_from
  begins =
      let here : leb (size h) (size h) ≡ true = le-leb (size h) (size h) (omega arith) in
      simp (own, shut, opens, here, none_from g.label (size h) h (omega arith))

  latest-new : {c : Call} {l o : ℕ} → Open g t ≡ c → g.label ≡ l → size h ≡ o → Latest (after h c a) l o
  latest-new {c} {l} {o} e f k =
      subst (λ (p : ℕ). Latest (after h c a) l p) k
      (subst (λ (m : ℕ). Latest (after h c a) m (size h)) f
      (subst (λ (d : Call). Latest (after h d a) g.label (size h)) e (record { opened = opens; earlier = lives g.label h; life = begins })))

-- an opening before the last call
opening-earlier : (h : History) (c : Call) (a : Said) {l o t : ℕ} {g : Settings} → Opening (after h c a) l o g t → Took h o (Open g t) → Opening h l o g t
opening-earlier h c a {l} O w =
    record {
      took = w;
      label = O.label;
      latest = λ p u k i x e. O.latest p u k i (took-on h c a p (Open k u) x) e;
      unclosed = λ p u i x. O.unclosed p u i (took-on h c a p (On l (Close u)) x);
    }

latest-of : (h : History) (l o : ℕ) (g : Settings) (t : ℕ) → Begun h → Opening h l o g t → Latest h l o
unfolding Begun size
latest-of start l o g t B O = absurd (omega (arith, took-below start o (Open g t) O.took))
latest-of (after h c a) l o g t B O =
    ⊎_elim
    (λ w. latest-new h g t a w.2 (B.1 g t (sym w.1) w.2) w.1 O.label (sym w.0))
    (λ w.
    let b : o < size h = took-below h o (Open g t) w in
    latest-on h c a l o b (latest-of h l o g t B.0 (opening-earlier h c a O w)) (λ u e y. O.unclosed (size h) u b (took-new h c a e y)))
    (took-cases h c a o (Open g t) O.took)

-- of every opening
pub latest-life : (h : History) (l o : ℕ) (g : Settings) (t : ℕ) → Begun h → Opening h l o g t
    → (earlier : List (List Made)) × (lives l h ≡ calls_from l o h ∷ earlier)
latest-life h l o g t B O = let L = latest-of h l o g t B O in (L.earlier, L.life)
