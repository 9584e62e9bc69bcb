-- A mark is the last position since the opening at which its call was what the mark says. Once for every kind of mark.
-- Assumes nothing.
use Prim.Native.Nat.{ℕ, suc, ◌<◌}
use native.Mathlib.Omega.{arith}
use mathlib.Core.Path.{◌≡◌, refl, sym, ap, ◌∙◌, subst}
use mathlib.Core.Bool.{Bool, true, false, cond, ◌&&◌}
use mathlib.Core.Option.{Option, none, some}
use lib.Dec.{eqb}
use borrow.Author.Tests.{eqb-true, eqb-false}
use Rattle.message.specs.Message.{message_of}
use Rattle.rules.specs.declared.Settings.{Settings}
use Rattle.rules.specs.Calls.{Act, Close, Lock, Unlock, Receive, ReportOn, WriteCc, WriteCv, Call, Tick, Open, On, Said, is_accepted}
use Rattle.rules.proofs.Bools.{split, true-false}
use Rattle.rules.proofs.Failing.{and_right}
use Rattle.meaning.specs.Stories.{Story, opened, lock, unlock, got, wrote_cc, settings_of}
use Rattle.meaning.specs.Histories.{History, start, after, act_reading, act_told, told, clock_of, story}
use Rattle.meaning.specs.Accounts.{size, Opening}
use Rattle.meaning.proofs.Positions.{named, bounding, carried, unnamed, opening-kept, opening-new, none_open}
use Rattle.meaning.proofs.LossPositions.{by_last}
use Rattle.cause.specs.Marks.{Mark, marked, acted, marked_by, last_mark}

-- two values that would be one
pub clash : {A : Type 0} → ◌≡◌ {A = ℕ} 0 1 → A
clash e = absurd (omega arith)

-- nothing is not something
pub none-some : {A : Type 0} {B : Type 0} {x : A} → none ≡ some x → B
none-some e = clash (cc)

-- an act on another label bounds nothing
pub other-label : (l : ℕ) (a : Said) (b : Act) (k : ℕ) → eqb k l ≡ false → named bounding l (On k b) && is_accepted a ≡ false
other-label l a b k i = ap (λ (c : Bool). c && is_accepted a) (and_right (bounding b) i)

-- What is said of a position since an opening, by the calls alone, and how one call more carries it: a kind of mark. `P h l o g p u x`: in the history h, of the
-- session of l opened at o with the settings g, the call at p with the reading u was x.
pub record Kind {A : Type 0} (first : Option A) (pick : Story → Act → Option A) (P : History → ℕ → ℕ → Settings → ℕ → ℕ → A → Type 0) : Type 0 where
  pub on : (h : History) (d : Call) (a : Said) (l o : ℕ) (g : Settings) (p u : ℕ) (x : A) → P h l o g p u x → P (after h d a) l o g p u x
  pub back : (h : History) (d : Call) (a : Said) (l o : ℕ) (g : Settings) (p u : ℕ) (x : A) → p < size h → P (after h d a) l o g p u x → P h l o g p u x
  pub inside : (h : History) (l o : ℕ) (g : Settings) (p u : ℕ) (x : A) → P h l o g p u x → p < size h
  -- what the opening was
  pub opens : (h : History) (a : Said) (l : ℕ) (g : Settings) (t : ℕ) (x : A) → is_accepted a ≡ true → first ≡ some x → P (after h (Open g t) a) l (size h) g (size h) t x
  pub opens_not : (h : History) (a : Said) (l : ℕ) (g : Settings) (t p u : ℕ) (x : A) → first ≡ none → P (after h (Open g t) a) l (size h) g p u x → ⊥
  -- what the last call was, from the story before it
  pub acts : (h : History) (a : Said) (l o : ℕ) (r : Story) (v : ℕ) (b : Act) (x : A) → story l h ≡ some r → Opening h l o (settings_of r) v
      → is_accepted a ≡ true → pick r b ≡ some x → P (after h (On l b) a) l o (settings_of r) (size h) (act_reading b (clock_of h)) x
  pub acted-so : (h : History) (d : Call) (a : Said) (l o : ℕ) (r : Story) (v p u : ℕ) (x : A) → story l h ≡ some r → Opening h l o (settings_of r) v
      → p ≡ size h → P (after h d a) l o (settings_of r) p u x → (b : Act) × (d ≡ On l b) × (is_accepted a ≡ true) × (pick r b ≡ some x)

-- what an act on a label that is open after it left of the story before
story-before : (b : Act) (o : Option Story) {s : Story} → act_told b o ≡ some s → (r : Story) × (o ≡ some r) × (settings_of s ≡ settings_of r) × (bounding b ≡ false)
unfolding settings_of
story-before (Close t) o e = none-some e
story-before (Lock t) none e = none-some e
story-before (Lock t) (some r) {s} e = let z : s ≡ lock r t = cc in (r, refl, ap settings_of z, refl)
story-before (Unlock t) none e = none-some e
story-before (Unlock t) (some r) {s} e = let z : s ≡ unlock r t = cc in (r, refl, ap settings_of z, refl)
story-before (Receive m t) none e = none-some e
story-before (Receive m t) (some r) {s} e = let z : s ≡ got r (message_of m) t = cc in (r, refl, ap settings_of z, refl)
story-before ReportOn o {s} e = (s, e, refl, refl)
story-before (WriteCc b) none e = none-some e
story-before (WriteCc b) (some r) {s} e = let z : s ≡ wrote_cc r = cc in (r, refl, ap settings_of z, refl)
story-before (WriteCv b) o {s} e = (s, e, refl, refl)

module _ {A : Type 0} (P : History → ℕ → ℕ → Settings → ℕ → ℕ → A → Type 0) where
  -- what a mark of an open label says of the positions since its opening
  pub record Known (h : History) (l : ℕ) (g : Settings) (m : Option (Mark A)) : Type 0 where
    pub o : ℕ
    pub t : ℕ
    pub opening : Opening h l o g t
    pub there : (k : Mark A) → m ≡ some k → P h l o g k.position k.reading k.what
    pub latest : (k : Mark A) → m ≡ some k → (q u : ℕ) (y : A) → k.position < q → P h l o g q u y → ⊥
    pub nothing : m ≡ none → (q u : ℕ) (y : A) → P h l o g q u y → ⊥

module _ {A : Type 0} {first : Option A} {pick : Story → Act → Option A} {P : History → ℕ → ℕ → Settings → ℕ → ℕ → A → Type 0} (K : Kind first pick P) where
  -- one call more that leaves the opening
  module _ {h : History} {d : Call} {a : Said} {l : ℕ} {g : Settings} {m : Option (Mark A)} (I : Known P h l g m) (n : named bounding l d && is_accepted a ≡ false) where
    still_open : Opening (after h d a) l I.o g I.t
    still_open = opening-kept (carried bounding l h d a n) (λ u. refl) I.opening

    -- and was nothing
    known-quiet : ((p u : ℕ) (x : A) → p ≡ size h → P (after h d a) l I.o g p u x → ⊥) → Known P (after h d a) l g m
    unfolding size
    known-quiet not_last =
        record {
          o = I.o;
          t = I.t;
          opening = still_open;
          there = λ k e. K.on h d a l _ g _ _ _ (I.there k e);
          latest = λ k e q u y i w.
              by_last q (size h) (K.inside (after h d a) l _ g q u y w) (λ j. I.latest k e q u y i (K.back h d a l _ g q u y j w)) (λ j. not_last q u y j w);
          nothing = λ e q u y w.
              by_last q (size h) (K.inside (after h d a) l _ g q u y w) (λ j. I.nothing e q u y (K.back h d a l _ g q u y j w)) (λ j. not_last q u y j w);
        }

    -- or something
    known-new : (u : ℕ) (x : A) → P (after h d a) l I.o g (size h) u x → Known P (after h d a) l g (some (record { position = size h; reading = u; what = x }))
    unfolding size
    known-new u x w =
        let mark : Mark A = record { position = size h; reading = u; what = x } in
        record {
          o = I.o;
          t = I.t;
          opening = still_open;
          there = λ k e. let f : mark ≡ k = cc in subst (λ (j : Mark A). P (after h d a) l I.o g j.position j.reading j.what) f w;
          latest = λ k e q v y i z.
              let f : mark ≡ k = cc in
              let b : k.position ≡ size h = ap (λ (j : Mark A). j.position) (sym f) in
              let c : q < suc (size h) = K.inside (after h d a) l _ g q v y z in omega arith;
          nothing = λ e q v y z. none-some (sym e);
        }

  -- the opening itself
  known-open : (h : History) (a : Said) (l : ℕ) (g : Settings) (t : ℕ) → is_accepted a ≡ true → g.label ≡ l → (f : Option A) → first ≡ f
      → Known P (after h (Open g t) a) l g (marked f (size h) t none)
  unfolding size
  known-open h a l g t y own none e =
      record {
        o = size h;
        t = t;
        opening = opening-new h (Open g t) a refl y own;
        there = λ k z. none-some z;
        latest = λ k z q u x i w. none-some z;
        nothing = λ z q u x w. K.opens_not h a l g t q u x e w;
      }
  known-open h a l g t y own (some x) e =
      let mark : Mark A = record { position = size h; reading = t; what = x } in
      record {
        o = size h;
        t = t;
        opening = opening-new h (Open g t) a refl y own;
        there = λ k z.
            let f : mark ≡ k = cc in
            subst (λ (j : Mark A). P (after h (Open g t) a) l (size h) g j.position j.reading j.what) f (K.opens h a l g t x y e);
        latest = λ k z q v r i w.
            let f : mark ≡ k = cc in
            let b : k.position ≡ size h = ap (λ (j : Mark A). j.position) (sym f) in
            let c : q < suc (size h) = K.inside (after h (Open g t) a) l _ g q v r w in omega arith;
        nothing = λ z q v r w. none-some (sym z);
      }

  -- an accepted act on the label
  module _ (h : History) (a : Said) (l : ℕ) (r : Story) (m : Option (Mark A)) (f : story l h ≡ some r) (I : Known P h l (settings_of r) m) (y : is_accepted a ≡ true) (b : Act)
      (n : bounding b ≡ false) where
    not-bounding : named bounding l (On l b) && is_accepted a ≡ false
    not-bounding = rw n

    known-act : (x : Option A) → pick r b ≡ x → Known P (after h (On l b) a) l (settings_of r) (marked x (size h) (act_reading b (clock_of h)) m)
    known-act none e =
        known-quiet I not-bounding
        (λ p u x i w.
        let z = K.acted-so h (On l b) a l _ r _ p u x f I.opening i w in
        let j : b ≡ z.0 = cc z.1 in
        none-some (sym e ∙ ap (pick r) j ∙ z.3))
    known-act (some x) e = known-new I not-bounding _ x (K.acts h a l _ r _ b x f I.opening y e)

    pub known-acted : Known P (after h (On l b) a) l (settings_of r) (marked (acted pick (story l h) b) (size h) (act_reading b (clock_of h)) m)
    known-acted = rw f (known-act (pick r b) refl)

  -- a call that is none on the label
  known-other : (h : History) (d : Call) (a : Said) (l : ℕ) (s : Story) {m : Option (Mark A)} → story l h ≡ some s → Known P h l (settings_of s) m
      → named bounding l d && is_accepted a ≡ false → ((b : Act) → d ≡ On l b → is_accepted a ≡ true → ⊥) → Known P (after h d a) l (settings_of s) m
  known-other h d a l s f I n none_here =
      known-quiet I n (λ p u x i w. let z = K.acted-so h d a l _ s _ p u x f I.opening i w in none_here z.0 z.1 z.2)

  -- an accepted call
  module _ (h : History) (a : Said) (l : ℕ) (s : Story) (m : Option (Mark A)) (before : (r : Story) → story l h ≡ some r → Known P h l (settings_of r) m)
      (y : is_accepted a ≡ true) where
    known-taken : (d : Call) → told l d (story l h) ≡ some s → Known P (after h d a) l (settings_of s) (marked_by first pick l (size h) (clock_of h) (story l h) d m)
    unfolding settings_of
    known-taken (Tick t) e = known-other h (Tick t) a l s e (before s e) refl (λ b z w. clash (cc))
    known-taken (Open g t) e =
        split (eqb g.label l)
        (λ i.
        let f : s ≡ opened g t = cc (ap (λ (b : Bool). cond b (some (opened g t)) (story l h)) (sym i) ∙ e) in
        rw (i, f) (known-open h a l g t y (eqb-true g.label l i) first refl))
        (λ i.
        let f : story l h ≡ some s = ap (λ (b : Bool). cond b (some (opened g t)) (story l h)) (sym i) ∙ e in
        rw i (known-other h (Open g t) a l s f (before s f) (rw i) (λ b z w. clash (cc))))
    known-taken (On k b) e =
        split (eqb k l)
        (λ i.
        let j : k ≡ l = eqb-true k l i in
        let z = story-before b (story l h) {s = s} (ap (λ (c : Bool). cond c (act_told b (story l h)) (story l h)) (sym i) ∙ e) in
        rw (i, j, z.2) (known-acted h a l z.0 m z.1 (before z.0 z.1) y b z.3))
        (λ i.
        let f : story l h ≡ some s = ap (λ (c : Bool). cond c (act_told b (story l h)) (story l h)) (sym i) ∙ e in
        rw i (known-other h (On k b) a l s f (before s f) (other-label l a b k i) (λ c z w. eqb-false k l i (cc z))))

  -- by the last call
  pub known : (h : History) (l : ℕ) (s : Story) → story l h ≡ some s → Known P h l (settings_of s) (last_mark first pick l h)
  unfolding last_mark story
  known start l s e = none_open l s e
  known (after h d a) l s e =
      split (is_accepted a)
      (λ y. rw y (known-taken h a l s (last_mark first pick l h) (known h l) y d (ap (λ (b : Bool). cond b (told l d (story l h)) (story l h)) (sym y) ∙ e)))
      (λ n.
      let f : story l h ≡ some s = ap (λ (b : Bool). cond b (told l d (story l h)) (story l h)) (sym n) ∙ e in
      rw n (known-other h d a l s f (known h l s f) (unnamed bounding l d a n) (λ b z w. true-false w n)))
