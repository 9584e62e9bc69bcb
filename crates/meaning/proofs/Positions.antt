-- Positions in a history: where the accepted calls stand, the opening of an open label, the messages since, and how one more call
-- carries them on.
-- Assumes nothing.
use Prim.Native.Nat.{ℕ, ◌<◌}
use native.Mathlib.Omega.{arith}
use mathlib.Core.Path.{◌≡◌, refl, sym, ap, ◌∙◌, subst}
use mathlib.Core.Bool.{Bool, true, false, cond, ◌&&◌}
use mathlib.Core.Option.{Option, none, some}
use mathlib.Core.List.{List}
use mathlib.Core.Logic.{◌⊎◌, inl, inr, ⊎_elim}
use lib.Dec.{ltb, eqb}
use borrow.Author.Tests.{eqb-true, eq-eqb, ltb-true, ltb-false}
use Rattle.message.specs.Message.{message_of}
use Rattle.rules.specs.declared.Key.{Key}
use Rattle.rules.specs.declared.Settings.{Settings}
use Rattle.rules.specs.declared.Received.{Received}
use Rattle.rules.specs.Received.{received_as}
use Rattle.rules.specs.Calls.{Act, Close, Lock, Unlock, Receive, ReportOn, WriteCc, WriteCv, Call, Tick, Open, On, Said, is_accepted}
use Rattle.rules.proofs.Bools.{split, both_true, true-false}
use Rattle.meaning.specs.Stories.{Story, opened, lock, unlock, got, wrote_cc, settings_of}
use Rattle.meaning.specs.Standing.{crossing, stands}
use Rattle.meaning.specs.Histories.{History, start, after, more, act_told, told, story}
use Rattle.meaning.specs.Accounts.{size, Took, Opening, ReceivedSince}

-- a conjunction with a false test
and-false : (b : Bool) {c : Bool} → c ≡ false → b && c ≡ false
and-false true e = e
and-false false e = refl

-- an accepted call stands before the next position
pub took-below : (h : History) (p : ℕ) (c : Call) → Took h p c → p < size h
unfolding Took size
took-below start p c x = absurd x
took-below (after h d a) p c (inl y) = let z : p ≡ size h = y.0 in omega arith
took-below (after h d a) p c (inr y) = let z : p < size h = took-below h p c y in omega arith

-- two accepted calls at one position are one
pub took-same : (h : History) (p : ℕ) (c d : Call) → Took h p c → Took h p d → c ≡ d
unfolding Took
took-same start p c d x y = absurd x
took-same (after h e a) p c d (inl x) (inl y) = x.1 ∙ sym y.1
took-same (after h e a) p c d (inl x) (inr y) = let z : p ≡ size h = x.0 in let w : p < size h = took-below h p d y in absurd (omega arith)
took-same (after h e a) p c d (inr x) (inl y) = let z : p ≡ size h = y.0 in let w : p < size h = took-below h p c x in absurd (omega arith)
took-same (after h e a) p c d (inr x) (inr y) = took-same h p c d x y

module _ (h : History) (d : Call) (a : Said) where
  -- one more call takes none away
  pub took-on : (p : ℕ) (c : Call) → Took h p c → Took (after h d a) p c
  unfolding Took
  took-on p c x = inr x

  -- and adds itself, where it is accepted
  pub took-new : {c : Call} → d ≡ c → is_accepted a ≡ true → Took (after h d a) (size h) c
  unfolding Took
  took-new e y = inl (refl, sym e, y)

  -- what stands now stood before, or is that call
  pub took-cases : (p : ℕ) (c : Call) → Took (after h d a) p c → ((p ≡ size h) × (c ≡ d) × (is_accepted a ≡ true)) ⊎ Took h p c
  unfolding Took
  took-cases p c x = x

  -- below the last position nothing is new
  pub took-before : (p : ℕ) (c : Call) → p < size h → Took (after h d a) p c → Took h p c
  took-before p c b x = ⊎_elim (λ y. let z = y.0 in absurd (omega arith)) (λ y. y) (took-cases p c x)

  -- beyond the last position nothing stands
  pub none-beyond : (p : ℕ) (c : Call) → size h < p → Took (after h d a) p c → ⊥
  unfolding size
  none-beyond p c b x = let z : p < size (after h d a) = took-below (after h d a) p c x in omega arith

-- the calls of a label that an account names: its opens, and those of its acts that pass a test
abbrev pub named : (Act → Bool) → ℕ → Call → Bool
named w l (Tick t) = false
named w l (Open g t) = eqb g.label l
named w l (On m b) = w b && eqb m l

-- an opening names closes
abbrev pub bounding : Act → Bool
bounding (Close t) = true
bounding (Lock t) = false
bounding (Unlock t) = false
bounding (Receive m t) = false
bounding ReportOn = false
bounding (WriteCc b) = false
bounding (WriteCv b) = false

-- a message names its receive too
abbrev pub messaging : Act → Bool
messaging (Close t) = true
messaging (Lock t) = false
messaging (Unlock t) = false
messaging (Receive m t) = true
messaging ReportOn = false
messaging (WriteCc b) = false
messaging (WriteCv b) = false

-- two histories with the same named calls at the same positions
pub record Same (w : Act → Bool) (l : ℕ) (h k : History) : Type 0 where
  pub on : (p : ℕ) (c : Call) → named w l c ≡ true → Took h p c → Took k p c
  pub back : (p : ℕ) (c : Call) → named w l c ≡ true → Took k p c → Took h p c

-- either way
pub flipped : {w : Act → Bool} {l : ℕ} {h k : History} → Same w l h k → Same w l k h
flipped S = record { on = S.back; back = S.on }

-- a refused call names nothing
pub unnamed : (w : Act → Bool) (l : ℕ) (d : Call) (a : Said) → is_accepted a ≡ false → named w l d && is_accepted a ≡ false
unnamed w l d a y = and-false (named w l d) y

-- one more call that is not named, or refused, carries the rest both ways
pub carried : (w : Act → Bool) (l : ℕ) (h : History) (d : Call) (a : Said) → named w l d && is_accepted a ≡ false → Same w l h (after h d a)
carried w l h d a e =
    record {
      on = λ p c n x. took-on h d a p c x;
      back = λ p c n x.
          ⊎_elim (λ y. absurd (true-false (both_true (sym (ap (named w l) y.1) ∙ n) y.2) e)) (λ y. y) (took-cases h d a p c x);
    }

module _ {w : Act → Bool} {l : ℕ} {h k : History} (S : Same w l h k) where
  -- an opening is carried where closes are named
  pub opening-kept : ((u : ℕ) → w (Close u) ≡ true) → {o : ℕ} {g : Settings} {t : ℕ} → Opening h l o g t → Opening k l o g t
  opening-kept closes {o} {g} {t} O =
      record {
        took = S.on o (Open g t) (eq-eqb g.label l O.label) O.took;
        label = O.label;
        latest = λ p u j b x e. O.latest p u j b (S.back p (Open j u) (eq-eqb j.label l e) x) e;
        unclosed = λ p u b x. O.unclosed p u b (S.back p (On l (Close u)) (both_true (closes u) (eq-eqb l l refl)) x);
      }

  -- a message is carried where receives are named
  pub heard-kept : ((m : List ℕ) (u : ℕ) → w (Receive m u) ≡ true) → {o : ℕ} {g : Settings} {p t : ℕ} {x : Received} → ReceivedSince h l o g p t x → ReceivedSince k l o g p t x
  heard-kept receives {o} {g} {p} {t} H =
      record {
        message =
            (H.message.0, S.on p (On l (Receive H.message.0 t)) (both_true (receives H.message.0 t) (eq-eqb l l refl)) H.message.1, H.message.2);
        since = H.since;
      }

-- an open label has one opening
module _ {h : History} {l o q : ℕ} {g k : Settings} {t u : ℕ} (O : Opening h l o g t) (Q : Opening h l q k u) where
  -- neither is before the other
  pub opening-place : o ≡ q
  opening-place =
      split (ltb o q)
      (λ e. absurd (O.latest q u k (ltb-true o q e) Q.took Q.label))
      (λ e. split (ltb q o)
      (λ f. absurd (Q.latest o t g (ltb-true q o f) O.took O.label))
      (λ f. let x = ltb-false o q e in let y = ltb-false q o f in omega arith))

  -- and one position has one call
  opening-call : Open g t ≡ Open k u
  opening-call = took-same h q (Open g t) (Open k u) (subst (λ (p : ℕ). Took h p (Open g t)) opening-place O.took) Q.took

  pub opening-settings : g ≡ k
  opening-settings = let e = opening-call in cc

  pub opening-reading : t ≡ u
  opening-reading = let e = opening-call in cc

-- an accepted open of the label is its opening, with no message since
module _ (h : History) (d : Call) (a : Said) {l t : ℕ} {g : Settings} (e : d ≡ Open g t) (y : is_accepted a ≡ true) (own : g.label ≡ l) where
  pub opening-new : Opening (after h d a) l (size h) g t
  opening-new =
      record {
        took = took-new h d a e y;
        label = own;
        latest = λ p u k b x f. none-beyond h d a p (Open k u) b x;
        unclosed = λ p u b x. none-beyond h d a p (On l (Close u)) b x;
      }

  -- no message is later
  pub none-heard : {o : ℕ} {k : Settings} {v p u : ℕ} {x : Received} → Opening (after h d a) l o k v → ReceivedSince (after h d a) l o k p u x → ⊥
  none-heard {o} {k} {v} {p} {u} O H = let z : o ≡ size h = opening-place O opening-new in let b : o < p = H.since in none-beyond h d a p (On l (Receive H.message.0 u)) (omega arith) H.message.1

-- an accepted receive on the label
module _ (h : History) (d : Call) (a : Said) {l t : ℕ} {m : List ℕ} (e : d ≡ On l (Receive m t)) (y : is_accepted a ≡ true) where
  -- leaves the opening where it is
  same-bounds : Same bounding l h (after h d a)
  same-bounds = carried bounding l h d a (ap (λ (c : Call). named bounding l c && is_accepted a) e)

  pub opening-after : {o : ℕ} {g : Settings} {v : ℕ} → Opening h l o g v → Opening (after h d a) l o g v
  opening-after O = opening-kept same-bounds (λ u. refl) O

  pub opening-before : {o : ℕ} {g : Settings} {v : ℕ} → Opening (after h d a) l o g v → Opening h l o g v
  opening-before O = opening-kept (flipped same-bounds) (λ u. refl) O

  -- is a new message
  pub heard-new : {o : ℕ} {g : Settings} → o < size h → ReceivedSince (after h d a) l o g (size h) t (received_as g (message_of m))
  heard-new b = record { message = (m, took-new h d a e y, refl); since = b }

  -- and the others are the earlier ones
  pub heard-cases : {o : ℕ} {g : Settings} {p u : ℕ} {x : Received} → ReceivedSince (after h d a) l o g p u x
      → ((p ≡ size h) × (u ≡ t) × (received_as g (message_of m) ≡ x)) ⊎ ReceivedSince h l o g p u x
  heard-cases {o} {g} {p} {u} {x} H =
      ⊎_elim
      (λ z.
      let f : On l (Receive H.message.0 u) ≡ On l (Receive m t) = z.1 ∙ e in
      let n : H.message.0 ≡ m = cc in
      let v : u ≡ t = cc in
      inl (z.0, v, ap (λ (b : List ℕ). received_as g (message_of b)) (sym n) ∙ H.message.2))
      (λ z. inr (record { message = (H.message.0, z, H.message.2); since = H.since }))
      (took-cases h d a p (On l (Receive H.message.0 u)) H.message.1)

-- a message is carried over any call
pub heard-on : {h : History} (d : Call) (a : Said) {l o : ℕ} {g : Settings} {p t : ℕ} {x : Received} → ReceivedSince h l o g p t x → ReceivedSince (after h d a) l o g p t x
heard-on {h} d a {l} {o} {g} {p} {t} H = record { message = (H.message.0, took-on h d a p (On l (Receive H.message.0 t)) H.message.1, H.message.2); since = H.since }

-- a story that differs in no message and not in the opening
pub record Unmoved (r s : Story) : Type 0 where
  pub settings : settings_of s ≡ settings_of r
  pub crossings : (now : ℕ) → crossing now s ≡ crossing now r
  pub conditions : (now : ℕ) (key : Key) → stands now s key ≡ stands now r key

-- what the last call was to the story of a label that is open after it: its open, a message, or nothing that an account of messages names
pub data Turn (l : ℕ) (h : History) (d : Call) (a : Said) (s : Story) : Type 0 where
  by_open : (g : Settings) (t : ℕ) → d ≡ Open g t → is_accepted a ≡ true → g.label ≡ l → s ≡ opened g t → Turn l h d a s
  by_message : (r : Story) (m : List ℕ) (t : ℕ) → story l h ≡ some r → d ≡ On l (Receive m t) → is_accepted a ≡ true → s ≡ got r (message_of m) t
      → Turn l h d a s
  by_other : (r : Story) → story l h ≡ some r → named messaging l d && is_accepted a ≡ false → Unmoved r s → Turn l h d a s

-- no story is none
no-story : {A : Type 0} {s : Story} → none ≡ some s → A
no-story e = absurd (let z : ◌≡◌ {A = ℕ} 0 1 = cc in omega arith)

-- a story that goes on has one to go on from
more-some : (f : Story → Story) (o : Option Story) {s : Story} → more f o ≡ some s → (r : Story) × (o ≡ some r) × (s ≡ f r)
more-some f none e = no-story e
more-some f (some r) {s} e = let z : s ≡ f r = cc in (r, refl, z)

-- nothing alters
unmoved : (s : Story) → Unmoved s s
unmoved s = record { settings = refl; crossings = λ now. refl; conditions = λ now key. refl }

-- one step that no account of messages sees
module _ {l : ℕ} {h : History} {d : Call} {a : Said} (n : named messaging l d && is_accepted a ≡ false) where
  -- where the story goes on
  by-other : {s : Story} (f : Story → Story) → ((r : Story) → Unmoved r (f r)) → more f (story l h) ≡ some s → Turn l h d a s
  by-other f u e = let z = more-some f (story l h) e in by_other z.0 z.1 n (subst (λ (x : Story). Unmoved z.0 x) (sym z.2) (u z.0))

  -- where it does not
  by-none : {s : Story} → story l h ≡ some s → Turn l h d a s
  by-none {s} e = by_other s e n (unmoved s)

-- an accepted act on the label
turn-act : {l : ℕ} {h : History} {m : ℕ} {a : Said} {s : Story} → is_accepted a ≡ true → m ≡ l → (b : Act) → act_told b (story l h) ≡ some s → Turn l h (On m b) a s
unfolding settings_of crossing stands
turn-act y i (Close t) e = no-story e
turn-act y i (Lock t) e = by-other refl (λ r. lock r t) (λ r. record { settings = refl; crossings = λ now. refl; conditions = λ now key. refl }) e
turn-act y i (Unlock t) e = by-other refl (λ r. unlock r t) (λ r. record { settings = refl; crossings = λ now. refl; conditions = λ now key. refl }) e
turn-act {l} {h} y i (Receive m t) e =
    let z = more-some (λ r. got r (message_of m) t) (story l h) e in by_message z.0 m t z.1 (ap (λ (j : ℕ). On j (Receive m t)) i) y z.2
turn-act y i ReportOn e = by-none refl e
turn-act y i (WriteCc b) e = by-other refl wrote_cc (λ r. record { settings = refl; crossings = λ now. refl; conditions = λ now key. refl }) e
turn-act y i (WriteCv b) e = by-none refl e

-- an accepted call
turn-taken : {l : ℕ} {h : History} (d : Call) {a : Said} {s : Story} → is_accepted a ≡ true → told l d (story l h) ≡ some s → Turn l h d a s
turn-taken (Tick t) y e = by-none refl e
turn-taken {l} {h} (Open g t) {a} {s} y e = split (eqb g.label l)
    (λ i. let f : some (opened g t) ≡ some s = sym (rw i) ∙ e in let z : s ≡ opened g t = cc in by_open g t refl y (eqb-true g.label l i) z)
    (λ i. by-none (rw i) (sym (rw i) ∙ e))
turn-taken {l} {h} (On m b) {a} {s} y e = split (eqb m l)
    (λ i. turn-act y (eqb-true m l i) b (sym (rw i) ∙ e))
    (λ i. by-none (ap (λ (c : Bool). c && is_accepted a) (and-false (messaging b) i)) (sym (rw i) ∙ e))

-- any call: what the story was before it
pub turn : (l : ℕ) (h : History) (d : Call) (a : Said) (s : Story) → story l (after h d a) ≡ some s → Turn l h d a s
unfolding story
turn l h d a s e = split (is_accepted a)
    (λ y. turn-taken d y (sym (taken (is_accepted a) y) ∙ e))
    (λ y. by-none (unnamed messaging l d a y) (sym (untaken (is_accepted a) y) ∙ e))
  where
    taken : (b : Bool) → b ≡ true → cond b (told l d (story l h)) (story l h) ≡ told l d (story l h)
    taken b y = rw y

    untaken : (b : Bool) → b ≡ false → cond b (told l d (story l h)) (story l h) ≡ story l h
    untaken b y = rw y

-- before any call no label is open
pub none_open : {A : Type 0} (l : ℕ) (s : Story) → story l start ≡ some s → A
unfolding story
none_open l s e = no-story e

-- a label that is open has its opening, with the settings of its story
pub opening-told : (h : History) (l : ℕ) (s : Story) → story l h ≡ some s → (o : ℕ) × (t : ℕ) × Opening h l o (settings_of s) t
unfolding settings_of
opening-told start l s e = none_open l s e
opening-told (after h d a) l s e = by_turn (turn l h d a s e) (opening-told h l)
  where
    Opened : Settings → Type 0
    Opened g = (o : ℕ) × (t : ℕ) × Opening (after h d a) l o g t

    by_turn : Turn l h d a s → ((r : Story) → story l h ≡ some r → (o : ℕ) × (t : ℕ) × Opening h l o (settings_of r) t) → Opened (settings_of s)
    by_turn (by_open g t e y own z) earlier = subst Opened (sym (ap settings_of z)) (size h, t, opening-new h d a e y own)
    by_turn (by_message r m t f e y z) earlier =
        let O = earlier r f in subst Opened (sym (ap settings_of z)) (O.0, O.1, opening-after h d a e y O.2)
    by_turn (by_other r f n u) earlier =
        let O = earlier r f in subst Opened (sym u.settings) (O.0, O.1, opening-kept (carried messaging l h d a n) (λ u. refl) O.2)
