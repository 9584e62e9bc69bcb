-- Positions in a history: one accepted call at each, and what one call more leaves of locks, real unlocks, heard messages and restarts.
-- Assumes nothing.
use Prim.Native.Nat.{ℕ, suc, ◌≤◌, ◌<◌}
use native.Mathlib.Omega.{arith}
use mathlib.Core.Path.{◌≡◌, refl, sym, ap, ◌∙◌, subst}
use mathlib.Core.Bool.{true}
use mathlib.Core.List.{List}
use mathlib.Core.Logic.{inl, inr}
use lib.Dec.{ltb}
use borrow.Author.Tests.{ltb-true, ltb-false}
use Rattle.bfd.specs.declared.Packet.{Packet}
use Rattle.message.specs.Message.{message_of}
use Rattle.rules.specs.declared.Settings.{Settings}
use Rattle.rules.specs.declared.Received.{Received}
use Rattle.rules.specs.declared.Received.TheVariants.{HeardCc}
use Rattle.rules.specs.Received.{received_as}
use Rattle.rules.specs.Calls.{Unlock, Receive, Call, Open, On, Said, is_accepted}
use Rattle.rules.proofs.Bools.{split}
use Rattle.meaning.specs.Histories.{History, start, after, reading}
use Rattle.meaning.proofs.Positions.{took-below as took_in, took-same as Took-one, took-on, took-new, took-before}
use Rattle.meaning.specs.Accounts.{size, Took, Opening, ReceivedSince, LockedBefore, RealUnlock, Restart, by_opening, by_unlock, by_cc, by_cv, Multiplier, heard, unheard}

-- two positions are one, if neither is the earlier
pub neither-before : (p q : ℕ) → (p < q → ⊥) → (q < p → ⊥) → p ≡ q
neither-before p q u v = omega arith

-- a position is before the last, or the last
pub by_last : {A : Type 0} (p n : ℕ) → p < suc n → (p < n → A) → (p ≡ n → A) → A
by_last p n e f g = split (ltb p n) (λ z. f (ltb-true p n z)) (λ z. g (let y : n ≤ p = ltb-false p n z in omega arith))

-- one call more
module _ (h : History) (c : Call) (a : Said) where
  -- what was accepted before stays
  pub carry : (p : ℕ) (d : Call) → Took h p d → Took (after h c a) p d
  carry p d w = took-on h c a p d w

  -- the call stands at the last position, if accepted
  pub put : is_accepted a ≡ true → Took (after h c a) (size h) c
  put y = took-new h c a refl y

  -- what stands earlier was there before
  pub earlier : (p : ℕ) (d : Call) → p < size h → Took (after h c a) p d → Took h p d
  earlier p d e w = took-before h c a p d e w

  -- what stands at the last position is the call, accepted
  pub last-is : (p : ℕ) (d : Call) → p ≡ size h → Took (after h c a) p d → (d ≡ c) × (is_accepted a ≡ true)
  unfolding Took
  last-is p d e (inl w) = (w.1, w.2)
  last-is p d e (inr w) = absurd (let z : p < size h = took_in h p d w in omega arith)

  module _ (l o : ℕ) where
    -- whether a session was locked before an earlier position, the call does not alter
    pub locked-on : (p : ℕ) → p ≤ size h → LockedBefore h l o p → LockedBefore (after h c a) l o p
    locked-on p e k =
        record {
          at = k.at;
          reading = k.reading;
          since = k.since;
          before = k.before;
          took = carry _ _ k.took;
          still = λ q u i j w. k.still q u i j (earlier q _ (omega arith) w);
        }

    -- and the other way
    pub locked-back : (p : ℕ) → p ≤ size h → LockedBefore (after h c a) l o p → LockedBefore h l o p
    locked-back p e k =
        record {
          at = k.at;
          reading = k.reading;
          since = k.since;
          before = k.before;
          took = earlier _ _ (omega arith) k.took;
          still = λ q u i j w. k.still q u i j (carry q _ w);
        }

    -- nor which earlier unlocks are real
    pub real-on : (p t : ℕ) → RealUnlock h l o p t → RealUnlock (after h c a) l o p t
    real-on p t r =
        let e : p < size h = took_in h p _ r.took in
        record { took = carry p _ r.took; locked = locked-on p (omega arith) r.locked }

    -- and the other way
    pub real-back : (p t : ℕ) → p < size h → RealUnlock (after h c a) l o p t → RealUnlock h l o p t
    real-back p t e r = record { took = earlier p _ e r.took; locked = locked-back p (omega arith) r.locked }

    module _ (g : Settings) where
      -- nor which earlier messages were heard
      pub heard-on : (p t : ℕ) (x : Received) → ReceivedSince h l o g p t x → ReceivedSince (after h c a) l o g p t x
      heard-on p t x m =
          let n = m.message in record { message = (n.0, carry p _ n.1, n.2); since = m.since }

      -- and the other way
      pub heard-back : (p t : ℕ) (x : Received) → p < size h → ReceivedSince (after h c a) l o g p t x → ReceivedSince h l o g p t x
      heard-back p t x e m =
          let n = m.message in record { message = (n.0, earlier p _ e n.1, n.2); since = m.since }

      -- nor what the detection time was timed from earlier
      pub restart_on : (p t : ℕ) → Restart h l o g p t → Restart (after h c a) l o g p t
      restart_on p t (by_opening e w) = by_opening e (carry o _ w)
      restart_on p t (by_unlock r) = by_unlock (real-on p t r)
      restart_on p t (by_cc k m) = by_cc k (heard-on p t _ m)
      restart_on p t (by_cv m) = by_cv (heard-on p t _ m)

      -- and the other way
      pub restart-back : (p t : ℕ) → p < size h → Restart (after h c a) l o g p t → Restart h l o g p t
      restart-back p t i (by_opening e w) = by_opening e (earlier o _ (omega arith) w)
      restart-back p t i (by_unlock r) = by_unlock (real-back p t i r)
      restart-back p t i (by_cc k m) = by_cc k (heard-back p t _ i m)
      restart-back p t i (by_cv m) = by_cv (heard-back p t _ i m)

-- a restart is an accepted call that brings its reading
pub restart-call : (h : History) (l o : ℕ) (g : Settings) (p t : ℕ) → Restart h l o g p t → (c : Call) × Took h p c × (reading c 0 ≡ t)
restart-call h l o g p t (by_opening e w) = (Open g t, subst (λ (q : ℕ). Took h q (Open g t)) (sym e) w, refl)
restart-call h l o g p t (by_unlock r) = (On l (Unlock t), r.took, refl)
restart-call h l o g p t (by_cc k m) = let n = m.message in (On l (Receive n.0 t), n.1, refl)
restart-call h l o g p t (by_cv m) = let n = m.message in (On l (Receive n.0 t), n.1, refl)

-- so it stands inside the history
pub restart-in : (h : History) (l o : ℕ) (g : Settings) (p t : ℕ) → Restart h l o g p t → p < size h
restart-in h l o g p t r = let c = restart-call h l o g p t r in took_in h p c.0 c.1

-- a restart at one position has one reading
pub restart-one : (h : History) (l o : ℕ) (g : Settings) (p t u : ℕ) → Restart h l o g p t → Restart h l o g p u → t ≡ u
restart-one h l o g p t u r s =
    let c = restart-call h l o g p t r in
    let d = restart-call h l o g p u s in
    sym c.2 ∙ ap (λ (x : Call). reading x 0) (Took-one h p c.0 d.0 c.1 d.1) ∙ d.2

-- a message that was heard stands inside the history
pub heard-in : (h : History) (l o : ℕ) (g : Settings) (p t : ℕ) (x : Received) → ReceivedSince h l o g p t x → p < size h
heard-in h l o g p t x m = let n = m.message in took_in h p (On l (Receive n.0 t)) n.1

-- and so does a real unlock
pub real-in : (h : History) (l o p t : ℕ) → RealUnlock h l o p t → p < size h
real-in h l o p t r = took_in h p (On l (Unlock t)) r.took

-- a message that was heard at one position is one
pub heard-one : (h : History) (l o : ℕ) (g : Settings) (p t u : ℕ) (x y : Received) → ReceivedSince h l o g p t x → ReceivedSince h l o g p u y → x ≡ y
heard-one h l o g p t u x y m n =
    let a = m.message in
    let b = n.message in
    let e : On l (Receive a.0 t) ≡ On l (Receive b.0 u) = Took-one h p _ _ a.1 b.1 in
    let f : a.0 ≡ b.0 = cc e in
    sym a.2 ∙ ap (λ (z : List ℕ). received_as g (message_of z)) f ∙ b.2

-- an opening is one: its position, its settings, its reading
pub opening-one : (h : History) (l o : ℕ) (g : Settings) (t : ℕ) (p : ℕ) (k : Settings) (u : ℕ)
    → Opening h l o g t → Opening h l p k u → (o ≡ p) × (g ≡ k) × (t ≡ u)
opening-one h l o g t p k u v w =
    let e : o ≡ p = neither-before o p (λ i. v.latest p u k i w.took w.label) (λ i. w.latest o t g i v.took v.label) in
    let f : Open g t ≡ Open k u = Took-one h p _ _ (subst (λ (q : ℕ). Took h q (Open g t)) e v.took) w.took in
    (e, (cc f), (cc f))

-- a multiplier is one
pub multiplier-one : (h : History) (l o : ℕ) (g : Settings) {j k : ℕ} → Multiplier h l o g j → Multiplier h l o g k → j ≡ k
multiplier-one h l o g (heard p t a m last1 real1) (heard q u b n last2 real2) =
    let e : p ≡ q = neither-before p q (λ i. last1 q u b i n) (λ i. last2 p t a i m) in
    let f : HeardCc a ≡ HeardCc b = heard-one h l o g q t u (HeardCc a) (HeardCc b) (subst (λ (r : ℕ). ReceivedSince h l o g r t (HeardCc a)) e m) n in
    let k : a ≡ b = cc f in
    ap (λ (x : Packet). x.multiplier) k
multiplier-one h l o g (heard p t a m last1 real1) (unheard f) = let r = f p t a m in absurd (real1 r.0 r.1 r.2 r.3)
multiplier-one h l o g (unheard f) (heard p t a m last1 real1) = let r = f p t a m in absurd (real1 r.0 r.1 r.2 r.3)
multiplier-one h l o g (unheard e) (unheard f) = refl
