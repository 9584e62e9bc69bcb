-- A loss stands exactly where the calls account for one, after any history.
-- Assumes nothing.
use Prim.Native.Nat.{ℕ, suc, ◌+◌, ◌*◌, ◌<◌}
use native.Mathlib.Omega.{arith}
use mathlib.Core.Path.{◌≡◌, refl, sym, ap, ◌∙◌, subst, subst₂}
use mathlib.Core.Bool.{Bool, true, false, cond, not, ◌&&◌}
use mathlib.Core.Option.{Option, none, some}
use mathlib.Core.List.{List}
use lib.Dec.{eqb}
use borrow.Author.Tests.{ltb-true, lt-ltb, eqb-true, eqb-false, not-true}
use Rattle.octets.proofs.Chain.{and_both}
use Rattle.bfd.specs.declared.Packet.{Packet}
use Rattle.message.specs.Message.{message_of}
use Rattle.rules.specs.declared.Settings.{Settings}
use Rattle.rules.specs.declared.Received.{Received}
use Rattle.rules.specs.declared.Received.TheVariants.{CrossedMessage, HeardCc, HeardCv, FaultMessage}
use Rattle.rules.specs.Received.{received_as}
use Rattle.rules.specs.Times.{past}
use Rattle.rules.specs.Modes.{mode_in, is_source_up}
use Rattle.rules.specs.Calls.{Act, Close, Lock, Unlock, Receive, ReportOn, WriteCc, WriteCv, Call, Tick, Open, On, Said, is_accepted}
use Rattle.rules.proofs.Bools.{split, no_way, both_true, refuted, true-false}
use Rattle.meaning.specs.Stories.{Story, opened, lock, unlock, got, wrote_cc, settings_of, is_heard}
use Rattle.meaning.specs.Standing.{mode, locked, timed_from, multiplier_by, multiplier_of, loss_in, loss, state}
use Rattle.meaning.specs.Histories.{History, start, after, more, act_told, told, story}
use Rattle.meaning.specs.Accounts.{size, Opening, ReceivedSince, LockedBefore, RealUnlock, Restart, by_opening, by_unlock, by_cc, by_cv, Multiplier, heard, unheard, AccountsForLoss}
use Rattle.meaning.proofs.Positions.{took-below as took_in}
use Rattle.meaning.proofs.LossPositions.{neither-before, by_last, carry, put, earlier, last-is, locked-on, locked-back, real-on, real-back, heard-on, heard-back, restart_on, restart-back, restart-in, restart-one, heard-in, real-in, opening-one, multiplier-one}

-- What the calls on a label since its opening say of four things: the settings, whether locked, what the detection time is timed from,
-- the multiplier.
pub record Held (h : History) (l : ℕ) (g : Settings) (b : Bool) (u k : ℕ) : Type 0 where
  pub o : ℕ
  pub t : ℕ
  pub opening : Opening h l o g t
  pub lock-there : b ≡ true → LockedBefore h l o (size h)
  pub lock-seen : LockedBefore h l o (size h) → b ≡ true
  pub at : ℕ
  pub restart : Restart h l o g at u
  pub latest : (q v : ℕ) → at < q → Restart h l o g q v → ⊥
  pub times : Multiplier h l o g k

-- the same of a story
abbrev pub Holds : History → ℕ → Story → Type 0
Holds h l s = Held h l (settings_of s) (locked s) (timed_from s) (multiplier_of s)

-- two constructors that would be one
clash : {A : Type 0} → ◌≡◌ {A = ℕ} 0 1 → A
clash e = absurd (omega arith)

-- a call that leaves the story of the label as it is
record Quiet (l : ℕ) (c : Call) (a : Said) : Type 0 where
  opens : (k : Settings) (u : ℕ) → Open k u ≡ c → is_accepted a ≡ true → k.label ≡ l → ⊥
  closes : (u : ℕ) → On l (Close u) ≡ c → is_accepted a ≡ true → ⊥
  locks : (u : ℕ) → On l (Lock u) ≡ c → is_accepted a ≡ true → ⊥
  unlocks : (u : ℕ) → On l (Unlock u) ≡ c → is_accepted a ≡ true → ⊥
  receives : (m : List ℕ) (u : ℕ) → On l (Receive m u) ≡ c → is_accepted a ≡ true → ⊥

-- a call that was not accepted
quiet-refused : (l : ℕ) (c : Call) (a : Said) → is_accepted a ≡ false → Quiet l c a
quiet-refused l c a n =
    record {
      opens = λ k u e y z. true-false y n;
      closes = λ u e y. true-false y n;
      locks = λ u e y. true-false y n;
      unlocks = λ u e y. true-false y n;
      receives = λ m u e y. true-false y n;
    }

-- a tick
quiet-tick : (l : ℕ) (t : ℕ) (a : Said) → Quiet l (Tick t) a
quiet-tick l t a =
    record {
      opens = λ k u e y z. clash (cc);
      closes = λ u e y. clash (cc);
      locks = λ u e y. clash (cc);
      unlocks = λ u e y. clash (cc);
      receives = λ m u e y. clash (cc);
    }

-- an open of another label
quiet-open : (l : ℕ) (g : Settings) (t : ℕ) (a : Said) → eqb g.label l ≡ false → Quiet l (Open g t) a
quiet-open l g t a n =
    record {
      opens = λ k u e y z. eqb-false g.label l n (let f : k ≡ g = cc e in ap (λ (x : Settings). x.label) (sym f) ∙ z);
      closes = λ u e y. clash (cc);
      locks = λ u e y. clash (cc);
      unlocks = λ u e y. clash (cc);
      receives = λ m u e y. clash (cc);
    }

-- an act on another label
quiet-other : (l m : ℕ) (x : Act) (a : Said) → eqb m l ≡ false → Quiet l (On m x) a
quiet-other l m x a n =
    record {
      opens = λ k u e y z. clash (cc);
      closes = λ u e y. eqb-false m l n (cc);
      locks = λ u e y. eqb-false m l n (cc);
      unlocks = λ u e y. eqb-false m l n (cc);
      receives = λ b u e y. eqb-false m l n (cc);
    }

-- a report
quiet-report : (l : ℕ) (a : Said) → Quiet l (On l ReportOn) a
quiet-report l a =
    record {
      opens = λ k u e y z. clash (cc);
      closes = λ u e y. clash (cc);
      locks = λ u e y. clash (cc);
      unlocks = λ u e y. clash (cc);
      receives = λ m u e y. clash (cc);
    }

-- a written CC: the story notes it, and these four things stay
quiet-cc : (l : ℕ) (b : List ℕ) (a : Said) → Quiet l (On l (WriteCc b)) a
quiet-cc l b a =
    record {
      opens = λ k u e y z. clash (cc);
      closes = λ u e y. clash (cc);
      locks = λ u e y. clash (cc);
      unlocks = λ u e y. clash (cc);
      receives = λ m u e y. clash (cc);
    }

-- a written CV
quiet-cv : (l : ℕ) (b : List ℕ) (a : Said) → Quiet l (On l (WriteCv b)) a
quiet-cv l b a =
    record {
      opens = λ k u e y z. clash (cc);
      closes = λ u e y. clash (cc);
      locks = λ u e y. clash (cc);
      unlocks = λ u e y. clash (cc);
      receives = λ m u e y. clash (cc);
    }

-- one call more, of a session that is open
module _ (h : History) (l : ℕ) (c : Call) (a : Said) (o : ℕ) (g : Settings) where
  -- the opening stays, if the call neither opens nor closes the label
  opening_on : (t : ℕ) → ((k : Settings) (u : ℕ) → Open k u ≡ c → is_accepted a ≡ true → k.label ≡ l → ⊥)
      → ((u : ℕ) → On l (Close u) ≡ c → is_accepted a ≡ true → ⊥) → Opening h l o g t → Opening (after h c a) l o g t
  unfolding size
  opening_on t opens closes w =
      record {
        took = carry h c a o _ w.took;
        label = w.label;
        latest =
            λ r u k i v e.
            by_last r (size h) (took_in (after h c a) r _ v) (λ j. w.latest r u k i (earlier h c a r _ j v) e)
            (λ j. let s = last-is h c a r (Open k u) j v in opens k u s.0 s.1 e);
        unclosed =
            λ r u i v.
            by_last r (size h) (took_in (after h c a) r _ v) (λ j. w.unclosed r u i (earlier h c a r _ j v))
            (λ j. let s = last-is h c a r (On l (Close u)) j v in closes u s.0 s.1);
      }

  -- a lock stays, if the call is no unlock
  locked-stays : ((u : ℕ) → On l (Unlock u) ≡ c → is_accepted a ≡ true → ⊥) → LockedBefore h l o (size h) → LockedBefore (after h c a) l o (size (after h c a))
  unfolding size
  locked-stays unlocks k =
      record {
        at = k.at;
        reading = k.reading;
        since = k.since;
        before = omega arith;
        took = carry h c a _ _ k.took;
        still =
            λ q u i j w.
            by_last q (size h) j (λ x. k.still q u i x (earlier h c a q _ x w))
            (λ x. let s = last-is h c a q (On l (Unlock u)) x w in unlocks u s.0 s.1);
      }

  -- a lock was there before, if the call is none
  locked-was : ((u : ℕ) → On l (Lock u) ≡ c → is_accepted a ≡ true → ⊥) → LockedBefore (after h c a) l o (size (after h c a)) → LockedBefore h l o (size h)
  unfolding size
  locked-was locks k =
      by_last k.at (size h) k.before
      (λ x.
      record {
        at = k.at;
        reading = k.reading;
        since = k.since;
        before = x;
        took = earlier h c a _ _ x k.took;
        still = λ q u i j w. k.still q u i (omega arith) (carry h c a q _ w);
      })
      (λ x. absurd (let s = last-is h c a k.at (On l (Lock k.reading)) x k.took in locks k.reading s.0 s.1))

  -- the call is no real unlock, if it is no unlock or finds no lock
  not-real : ((u : ℕ) → On l (Unlock u) ≡ c → is_accepted a ≡ true → LockedBefore h l o (size h) → ⊥) → (p t : ℕ) → p ≡ size h → RealUnlock (after h c a) l o p t → ⊥
  not-real f p t e r =
      let s = last-is h c a p (On l (Unlock t)) e r.took in
      f t s.0 s.1
      (locked-back h c a l o (size h) (omega arith) (subst (λ (q : ℕ). LockedBefore (after h c a) l o q) e r.locked))

  -- the call is no message that was x
  not-heard : (x : Received) → ((m : List ℕ) (u : ℕ) → On l (Receive m u) ≡ c → is_accepted a ≡ true → received_as g (message_of m) ≡ x → ⊥)
      → (p t : ℕ) → p ≡ size h → ReceivedSince (after h c a) l o g p t x → ⊥
  not-heard x f p t e r =
      let n = r.message in
      let s = last-is h c a p (On l (Receive n.0 t)) e n.1 in
      f n.0 t s.0 s.1 n.2

  -- a call that is neither, and comes after the opening, restarts nothing
  not-restart : o < size h → ((p t : ℕ) → p ≡ size h → RealUnlock (after h c a) l o p t → ⊥)
      → ((x : Packet) (p t : ℕ) → p ≡ size h → ReceivedSince (after h c a) l o g p t (HeardCc x) → ⊥)
      → ((p t : ℕ) → p ≡ size h → ReceivedSince (after h c a) l o g p t HeardCv → ⊥) → (p t : ℕ) → p ≡ size h → Restart (after h c a) l o g p t → ⊥
  not-restart i real cc' cv p t e (by_opening f w) = omega arith
  not-restart i real cc' cv p t e (by_unlock r) = real p t e r
  not-restart i real cc' cv p t e (by_cc x m) = cc' x p t e m
  not-restart i real cc' cv p t e (by_cv m) = cv p t e m

  -- and the latest restart stays the latest
  latest-on : (at : ℕ) → ((q v : ℕ) → at < q → Restart h l o g q v → ⊥) → ((p t : ℕ) → p ≡ size h → Restart (after h c a) l o g p t → ⊥)
      → (q v : ℕ) → at < q → Restart (after h c a) l o g q v → ⊥
  unfolding size
  latest-on at f n q v i r =
      by_last q (size h) (restart-in (after h c a) l o g q v r) (λ j. f q v i (restart-back h c a l o g q v j r)) (λ j. n q v j r)

  -- the multiplier stays, if the call is no heard CC and no real unlock
  times-on : {k : ℕ} → ((p t : ℕ) → p ≡ size h → RealUnlock (after h c a) l o p t → ⊥)
      → ((x : Packet) (p t : ℕ) → p ≡ size h → ReceivedSince (after h c a) l o g p t (HeardCc x) → ⊥) → Multiplier h l o g k → Multiplier (after h c a) l o g k
  unfolding size
  times-on real cc' (heard p t x m last unreal) =
      heard p t x (heard-on h c a l o g p t _ m)
      (λ q u y i n.
      by_last q (size h) (heard-in (after h c a) l o g q u _ n) (λ j. last q u y i (heard-back h c a l o g q u _ j n)) (λ j. cc' y q u j n))
      (λ q u i r.
      by_last q (size h) (real-in (after h c a) l o q u r) (λ j. unreal q u i (real-back h c a l o q u j r)) (λ j. real q u j r))
  times-on real cc' (unheard f) =
      unheard
      (λ p t x m.
      by_last p (size h) (heard-in (after h c a) l o g p t _ m)
      (λ j. let r = f p t x (heard-back h c a l o g p t _ j m) in (r.0, r.1, r.2, real-on h c a l o r.0 r.1 r.3))
      (λ j. absurd (cc' x p t j m)))

  -- the call as a heard CC: its multiplier
  times-heard : (t : ℕ) (x : Packet) → ReceivedSince (after h c a) l o g (size h) t (HeardCc x) → Multiplier (after h c a) l o g x.multiplier
  unfolding size
  times-heard t x m =
      heard (size h) t x m
      (λ q u y i n. let j : q < size (after h c a) = heard-in (after h c a) l o g q u _ n in omega arith)
      (λ q u i r. let j : q < size (after h c a) = real-in (after h c a) l o q u r in omega arith)

  -- the call as a restart is the latest
  latest-new : (q v : ℕ) → size h < q → Restart (after h c a) l o g q v → ⊥
  unfolding size
  latest-new q v i r = let j : q < size (after h c a) = restart-in (after h c a) l o g q v r in omega arith

-- the session opens
held-opened : (h : History) (l : ℕ) (g : Settings) (t : ℕ) (a : Said) → is_accepted a ≡ true → g.label ≡ l → Held (after h (Open g t) a) l g false t 3
unfolding size
held-opened h l g t a y e =
    record {
      o = size h;
      t = t;
      opening =
          record {
            took = put h (Open g t) a y;
            label = e;
            latest = λ p u k i w f. let j : p < suc (size h) = took_in (after h (Open g t) a) p (Open k u) w in omega arith;
            unclosed = λ p u i w. let j : p < suc (size h) = took_in (after h (Open g t) a) p (On l (Close u)) w in omega arith;
          };
      lock-there = λ z. no_way z refl;
      lock-seen = λ k. absurd (omega arith);
      at = size h;
      restart = by_opening refl (put h (Open g t) a y);
      latest = latest-new h l (Open g t) a (size h) g;
      times =
          unheard
          (λ p u x m.
          absurd
          (let j : p < suc (size h) = heard-in (after h (Open g t) a) l (size h) g p u (HeardCc x) m in let i : size h < p = m.since in omega arith));
    }

-- one call more on a session of which the calls say these four things
module _ (h : History) (l : ℕ) (g : Settings) (b : Bool) (u k : ℕ) (I : Held h l g b u k) (a : Said) where
  -- the opening came earlier
  since-opening : I.o < size h
  since-opening = took_in h I.o (Open g I.t) I.opening.took

  -- a call that restarts nothing leaves the timing as it is
  same-timing : (c : Call) (d : Bool) → Opening (after h c a) l I.o g I.t
      → (d ≡ true → LockedBefore (after h c a) l I.o (size (after h c a))) → (LockedBefore (after h c a) l I.o (size (after h c a)) → d ≡ true)
      → ((v : ℕ) → On l (Unlock v) ≡ c → is_accepted a ≡ true → LockedBefore h l I.o (size h) → ⊥)
      → ((m : List ℕ) (v : ℕ) → On l (Receive m v) ≡ c → is_accepted a ≡ true → is_heard (received_as g (message_of m)) ≡ true → ⊥) → Held (after h c a) l g d u k
  same-timing c d w there seen unlocks hears =
      let real = not-real h l c a I.o g unlocks in
      let cc' : (x : Packet) (p t : ℕ) → p ≡ size h → ReceivedSince (after h c a) l I.o g p t (HeardCc x) → ⊥ =
      λ x. not-heard h l c a I.o g (HeardCc x) (λ m v e y f. hears m v e y (ap is_heard f)) in
      let cv = not-heard h l c a I.o g HeardCv (λ m v e y f. hears m v e y (ap is_heard f)) in
      record {
        o = I.o;
        t = I.t;
        opening = w;
        lock-there = there;
        lock-seen = seen;
        at = I.at;
        restart = restart_on h c a l I.o g I.at u I.restart;
        latest = latest-on h l c a I.o g I.at I.latest (not-restart h l c a I.o g since-opening real cc' cv);
        times = times-on h l c a I.o g real cc' I.times;
      }

  -- a call that leaves the story as it is
  held-quiet : (c : Call) → Quiet l c a → Held (after h c a) l g b u k
  held-quiet c q =
      same-timing c b (opening_on h l c a I.o g I.t q.opens q.closes I.opening)
      (λ e. locked-stays h l c a I.o g q.unlocks (I.lock-there e))
      (λ w. I.lock-seen (locked-was h l c a I.o g q.locks w))
      (λ v e y w. q.unlocks v e y)
      (λ m v e y f. q.receives m v e y)

  -- an accepted lock
  held-locked : (t : ℕ) → is_accepted a ≡ true → Held (after h (On l (Lock t)) a) l g true u k
  unfolding size
  held-locked t y =
      let c : Call = On l (Lock t) in
      same-timing c true
      (opening_on h l c a I.o g I.t (λ n v e z f. clash (cc)) (λ v e z. clash (cc)) I.opening)
      (λ e.
      record {
        at = size h;
        reading = t;
        since = since-opening;
        before = omega arith;
        took = put h c a y;
        still = λ q v i j w. omega arith;
      })
      (λ w. refl)
      (λ v e z w. clash (cc))
      (λ m v e z f. clash (cc))

  -- after an accepted unlock nothing is locked
  not-locked : (t : ℕ) → is_accepted a ≡ true
      → LockedBefore (after h (On l (Unlock t)) a) l I.o (size (after h (On l (Unlock t)) a)) → ⊥
  unfolding size
  not-locked t y w =
      let c : Call = On l (Unlock t) in
      by_last w.at (size h) w.before
      (λ i. w.still (size h) t i (omega arith) (put h c a y))
      (λ i. let s = last-is h c a w.at (On l (Lock w.reading)) i w.took in let e : On l (Lock w.reading) ≡ On l (Unlock t) = s.0 in clash (cc))

  -- an unlock leaves the opening
  unlock-opening : (t : ℕ) → Opening (after h (On l (Unlock t)) a) l I.o g I.t
  unlock-opening t =
      opening_on h l (On l (Unlock t)) a I.o g I.t (λ n v e z f. clash (cc)) (λ v e z. clash (cc)) I.opening

  -- an unlock of a session that is not locked
  held-unlocked-idle : (t : ℕ) → is_accepted a ≡ true → b ≡ false → Held (after h (On l (Unlock t)) a) l g false u k
  held-unlocked-idle t y n =
      same-timing (On l (Unlock t)) false (unlock-opening t) (λ e. no_way e refl) (λ w. absurd (not-locked t y w))
      (λ v e z w. true-false (I.lock-seen w) n)
      (λ m v e z f. clash (cc))

  -- a real unlock
  held-unlocked-real : (t : ℕ) → is_accepted a ≡ true → b ≡ true → Held (after h (On l (Unlock t)) a) l g false t 3
  unfolding size
  held-unlocked-real t y e =
      let c : Call = On l (Unlock t) in
      let r : RealUnlock (after h c a) l I.o (size h) t =
      record { took = put h c a y; locked = locked-on h c a l I.o (size h) (omega arith) (I.lock-there e) } in
      record {
        o = I.o;
        t = I.t;
        opening = unlock-opening t;
        lock-there = λ z. no_way z refl;
        lock-seen = λ w. absurd (not-locked t y w);
        at = size h;
        restart = by_unlock r;
        latest = latest-new h l c a I.o g;
        times =
            unheard
            (λ p v x m.
            by_last p (size h) (heard-in (after h c a) l I.o g p v (HeardCc x) m) (λ i. (size h, t, i, r))
            (λ i. absurd (not-heard h l c a I.o g (HeardCc x) (λ n s f z d. clash (cc)) p v i m)));
      }

  -- an accepted unlock, real or not
  held-unlocked : (t : ℕ) → is_accepted a ≡ true → Held (after h (On l (Unlock t)) a) l g false (cond b t u) (cond b 3 k)
  held-unlocked t y =
      split b
      (λ e. rw e (held-unlocked-real t y e))
      (λ e. rw e (held-unlocked-idle t y e))

  -- an accepted message
  module _ (m : List ℕ) (t : ℕ) (y : is_accepted a ≡ true) where
    -- it leaves the opening
    got-opening : Opening (after h (On l (Receive m t)) a) l I.o g I.t
    got-opening =
        opening_on h l (On l (Receive m t)) a I.o g I.t (λ n v e z f. clash (cc)) (λ v e z. clash (cc)) I.opening

    -- it leaves the session locked
    got-there : b ≡ true → LockedBefore (after h (On l (Receive m t)) a) l I.o (size (after h (On l (Receive m t)) a))
    got-there e = locked-stays h l (On l (Receive m t)) a I.o g (λ v f z. clash (cc)) (I.lock-there e)

    -- or not locked
    got-seen : LockedBefore (after h (On l (Receive m t)) a) l I.o (size (after h (On l (Receive m t)) a)) → b ≡ true
    got-seen w = I.lock-seen (locked-was h l (On l (Receive m t)) a I.o g (λ v f z. clash (cc)) w)

    -- what a message at the last position was to the session is what this one was
    got_same : (n : List ℕ) (v : ℕ) → On l (Receive n v) ≡ On l (Receive m t) → received_as g (message_of n) ≡ received_as g (message_of m)
    got_same n v e = let f : n ≡ m = cc e in ap (λ (z : List ℕ). received_as g (message_of z)) f

    -- it stands at the last position
    got-heard : (x : Received) → received_as g (message_of m) ≡ x → ReceivedSince (after h (On l (Receive m t)) a) l I.o g (size h) t x
    got-heard x e = record { message = (m, put h (On l (Receive m t)) a y, e); since = since-opening }

    -- it is no unlock
    got-real : (p v : ℕ) → p ≡ size h → RealUnlock (after h (On l (Receive m t)) a) l I.o p v → ⊥
    got-real = not-real h l (On l (Receive m t)) a I.o g (λ v e z w. clash (cc))

    -- one that was not heard
    held-unheard : is_heard (received_as g (message_of m)) ≡ false → Held (after h (On l (Receive m t)) a) l g b u k
    held-unheard n =
        same-timing (On l (Receive m t)) b got-opening got-there got-seen (λ v e z w. clash (cc))
        (λ p v e z f. true-false f (ap is_heard (got_same p v e) ∙ n))

    -- crossed, heard CC, heard CV or fault
    held-got : (x : Received) → received_as g (message_of m) ≡ x → Held (after h (On l (Receive m t)) a) l g b (cond (is_heard x) t u) (multiplier_by x k)
    held-got CrossedMessage e = held-unheard (ap is_heard e)
    held-got (HeardCc x) e =
        record {
          o = I.o;
          t = I.t;
          opening = got-opening;
          lock-there = got-there;
          lock-seen = got-seen;
          at = size h;
          restart = by_cc x (got-heard (HeardCc x) e);
          latest = latest-new h l (On l (Receive m t)) a I.o g;
          times = times-heard h l (On l (Receive m t)) a I.o g t x (got-heard (HeardCc x) e);
        }
    held-got HeardCv e =
        record {
          o = I.o;
          t = I.t;
          opening = got-opening;
          lock-there = got-there;
          lock-seen = got-seen;
          at = size h;
          restart = by_cv (got-heard HeardCv e);
          latest = latest-new h l (On l (Receive m t)) a I.o g;
          times =
              times-on h l (On l (Receive m t)) a I.o g got-real
              (λ x. not-heard h l (On l (Receive m t)) a I.o g (HeardCc x)
              (λ n v f z d. let j : HeardCc x ≡ HeardCv = sym d ∙ got_same n v f ∙ e in clash (cc j)))
              I.times;
        }
    held-got (FaultMessage f) e = held-unheard (ap is_heard e)

-- what a story that goes on went on from
more-some : (f : Story → Story) (o : Option Story) (s : Story) → more f o ≡ some s → (r : Story) × (o ≡ some r) × (f r ≡ s)
more-some f none s e = clash (cc)
more-some f (some r) s e = (r, refl, (cc e))

module _ (h : History) (l : ℕ) (before : (s : Story) → story l h ≡ some s → Holds h l s) (a : Said) (y : is_accepted a ≡ true) (s : Story) where
  -- an accepted act on the label
  holds-act : (x : Act) → act_told x (story l h) ≡ some s → Holds (after h (On l x) a) l s
  unfolding settings_of locked timed_from multiplier_of
  holds-act (Close t) e = clash (cc)
  holds-act (Lock t) e =
      let r = more-some (λ z. lock z t) (story l h) s e in
      subst (λ (z : Story). Holds (after h (On l (Lock t)) a) l z) r.2 (held-locked h l _ _ _ _ (before r.0 r.1) a t y)
  holds-act (Unlock t) e =
      let r = more-some (λ z. unlock z t) (story l h) s e in
      subst (λ (z : Story). Holds (after h (On l (Unlock t)) a) l z) r.2 (held-unlocked h l _ _ _ _ (before r.0 r.1) a t y)
  holds-act (Receive m t) e =
      let r = more-some (λ z. got z (message_of m) t) (story l h) s e in
      subst (λ (z : Story). Holds (after h (On l (Receive m t)) a) l z) r.2 (held-got h l _ _ _ _ (before r.0 r.1) a m t y _ refl)
  holds-act ReportOn e = held-quiet h l _ _ _ _ (before s e) a (On l ReportOn) (quiet-report l a)
  holds-act (WriteCc b) e =
      let r = more-some wrote_cc (story l h) s e in
      subst (λ (z : Story). Holds (after h (On l (WriteCc b)) a) l z) r.2 (held-quiet h l _ _ _ _ (before r.0 r.1) a (On l (WriteCc b)) (quiet-cc l b a))
  holds-act (WriteCv b) e = held-quiet h l _ _ _ _ (before s e) a (On l (WriteCv b)) (quiet-cv l b a)

  -- an accepted call
  holds-call : (c : Call) → told l c (story l h) ≡ some s → Holds (after h c a) l s
  unfolding settings_of locked timed_from multiplier_of
  holds-call (Tick t) e = held-quiet h l _ _ _ _ (before s e) a (Tick t) (quiet-tick l t a)
  holds-call (Open g t) e =
      split (eqb g.label l)
      (λ z.
      let f : opened g t ≡ s = cc (ap (λ (b : Bool). cond b (some (opened g t)) (story l h)) (sym z) ∙ e) in
      subst (λ (r : Story). Holds (after h (Open g t) a) l r) f (held-opened h l g t a y (eqb-true g.label l z)))
      (λ z.
      held-quiet h l _ _ _ _ (before s (ap (λ (b : Bool). cond b (some (opened g t)) (story l h)) (sym z) ∙ e)) a (Open g t) (quiet-open l g t a z))
  holds-call (On m x) e =
      split (eqb m l)
      (λ z.
      subst (λ (n : ℕ). Holds (after h (On n x) a) l s) (sym (eqb-true m l z))
      (holds-act x (ap (λ (b : Bool). cond b (act_told x (story l h)) (story l h)) (sym z) ∙ e)))
      (λ z.
      held-quiet h l _ _ _ _ (before s (ap (λ (b : Bool). cond b (act_told x (story l h)) (story l h)) (sym z) ∙ e)) a (On m x) (quiet-other l m x a z))

-- of every open session the calls since its opening say what its story says
pub holds : (h : History) (l : ℕ) (s : Story) → story l h ≡ some s → Holds h l s
unfolding story
holds start l s e = clash (cc)
holds (after h c a) l s e =
    split (is_accepted a)
    (λ y. holds-call h l (holds h l) a y s c (ap (λ (b : Bool). cond b (told l c (story l h)) (story l h)) (sym y) ∙ e))
    (λ n.
    held-quiet h l _ _ _ _ (holds h l s (ap (λ (b : Bool). cond b (told l c (story l h)) (story l h)) (sym n) ∙ e)) a c (quiet-refused l c a n))

-- an open session has an opening, with its story's settings
pub has-opening : (h : History) (l : ℕ) (s : Story) → story l h ≡ some s → (o : ℕ) × (t : ℕ) × Opening h l o (settings_of s) t
has-opening h l s e = let I = holds h l s e in (I.o, I.t, I.opening)

-- an open session, and its opening
module _ (h : History) (l : ℕ) (s : Story) (e : story l h ≡ some s) (o : ℕ) (g : Settings) (t : ℕ) (w : Opening h l o g t) where
  -- the opening is the one that the story began with
  pub the-opening : ((holds h l s e).o ≡ o) × (settings_of s ≡ g) × ((holds h l s e).t ≡ t)
  the-opening = let I = holds h l s e in opening-one h l I.o (settings_of s) I.t o g t I.opening w

  -- locked exactly where a lock since the opening has no unlock after it
  pub locked-accounted : (locked s ≡ true → LockedBefore h l o (size h)) × (LockedBefore h l o (size h) → locked s ≡ true)
  locked-accounted =
      let I = holds h l s e in
      let p : I.o ≡ o = the-opening.0 in (
        λ z. subst (λ (q : ℕ). LockedBefore h l q (size h)) p (I.lock-there z),
        λ z. I.lock-seen (subst (λ (q : ℕ). LockedBefore h l q (size h)) (sym p) z),
      )

  -- the latest restart has the reading that the story is timed from
  pub restart-there : (p : ℕ) × Restart h l o g p (timed_from s) × ((q u : ℕ) → p < q → Restart h l o g q u → ⊥)
  restart-there =
      let I = holds h l s e in (
        I.at,
        subst₂ (λ (q : ℕ) (k : Settings). Restart h l q k I.at (timed_from s)) the-opening.0 the-opening.1 I.restart,
        λ q u i r. I.latest q u i (subst₂ (λ (j : ℕ) (k : Settings). Restart h l j k q u) (sym the-opening.0) (sym the-opening.1) r),
      )

  -- and no other latest restart has another
  pub restart-reading : (p u : ℕ) → Restart h l o g p u → ((q v : ℕ) → p < q → Restart h l o g q v → ⊥) → u ≡ timed_from s
  restart-reading p u r last =
      let m = restart-there in
      let f : p ≡ m.0 = neither-before p m.0 (λ i. last m.0 (timed_from s) i m.1) (λ i. m.2 p u i r) in
      restart-one h l o g m.0 u (timed_from s) (subst (λ (q : ℕ). Restart h l o g q u) f r) m.1

  -- the story's multiplier is one by the calls
  pub multiplier-there : Multiplier h l o g (multiplier_of s)
  multiplier-there =
      subst₂ (λ (q : ℕ) (k : Settings). Multiplier h l q k (multiplier_of s)) the-opening.0 the-opening.1 (holds h l s e).times

  -- a number is the multiplier by the calls exactly where it is the story's
  pub multiplier-accounted : (k : ℕ) → (Multiplier h l o g k → k ≡ multiplier_of s) × (k ≡ multiplier_of s → Multiplier h l o g k)
  multiplier-accounted k =
      (λ m. multiplier-one h l o g m multiplier-there, λ f. subst (λ (j : ℕ). Multiplier h l o g j) (sym f) multiplier-there)

-- a label has one story
pub one-story : (h : History) (l : ℕ) (s r : Story) → story l h ≡ some s → story l h ≡ some r → r ≡ s
one-story h l s r e f = let z : some r ≡ some s = sym f ∙ e in cc

-- a loss stands exactly where a call accounts for it: not locked, no source in UP, and more than period times multiplier has gone since the latest restart
pub loss-accounted : (h : History) (l : ℕ) (s : Story) → story l h ≡ some s → (now : ℕ)
    → (loss now s ≡ true → (p : ℕ) × AccountsForLoss h l now p) × ((p : ℕ) → AccountsForLoss h l now p → loss now s ≡ true)
unfolding loss_in past
loss-accounted h l s e now = (there, back)
  where
    lost : Bool
    lost = not (locked s) && (not (is_source_up (mode s) (state s)) && past (timed_from s) ((settings_of s).period * multiplier_of s) now)

    there : lost ≡ true → (p : ℕ) × AccountsForLoss h l now p
    there z =
        let I = holds h l s e in
        let up = is_source_up (mode s) (state s) in
        let overdue = past (timed_from s) ((settings_of s).period * multiplier_of s) now in
        let x = and_both (not (locked s)) (not up && overdue) z in
        let y = and_both (not up) overdue x.1 in (
          I.at,
          record {
            o = I.o;
            settings = settings_of s;
            opened_at = I.t;
            opening = I.opening;
            reading = timed_from s;
            restart = I.restart;
            latest = I.latest;
            unlocked = λ k. true-false (I.lock-seen k) (not-true (locked s) x.0);
            exposed = λ r f. ap (λ (q : Story). is_source_up (mode s) (state q)) (one-story h l s r e f) ∙ not-true up y.0;
            multiplier = multiplier_of s;
            times = I.times;
            over = ltb-true (timed_from s + (settings_of s).period * multiplier_of s) now y.1;
          },
        )

    back : (p : ℕ) → AccountsForLoss h l now p → lost ≡ true
    back p A =
        let f : A.reading ≡ timed_from s = restart-reading h l s e A.o A.settings A.opened_at A.opening p A.reading A.restart A.latest in
        let k : A.multiplier ≡ multiplier_of s =
        (multiplier-accounted h l s e A.o A.settings A.opened_at A.opening A.multiplier).0 A.times in
        let g : settings_of s ≡ A.settings = (the-opening h l s e A.o A.settings A.opened_at A.opening).1 in
        let n : locked s ≡ false =
        refuted (locked s) (λ z. A.unlocked ((locked-accounted h l s e A.o A.settings A.opened_at A.opening).0 z)) in
        let q : A.reading + A.settings.period * A.multiplier ≡ timed_from s + (settings_of s).period * multiplier_of s =
        λ i. f i + (sym g i).period * k i in
        let x : is_source_up (mode s) (state s) ≡ false = ap (λ (j : Settings). is_source_up (mode_in j) (state s)) g ∙ A.exposed s e in
        both_true (ap not n)
        (both_true (ap not x)
        (lt-ltb (timed_from s + (settings_of s).period * multiplier_of s) now (subst (λ (x : ℕ). x < now) q A.over)))
