-- The two kinds of mark: a message of a sort, and what the detection time is timed from.
-- Assumes nothing.
use Prim.Native.Nat.{ℕ, suc, ◌<◌}
use native.Mathlib.Omega.{arith}
use mathlib.Core.Path.{◌≡◌, refl, sym, ap, ◌∙◌, subst}
use mathlib.Core.Bool.{Bool, true, cond}
use mathlib.Core.Option.{Option, none, some}
use mathlib.Core.List.{List}
use Rattle.bfd.specs.declared.Packet.{Packet}
use Rattle.fault.specs.declared.Fault.{Fault}
use Rattle.message.specs.Message.{message_of}
use Rattle.rules.specs.declared.Key.{Key}
use Rattle.rules.specs.declared.Settings.{Settings}
use Rattle.rules.specs.declared.Received.{Received}
use Rattle.rules.specs.declared.Received.TheVariants.{CrossedMessage, HeardCc, HeardCv, FaultMessage}
use Rattle.rules.specs.Received.{received_as}
use Rattle.rules.specs.Conditions.{key_of, same_key}
use Rattle.rules.specs.Calls.{Act, Close, Lock, Unlock, Receive, ReportOn, WriteCc, WriteCv, Call, Open, On, Said, is_accepted}
use Rattle.rules.proofs.Bools.{split, forced}
use Rattle.meaning.specs.Stories.{Story, settings_of, was_to}
use Rattle.meaning.specs.Standing.{locked}
use Rattle.meaning.specs.Histories.{History, after, act_reading, clock_of, story}
use Rattle.meaning.specs.Accounts.{size, Took, Opening, ReceivedSince, LockedBefore, RealUnlock, Restart, by_opening, by_unlock, by_cc, by_cv}
use Rattle.meaning.proofs.Positions.{took-below, took-on, took-before}
use Rattle.meaning.proofs.LossPositions.{put, last-is, locked-on, locked-back, real-on, real-back, heard-on, heard-back, restart-in}
use Rattle.meaning.proofs.Losses.{locked-accounted}
use Rattle.cause.specs.declared.Timed.{Timed}
use Rattle.cause.specs.declared.Timed.TheVariants.{Opening as ByOpening, Unlock as ByUnlock, Cc as ByCc, Cv as ByCv}
use Rattle.cause.specs.Marks.{received, if_crossed, if_heard, if_of_key, restarts}
use Rattle.cause.specs.Reasons.{timed_as}
use Rattle.cause.proofs.Lasts.{none-some, Kind}

-- a message that was accepted on the label since the opening, and what a test makes of it
pub record Was {A : Type 0} (f : List ℕ → Received → Option A) (h : History) (l o : ℕ) (g : Settings) (p u : ℕ) (x : A) : Type 0 where
  pub octets : List ℕ
  pub took : Took h p (On l (Receive octets u))
  pub since : o < p
  pub so : f octets (received_as g (message_of octets)) ≡ some x

module _ {A : Type 0} (f : List ℕ → Received → Option A) where
  -- what was received, tested
  pub was-received : {h : History} {l o : ℕ} {g : Settings} {p u : ℕ} {r : Received} {x : A} (w : ReceivedSince h l o g p u r) → f w.message.0 r ≡ some x
      → Was f h l o g p u x
  was-received w e = record { octets = w.message.0; took = w.message.1; since = w.since; so = ap (f w.message.0) w.message.2 ∙ e }

  -- and back
  unfoldable pub received_as_lem : {h : History} {l o : ℕ} {g : Settings} {p u : ℕ} {r : Received} {x : A} (w : Was f h l o g p u x)
      → received_as g (message_of w.octets) ≡ r → ReceivedSince h l o g p u r
  received_as_lem w e = record { message = (w.octets, w.took, e); since = w.since }

  -- the last call as such a message
  was-acts : (h : History) (a : Said) (l o : ℕ) (r : Story) (v : ℕ) (b : Act) (x : A) → story l h ≡ some r → Opening h l o (settings_of r) v
      → is_accepted a ≡ true → received f r b ≡ some x → Was f (after h (On l b) a) l o (settings_of r) (size h) (act_reading b (clock_of h)) x
  was-acts h a l o r v (Close t) x e O y z = none-some z
  was-acts h a l o r v (Lock t) x e O y z = none-some z
  was-acts h a l o r v (Unlock t) x e O y z = none-some z
  was-acts h a l o r v (Receive m t) x e O y z =
      record { octets = m; took = put h (On l (Receive m t)) a y; since = took-below h o _ O.took; so = z }
  was-acts h a l o r v ReportOn x e O y z = none-some z
  was-acts h a l o r v (WriteCc b) x e O y z = none-some z
  was-acts h a l o r v (WriteCv b) x e O y z = none-some z

  pub message-kind : Kind none (received f) (Was f)
  unfolding size
  message-kind =
      record {
        on = λ h d a l o g p u x w. record { octets = w.octets; took = took-on h d a p _ w.took; since = w.since; so = w.so };
        back = λ h d a l o g p u x i w. record { octets = w.octets; took = took-before h d a p _ i w.took; since = w.since; so = w.so };
        inside = λ h l o g p u x w. took-below h p _ w.took;
        opens = λ h a l g t x y e. none-some e;
        opens_not = λ h a l g t p u x e w.
            let i : size h < p = w.since in
            let j : p < suc (size h) = took-below (after h (Open g t) a) p _ w.took in omega arith;
        acts = was-acts;
        acted-so = λ h d a l o r v p u x e O i w.
            let z = last-is h d a p (On l (Receive w.octets u)) i w.took in (Receive w.octets u, sym z.0, z.1, w.so);
      }

-- what is crossed is a crossed message, of these octets
pub is-crossed : (m : List ℕ) (x : Received) {n : List ℕ} → if_crossed m x ≡ some n → (x ≡ CrossedMessage) × (m ≡ n)
is-crossed m CrossedMessage {n} e = let i : m ≡ n = cc in (refl, i)
is-crossed m (HeardCc p) e = none-some e
is-crossed m HeardCv e = none-some e
is-crossed m (FaultMessage f) e = none-some e

-- what is of a key is a fault message of it
pub is-of-key : (key : Key) (m : List ℕ) (x : Received) {f : Fault} → if_of_key key m x ≡ some f → (x ≡ FaultMessage f) × (same_key (key_of f) key ≡ true)
is-of-key key m CrossedMessage e = none-some e
is-of-key key m (HeardCc p) e = none-some e
is-of-key key m HeardCv e = none-some e
is-of-key key m (FaultMessage f) {f = g} e =
    split (same_key (key_of f) key)
    (λ z.
    let i : some f ≡ some g = ap (λ (b : Bool). cond b (some f) none) (sym z) ∙ e in
    let j : f ≡ g = cc in
    (ap FaultMessage j, ap (λ (k : Fault). same_key (key_of k) key) (sym j) ∙ z))
    (λ z. none-some (ap (λ (b : Bool). cond b (some f) none) (sym z) ∙ e))

pub of-key-is : (key : Key) (m : List ℕ) (f : Fault) → same_key (key_of f) key ≡ true → if_of_key key m (FaultMessage f) ≡ some f
of-key-is key m f e = rw e

-- what the detection time is timed from, by which of the four it is
abbrev pub Restarted : History → ℕ → ℕ → Settings → ℕ → ℕ → Timed → Type 0
Restarted h l o g p u ByOpening = (p ≡ o) × Took h o (Open g u)
Restarted h l o g p u ByUnlock = RealUnlock h l o p u
Restarted h l o g p u ByCc = (packet : Packet) × ReceivedSince h l o g p u (HeardCc packet)
Restarted h l o g p u ByCv = ReceivedSince h l o g p u HeardCv

module _ (h : History) (l o : ℕ) (g : Settings) (p u : ℕ) where
  -- the paper's restart
  pub restart-of : (x : Timed) → Restarted h l o g p u x → Restart h l o g p u
  restart-of ByOpening w = by_opening w.0 w.1
  restart-of ByUnlock w = by_unlock w
  restart-of ByCc w = by_cc w.0 w.1
  restart-of ByCv w = by_cv w

  pub timed-as : (x : Timed) (w : Restarted h l o g p u x) → timed_as (restart-of x w) ≡ x
  unfolding restart-of
  timed-as ByOpening w = refl
  timed-as ByUnlock w = refl
  timed-as ByCc w = refl
  timed-as ByCv w = refl

  -- and back
  pub restarted : (w : Restart h l o g p u) → Restarted h l o g p u (timed_as w)
  restarted (by_opening e w) = (e, w)
  restarted (by_unlock w) = w
  restarted (by_cc k w) = (k, w)
  restarted (by_cv w) = w

-- one call more
module _ (h : History) (d : Call) (a : Said) (l o : ℕ) (g : Settings) (p u : ℕ) where
  restarted-on : (x : Timed) → Restarted h l o g p u x → Restarted (after h d a) l o g p u x
  restarted-on ByOpening w = (w.0, took-on h d a o _ w.1)
  restarted-on ByUnlock w = real-on h d a l o p u w
  restarted-on ByCc w = (w.0, heard-on h d a l o g p u _ w.1)
  restarted-on ByCv w = heard-on h d a l o g p u _ w

  restarted-back : (x : Timed) → p < size h → Restarted (after h d a) l o g p u x → Restarted h l o g p u x
  restarted-back ByOpening i w = let e : p ≡ o = w.0 in (w.0, took-before h d a o _ (omega arith) w.1)
  restarted-back ByUnlock i w = real-back h d a l o p u i w
  restarted-back ByCc i w = (w.0, heard-back h d a l o g p u _ i w.1)
  restarted-back ByCv i w = heard-back h d a l o g p u _ i w

-- a heard message restarts
by-heard : (h : History) (l o : ℕ) (g : Settings) (p u : ℕ) (m : List ℕ) (r : Received) {x : Timed} → if_heard m r ≡ some x → ReceivedSince h l o g p u r
    → Restarted h l o g p u x
by-heard h l o g p u m CrossedMessage e w = none-some e
by-heard h l o g p u m (HeardCc k) {x} e w = let i : ByCc ≡ x = cc in subst (Restarted h l o g p u) i (k, w)
by-heard h l o g p u m HeardCv {x} e w = let i : ByCv ≡ x = cc in subst (Restarted h l o g p u) i w
by-heard h l o g p u m (FaultMessage f) e w = none-some e

restart-acts : (h : History) (a : Said) (l o : ℕ) (r : Story) (v : ℕ) (b : Act) (x : Timed) → story l h ≡ some r → Opening h l o (settings_of r) v
    → is_accepted a ≡ true → restarts r b ≡ some x → Restarted (after h (On l b) a) l o (settings_of r) (size h) (act_reading b (clock_of h)) x
restart-acts h a l o r v (Close t) x e O y z = none-some z
restart-acts h a l o r v (Lock t) x e O y z = none-some z
restart-acts h a l o r v (Unlock t) x e O y z =
    let i : locked r ≡ true = forced (locked r) (λ w. none-some (ap (λ (b : Bool). cond b (some ByUnlock) none) (sym w) ∙ z)) in
    let f : some ByUnlock ≡ some x = ap (λ (b : Bool). cond b (some ByUnlock) none) (sym i) ∙ z in
    let j : ByUnlock ≡ x = cc in
    subst (Restarted (after h (On l (Unlock t)) a) l o (settings_of r) (size h) t) j
    (record {
      took = put h (On l (Unlock t)) a y;
      locked = locked-on h (On l (Unlock t)) a l o (size h) (omega arith) ((locked-accounted h l r e o (settings_of r) v O).0 i);
    })
restart-acts h a l o r v (Receive m t) x e O y z =
    by-heard (after h (On l (Receive m t)) a) l o (settings_of r) (size h) t m (was_to r (message_of m)) z
    (record { message = (m, put h (On l (Receive m t)) a y, refl); since = took-below h o _ O.took })
restart-acts h a l o r v ReportOn x e O y z = none-some z
restart-acts h a l o r v (WriteCc b) x e O y z = none-some z
restart-acts h a l o r v (WriteCv b) x e O y z = none-some z

module _ (h : History) (d : Call) (a : Said) (l o : ℕ) (r : Story) (v p u : ℕ) (e : story l h ≡ some r) (O : Opening h l o (settings_of r) v) (i : p ≡ size h) where
  -- the last call as what restarted
  Acted : Timed → Type 0
  Acted x = (b : Act) × (d ≡ On l b) × (is_accepted a ≡ true) × (restarts r b ≡ some x)

  heard-so : (y : Received) (x : Timed) → ((m : List ℕ) → if_heard m y ≡ some x) → ReceivedSince (after h d a) l o (settings_of r) p u y → Acted x
  unfolding Acted
  heard-so y x so w =
      let n = w.message in
      let z = last-is h d a p (On l (Receive n.0 u)) i n.1 in
      (Receive n.0 u, sym z.0, z.1, ap (if_heard n.0) n.2 ∙ so n.0)

  restart-so : (x : Timed) → Restarted (after h d a) l o (settings_of r) p u x → Acted x
  unfolding Acted
  restart-so ByOpening w = absurd (let j : p ≡ o = w.0 in let k : o < size h = took-below h o _ O.took in omega arith)
  restart-so ByUnlock w =
      let z = last-is h d a p (On l (Unlock u)) i w.took in
      let k : LockedBefore h l o (size h) =
      locked-back h d a l o (size h) (omega arith) (subst (λ (q : ℕ). LockedBefore (after h d a) l o q) i w.locked) in
      let n : locked r ≡ true = (locked-accounted h l r e o (settings_of r) v O).1 k in
      (Unlock u, sym z.0, z.1, rw n)
  restart-so ByCc w = heard-so (HeardCc w.0) ByCc (λ m. refl) w.1
  restart-so ByCv w = heard-so HeardCv ByCv (λ m. refl) w

-- an opening is the one that restarts by being one
opening-restarts : (h : History) (a : Said) (l : ℕ) (g : Settings) (t : ℕ) (x : Timed) → is_accepted a ≡ true → some ByOpening ≡ some x
    → Restarted (after h (Open g t) a) l (size h) g (size h) t x
opening-restarts h a l g t x y e =
    let i : ByOpening ≡ x = cc in subst (Restarted (after h (Open g t) a) l (size h) g (size h) t) i (refl, put h (Open g t) a y)

pub restart-kind : Kind (some ByOpening) restarts Restarted
unfolding Acted
restart-kind =
    record {
      on = λ h d a l o g p u x w. restarted-on h d a l o g p u x w;
      back = λ h d a l o g p u x i w. restarted-back h d a l o g p u x i w;
      inside = λ h l o g p u x w. restart-in h l o g p u (restart-of h l o g p u x w);
      opens = opening-restarts;
      opens_not = λ h a l g t p u x e w. none-some (sym e);
      acts = restart-acts;
      acted-so = λ h d a l o r v p u x e O i w. restart-so h d a l o r v p u e O i x w;
    }
