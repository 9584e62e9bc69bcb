-- Readings do not fall, where the answers are the paper's.
-- Assumes nothing.
use Prim.Native.Nat.{ℕ, ◌≤◌, ◌<◌}
use native.Mathlib.Omega.{arith}
use mathlib.Core.Path.{◌≡◌, sym, ap, ◌∙◌, subst}
use mathlib.Core.Bool.{false}
use mathlib.Core.List.{List}
use mathlib.Core.Logic.{inl, inr, ⊎_elim}
use lib.Dec.{ltb}
use borrow.Author.Tests.{ltb-true, ltb-false}
use Rattle.rules.specs.declared.Settings.{Settings}
use Rattle.rules.specs.declared.Received.{Received}
use Rattle.rules.specs.Times.{latest, late}
use Rattle.rules.specs.Calls.{Act, Close, Lock, Unlock, Receive, ReportOn, WriteCc, WriteCv, Call, Tick, Open, On, Said, is_accepted}
use Rattle.rules.proofs.Bools.{split}
use Rattle.rules.proofs.Failing.{both-fail}
use Rattle.meaning.specs.Histories.{History, start, after, act_reading, reading, clock_of}
use Rattle.meaning.specs.Accounts.{size, Took, ReceivedSince}
use Rattle.meaning.specs.Worlds.{Right}
use Rattle.meaning.proofs.Positions.{took-below, took-before, took-same}
use Rattle.meaning.proofs.Timer.{brings, in-time}

act-least : (b : Act) (now : ℕ) → act_reading b 0 ≤ act_reading b now
act-least (Close t) now = omega arith
act-least (Lock t) now = omega arith
act-least (Unlock t) now = omega arith
act-least (Receive m t) now = omega arith
act-least ReportOn now = omega arith
act-least (WriteCc b) now = omega arith
act-least (WriteCv b) now = omega arith

-- the reading that a call brings, 0 where it brings none, is at most the clock that it leaves
brought : (c : Call) (now : ℕ) → reading c 0 ≤ reading c now
brought (Tick t) now = omega arith
brought (Open g t) now = omega arith
brought (On l b) now = act-least b now

-- the clock goes on
pub clock-on : (h : History) (d : Call) (a : Said) → Right (after h d a) → clock_of h ≤ clock_of (after h d a)
unfolding Right clock_of
clock-on h d a r =
    split (is_accepted a)
    (λ y. let i : clock_of h ≤ reading d (clock_of h) = in-time h d (ap is_accepted (sym r.1) ∙ y) in rw y i)
    (λ n. rw n (omega arith))

-- and never above the greatest reading
not-above : (clock reading : ℕ) → late clock reading ≡ false → reading ≤ latest
unfolding late
not-above clock reading = both-fail {a = ltb reading clock} {b = ltb latest reading} (λ e f. ltb-false latest reading f)

pub clock-low : (h : History) → Right h → clock_of h ≤ latest
unfolding Right clock_of
clock-low start r = omega arith
clock-low (after h d a) r =
    let low : clock_of h ≤ latest = clock-low h r.0 in
    split (is_accepted a)
    (λ y.
    let i : reading d (clock_of h) ≤ latest =
    ⊎_elim (λ z. not-above (clock_of h) (reading d (clock_of h)) z) (λ z. omega arith) (brings h d (ap is_accepted (sym r.1) ∙ y)) in
    rw y i)
    (λ n. rw n low)

-- no accepted call brought a reading above the clock
pub in-past : (h : History) → Right h → (p : ℕ) (c : Call) → Took h p c → reading c 0 ≤ clock_of h
unfolding Right Took
in-past start r p c w = absurd w
in-past (after h d a) r p c (inl w) = unfold clock_of in (rw (w.1, w.2) (brought d (clock_of h)))
in-past (after h d a) r p c (inr w) =
    let i : reading c 0 ≤ clock_of h = in-past h r.0 p c w in
    let j : clock_of h ≤ clock_of (after h d a) = clock-on h d a r in omega arith

-- nor one above a later message's
in-turn : (h : History) → Right h → (p q : ℕ) (c : Call) (l : ℕ) (m : List ℕ) (u : ℕ) → p < q → Took h p c → Took h q (On l (Receive m u)) → reading c 0 ≤ u
unfolding Right Took
in-turn start r p q c l m u i v w = absurd w
in-turn (after h d a) r p q c l m u i v (inl w) =
    let b : p < size h = let e : q ≡ size h = w.0 in omega arith in
    let x : reading c 0 ≤ clock_of h = in-past h r.0 p c (took-before h d a p c b v) in
    let y : clock_of h ≤ u = subst (λ (e : Call). clock_of h ≤ reading e (clock_of h)) (sym w.1) (in-time h d (ap is_accepted (sym r.1) ∙ w.2)) in
    omega arith
in-turn (after h d a) r p q c l m u i v (inr w) =
    let b : q < size h = took-below h q _ w in in-turn h r.0 p q c l m u i (took-before h d a p c (omega arith) v) w

-- of two messages the later has no smaller reading
pub messages-in-turn : (h : History) → Right h → {l n o : ℕ} {f g : Settings} {p q t u : ℕ} {x y : Received} → p ≤ q → ReceivedSince h l n f p t x
    → ReceivedSince h l o g q u y → t ≤ u
messages-in-turn h r {l} {p} {q} {t} {u} i v w =
    split (ltb p q)
    (λ z. in-turn h r p q (On l (Receive v.message.0 t)) l w.message.0 u (ltb-true p q z) v.message.1 w.message.1)
    (λ z.
    let j : q ≤ p = ltb-false p q z in
    let k : p ≡ q = omega arith in
    let e : On l (Receive v.message.0 t) ≡ On l (Receive w.message.0 u) =
    took-same h q _ _ (subst (λ (m : ℕ). Took h m (On l (Receive v.message.0 t))) k v.message.1) w.message.1 in
    let f : t ≡ u = cc e in omega arith)

-- and none is above the clock
pub message-in-past : (h : History) → Right h → {l o : ℕ} {g : Settings} {p t : ℕ} {x : Received} → ReceivedSince h l o g p t x → t ≤ clock_of h
message-in-past h r {l} {p} {t} v = in-past h r p (On l (Receive v.message.0 t)) v.message.1
