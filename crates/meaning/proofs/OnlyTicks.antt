-- A lock of what is locked, and an unlock of what is not, cannot be told from a tick.
-- Assumes nothing.
use Prim.Native.Nat.{ℕ}
use native.Mathlib.Omega.{arith}
use mathlib.Core.Path.{◌≡◌, refl, sym, ap, ◌∙◌, subst}
use mathlib.Core.Bool.{Bool, true, false, cond}
use mathlib.Core.Option.{Option, none, some}
use mathlib.Core.List.{List, [], ◌∷◌}
use lib.Dec.{eqb}
use borrow.Author.Tests.{eqb-true}
use Rattle.octets.proofs.Chain.{bar-passed, or_else-passed}
use Rattle.message.specs.declared.Message.{Message}
use Rattle.message.specs.Message.{message_refusal, message_of}
use Rattle.rules.specs.declared.Received.{Received}
use Rattle.rules.specs.declared.Received.TheVariants.{CrossedMessage, HeardCc, HeardCv, FaultMessage}
use Rattle.rules.specs.Times.{late}
use Rattle.rules.specs.Calls.{Act, Close, Lock, Unlock, Receive, ReportOn, WriteCc, WriteCv, Call, Tick, Open, On, Said, is_accepted, number_only}
use Rattle.rules.proofs.Bools.{split, no_way}
use Rattle.table.specs.Table.{Table, answer, next}
use Rattle.meaning.specs.Stories.{Story, got, was_to}
use Rattle.meaning.specs.Standing.{locked, remote_diagnostic, owed}
use Rattle.meaning.specs.Histories.{History, start, after, act_reading, reading, act_told, told, act_labels, labels_after, clock_of, story, labels}
use Rattle.meaning.specs.Answers.{received_number, receive_number, act_said, says_of, says}
use Rattle.meaning.specs.Worlds.{Right}
use Rattle.meaning.specs.Further.{answers_from, OnlyTicks}
use Rattle.meaning.proofs.Timer.{in-time}
use Rattle.meaning.proofs.Indistinct.{BothIndistinct, both-same, both-says, both_told, alike-locked, alike-unlocked}
use Rattle.meaning.proofs.Demand.{InStep, answered, in-step-next}

-- 1. A locked session has no remote diagnostic and owes no reply, as BFD is refused 14 while it is locked.

abbrev Quiet : Option Story → Type 0
Quiet none = Unit {0}
Quiet (some s) = locked s ≡ true → (remote_diagnostic s ≡ 0) × (owed s ≡ false)

-- an accepted message
quiet-got : (s : Story) (m : Message) (t : ℕ) (x : Received) → was_to s m ≡ x → received_number s t x ≡ 0 → Quiet (some s) → Quiet (some (got s m t))
unfolding locked remote_diagnostic owed
quiet-got s m t CrossedMessage e n q k = rw e (q k)
quiet-got s m t (HeardCc p) e n q k = absurd (let z : cond true 14 0 ≡ 0 = ap (λ (b : Bool). cond b 14 0) (sym k) ∙ n in omega arith)
quiet-got s m t HeardCv e n q k = rw e (q k)
quiet-got s m t (FaultMessage f) e n q k = rw e (q k)

-- an accepted act
quiet-act : (now l : ℕ) (a : Act) (o : Option Story) → is_accepted (act_said now o l a) ≡ true → Quiet o → Quiet (act_told a o)
unfolding act_said locked remote_diagnostic owed
quiet-act now l (Close t) o y q = tt
quiet-act now l (Lock t) none y q = tt
quiet-act now l (Lock t) (some s) y q = λ k. (refl, refl)
quiet-act now l (Unlock t) none y q = tt
quiet-act now l (Unlock t) (some s) y q = λ k. no_way k refl
quiet-act now l (Receive m t) none y q = tt
quiet-act now l (Receive m t) (some s) y q =
    let b = bar-passed (late now t) 0 (receive_number (some s) m t) (eqb-true _ 0 y) in
    let c = or_else-passed (message_refusal m) (received_number s t (was_to s (message_of m))) b.1 in
    quiet-got s (message_of m) t (was_to s (message_of m)) refl c.1 q
quiet-act now l ReportOn o y q = q
quiet-act now l (WriteCc b) none y q = tt
quiet-act now l (WriteCc b) (some s) y q = λ k. ((q k).0, refl)
quiet-act now l (WriteCv b) o y q = q

quiet_told : (h : History) (l : ℕ) (c : Call) → is_accepted (says h c) ≡ true → Quiet (story l h) → Quiet (told l c (story l h))
unfolding says says_of locked
quiet_told h l (Tick t) y q = q
quiet_told h l (Open g t) y q = split (eqb g.label l) (λ e. rw e (λ k. no_way k refl)) (λ e. rw e q)
quiet_told h l (On m a) y q =
    split (eqb m l)
    (λ e. rw e (quiet-act (clock_of h) m a (story l h) (ap (λ (n : ℕ). is_accepted (act_said (clock_of h) (story n h) m a)) (sym (eqb-true m l e)) ∙ y) q))
    (λ e. rw e q)

quiet-story : (h : History) (l : ℕ) → Right h → Quiet (story l h)
unfolding story Right
quiet-story start l r = tt
quiet-story (after h c a) l r =
    split (is_accepted a) (λ e. rw e (quiet_told h l c (ap is_accepted (sym r.1) ∙ e) (quiet-story h l r.0))) (λ e. rw e (quiet-story h l r.0))

-- 2. Two tables whose histories nobody can tell apart answer every list of calls alike.

record Near (h k : History) : Type 0 where
  clock : clock_of h ≡ clock_of k
  open-labels : labels h ≡ labels k
  stories : (l : ℕ) → BothIndistinct (clock_of h) (story l h) (story l k)

near-says : (h k : History) (c : Call) → Near h k → says h c ≡ says k c
unfolding says
near-says h k c N =
    both-says (clock_of h) (λ l. story l h) (λ l. story l k) (labels h) c N.stories ∙ (λ i. says_of (N.clock i) (λ l. story l k) (N.open-labels i) c)

near_next : (h k : History) (c : Call) (a : Said) → a ≡ says h c → Near h k → Near (after h c a) (after k c a)
unfolding clock_of labels story
near_next h k c a e N =
    split (is_accepted a)
    (λ y.
    record {
      clock = rw y (ap (reading c) N.clock);
      open-labels = rw y (ap (labels_after c) N.open-labels);
      stories = λ l. rw y (both_told (clock_of h) l c (in-time h c (ap is_accepted (sym e) ∙ y)) (story l h) (story l k) (N.stories l));
    })
    (λ y. record { clock = rw y N.clock; open-labels = rw y N.open-labels; stories = λ l. rw y (N.stories l) })

near-answers : (h k : History) (t u : Table) → InStep h t → InStep k u → Near h k → (ds : List Call) → answers_from t ds ≡ answers_from u ds
unfolding answers_from
near-answers h k t u S T N [] = refl
near-answers h k t u S T N (c ∷ ds) =
    let e : answer t c ≡ answer u c = answered h t S c ∙ near-says h k c N ∙ sym (answered k u T c) in
    let rest : answers_from (next t c) ds ≡ answers_from (next u c) ds =
    near-answers (after h c (answer t c)) (after k c (answer t c)) (next t c) (next u c) (in-step-next h t S c)
    (subst (λ (a : Said). InStep (after k c a) (next u c)) (sym e) (in-step-next k u T c)) (near_next h k c (answer t c) (answered h t S c) N) ds in
    λ i. e i ∷ rest i

-- 3. An accepted act that leaves clock, labels and stories as a tick does.

module _ (h : History) (l u : ℕ) (a : Act) (clock : act_reading a (clock_of h) ≡ u) (open-labels : act_labels l a (labels h) ≡ labels h)
    (alike : BothIndistinct u (act_told a (story l h)) (story l h)) where
  near-tick : (x y : Said) → is_accepted x ≡ true → is_accepted y ≡ true → Near (after h (On l a) x) (after h (Tick u) y)
  unfolding clock_of labels story
  near-tick x y p q =
      record {
        clock = rw (p, q) clock;
        open-labels = rw (p, q) open-labels;
        stories = λ m. rw (p, q) (subst (λ (k : ℕ). BothIndistinct k (cond (eqb l m) (act_told a (story m h)) (story m h)) (story m h)) (sym clock) (each m));
      }
    where
      each : (m : ℕ) → BothIndistinct u (cond (eqb l m) (act_told a (story m h)) (story m h)) (story m h)
      each m =
          split (eqb l m)
          (λ e. rw e (subst (λ (n : ℕ). BothIndistinct u (act_told a (story n h)) (story n h)) (eqb-true l m e) alike))
          (λ e. rw e (both-same u (story m h)))

  only-ticks : (t : Table) → InStep h t → late (clock_of h) u ≡ false → says h (On l a) ≡ number_only (On l a) 0 → OnlyTicks t (On l a) u
  unfolding says says_of
  only-ticks t S late' e =
      let x : answer t (On l a) ≡ number_only (On l a) 0 = answered h t S (On l a) ∙ e in
      let y : answer t (Tick u) ≡ number_only (Tick u) 0 = answered h t S (Tick u) ∙ rw late' in
      record {
        accepted = x;
        alike =
            near-answers (after h (On l a) (answer t (On l a))) (after h (Tick u) (answer t (Tick u))) (next t (On l a)) (next t (Tick u))
            (in-step-next h t S (On l a)) (in-step-next h t S (Tick u))
            (near-tick (answer t (On l a)) (answer t (Tick u)) (ap is_accepted x) (ap is_accepted y));
      }

module _ (h : History) (r : Right h) (t : Table) (S : InStep h t) (l u : ℕ) (s : Story) (o : story l h ≡ some s) (in-time' : late (clock_of h) u ≡ false) where
  pub twice-locked : locked s ≡ true → OnlyTicks t (On l (Lock u)) u
  unfolding says says_of act_said
  twice-locked k =
      let q = subst Quiet o (quiet-story h l r) k in
      only-ticks h l u (Lock u) refl refl (rw o (alike-locked u s k q.0 q.1)) t S in-time' (rw (in-time', o))

  pub unlocked-again : locked s ≡ false → OnlyTicks t (On l (Unlock u)) u
  unfolding says says_of act_said
  unlocked-again k = only-ticks h l u (Unlock u) refl refl (rw o (alike-unlocked u s k)) t S in-time' (rw (in-time', o))
