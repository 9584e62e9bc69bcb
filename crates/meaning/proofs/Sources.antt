-- A source in UP: it has no loss, at any clock, and a lock or a heard CC of ADMIN DOWN alone takes it down.
-- Assumes nothing.
use Prim.Native.Nat.{ℕ}
use native.Mathlib.Omega.{arith}
use mathlib.Core.Path.{◌≡◌, refl, sym, ap, ◌∙◌, subst}
use mathlib.Core.Bool.{Bool, true, false, cond, not, ◌&&◌}
use mathlib.Core.Option.{Option, none, some}
use mathlib.Core.List.{List, [], ◌∷◌, ◌++◌}
use mathlib.Core.Logic.{◌⊎◌, inl, inr, ⊎_elim}
use lib.Dec.{eqb}
use lib.ListN.{length}
use borrow.Author.Tests.{eqb-true}
use Rattle.octets.specs.Choice.{bit_of}
use Rattle.bfd.specs.declared.Packet.{Packet}
use Rattle.message.specs.Message.{message_of}
use Rattle.rules.specs.declared.Mode.{Mode}
use Rattle.rules.specs.declared.Mode.TheVariants.{Coordinated, Source, Sink}
use Rattle.rules.specs.declared.State.{State}
use Rattle.rules.specs.declared.State.TheVariants.{AdminDown, Down, NeighborDown, Init, Up}
use Rattle.rules.specs.declared.Input.{Input}
use Rattle.rules.specs.declared.Input.TheVariants.{GotAdminDown, Crossed}
use Rattle.rules.specs.declared.Settings.{Settings}
use Rattle.rules.specs.declared.Report.{Report}
use Rattle.rules.specs.declared.Received.{Received}
use Rattle.rules.specs.declared.Received.TheVariants.{CrossedMessage, HeardCc, HeardCv, FaultMessage}
use Rattle.rules.specs.States.{received, heard_input, reported, is_locked}
use Rattle.rules.specs.Modes.{mode_in, moved_in, is_source_up, is_coordinated}
use Rattle.rules.specs.Conditions.{acts_on, fault_state}
use Rattle.rules.specs.Diagnostics.{loss_alarm}
use Rattle.rules.specs.Calls.{Act, Close, Lock, Unlock, Receive, ReportOn, WriteCc, WriteCv, Call, Tick, Open, On, Said, is_accepted}
use Rattle.rules.proofs.Bools.{split, no_way, refuted}
use Rattle.rules.proofs.Failing.{and_right}
use Rattle.rules.proofs.States.{source-leaves, source-still, by_timer}
use Rattle.session.specs.declared.Session.{Session}
use Rattle.table.specs.Table.{answer}
use Rattle.meaning.specs.Stories.{Story, lock, unlock, got, wrote_cc, settings_of, was_to}
use Rattle.meaning.specs.Standing.{mode, locked, loss_in, loss, held, after_timer, state, state_by, state_at, conditions, report}
use Rattle.meaning.specs.Histories.{History, after, act_told, told, clock_of, story}
use Rattle.meaning.specs.Answers.{is_open, says}
use Rattle.meaning.specs.Worlds.{World, step, play, begin, past_of, table_after}
use Rattle.meaning.specs.Demand.{report_on}
use Rattle.meaning.specs.Machines.{UpForGood, TakesDown, by_lock, by_admin_down, SourceUp, SourcesUp}
use Rattle.meaning.proofs.Fits.{state-locked}
use Rattle.meaning.proofs.Timer.{timer-source}
use Rattle.meaning.proofs.LatestLife.{Begun}
use Rattle.meaning.proofs.Demand.{Good, play-last, good-play, good-begin, demand3}

is_up_lem : (s : Story) → mode s ≡ Source → state s ≡ Up → is_source_up (mode s) (state s) ≡ true
is_up_lem s m e = λ i. is_source_up (m i) (e i)

up_is : (m : Mode) (x : State) → is_source_up m x ≡ true → x ≡ Up
up_is Coordinated x e = no_way e refl
up_is Source AdminDown e = no_way e refl
up_is Source Down e = no_way e refl
up_is Source NeighborDown e = no_way e refl
up_is Source Init e = no_way e refl
up_is Source Up e = refl
up_is Sink x e = no_way e refl

-- 1. Of a story.

pub source-no-loss : (s : Story) → mode s ≡ Source → state s ≡ Up → (now : ℕ) → loss now s ≡ false
unfolding loss_in
source-no-loss s m e now = and_right (not (locked s)) (rw (is_up_lem s m e))

-- so TIMER leaves it
waits : (s : Story) → mode s ≡ Source → state s ≡ Up → (now : ℕ) → after_timer now s (state s) ≡ Up
waits s m e now = rw (source-no-loss s m e now) e

pub for-good : (s : Story) → mode s ≡ Source → state s ≡ Up → UpForGood s
unfolding state_at
for-good s m e = record { no-loss = source-no-loss s m e; up = waits s m e }

-- a source that is in UP at a clock was left in UP
left_up : (s : Story) → mode s ≡ Source → (now : ℕ) → state_at now s ≡ Up → state s ≡ Up
unfolding state_at
left_up s m now e =
    up_is (mode s) (state s) (sym (timer-source (loss now s) (mode s) (state s)) ∙ (λ i. is_source_up (m i) (e i)))

-- a received state that takes it down is ADMIN DOWN
admin-down : (n : ℕ) → received n ≡ GotAdminDown → n ≡ 0
admin-down n e =
    split (eqb n 0) (λ a. eqb-true n 0 a)
    (λ a. split (eqb n 1) (λ b. absurd (let y : _ = rw (a, b) at e in let z : ◌≡◌ {A = ℕ} 0 1 = cc in omega arith))
    (λ b. split (eqb n 2) (λ c. absurd (let y : _ = rw (a, b, c) at e in let z : ◌≡◌ {A = ℕ} 0 1 = cc in omega arith))
    (λ c. absurd (let y : _ = rw (a, b, c) at e in let z : ◌≡◌ {A = ℕ} 0 1 = cc in omega arith))))

faulted-up : (acts : Bool) (kind : ℕ) → fault_state Source acts Up kind ≡ Up
faulted-up true kind = split (eqb kind 1) (λ a. rw a) (λ a. rw a)
faulted-up false kind = refl

-- a story, where there is one, is that of a source in UP, or the call has taken it down
abbrev UpOrDown : ℕ → Story → Call → Option Story → Type 0
UpOrDown l s c none = Unit {0}
UpOrDown l s c (some r) = ((mode r ≡ Source) × (state r ≡ Up)) ⊎ TakesDown l s c

module _ (l : ℕ) (s : Story) (m : mode s ≡ Source) (e : state s ≡ Up) where
  -- what a message was, and then
  got-up : (octets : List ℕ) (t : ℕ) (x : Received) → was_to s (message_of octets) ≡ x → (state (got s (message_of octets) t) ≡ Up) ⊎ TakesDown l s (On l (Receive octets t))
  unfolding state held
  got-up octets t x w = go x w (ap (λ (y : Received). state_by (held t s) (settings_of s) y (after_timer t s (state s))) w)
    where
      to : State
      to = state_by (held t s) (settings_of s) (was_to s (message_of octets)) (after_timer t s (state s))

      go : (y : Received) → was_to s (message_of octets) ≡ y → to ≡ state_by (held t s) (settings_of s) y (after_timer t s (state s))
          → (to ≡ Up) ⊎ TakesDown l s (On l (Receive octets t))
      go CrossedMessage w f = inl (f ∙ (λ i. moved_in (m i) (waits s m e t i) Crossed))
      go (HeardCc p) w f =
          let h : held t s ≡ false = rw m in
          let k : to ≡ moved_in Source Up (received p.state) = f ∙ (λ i. moved_in (m i) (waits s m e t i) (heard_input (h i) p.state)) in
          ⊎_elim (λ z. inl (k ∙ z)) (λ z. inr (by_admin_down octets t p w (admin-down p.state z))) (source-leaves (received p.state))
      go HeardCv w f = inl (f ∙ waits s m e t)
      go (FaultMessage x) w f = inl (f ∙ (λ i. fault_state (m i) (acts_on (settings_of s) x) (waits s m e t i) x.kind) ∙ faulted-up (acts_on (settings_of s) x) x.kind)

  -- it is not locked, so an unlock leaves it to TIMER
  unlocked-up : (t : ℕ) → state (unlock s t) ≡ Up
  unfolding state
  unlocked-up t =
      let free : locked s ≡ false = sym (state-locked s) ∙ ap is_locked e in
      ap (λ (b : Bool). cond b Down (after_timer t s (state s))) free ∙ waits s m e t

  act-up : (a : Act) → UpOrDown l s (On l a) (act_told a (some s))
  unfolding settings_of state
  act-up (Close t) = tt
  act-up (Lock t) = inr (by_lock t)
  act-up (Unlock t) = inl (m, unlocked-up t)
  act-up (Receive octets t) = ⊎_elim (λ z. inl (m, z)) (λ z. inr z) (got-up octets t (was_to s (message_of octets)) refl)
  act-up ReportOn = inl (m, e)
  act-up (WriteCc b) = inl (m, e)
  act-up (WriteCv b) = inl (m, e)

  -- an accepted call that does not open the label
  call_up : (c : Call) → ((g : Settings) (t : ℕ) → c ≡ Open g t → eqb g.label l ≡ false) → UpOrDown l s c (told l c (some s))
  call_up (Tick t) n = inl (m, e)
  call_up (Open g t) n = rw (n g t refl) (inl (m, e))
  call_up (On k a) n =
      split (eqb k l) (λ q. rw q (subst (λ (j : ℕ). UpOrDown l s (On j a) (act_told a (some s))) (sym (eqb-true k l q)) (act-up a))) (λ q. rw q (inl (m, e)))

  -- any call, answered as the paper says: an open label is not opened
  pub source-stays-up : (h : History) (c : Call) (a : Said) → story l h ≡ some s → Begun (after h c a) → UpOrDown l s c (story l (after h c a))
  unfolding story Begun
  source-stays-up h c a o B =
      split (is_accepted a)
      (λ y. rw (y, o) (call_up c (λ g t z. refuted (eqb g.label l) (λ q. no_way (ap is_open (ap (λ (j : ℕ). story j h) (eqb-true g.label l q) ∙ o)) (B.1 g t z y)))))
      (λ y. rw (y, o) (inl (m, e)))

-- 2. After every list of calls.

reported-3 : (x : State) → reported x ≡ 3 → x ≡ Up
reported-3 AdminDown e = absurd (omega arith)
reported-3 Down e = absurd (omega arith)
reported-3 NeighborDown e = absurd (omega arith)
reported-3 Init e = absurd (omega arith)
reported-3 Up e = refl

pub sources-up : (row : List Session) → length row ≡ 64 → (cs : List Call) → SourcesUp row cs
unfolding past_of table_after report state_at step
sources-up row len cs l s o m k =
    record {
      for-good = for-good s m left;
      no-loss = told cs s o (λ (r : Report). r.loss) ∙ ap bit_of (source-no-loss s m left (clock_of past));
      no-alarm = told cs s o (λ (r : Report). r.alarm) ∙ ap (λ (b : Bool). bit_of (loss_alarm b (conditions (clock_of past) s))) (source-no-loss s m left (clock_of past));
      stays = λ c y. later c (story l (past_of row (cs ++ c ∷ []))) refl y (behind c);
    }
  where
    past : History
    past = past_of row cs

    told : (ds : List Call) (r : Story) → story l (past_of row ds) ≡ some r → (f : Report → ℕ)
        → f (report_on (table_after row ds) l) ≡ f (report (clock_of (past_of row ds)) r)
    told ds r q f = ap (λ (x : Said). f x.report) ((demand3 row len ds).reports l r q)

    left : state s ≡ Up
    left = left_up s m (clock_of past) (reported-3 (state_at (clock_of past) s) (sym (told cs s o (λ (r : Report). r.state)) ∙ k))

    w : World
    w = play (begin row) cs

    behind : (c : Call) → UpOrDown l s c (story l (past_of row (cs ++ c ∷ [])))
    behind c =
        let last = play-last (begin row) cs c in
        let B : Begun (after past c (answer w.table c)) = subst (λ (v : World). Begun v.past) last (good-play (begin row) (cs ++ c ∷ []) (good-begin row len)).begun in
        subst (λ (v : World). UpOrDown l s c (story l v.past)) (sym last) (source-stays-up l s m left past c (answer w.table c) o B)

    later : (c : Call) (p : Option Story) → story l (past_of row (cs ++ c ∷ [])) ≡ p → is_open p ≡ true → UpOrDown l s c p
        → ((report_on (table_after row (cs ++ c ∷ [])) l).state ≡ 3) ⊎ TakesDown l s c
    later c none q y u = no_way y refl
    later c (some r) q y u =
        ⊎_elim
        (λ z. inl (told (cs ++ c ∷ []) r q (λ (x : Report). x.state) ∙ ap reported (waits r z.0 z.1 (clock_of (past_of row (cs ++ c ∷ []))))))
        (λ z. inr z) u
