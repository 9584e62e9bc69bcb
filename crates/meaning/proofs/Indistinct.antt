-- Two stories that nobody can tell apart from a clock on: what each call says to them, and how every accepted call keeps them so.
-- Assumes nothing.
use Prim.Native.Nat.{ℕ, ◌≤◌}
use native.Mathlib.Omega.{arith}
use mathlib.Core.Path.{◌≡◌, refl, sym, ap, ◌∙◌}
use mathlib.Core.Bool.{Bool, true, false, cond, not, ◌&&◌, ◌||◌}
use mathlib.Core.Option.{Option, none, some}
use mathlib.Core.List.{List}
use lib.ListN.{length}
use lib.Dec.{ltb, eqb}
use Rattle.octets.specs.Choice.{need, bar, or_else}
use Rattle.octets.specs.Writing.{writing}
use Rattle.bfd.specs.Octets.{cc_octets}
use Rattle.cv.specs.Cv.{cv_octets}
use Rattle.message.specs.declared.Message.{Message}
use Rattle.message.specs.Message.{message_refusal, message_of}
use Rattle.rules.specs.declared.Key.{Key}
use Rattle.rules.specs.declared.Settings.{Settings}
use Rattle.rules.specs.declared.State.{State}
use Rattle.rules.specs.declared.State.TheVariants.{AdminDown, Down, NeighborDown, Init, Up}
use Rattle.rules.specs.declared.Input.TheVariants.{Timer}
use Rattle.rules.specs.declared.Received.{Received}
use Rattle.rules.specs.declared.Received.TheVariants.{CrossedMessage, HeardCc, HeardCv, FaultMessage}
use Rattle.rules.specs.Times.{late, past, within, detection_time, crossing_time}
use Rattle.rules.specs.States.{is_locked, down_by_neighbor}
use Rattle.rules.specs.Modes.{mode_in, moved_in, is_source_up, is_coordinated, required_interval}
use Rattle.rules.specs.Settings.{settings_fit}
use Rattle.rules.specs.Received.{received_as}
use Rattle.rules.specs.Parties.{party_of, is_of}
use Rattle.rules.specs.Conditions.{key_of}
use Rattle.rules.specs.Diagnostics.{remote_defect, diagnostic_of, report_of, packet_out}
use Rattle.rules.specs.Lists.{any, only}
use Rattle.rules.specs.Calls.{Act, Close, Lock, Unlock, Receive, ReportOn, WriteCc, WriteCv, Call, Tick, Open, On, number_only, reporting, writes}
use Rattle.rules.proofs.Bools.{split}
use Rattle.meaning.specs.Stories.{Story, opened, lock, unlock, got, wrote_cc, settings_of, was_to, is_crossed, is_heard}
use Rattle.meaning.specs.Standing.{mode, locked, crossing, timed_from, multiplier_of, multiplier_by, loss_in, loss, state, state_by, state_at, remote_diagnostic, diagnostic_by, remote_of, remote_by, owed, owed_by, stands, stands_by, followed_last, followed_by, keys_of, keys_by, conditions, followed, defect, held, report, diagnostic, packet, cc_written, cv_written}
use Rattle.meaning.specs.Histories.{act_reading, reading, more, act_told, told}
use Rattle.meaning.specs.Answers.{is_open, has_discriminator, rival, full, open_number, received_number, receive_number, report_said, write_said, act_said, says_of}
use Rattle.meaning.proofs.Fits.{state-locked}
use Rattle.meaning.proofs.Timer.{timer-source, overdue-later, state-later}

-- two stories that differ in nothing but what TIMER did to the state before the clock `from`
pub record Indistinct (from : ℕ) (r s : Story) : Type 0 where
  pub settings : settings_of r ≡ settings_of s
  pub lock-mark : locked r ≡ locked s
  pub timed : timed_from r ≡ timed_from s
  pub multiplier : multiplier_of r ≡ multiplier_of s
  pub diagnostic : remote_diagnostic r ≡ remote_diagnostic s
  pub remote : remote_of r ≡ remote_of s
  pub reply : owed r ≡ owed s
  pub keys : keys_of r ≡ keys_of s
  pub standing : (now : ℕ) (key : Key) → stands now r key ≡ stands now s key
  pub following : (key : Key) → followed_last r key ≡ followed_last s key
  pub crossings : (now : ℕ) → crossing now r ≡ crossing now s
  pub sources : is_source_up (mode r) (state r) ≡ is_source_up (mode s) (state s)
  pub states : (now : ℕ) → from ≤ now → state_at now r ≡ state_at now s

pub alike_same : (from : ℕ) (s : Story) → Indistinct from s s
alike_same from s =
    record {
      settings = refl;
      lock-mark = refl;
      timed = refl;
      multiplier = refl;
      diagnostic = refl;
      remote = refl;
      reply = refl;
      keys = refl;
      standing = λ now key. refl;
      following = λ key. refl;
      crossings = λ now. refl;
      sources = refl;
      states = λ now h. refl;
    }

-- the clock goes on
alike-later : {from : ℕ} (later : ℕ) {r s : Story} → from ≤ later → Indistinct from r s → Indistinct later r s
alike-later later h A =
    record {
      settings = A.settings;
      lock-mark = A.lock-mark;
      timed = A.timed;
      multiplier = A.multiplier;
      diagnostic = A.diagnostic;
      remote = A.remote;
      reply = A.reply;
      keys = A.keys;
      standing = A.standing;
      following = A.following;
      crossings = A.crossings;
      sources = A.sources;
      states = λ now k. A.states now (omega arith);
    }

-- 1. What alike stories are told.

module _ {from : ℕ} {r s : Story} (A : Indistinct from r s) where
  same-loss : (now : ℕ) → loss now r ≡ loss now s
  unfolding loss_in
  same-loss now =
      λ i. not (A.lock-mark i) && (not (A.sources i) && past (A.timed i) (detection_time (A.settings i).period (A.multiplier i)) now)

  same-conditions : (now : ℕ) → conditions now r ≡ conditions now s
  unfolding conditions
  same-conditions now = λ i. length (only (λ key. A.standing now key i) (A.keys i))

  same-followed : (now : ℕ) → followed now r ≡ followed now s
  unfolding followed
  same-followed now = λ i. any (λ key. A.standing now key i && A.following key i) (A.keys i)

  same-held : (now : ℕ) → held now r ≡ held now s
  unfolding held defect
  same-held now = λ i. is_coordinated (mode_in (A.settings i)) && (A.crossings now i || same-followed now i)

  module _ (now : ℕ) (h : from ≤ now) where
    same-report : report now r ≡ report now s
    unfolding report
    same-report =
        λ i.
        report_of (A.states now h i) (A.crossings now i) (same-loss now i) (remote_defect (A.lock-mark i) (same-loss now i) (A.diagnostic i)) (same-conditions now i)

    same-diagnostic : diagnostic now r ≡ diagnostic now s
    unfolding diagnostic
    same-diagnostic =
        λ i. diagnostic_of (A.lock-mark i) (A.crossings now i) (same-followed now i) (same-loss now i) (down_by_neighbor (A.states now h i))

    same-packet : {fin fin' : Bool} → fin ≡ fin' → packet now r fin ≡ packet now s fin'
    unfolding packet
    same-packet e =
        λ i. packet_out (same-diagnostic i) (A.states now h i) (e i) (A.settings i).discriminator (A.remote i) (A.settings i).period
        (required_interval (mode_in (A.settings i)) (A.settings i).period)

    same-cc : cc_written now r ≡ cc_written now s
    unfolding cc_written
    same-cc = λ i. cc_octets (same-packet A.reply i)

    same-cv : cv_written now r ≡ cv_written now s
    unfolding cv_written
    same-cv = λ i. cv_octets (same-packet {fin = false} refl i) (A.settings i).own

  same_received : (t : ℕ) (x : Received) → received_number r t x ≡ received_number s t x
  same_received t CrossedMessage = λ i. cond (A.lock-mark i) 14 0
  same_received t (HeardCc p) = λ i. cond (A.lock-mark i) 14 0
  same_received t HeardCv = λ i. cond (A.lock-mark i) 14 0
  same_received t (FaultMessage f) =
      λ i. cond (not f.removed && not (A.standing t (key_of f) i) && ltb 3 (same-conditions t i)) 9 0

-- alike stories, or neither
abbrev pub BothIndistinct : ℕ → Option Story → Option Story → Type 0
BothIndistinct from none none = Unit {0}
BothIndistinct from none (some s) = ⊥
BothIndistinct from (some r) none = ⊥
BothIndistinct from (some r) (some s) = Indistinct from r s

pub both-same : (from : ℕ) (o : Option Story) → BothIndistinct from o o
both-same from none = tt
both-same from (some s) = alike_same from s

-- what is the same for alike stories is the same for both
both_by : {X : Type 0} (from : ℕ) (f : Option Story → X) → ((r s : Story) → Indistinct from r s → f (some r) ≡ f (some s)) → (o p : Option Story)
    → BothIndistinct from o p → f o ≡ f p
both_by from f k none none A = refl
both_by from f k none (some s) A = absurd A
both_by from f k (some r) none A = absurd A
both_by from f k (some r) (some s) A = k r s A

module _ (from : ℕ) where
  both_found : (c : Call) (t : ℕ) (o p : Option Story) → BothIndistinct from o p
      → number_only c (bar (late from t) 1 (need (is_open o) 2 0)) ≡ number_only c (bar (late from t) 1 (need (is_open p) 2 0))
  both_found c t = both_by from (λ o. number_only c (bar (late from t) 1 (need (is_open o) 2 0))) (λ r s A. refl)

  both-received : (m : List ℕ) (t : ℕ) (r s : Story) → Indistinct from r s → receive_number (some r) m t ≡ receive_number (some s) m t
  both-received m t r s A =
      ap (or_else (message_refusal m))
      (ap (λ (g : Settings). received_number r t (received_as g (message_of m))) A.settings ∙ same_received A t (was_to s (message_of m)))

  both-written : (c : Call) (octets : Story → List ℕ) → ((r s : Story) → Indistinct from r s → octets r ≡ octets s) → (b : List ℕ) (o p : Option Story)
      → BothIndistinct from o p → write_said c octets b o ≡ write_said c octets b p
  both-written c octets k b = both_by from (write_said c octets b) (λ r s A. ap (λ (x : List ℕ). writes (writing 0 x b)) (k r s A))

  both-act : (l : ℕ) (a : Act) (o p : Option Story) → BothIndistinct from o p → act_said from o l a ≡ act_said from p l a
  unfolding act_said
  both-act l (Close t) o p A = both_found (On l (Close t)) t o p A
  both-act l (Lock t) o p A = both_found (On l (Lock t)) t o p A
  both-act l (Unlock t) o p A = both_found (On l (Unlock t)) t o p A
  both-act l (Receive m t) o p A =
      ap (λ (n : ℕ). number_only (On l (Receive m t)) (bar (late from t) 1 n)) (both_by from (λ q. receive_number q m t) (both-received m t) o p A)
  both-act l ReportOn o p A = both_by from (report_said (On l ReportOn) from) (λ r s B. ap reporting (same-report B from (omega arith))) o p A
  both-act l (WriteCc b) o p A = both-written (On l (WriteCc b)) (cc_written from) (λ r s B. same-cc B from (omega arith)) b o p A
  both-act l (WriteCv b) o p A = both-written (On l (WriteCv b)) (cv_written from) (λ r s B. same-cv B from (omega arith)) b o p A

-- what a call says, from alike views of two histories
pub both-says : (now : ℕ) (st st' : ℕ → Option Story) (ls : List ℕ) (c : Call) → ((l : ℕ) → BothIndistinct now (st l) (st' l)) → says_of now st ls c ≡ says_of now st' ls c
unfolding says_of open_number rival
both-says now st st' ls (Tick t) A = refl
both-says now st st' ls (Open g t) A =
    λ i.
    number_only (Open g t)
    (bar (late now t) 1
    (need (settings_fit g) 10
    (bar (any (λ l. eqb l g.label || (is_of (party_of g.label) l && both_by now (has_discriminator g.discriminator) (λ r s B. ap (λ (x : Settings). eqb x.discriminator g.discriminator) B.settings) (st l) (st' l) (A l) i)) ls) 11 (bar (full g.label ls) 12 0))))
both-says now st st' ls (On l a) A = both-act now l a (st l) (st' l) (A l)

-- 2. Each event keeps them alike.

-- what decides the state at a clock
same_at : (r s : Story) → settings_of r ≡ settings_of s → locked r ≡ locked s → timed_from r ≡ timed_from s → multiplier_of r ≡ multiplier_of s → state r ≡ state s
    → (now : ℕ) → state_at now r ≡ state_at now s
unfolding state_at loss_in
same_at r s g k t m e now =
    λ i.
    cond (not (k i) && (not (is_source_up (mode_in (g i)) (e i)) && past (t i) (detection_time (g i).period (m i)) now))
    (moved_in (mode_in (g i)) (e i) Timer) (e i)

module _ {from : ℕ} (u : ℕ) {r s : Story} (h : from ≤ u) (A : Indistinct from r s) where
  alike-lock : Indistinct u (lock r u) (lock s u)
  unfolding settings_of locked timed_from multiplier_of remote_diagnostic remote_of owed keys_of stands followed_last crossing state
  alike-lock =
      record {
        settings = A.settings;
        lock-mark = refl;
        timed = A.timed;
        multiplier = A.multiplier;
        diagnostic = refl;
        remote = A.remote;
        reply = refl;
        keys = A.keys;
        standing = A.standing;
        following = A.following;
        crossings = A.crossings;
        sources = λ i. is_source_up (mode_in (A.settings i)) AdminDown;
        states = λ now k. same_at (lock r u) (lock s u) A.settings refl A.timed A.multiplier refl now;
      }

  alike-unlock : Indistinct u (unlock r u) (unlock s u)
  unfolding settings_of locked timed_from multiplier_of remote_diagnostic remote_of owed keys_of stands followed_last crossing state state_at
  alike-unlock =
      let t : timed_from (unlock r u) ≡ timed_from (unlock s u) = λ i. cond (A.lock-mark i) u (A.timed i) in
      let m : multiplier_of (unlock r u) ≡ multiplier_of (unlock s u) = λ i. cond (A.lock-mark i) 3 (A.multiplier i) in
      record {
        settings = A.settings;
        lock-mark = refl;
        timed = t;
        multiplier = m;
        diagnostic = A.diagnostic;
        remote = A.remote;
        reply = A.reply;
        keys = A.keys;
        standing = A.standing;
        following = A.following;
        crossings = A.crossings;
        sources = λ i. is_source_up (mode_in (A.settings i)) (cond (A.lock-mark i) Down (A.states u h i));
        states = λ now k. same_at (unlock r u) (unlock s u) A.settings refl t m (λ i. cond (A.lock-mark i) Down (A.states u h i)) now;
      }

  module _ (m : Message) where
    same-was : was_to r m ≡ was_to s m
    same-was = ap (λ (g : Settings). received_as g m) A.settings

    alike-got : Indistinct u (got r m u) (got s m u)
    unfolding settings_of locked timed_from multiplier_of remote_diagnostic remote_of owed keys_of stands followed_last crossing state state_at
    alike-got =
        let t : timed_from (got r m u) ≡ timed_from (got s m u) = λ i. cond (is_heard (same-was i)) u (A.timed i) in
        let k : multiplier_of (got r m u) ≡ multiplier_of (got s m u) = λ i. multiplier_by (same-was i) (A.multiplier i) in
        record {
          settings = A.settings;
          lock-mark = A.lock-mark;
          timed = t;
          multiplier = k;
          diagnostic = λ i. diagnostic_by (same-was i) (A.diagnostic i);
          remote = λ i. remote_by (same-was i) (A.remote i);
          reply = λ i. owed_by (same-was i) (A.reply i);
          keys = λ i. keys_by (same-was i) (A.keys i);
          standing = λ now key i. stands_by now u key (same-was i) (A.standing now key i);
          following = λ key i. followed_by (A.settings i) key (same-was i) (A.following key i);
          crossings = λ now i. is_crossed (same-was i) && within u crossing_time now || A.crossings now i;
          sources = λ i. is_source_up (mode_in (A.settings i)) (state_by (same-held A u i) (A.settings i) (same-was i) (A.states u h i));
          states = λ now b.
              same_at (got r m u) (got s m u) A.settings A.lock-mark t k (λ i. state_by (same-held A u i) (A.settings i) (same-was i) (A.states u h i)) now;
        }

alike-wrote : {from : ℕ} {r s : Story} → Indistinct from r s → Indistinct from (wrote_cc r) (wrote_cc s)
unfolding settings_of locked timed_from multiplier_of remote_diagnostic remote_of owed keys_of stands followed_last crossing state state_at loss_in
alike-wrote A =
    record {
      settings = A.settings;
      lock-mark = A.lock-mark;
      timed = A.timed;
      multiplier = A.multiplier;
      diagnostic = A.diagnostic;
      remote = A.remote;
      reply = refl;
      keys = A.keys;
      standing = A.standing;
      following = A.following;
      crossings = A.crossings;
      sources = A.sources;
      states = A.states;
    }

module _ (from : ℕ) where
  both_later : (later : ℕ) → from ≤ later → (o p : Option Story) → BothIndistinct from o p → BothIndistinct later o p
  both_later later h none none A = tt
  both_later later h none (some s) A = absurd A
  both_later later h (some r) none A = absurd A
  both_later later h (some r) (some s) A = alike-later later h A

  both-more : (u : ℕ) (f : Story → Story) → ((r s : Story) → Indistinct from r s → Indistinct u (f r) (f s)) → (o p : Option Story) → BothIndistinct from o p
      → BothIndistinct u (more f o) (more f p)
  both-more u f k none none A = tt
  both-more u f k none (some s) A = absurd A
  both-more u f k (some r) none A = absurd A
  both-more u f k (some r) (some s) A = k r s A

  both-acted : (a : Act) → from ≤ act_reading a from → (o p : Option Story) → BothIndistinct from o p → BothIndistinct (act_reading a from) (act_told a o) (act_told a p)
  both-acted (Close t) h o p A = tt
  both-acted (Lock t) h o p A = both-more t (λ s. lock s t) (λ r s B. alike-lock t h B) o p A
  both-acted (Unlock t) h o p A = both-more t (λ s. unlock s t) (λ r s B. alike-unlock t h B) o p A
  both-acted (Receive m t) h o p A = both-more t (λ s. got s (message_of m) t) (λ r s B. alike-got t h B (message_of m)) o p A
  both-acted ReportOn h o p A = A
  both-acted (WriteCc b) h o p A = both-more from wrote_cc (λ r s B. alike-wrote B) o p A
  both-acted (WriteCv b) h o p A = A

  -- what an accepted call leaves
  pub both_told : (l : ℕ) (c : Call) → from ≤ reading c from → (o p : Option Story) → BothIndistinct from o p → BothIndistinct (reading c from) (told l c o) (told l c p)
  both_told l (Tick t) h o p A = both_later t h o p A
  both_told l (Open g t) h o p A = split (eqb g.label l) (λ q. rw q (alike_same t (opened g t))) (λ q. rw q (both_later t h o p A))
  both_told l (On m a) h o p A =
      split (eqb m l) (λ q. rw q (both-acted a h o p A)) (λ q. rw q (both_later (act_reading a from) h o p A))

-- 3. A lock of what is locked and an unlock of what is not leave a story alike.

admin-down : (x : State) → is_locked x ≡ true → x ≡ AdminDown
admin-down AdminDown e = refl
admin-down Down e = absurd (let z : ◌≡◌ {A = ℕ} 0 1 = cc in omega arith)
admin-down NeighborDown e = absurd (let z : ◌≡◌ {A = ℕ} 0 1 = cc in omega arith)
admin-down Init e = absurd (let z : ◌≡◌ {A = ℕ} 0 1 = cc in omega arith)
admin-down Up e = absurd (let z : ◌≡◌ {A = ℕ} 0 1 = cc in omega arith)

-- where a locked session has no remote diagnostic and owes no reply
pub alike-locked : (u : ℕ) (s : Story) → locked s ≡ true → remote_diagnostic s ≡ 0 → owed s ≡ false → Indistinct u (lock s u) s
unfolding settings_of locked timed_from multiplier_of remote_diagnostic remote_of owed keys_of stands followed_last crossing state
alike-locked u s e d n =
    record {
      settings = refl;
      lock-mark = sym e;
      timed = refl;
      multiplier = refl;
      diagnostic = sym d;
      remote = refl;
      reply = sym n;
      keys = refl;
      standing = λ now key. refl;
      following = λ key. refl;
      crossings = λ now. refl;
      sources = ap (is_source_up (mode s)) (sym (admin-down (state s) (state-locked s ∙ e)));
      states = λ now k. same_at (lock s u) s refl (sym e) refl refl (sym (admin-down (state s) (state-locked s ∙ e))) now;
    }

pub alike-unlocked : (u : ℕ) (s : Story) → locked s ≡ false → Indistinct u (unlock s u) s
unfolding settings_of locked timed_from multiplier_of remote_diagnostic remote_of owed keys_of stands followed_last crossing state state_at loss_in
alike-unlocked u s e =
    record {
      settings = refl;
      lock-mark = sym e;
      timed = rw e;
      multiplier = rw e;
      diagnostic = refl;
      remote = refl;
      reply = refl;
      keys = refl;
      standing = λ now key. refl;
      following = λ key. refl;
      crossings = λ now. refl;
      sources = rw e (timer-source (not (is_source_up (mode s) (state s)) && is_over u) (mode s) (state s));
      states = λ now k. rw e (overdue-later (mode s) (is_over u) (is_over now) (state s) ∙ (rw e at (state-later s u now k)));
    }
  where
    -- more than the detection time has gone
    is_over : ℕ → Bool
    is_over now = past (timed_from s) (detection_time (settings_of s).period (multiplier_of s)) now
