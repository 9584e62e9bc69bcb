-- A record and a story that say the same, and how each accepted call keeps them so.
-- Assumes nothing.
use Prim.Native.Nat.{ℕ, ◌+◌, ◌≤◌, ◌<◌}
use native.Mathlib.Omega.{arith}
use mathlib.Core.Path.{◌≡◌, refl, sym, ap, ◌∙◌, subst}
use mathlib.Core.Bool.{Bool, true, false, cond, not, ◌&&◌, ◌||◌}
use mathlib.Core.List.{List}
use mathlib.Core.Logic.{⊎_elim}
use lib.Dec.{leb, eqb}
use borrow.Author.Tests.{eqb-true, leb-true, ltb-true, lt-ltb}
use Rattle.octets.specs.Choice.{bit_of}
use Rattle.octets.proofs.Chain.{and_both, bit-back}
use Rattle.bfd.specs.declared.Packet.{Packet}
use Rattle.fault.specs.declared.Fault.{Fault}
use Rattle.cv.specs.MepId.{same_mep_id}
use Rattle.message.specs.declared.Message.{Message}
use Rattle.message.specs.declared.Message.TheVariants.{ContinuityCheck, ConnectivityVerification, FaultManagement}
use Rattle.message.proofs.Read.{InRange}
use Rattle.rules.specs.declared.Settings.{Settings}
use Rattle.rules.specs.declared.State.{State}
use Rattle.rules.specs.declared.State.TheVariants.{Down}
use Rattle.rules.specs.declared.Mode.{Mode}
use Rattle.rules.specs.declared.Input.TheVariants.{Timer, Crossed}
use Rattle.rules.specs.declared.Received.{Received}
use Rattle.rules.specs.declared.Received.TheVariants.{CrossedMessage, HeardCc, HeardCv, FaultMessage}
use Rattle.rules.specs.Times.{past, within, detection_time, crossing_time}
use Rattle.rules.specs.States.{heard_input, is_locked, stored, state_of, down_by_neighbor}
use Rattle.rules.specs.Modes.{mode_in, moved_in, is_source_up, is_coordinated, required_interval}
use Rattle.rules.specs.Settings.{settings_fit}
use Rattle.rules.specs.Received.{received_as, foreign}
use Rattle.rules.specs.Conditions.{acts_on, fault_state, fault_input}
use Rattle.rules.specs.Diagnostics.{remote_defect, diagnostic_of, report_of, packet_out}
use Rattle.rules.proofs.Bools.{split, or_left, or_cases}
use Rattle.rules.proofs.Ages.{within-before}
use Rattle.rules.proofs.States.{state-stored, moved-locked}
use Rattle.conditions.specs.Standing.{count_at, any_followed}
use Rattle.conditions.specs.Taking.{fault_answer, taken_in}
use Rattle.session.specs.declared.Session.{Session}
use Rattle.session.specs.Queries.{locked_in, loss_at, crossing_at, defect_at, held_at, report_at, diagnostic_at, packet_at, cc_octets_at, cv_octets_at, state_at as record_state_at}
use Rattle.session.specs.Steps as Steps
use Rattle.session.specs.Reception.{received_answer, received_by}
use Rattle.session.specs.Soundness.{session_sound}
use Rattle.session.proofs.Sound.{sound-says, opened-sound, locked-sound, unlocked-sound, heard-cc-sound, heard-cv-sound, crossed-sound, fault-sound, written-sound, kept-sound}
use Rattle.meaning.specs.Stories.{Story, opened, lock, unlock, got, wrote_cc, settings_of, was_to, is_crossed, is_heard}
use Rattle.meaning.specs.Standing.{mode, locked, crossing, timed_from, multiplier_of, multiplier_by, loss_in, loss, state, state_by, state_at, remote_diagnostic, diagnostic_by, remote_of, remote_by, owed, owed_by, conditions, followed, defect, held, report, diagnostic, packet, cc_written, cv_written}
use Rattle.meaning.specs.Answers.{received_number}
use Rattle.meaning.proofs.Places.{Kept, kept-opened, kept-later, kept-lock, kept-unlock, kept-wrote, kept-crossed, kept-cc, kept-cv, kept-fault, kept-count, kept-followed, kept-crowded}

-- no input locks or unlocks a session
by-locked : (hold : Bool) (g : Settings) (x : Received) (s : State) → is_locked (state_by hold g x s) ≡ is_locked s
by-locked hold g CrossedMessage s = moved-locked (mode_in g) s Crossed
by-locked hold g (HeardCc p) s = moved-locked (mode_in g) s (heard_input hold p.state)
by-locked hold g HeardCv s = refl
by-locked hold g (FaultMessage f) s = split (acts_on g f) (λ e. rw e (moved-locked (mode_in g) s (fault_input f.kind))) (λ e. rw e)

timer-locked : (m : Mode) (b : Bool) (s : State) → is_locked (cond b (moved_in m s Timer) s) ≡ is_locked s
timer-locked m true s = moved-locked m s Timer
timer-locked m false s = refl

-- the state of a story is ADMIN DOWN exactly while it is locked
pub state-locked : (s : Story) → is_locked (state s) ≡ locked s
unfolding state locked
state-locked (opened g t) = refl
state-locked (lock s t) = refl
state-locked (unlock s t) =
    split (locked s) (λ e. rw e)
    (λ e. rw e (timer-locked (mode s) (loss t s) (state s) ∙ state-locked s ∙ e))
state-locked (got s m t) = by-locked _ (settings_of s) (was_to s m) _ ∙ timer-locked (mode s) (loss t s) (state s) ∙ state-locked s
state-locked (wrote_cc s) = state-locked s

or-false : (b : Bool) → b || false ≡ b
or-false true = refl
or-false false = refl

-- a record and a story that say the same from a clock on
pub record Fits (now : ℕ) (r : Session) (s : Story) : Type 0 where
  pub settings : r.settings ≡ settings_of s
  pub timed : r.timed ≡ timed_from s
  pub multiplier : r.peer.multiplier ≡ multiplier_of s
  pub diagnostic : r.peer.diagnostic ≡ remote_diagnostic s
  pub remote : r.peer.remote ≡ remote_of s
  pub reply : eqb r.peer.owed 1 ≡ owed s
  pub state : state_of r.state ≡ state s
  pub crossing : (t : ℕ) → now ≤ t → crossing_at r t ≡ crossing t s
  pub places : Kept now r.conditions s
  pub sound : session_sound r now ≡ true

module _ {now : ℕ} {r : Session} {s : Story} (f : Fits now r s) where
  pub same-locked : locked_in r ≡ locked s
  same-locked = ap is_locked f.state ∙ state-locked s

  pub same-loss : (t : ℕ) → loss_at r t ≡ loss t s
  unfolding loss_at loss_in
  same-loss t =
      λ i. not (same-locked i) && (not (is_source_up (mode_in (f.settings i)) (f.state i)) && past (f.timed i) (detection_time (f.settings i).period (f.multiplier i)) t)

  pub same-state : (t : ℕ) → record_state_at r t ≡ state_at t s
  unfolding record_state_at state_at
  same-state t = λ i. cond (same-loss t i) (moved_in (mode_in (f.settings i)) (f.state i) Timer) (f.state i)

  pub same-report : (t : ℕ) → now ≤ t → report_at r t ≡ report t s
  unfolding report_at report
  same-report t h =
      λ i.
      report_of (same-state t i) (f.crossing t h i) (same-loss t i) (remote_defect (same-locked i) (same-loss t i) (f.diagnostic i)) (kept-count t h f.places i)

  same-followed : (t : ℕ) → now ≤ t → any_followed r.settings r.conditions t ≡ followed t s
  same-followed t h = ap (λ (g : Settings). any_followed g r.conditions t) f.settings ∙ kept-followed t h f.places

  same-held : (t : ℕ) → now ≤ t → held_at r t ≡ held t s
  unfolding held_at defect_at held defect
  same-held t h = λ i. is_coordinated (mode_in (f.settings i)) && (f.crossing t h i || same-followed t h i)

  same-diagnostic : (t : ℕ) → now ≤ t → diagnostic_at r t ≡ diagnostic t s
  unfolding diagnostic_at diagnostic
  same-diagnostic t h =
      λ i. diagnostic_of (same-locked i) (f.crossing t h i) (same-followed t h i) (same-loss t i) (down_by_neighbor (same-state t i))

  same-packet : (t : ℕ) → now ≤ t → (fin fin' : Bool) → fin ≡ fin' → packet_at r t fin ≡ packet t s fin'
  unfolding packet_at packet
  same-packet t h fin fin' e =
      λ i. packet_out (same-diagnostic t h i) (same-state t i) (e i) (f.settings i).discriminator (f.remote i) (f.settings i).period
      (required_interval (mode_in (f.settings i)) (f.settings i).period)

  pub same-cc : (t : ℕ) → now ≤ t → cc_octets_at r t ≡ cc_written t s
  unfolding cc_octets_at cc_written
  same-cc t h = λ i. Rattle.bfd.specs.Octets.cc_octets (same-packet t h (eqb r.peer.owed 1) (owed s) f.reply i)

  pub same-cv : (t : ℕ) → now ≤ t → cv_octets_at r t ≡ cv_written t s
  unfolding cv_octets_at cv_written
  same-cv t h = λ i. Rattle.cv.specs.Cv.cv_octets (same-packet t h false false refl i) (f.settings i).own

  pub same_received : (t : ℕ) → now ≤ t → (x : Received) → received_answer r t x ≡ received_number s t x
  same_received t h CrossedMessage = ap (λ (b : Bool). cond b 14 0) same-locked
  same_received t h (HeardCc p) = ap (λ (b : Bool). cond b 14 0) same-locked
  same_received t h HeardCv = ap (λ (b : Bool). cond b 14 0) same-locked
  same_received t h (FaultMessage x) = kept-crowded x t h f.places

-- the clock goes on
pub fits-later : {now : ℕ} (later : ℕ) {r : Session} {s : Story} → now ≤ later → Fits now r s → Fits later r s
fits-later {now} later {r} {s} h f =
    record {
      settings = f.settings;
      timed = f.timed;
      multiplier = f.multiplier;
      diagnostic = f.diagnostic;
      remote = f.remote;
      reply = f.reply;
      state = f.state;
      crossing = λ t k. f.crossing t (omega arith);
      places = kept-later now later h f.places;
      sound = kept-sound r now later h f.sound;
    }

pub fits-opened : (g : Settings) (t : ℕ) → settings_fit g ≡ true → Fits t (Steps.new_session g t) (opened g t)
unfolding Steps.new_session settings_of timed_from multiplier_of remote_diagnostic remote_of owed state crossing crossing_at
fits-opened g t e =
    record {
      settings = refl;
      timed = refl;
      multiplier = refl;
      diagnostic = refl;
      remote = refl;
      reply = refl;
      state = refl;
      crossing = λ u k. refl;
      places = kept-opened g t;
      sound = opened-sound g t e;
    }

module _ {now : ℕ} (u : ℕ) {r : Session} {s : Story} (h : now ≤ u) (f : Fits now r s) where
  pub fits-locked : Fits u (Steps.locked_at r u) (lock s u)
  unfolding Steps.locked_at settings_of timed_from multiplier_of remote_diagnostic remote_of owed state crossing crossing_at
  fits-locked =
      record {
        settings = f.settings;
        timed = f.timed;
        multiplier = f.multiplier;
        diagnostic = refl;
        remote = f.remote;
        reply = refl;
        state = refl;
        crossing = λ t k. f.crossing t (omega arith);
        places = kept-lock u (kept-later now u h f.places);
        sound = locked-sound r now u h f.sound;
      }

  pub fits-unlocked : Fits u (Steps.unlocked_at r u) (unlock s u)
  unfolding Steps.unlocked_at settings_of timed_from multiplier_of remote_diagnostic remote_of owed state state_at crossing crossing_at
  fits-unlocked =
      record {
        settings = f.settings;
        timed = λ i. cond (same-locked f i) u (f.timed i);
        multiplier = λ i. cond (same-locked f i) 3 (f.multiplier i);
        diagnostic = f.diagnostic;
        remote = f.remote;
        reply = f.reply;
        state = state-stored (cond (locked_in r) Down (record_state_at r u)) ∙ (λ i. cond (same-locked f i) Down (same-state f u i));
        crossing = λ t k. f.crossing t (omega arith);
        places = kept-unlock u (kept-later now u h f.places);
        sound = unlocked-sound r now u h f.sound;
      }

pub fits-wrote : {now : ℕ} {r : Session} {s : Story} → Fits now r s → Fits now (Steps.reply_settled r) (wrote_cc s)
unfolding Steps.reply_settled settings_of timed_from multiplier_of remote_diagnostic remote_of owed state crossing crossing_at
fits-wrote {now} {r} {s} f =
    record {
      settings = f.settings;
      timed = f.timed;
      multiplier = f.multiplier;
      diagnostic = f.diagnostic;
      remote = f.remote;
      reply = refl;
      state = f.state;
      crossing = f.crossing;
      places = kept-wrote f.places;
      sound = written-sound r now now (omega arith) f.sound;
    }

-- a heard CC was a good CC, and a fault message a good one
heard-in-range : (m : Message) (g : Settings) (p : Packet) → received_as g m ≡ HeardCc p → InRange m → (1 ≤ p.multiplier) × (p.diagnostic ≤ 31) × (p.my ≡ 0 → ⊥)
unfolding received_as
heard-in-range (ContinuityCheck q) g p e k =
    split (foreign g.discriminator q.your)
    (λ z. absurd (let w : CrossedMessage ≡ HeardCc p = rw z at e in let y : ◌≡◌ {A = ℕ} 0 1 = cc in omega arith))
    (λ z. let w : HeardCc q ≡ HeardCc p = rw z at e in let same : q ≡ p = cc in
    subst (λ (y : Packet). (1 ≤ y.multiplier) × (y.diagnostic ≤ 31) × (y.my ≡ 0 → ⊥)) same k)
heard-in-range (ConnectivityVerification q id) g p e k =
    split (foreign g.discriminator q.your || not (same_mep_id id g.expected))
    (λ z. absurd (let w : CrossedMessage ≡ HeardCc p = rw z at e in let y : ◌≡◌ {A = ℕ} 0 1 = cc in omega arith))
    (λ z. absurd (let w : HeardCv ≡ HeardCc p = rw z at e in let y : ◌≡◌ {A = ℕ} 0 1 = cc in omega arith))
heard-in-range (FaultManagement x) g p e k = absurd (let y : ◌≡◌ {A = ℕ} 0 1 = cc in omega arith)

pub told-in-range : (m : Message) (g : Settings) (f : Fault) → received_as g m ≡ FaultMessage f → InRange m → (f.kind ≡ 0 → ⊥) × (f.kind ≤ 2) × (1 ≤ f.refresh) × (f.refresh ≤ 20)
unfolding received_as
told-in-range (ContinuityCheck q) g f e k =
    split (foreign g.discriminator q.your)
    (λ z. absurd (let w : CrossedMessage ≡ FaultMessage f = rw z at e in let y : ◌≡◌ {A = ℕ} 0 1 = cc in omega arith))
    (λ z. absurd (let w : HeardCc q ≡ FaultMessage f = rw z at e in let y : ◌≡◌ {A = ℕ} 0 1 = cc in omega arith))
told-in-range (ConnectivityVerification q id) g f e k =
    split (foreign g.discriminator q.your || not (same_mep_id id g.expected))
    (λ z. absurd (let w : CrossedMessage ≡ FaultMessage f = rw z at e in let y : ◌≡◌ {A = ℕ} 0 1 = cc in omega arith))
    (λ z. absurd (let w : HeardCv ≡ FaultMessage f = rw z at e in let y : ◌≡◌ {A = ℕ} 0 1 = cc in omega arith))
told-in-range (FaultManagement x) g f e k =
    let same : x ≡ f = cc in
    subst (λ (y : Fault). (y.kind ≡ 0 → ⊥) × (y.kind ≤ 2) × (1 ≤ y.refresh) × (y.refresh ≤ 20)) same k

-- a heard CC, a heard CV, a crossed message and a fault message
module _ {now : ℕ} (m : Message) (u : ℕ) {r : Session} {s : Story} (h : now ≤ u) (f : Fits now r s) where
  after-state : (x : Received) (to : State) → was_to s m ≡ x → to ≡ state_by (held u s) (settings_of s) x (state_at u s) → state_of (stored to) ≡ state (got s m u)
  unfolding state state_at
  after-state x to e k = state-stored to ∙ k ∙ ap (λ (y : Received). state_by (held u s) (settings_of s) y (state_at u s)) (sym e)

  fits-heard-cc : (p : Packet) → was_to s m ≡ HeardCc p → (1 ≤ p.multiplier) × (p.diagnostic ≤ 31) × (p.my ≡ 0 → ⊥) → Fits u (Steps.heard_cc r u p) (got s m u)
  unfolding Steps.heard_cc settings_of timed_from multiplier_of remote_diagnostic remote_of owed crossing crossing_at
  fits-heard-cc p e g =
      record {
        settings = f.settings;
        timed = rw e;
        multiplier = rw e;
        diagnostic = rw e;
        remote = rw e;
        reply = rw e (bit-back (p.poll || eqb r.peer.owed 1) _ refl ∙ ap (λ (b : Bool). p.poll || b) f.reply);
        state =
            after-state (HeardCc p) (moved_in (mode_in r.settings) (record_state_at r u) (heard_input (held_at r u) p.state)) e
            (λ i. moved_in (mode_in (f.settings i)) (same-state f u i) (heard_input (same-held f u h i) p.state));
        crossing = λ t k. rw e (f.crossing t (omega arith));
        places = kept-cc m u p e (kept-later now u h f.places);
        sound = heard-cc-sound r now u h f.sound p g.0 g.1 g.2;
      }

  fits-heard-cv : was_to s m ≡ HeardCv → Fits u (Steps.heard_cv r u) (got s m u)
  unfolding Steps.heard_cv settings_of timed_from multiplier_of remote_diagnostic remote_of owed crossing crossing_at
  fits-heard-cv e =
      record {
        settings = f.settings;
        timed = rw e;
        multiplier = rw e f.multiplier;
        diagnostic = rw e f.diagnostic;
        remote = rw e f.remote;
        reply = rw e f.reply;
        state = after-state HeardCv (record_state_at r u) e (same-state f u);
        crossing = λ t k. rw e (f.crossing t (omega arith));
        places = kept-cv m u e (kept-later now u h f.places);
        sound = heard-cv-sound r now u h f.sound;
      }

  -- a crossing that stands later stood before, so the last crossed message decides
  crossed-last : (t : ℕ) → now ≤ t → u ≤ t → within u crossing_time t ≡ within u crossing_time t || crossing t s
  unfolding crossing_at within
  crossed-last t a b =
      split (crossing t s)
      (λ e.
      let x = and_both (eqb r.crossing 1) (within r.crossed crossing_time t) (f.crossing t a ∙ e) in
      let one : r.crossing ≡ 1 = eqb-true r.crossing 1 x.0 in
      let d : r.crossed ≤ now =
      ⊎_elim (λ z. absurd (omega (arith, eqb-true r.crossing 0 z))) (λ z. leb-true r.crossed now z)
      (or_cases (eqb r.crossing 0) (leb r.crossed now) (sound-says r now f.sound).crossed) in
      let k : t < r.crossed + crossing_time = ltb-true t (r.crossed + crossing_time) x.1 in
      let w : within u crossing_time t ≡ true = lt-ltb t (u + crossing_time) (omega arith) in
      w ∙ sym (or_left (crossing t s) w))
      (λ e. sym (ap (λ (c : Bool). within u crossing_time t || c) e ∙ or-false (within u crossing_time t)))

  fits-crossed : was_to s m ≡ CrossedMessage → Fits u (Steps.crossed_at r u) (got s m u)
  unfolding Steps.crossed_at settings_of timed_from multiplier_of remote_diagnostic remote_of owed crossing crossing_at
  fits-crossed e =
      record {
        settings = f.settings;
        timed = rw e f.timed;
        multiplier = rw e f.multiplier;
        diagnostic = rw e f.diagnostic;
        remote = rw e f.remote;
        reply = rw e f.reply;
        state =
            after-state CrossedMessage (moved_in (mode_in r.settings) (record_state_at r u) Crossed) e
            (λ i. moved_in (mode_in (f.settings i)) (same-state f u i) Crossed);
        crossing = λ t k. rw e (crossed-last t (omega arith) k);
        places = kept-crossed m u e (kept-later now u h f.places);
        sound = crossed-sound r now u h f.sound;
      }

  fits-fault : (x : Fault) → was_to s m ≡ FaultMessage x → fault_answer r.conditions x u ≡ 0
      → (x.kind ≡ 0 → ⊥) × (x.kind ≤ 2) × (1 ≤ x.refresh) × (x.refresh ≤ 20) → Fits u (Steps.fault_taken r u x) (got s m u)
  unfolding Steps.fault_taken settings_of timed_from multiplier_of remote_diagnostic remote_of owed crossing crossing_at
  fits-fault x e a g =
      record {
        settings = f.settings;
        timed = rw e f.timed;
        multiplier = rw e f.multiplier;
        diagnostic = rw e f.diagnostic;
        remote = rw e f.remote;
        reply = rw e f.reply;
        state =
            after-state (FaultMessage x) (fault_state (mode_in r.settings) (acts_on r.settings x) (record_state_at r u) x.kind) e
            (λ i. fault_state (mode_in (f.settings i)) (acts_on (f.settings i) x) (same-state f u i) x.kind);
        crossing = λ t k. rw e (f.crossing t (omega arith));
        places = kept-fault m x u h g.0 e a f.places;
        sound = fault-sound r now u h f.sound x g.1 g.2 g.3;
      }

  -- a received message that is accepted
  pub fits-got : (x : Received) → was_to s m ≡ x → InRange m → received_answer r u x ≡ 0 → Fits u (received_by r u x) (got s m u)
  fits-got CrossedMessage e g a = fits-crossed e
  fits-got (HeardCc p) e g a = fits-heard-cc p e (heard-in-range m (settings_of s) p e g)
  fits-got HeardCv e g a = fits-heard-cv e
  fits-got (FaultMessage x) e g a = fits-fault x e a (told-in-range m (settings_of s) x e g)
