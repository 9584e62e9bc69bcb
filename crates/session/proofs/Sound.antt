-- Every step keeps a sound record sound at its reading.
-- Assumes nothing.
use mathlib.Core.Path.{◌≡◌, refl, sym, ap, ◌∙◌}
use mathlib.Core.Bool.{Bool, true, false, cond, ◌||◌}
use mathlib.Core.Logic.{⊎_elim}
use Prim.Native.Nat.{ℕ, ◌≤◌, ◌<◌}
use native.Mathlib.Omega.{arith}
use lib.Dec.{leb, eqb}
use borrow.Author.Tests.{leb-true, leb-false, le-leb, lt-leb, eqb-false, ne_eqb}
use Rattle.octets.specs.Choice.{bit_of}
use Rattle.bfd.specs.declared.Packet.{Packet}
use Rattle.fault.specs.declared.Fault.{Fault}
use Rattle.rules.specs.declared.Settings.{Settings}
use Rattle.rules.specs.declared.State.{State}
use Rattle.rules.specs.declared.State.TheVariants.{Down}
use Rattle.rules.specs.declared.Input.{Input}
use Rattle.rules.specs.declared.Input.TheVariants.{Crossed, LinkDown, LockReport}
use Rattle.rules.specs.States.{heard_input, is_coming_up, stored, state_of}
use Rattle.rules.specs.Modes.{mode_in, moved_in}
use Rattle.rules.specs.Settings.{settings_fit}
use Rattle.rules.specs.Conditions.{fault_input, acts_on, fault_state}
use Rattle.rules.proofs.Bools.{split, or_cases, or_left, or_right, no_way, forced, true-false}
use Rattle.rules.proofs.Failing.{at_most, both-fail}
use Rattle.rules.proofs.Unfit.{settings-unfit}
use Rattle.rules.proofs.States.{state-stored, stored-fits, Lowering, no-rise, by_link_down, by_lock_report, by_crossed}
use Rattle.homing.specs.Fitting.{group_fits}
use Rattle.homing.specs.Events.{Timer as GivenTimer, Crossed as CrossedOn}
use Rattle.homing.proofs.Fits.{group-unfit, after-fits}
use Rattle.conditions.specs.declared.Conditions.{Conditions}
use Rattle.conditions.specs.Soundness.{place_sound, places_sound, clash, no_clash, conditions_sound}
use Rattle.conditions.specs.Taking.{taken_in}
use Rattle.conditions.proofs.Fading.{sound-later}
use Rattle.conditions.proofs.Taken.{taken-sound}
use Rattle.conditions.proofs.Unsound.{conditions-unsound}
use Rattle.session.specs.declared.Session.{Session}
use Rattle.session.specs.Queries.{locked_in, loss_at, held_at, state_at, group_at}
use Rattle.session.specs.Steps.{new_session, settled, locked_at, unlocked_at, heard_cc, heard_cv, crossed_at, fault_taken, reply_settled}
use Rattle.session.specs.Soundness.{session_sound}
use Rattle.session.specs.Unsound.{UnsoundSession, settings_unfit, state_above, no_multiplier, diagnostic_above, owed_mark, crossing_mark, timed_above, crossed_above, conditions_unsound, no_remote, group_unfit}
use Rattle.session.proofs.Settling.{coming-up-before}
use Rattle.session.proofs.Unsound.{up-told, told-up, session-unsound}

-- what a sound record says
pub record Says (s : Session) (clock : ℕ) : Type 0 where
  pub settings : settings_fit s.settings ≡ true
  pub state : s.state ≤ 4
  pub multiplier : 1 ≤ s.peer.multiplier
  pub diagnostic : s.peer.diagnostic ≤ 31
  pub owed : s.peer.owed ≤ 1
  pub crossing : s.crossing ≤ 1
  pub timed : s.timed ≤ clock
  pub crossed : eqb s.crossing 0 || leb s.crossed clock ≡ true
  pub remote : is_coming_up (state_of s.state) ≡ true → s.peer.remote ≡ 0 → ⊥
  pub conditions : conditions_sound s.conditions clock ≡ true
  pub group : group_fits s.settings.label s.group ≡ true

pub sound-says : (s : Session) (clock : ℕ) → session_sound s clock ≡ true → Says s clock
sound-says s clock e =
    record {
      settings = forced _ (λ z. no (settings_unfit ((settings-unfit s.settings).0 z)));
      state = at_most _ 4 (λ h. no (state_above h));
      multiplier = at_most 1 _ (λ h. no (no_multiplier (omega arith)));
      diagnostic = at_most _ 31 (λ h. no (diagnostic_above h));
      owed = at_most _ 1 (λ h. no (owed_mark h));
      crossing = at_most _ 1 (λ h. no (crossing_mark h));
      timed = at_most _ clock (λ h. no (timed_above h));
      crossed = forced _ (both-fail (λ m h. no (crossed_above (eqb-false _ _ m) (leb-false _ clock h))));
      remote = λ up z. no (no_remote (up-told s.state up) z);
      conditions = forced _ (λ z. no (conditions_unsound ((conditions-unsound s.conditions clock).0 z)));
      group = forced _ (λ z. no (group_unfit ((group-unfit s.settings.label s.group).0 z)));
    }
  where
    no : UnsoundSession s clock → ⊥
    no w = true-false e ((session-unsound s clock).1 w)

pub says-sound : (s : Session) (clock : ℕ) → Says s clock → session_sound s clock ≡ true
says-sound s clock x = forced (session_sound s clock) (λ e. no ((session-unsound s clock).0 e))
  where
    no : UnsoundSession s clock → ⊥
    no (settings_unfit w) = true-false x.settings ((settings-unfit s.settings).1 w)
    no (state_above h) = omega (arith, x.state)
    no (no_multiplier h) = omega (arith, x.multiplier)
    no (diagnostic_above h) = omega (arith, x.diagnostic)
    no (owed_mark h) = omega (arith, x.owed)
    no (crossing_mark h) = omega (arith, x.crossing)
    no (timed_above h) = omega (arith, x.timed)
    no (crossed_above m h) = true-false x.crossed (rw (ne_eqb _ 0 m, lt-leb _ clock h))
    no (conditions_unsound w) = true-false x.conditions ((conditions-unsound s.conditions clock).1 w)
    no (no_remote u z) = x.remote (told-up s.state u) z
    no (group_unfit w) = true-false x.group ((group-unfit s.settings.label s.group).1 w)

-- a crossing's date at a later clock
date-later : (crossing crossed now later : ℕ) → now ≤ later → eqb crossing 0 || leb crossed now ≡ true → eqb crossing 0 || leb crossed later ≡ true
date-later crossing crossed now later h e =
    ⊎_elim (λ a. or_left _ a) (λ a. or_right (eqb crossing 0) (le-leb crossed later (omega (arith, leb-true crossed now a)))) (or_cases (eqb crossing 0) (leb crossed now) e)

bit-most : (b : Bool) → bit_of b ≤ 1
bit-most true = omega arith
bit-most false = omega arith

-- opening, with settings that fit
pub opened-sound : (settings : Settings) (reading : ℕ) → settings_fit settings ≡ true → session_sound (new_session settings reading) reading ≡ true
unfolding new_session
opened-sound settings reading e =
    says-sound (new_session settings reading) reading
    (record {
      settings = e;
      state = omega arith;
      multiplier = omega arith;
      diagnostic = omega arith;
      owed = omega arith;
      crossing = omega arith;
      timed = omega arith;
      crossed = refl;
      remote = λ up z. no_way up refl;
      conditions = unfold conditions_sound places_sound place_sound no_clash clash in refl;
      group = unfold group_fits in refl;
    })

module _ (s : Session) (clock reading : ℕ) (h : clock ≤ reading) (sound : session_sound s clock ≡ true) where
  -- what holds of the record at the reading
  at-reading : Says s reading
  at-reading =
      let x = sound-says s clock sound in
      record {
        settings = x.settings;
        state = x.state;
        multiplier = x.multiplier;
        diagnostic = x.diagnostic;
        owed = x.owed;
        crossing = x.crossing;
        timed = omega (arith, x.timed);
        crossed = date-later s.crossing s.crossed clock reading h x.crossed;
        remote = x.remote;
        conditions = sound-later clock reading h s.conditions x.conditions;
        group = x.group;
      }

  -- a record whose clock only goes on
  pub kept-sound : session_sound s reading ≡ true
  kept-sound = says-sound s reading at-reading

  -- the group at the reading
  group-kept : group_fits s.settings.label (group_at s reading) ≡ true
  unfolding group_at
  group-kept = after-fits s.settings.label (GivenTimer (loss_at s reading)) s.group at-reading.group

  -- a state that comes up only where the record did keeps its remote discriminator
  remote-kept : (to : State) → (is_coming_up to ≡ true → is_coming_up (state_of s.state) ≡ true) → is_coming_up (state_of (stored to)) ≡ true → s.peer.remote ≡ 0 → ⊥
  remote-kept to up e z = at-reading.remote (up (sym (ap is_coming_up (state-stored to)) ∙ e)) z

  pub settled-sound : session_sound (settled s reading) reading ≡ true
  unfolding settled
  settled-sound =
      let x = at-reading in
      says-sound (settled s reading) reading
      (record {
        settings = x.settings;
        state = stored-fits (state_at s reading);
        multiplier = x.multiplier;
        diagnostic = x.diagnostic;
        owed = x.owed;
        crossing = x.crossing;
        timed = x.timed;
        crossed = x.crossed;
        conditions = x.conditions;
        remote = remote-kept (state_at s reading) (coming-up-before s reading);
        group = group-kept;
      })

  pub locked-sound : session_sound (locked_at s reading) reading ≡ true
  unfolding locked_at
  locked-sound =
      let x = at-reading in
      says-sound (locked_at s reading) reading
      (record {
        settings = x.settings;
        state = omega arith;
        multiplier = x.multiplier;
        diagnostic = omega arith;
        owed = omega arith;
        crossing = x.crossing;
        timed = x.timed;
        crossed = x.crossed;
        conditions = x.conditions;
        remote = λ up z. no_way up refl;
        group = group-kept;
      })

  unlocked-up : is_coming_up (cond (locked_in s) Down (state_at s reading)) ≡ true → is_coming_up (state_of s.state) ≡ true
  unlocked-up e = split (locked_in s) (λ a. no_way (rw a at e) refl) (λ a. coming-up-before s reading (rw a at e))

  pub unlocked-sound : session_sound (unlocked_at s reading) reading ≡ true
  unfolding unlocked_at
  unlocked-sound =
      let x = at-reading in
      says-sound (unlocked_at s reading) reading
      (record {
        settings = x.settings;
        state = stored-fits (cond (locked_in s) Down (state_at s reading));
        multiplier = split (locked_in s) (λ a. rw a (omega arith)) (λ a. rw a x.multiplier);
        diagnostic = x.diagnostic;
        owed = x.owed;
        crossing = x.crossing;
        timed = split (locked_in s) (λ a. rw a (omega arith)) (λ a. rw a x.timed);
        crossed = x.crossed;
        conditions = x.conditions;
        remote = remote-kept (cond (locked_in s) Down (state_at s reading)) unlocked-up;
        group = group-kept;
      })

  -- a CC that its reader accepts
  pub heard-cc-sound : (p : Packet) → 1 ≤ p.multiplier → p.diagnostic ≤ 31 → (p.my ≡ 0 → ⊥) → session_sound (heard_cc s reading p) reading ≡ true
  unfolding heard_cc
  heard-cc-sound p m d my =
      let x = at-reading in
      says-sound (heard_cc s reading p) reading
      (record {
        settings = x.settings;
        state = stored-fits (moved_in (mode_in s.settings) (state_at s reading) (heard_input (held_at s reading) p.state));
        multiplier = m;
        diagnostic = d;
        owed = bit-most (p.poll || eqb s.peer.owed 1);
        crossing = x.crossing;
        timed = omega arith;
        crossed = x.crossed;
        conditions = x.conditions;
        remote = λ up z. my z;
        group = group-kept;
      })

  pub heard-cv-sound : session_sound (heard_cv s reading) reading ≡ true
  unfolding heard_cv
  heard-cv-sound =
      let x = at-reading in
      says-sound (heard_cv s reading) reading
      (record {
        settings = x.settings;
        state = stored-fits (state_at s reading);
        multiplier = x.multiplier;
        diagnostic = x.diagnostic;
        owed = x.owed;
        crossing = x.crossing;
        timed = omega arith;
        crossed = x.crossed;
        conditions = x.conditions;
        remote = remote-kept (state_at s reading) (coming-up-before s reading);
        group = group-kept;
      })

  -- an input that brings no session up does not bring this one up either
  not-raised : {i : Input} → Lowering i → is_coming_up (moved_in (mode_in s.settings) (state_at s reading) i) ≡ true → is_coming_up (state_of s.state) ≡ true
  not-raised w e = coming-up-before s reading (no-rise (mode_in s.settings) (state_at s reading) w e)

  pub crossed-sound : session_sound (crossed_at s reading) reading ≡ true
  unfolding crossed_at
  crossed-sound =
      let x = at-reading in
      says-sound (crossed_at s reading) reading
      (record {
        settings = x.settings;
        state = stored-fits (moved_in (mode_in s.settings) (state_at s reading) Crossed);
        multiplier = x.multiplier;
        diagnostic = x.diagnostic;
        owed = x.owed;
        crossing = omega arith;
        timed = x.timed;
        crossed = le-leb reading reading (omega arith);
        conditions = x.conditions;
        remote = remote-kept (moved_in (mode_in s.settings) (state_at s reading) Crossed) (not-raised by_crossed);
        group = after-fits s.settings.label CrossedOn (group_at s reading) group-kept;
      })

  -- LDI and LKR bring no session up
  fault-up : (acts : Bool) (kind : ℕ) → is_coming_up (fault_state (mode_in s.settings) acts (state_at s reading) kind) ≡ true → is_coming_up (state_of s.state) ≡ true
  fault-up true kind e =
      split (eqb kind 1) (λ a. not-raised by_link_down (rw a at e)) (λ a. not-raised by_lock_report (rw a at e))
  fault-up false kind e = coming-up-before s reading e

  -- a fault message that its reader accepts
  pub fault-sound : (f : Fault) → f.kind ≤ 2 → 1 ≤ f.refresh → f.refresh ≤ 20 → session_sound (fault_taken s reading f) reading ≡ true
  unfolding fault_taken
  fault-sound f k l u =
      let x = at-reading in
      let to = fault_state (mode_in s.settings) (acts_on s.settings f) (state_at s reading) f.kind in
      says-sound (fault_taken s reading f) reading
      (record {
        settings = x.settings;
        state = stored-fits to;
        multiplier = x.multiplier;
        diagnostic = x.diagnostic;
        owed = x.owed;
        crossing = x.crossing;
        timed = x.timed;
        crossed = x.crossed;
        conditions = taken-sound s.conditions f reading k l u x.conditions;
        remote = remote-kept to (fault-up (acts_on s.settings f) f.kind);
        group = group-kept;
      })

  pub written-sound : session_sound (reply_settled s) reading ≡ true
  unfolding reply_settled
  written-sound =
      let x = at-reading in
      says-sound (reply_settled s) reading
      (record {
        settings = x.settings;
        state = x.state;
        multiplier = x.multiplier;
        diagnostic = x.diagnostic;
        owed = omega arith;
        crossing = x.crossing;
        timed = x.timed;
        crossed = x.crossed;
        conditions = x.conditions;
        remote = x.remote;
        group = x.group;
      })
