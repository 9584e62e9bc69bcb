-- What a sound record writes is accepted by the readers, with the fields that it means to write.
-- Assumes nothing.
use mathlib.Core.Path.{◌≡◌, refl}
use mathlib.Core.Bool.{Bool, true, false, cond}
use mathlib.Core.List.{List, ◌++◌}
use Prim.Native.Nat.{ℕ, ◌≤◌, ◌<◌, ◌^◌}
use native.Mathlib.Omega.{arith}
use lib.Dec.{eqb}
use lib.ListN.{length, take}
use borrow.Author.Tests.{lt-ltb, ne_eqb, eqb-true, eqb-false}
use Rattle.octets.specs.Choice.{accepted}
use Rattle.bfd.specs.Packet.{Sized}
use Rattle.bfd.specs.Reception.{your_refusal, read_cc}
use Rattle.bfd.specs.Octets.{packet_octets, field_refusal, cc_field_refusal}
use Rattle.bfd.proofs.RoundTrip as Bfd
use Rattle.cv.specs.MepId.{head_octets, agi_octets, plain_mep}
use Rattle.cv.specs.Cv.{read_cv, cv_field_refusal}
use Rattle.cv.proofs.Octets.{front-whole, cv-length}
use Rattle.cv.proofs.RoundTrip as Cv
use Rattle.rules.specs.States.{reported, is_coming_up, down_by_neighbor, state_of}
use Rattle.rules.specs.Diagnostics.{diagnostic_of}
use Rattle.rules.specs.declared.Mode.{Mode}
use Rattle.rules.specs.declared.Mode.TheVariants.{Coordinated, Source, Sink}
use Rattle.rules.specs.Modes.{mode_in, required_interval}
use Rattle.rules.proofs.Bools.{split, refuted}
use Rattle.rules.proofs.States.{reported-fits, reported-up}
use Rattle.rules.proofs.Fitting.{SettingsSay, settings-say}
use Rattle.conditions.specs.Standing.{any_followed}
use Rattle.session.specs.declared.Session.{Session}
use Rattle.session.specs.Queries.{locked_in, loss_at, crossing_at, state_at, diagnostic_at, packet_at, cc_octets_at, cv_octets_at, cv_size_of, cv_whole_at}
use Rattle.session.specs.Soundness.{session_sound, Held}
use Rattle.session.proofs.Settling.{coming-up-before}
use Rattle.session.proofs.Sound.{Says, sound-says}

diagnostic-small : (locked crossing followed loss neighbor : Bool) → diagnostic_of locked crossing followed loss neighbor < 32
diagnostic-small true crossing followed loss neighbor = omega arith
diagnostic-small false true followed loss neighbor = omega arith
diagnostic-small false false true loss neighbor = omega arith
diagnostic-small false false false true neighbor = omega arith
diagnostic-small false false false false true = omega arith
diagnostic-small false false false false false = omega arith

required-most : (m : Mode) (period : ℕ) → required_interval m period ≤ period
required-most Coordinated period = omega arith
required-most Source period = omega arith
required-most Sink period = omega arith

module _ (s : Session) (clock : ℕ) (sound : session_sound s clock ≡ true) (held : Held s) where
  settings : SettingsSay s.settings
  settings = settings-say s.settings (sound-says s clock sound).settings

  packet-sized : (fin : Bool) → Sized (packet_at s clock fin)
  unfolding packet_at
  packet-sized fin =
      let x = settings in
      record {
        multiplier = omega arith;
        my = held.discriminator;
        your = held.remote;
        transmit = omega (arith, x.period_high);
        receive = omega (arith, x.period_high, required-most (mode_in s.settings) s.settings.period);
        echo = omega arith;
      }

  packet-fits : (fin : Bool) → field_refusal (packet_at s clock fin) ≡ 0
  unfolding packet_at field_refusal diagnostic_at
  packet-fits fin =
      let d : diagnostic_at s clock < 32 =
      diagnostic-small (locked_in s) (crossing_at s clock) (any_followed s.settings s.conditions clock) (loss_at s clock) (down_by_neighbor (state_at s clock)) in
      let r : reported (state_at s clock) < 4 = omega (arith, reported-fits (state_at s clock)) in
      rw (lt-ltb _ 32 d, lt-ltb (reported (state_at s clock)) 4 r, ne_eqb s.settings.discriminator 0 settings.discriminator)

  -- INIT and UP have a remote discriminator to send
  your-fits : your_refusal (reported (state_at s clock)) s.peer.remote ≡ 0
  unfolding your_refusal
  your-fits =
      split (eqb s.peer.remote 0)
      (λ e.
      let down : is_coming_up (state_at s clock) ≡ false =
      refuted (is_coming_up (state_at s clock)) (λ up. (sound-says s clock sound).remote (coming-up-before s clock up) (eqb-true _ _ e)) in
      let low : reported (state_at s clock) < 2 = omega (arith, reported-up (state_at s clock) down) in
      rw (e, lt-ltb (reported (state_at s clock)) 2 low))
      (λ e. rw e)

  cc-fits : (fin : Bool) → cc_field_refusal (packet_at s clock fin) ≡ 0
  unfolding cc_field_refusal packet_at
  cc-fits fin = rw (packet-fits fin, your-fits)

  cv-fits : cv_field_refusal (packet_at s clock false) s.settings.own ≡ 0
  unfolding cv_field_refusal
  cv-fits = rw (packet-fits false, settings.own)

  -- the CC that is written, read with any padding behind it
  pub cc-read-back : (pad : List ℕ) → read_cc (cc_octets_at s clock ++ pad) ≡ accepted (packet_at s clock (eqb s.peer.owed 1))
  unfolding cc_octets_at
  cc-read-back pad =
      let fin = eqb s.peer.owed 1 in
      Bfd.read-written (packet_at s clock fin) pad (packet-sized fin) (cc-fits fin)

  -- and the CV, with nought where nobody's field of the MEP-ID is
  pub cv-read-back : (pad : List ℕ) → read_cv (cv_octets_at s clock ++ pad) ≡ accepted (record { packet = packet_at s clock false; mep = plain_mep s.settings.own })
  unfolding cv_octets_at
  cv-read-back pad = Cv.read-written (packet_at s clock false) s.settings.own pad (packet-sized false) held.own cv-fits

-- ---- of every record, sound or not
module _ (s : Session) (clock : ℕ) where
  -- as many octets as its own MEP-ID makes
  pub cv-size : length (cv_octets_at s clock) ≡ cv_size_of s
  unfolding cv_octets_at
  cv-size = cv-length (packet_at s clock false) s.settings.own

  -- the message is the front of what the code holds
  pub cv-front : take (cv_whole_at s clock).count (cv_whole_at s clock).octets ≡ cv_octets_at s clock
  unfolding cv_octets_at cv_whole_at
  cv-front = front-whole (packet_at s clock false) s.settings.own

  pub cv-room : length (cv_whole_at s clock).octets ≡ 78
  unfolding cv_whole_at packet_octets head_octets agi_octets
  cv-room = refl
