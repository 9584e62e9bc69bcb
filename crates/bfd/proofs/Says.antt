-- What a message that passes the refusals says, and that a message which says so passes.
-- Assumes nothing.
use mathlib.Core.Path.{◌≡◌}
use mathlib.Core.List.{List}
use Prim.Native.Nat.{ℕ, ◌+◌, ◌/◌, ◌%◌, ◌≤◌, ◌<◌}
use lib.ListN.{length, get_or}
use borrow.Author.Tests.{ltb-true, ltb-false, eqb-true, eqb-false, lt-ltb, le-ltb, eq-eqb, ne_eqb}
use Rattle.octets.specs.Numbers.{number_at}
use Rattle.octets.proofs.Chain.{need-passed, bar-passed, or_else-passed}
use Rattle.gach.specs.Header.{cc_channel, channel_refusal}
use Rattle.gach.proofs.Says.{ChannelSays, channel-says, channel-passes}
use Rattle.bfd.specs.declared.Packet.{Packet}
use Rattle.bfd.specs.Packet.{version_octet, flag_octet, length_of}
use Rattle.bfd.specs.Reception.{rule_refusal, your_refusal, control_refusal, cc_refusal, cc_body_refusal}
use Rattle.bfd.specs.Octets.{field_refusal, cc_field_refusal}

-- the first 28 octets of a message on a BFD channel
pub record ControlSays (own : ℕ) (m : List ℕ) : Type 0 where
  pub header : ChannelSays own m
  pub long : 28 ≤ length m
  pub version : version_octet m / 32 ≡ 1
  pub unauthenticated : flag_octet m / 4 % 2 ≡ 0
  pub point_to_point : flag_octet m % 2 ≡ 0
  pub multiplier : get_or m 6 0 ≡ 0 → ⊥
  pub whole : 24 ≤ length_of m
  pub my : number_at 4 m 8 ≡ 0 → ⊥

pub control-says : (own : ℕ) (m : List ℕ) → control_refusal own m ≡ 0 → ControlSays own m
unfolding control_refusal rule_refusal
control-says own m e =
    let a = or_else-passed _ _ e in
    let b = bar-passed _ _ _ a.1 in
    let c = need-passed _ _ _ b.1 in
    let d = need-passed _ _ _ c.1 in
    let f = need-passed _ _ _ d.1 in
    let g = bar-passed _ _ _ f.1 in
    let h = bar-passed _ _ _ g.1 in
    let i = bar-passed _ _ _ h.1 in
    record {
      header = channel-says own m a.0;
      long = ltb-false _ _ b.0;
      version = eqb-true _ _ c.0;
      unauthenticated = eqb-true _ _ d.0;
      point_to_point = eqb-true _ _ f.0;
      multiplier = eqb-false _ _ g.0;
      whole = ltb-false _ _ h.0;
      my = eqb-false _ _ i.0;
    }

pub control-passes : (own : ℕ) (m : List ℕ) → ControlSays own m → control_refusal own m ≡ 0
unfolding control_refusal rule_refusal
control-passes own m s =
    rw (
      channel-passes own m s.header,
      le-ltb (length m) 28 s.long,
      eq-eqb _ _ s.version,
      eq-eqb _ _ s.unauthenticated,
      eq-eqb _ _ s.point_to_point,
      ne_eqb _ _ s.multiplier,
      le-ltb (length_of m) 24 s.whole,
      ne_eqb _ _ s.my,
    )

-- an accepted CC
pub record CcSays (m : List ℕ) : Type 0 where
  pub control : ControlSays cc_channel m
  pub your : your_refusal (flag_octet m / 64) (number_at 4 m 12) ≡ 0
  pub fits : 4 + length_of m ≤ length m

pub cc-says : (m : List ℕ) → cc_refusal m ≡ 0 → CcSays m
unfolding cc_refusal
cc-says m e =
    let a = or_else-passed _ _ e in
    let b = or_else-passed _ _ a.1 in
    let c = bar-passed _ _ _ b.1 in
    record { control = control-says cc_channel m a.0; your = b.0; fits = ltb-false _ _ c.0 }

pub cc-passes : (m : List ℕ) → CcSays m → cc_refusal m ≡ 0
unfolding cc_refusal
cc-passes m s = rw (control-passes cc_channel m s.control, s.your, le-ltb (length m) (4 + length_of m) s.fits)

-- behind a CC's own header
pub cc-behind : (m : List ℕ) → channel_refusal cc_channel m ≡ 0 → cc_refusal m ≡ cc_body_refusal m
unfolding control_refusal cc_refusal cc_body_refusal
cc-behind m e = rw e

-- fields that are not refused on either channel
pub record FieldsSay (p : Packet) : Type 0 where
  pub diagnostic : p.diagnostic < 32
  pub state : p.state < 4
  pub multiplier : p.multiplier ≡ 0 → ⊥
  pub my : p.my ≡ 0 → ⊥

pub fields-say : (p : Packet) → field_refusal p ≡ 0 → FieldsSay p
unfolding field_refusal
fields-say p e =
    let a = need-passed _ _ _ e in
    let b = need-passed _ _ _ a.1 in
    let c = bar-passed _ _ _ b.1 in
    let d = bar-passed _ _ _ c.1 in
    record { diagnostic = ltb-true _ _ a.0; state = ltb-true _ _ b.0; multiplier = eqb-false _ _ c.0; my = eqb-false _ _ d.0 }

-- and a CC's
pub cc-fields-say : (p : Packet) → cc_field_refusal p ≡ 0 → FieldsSay p × (your_refusal p.state p.your ≡ 0)
unfolding cc_field_refusal
cc-fields-say p e =
    let a = or_else-passed _ _ e in
    let b = need-passed _ _ _ a.1 in
    (fields-say p a.0, eqb-true _ _ b.0)
