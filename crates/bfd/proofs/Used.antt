-- The place behind an accepted CC is the octets that it uses: the header's 4 and Length, without padding.
-- Assumes nothing.
use mathlib.Core.Path.{◌≡◌, refl, ◌∙◌}
use mathlib.Core.Bool.{Bool, true, false}
use mathlib.Core.List.{List}
use Prim.Native.Nat.{ℕ, ◌+◌, ◌/◌, ◌≤◌, ◌<◌}
use native.Mathlib.Nat.{le_refl, min-eq_right}
use native.Mathlib.Omega.{arith}
use lib.Dec.{ltb, eqb}
use lib.ListN.{length, take}
use lib.Seq.{length-take-le, get_or-take}
use borrow.Author.Tests.{lt-ltb, le-ltb, eq-eqb, ne_eqb}
use Rattle.octets.proofs.Cuts.{at_front_lem}
use Rattle.octets.specs.Numbers.{number_at}
use Rattle.octets.specs.Choice.{need, or_else}
use Rattle.gach.specs.Header.{cc_channel, header_place, channel_place}
use Rattle.gach.specs.Places.{Used}
use Rattle.gach.proofs.Says.{channel-passes}
use Rattle.gach.proofs.Places.{below, channel-front, channel-cut}
use Rattle.bfd.specs.Packet.{flag_octet, length_of, packet_of}
use Rattle.bfd.specs.Reception.{your_refusal, control_refusal, cc_refusal, read_cc, rule_place, your_place, body_place, cc_end, cc_place}
use Rattle.bfd.proofs.Says.{ControlSays, control-passes, CcSays, cc-says, cc-passes}

-- a message that is cut behind its first 28 octets
module _ (m : List ℕ) (n : ℕ) (h : n ≤ length m) (f : 28 ≤ n) where
  pub control-front : (own : ℕ) → ControlSays own m → ControlSays own (take n m)
  control-front own s =
      record {
        header = channel-front m n h own (omega arith) s.header;
        long = omega (arith, length-take-le n m h);
        version = rw (get_or-take n m 4 0 (omega arith)) s.version;
        unauthenticated = rw (get_or-take n m 5 0 (omega arith)) s.unauthenticated;
        point_to_point = rw (get_or-take n m 5 0 (omega arith)) s.point_to_point;
        multiplier = rw (get_or-take n m 6 0 (omega arith)) s.multiplier;
        whole = rw (get_or-take n m 7 0 (omega arith)) s.whole;
        my = rw (at_front_lem 4 n m 8 (omega arith)) s.my;
      }

  pub packet-front : packet_of (take n m) ≡ packet_of m
  unfolding packet_of
  packet-front =
      rw (
        get_or-take n m 4 0 (omega arith),
        get_or-take n m 5 0 (omega arith),
        get_or-take n m 6 0 (omega arith),
        at_front_lem 4 n m 8 (omega arith),
        at_front_lem 4 n m 12 (omega arith),
        at_front_lem 4 n m 16 (omega arith),
        at_front_lem 4 n m 20 (omega arith),
        at_front_lem 4 n m 24 (omega arith),
      )

-- and inside them
pub control-cut : (own : ℕ) (m : List ℕ) (n r : ℕ) → n ≤ length m → n < 28 → ControlSays own m → or_else (control_refusal own (take n m)) r ≡ 3
unfolding control_refusal
control-cut own m n r h f s =
    below n 4 (λ low. rw (channel-cut m n h own low))
    (λ high. rw (channel-passes own (take n m) (channel-front m n h own high s.header), lt-ltb (length (take n m)) 28 (omega (arith, length-take-le n m h))))

-- a packet that is not refused for its first 28 octets is told by what follows
pub control-place : (own : ℕ) (m : List ℕ) (p : ℕ) → ControlSays own m → channel_place own m (body_place m p) ≡ p
unfolding header_place channel_place rule_place body_place
control-place own m p s =
    rw (
      le-ltb (length m) 4 s.header.long,
      eq-eqb _ _ s.header.nibble,
      eq-eqb _ _ s.header.version,
      eq-eqb _ _ s.header.channel,
      le-ltb (length m) 28 s.long,
      eq-eqb _ _ s.version,
      eq-eqb _ _ s.unauthenticated,
      eq-eqb _ _ s.point_to_point,
      ne_eqb _ _ s.multiplier,
      le-ltb (length_of m) 24 s.whole,
      ne_eqb _ _ s.my,
    )

your-passed : (zeroed low : Bool) (k p : ℕ) → need zeroed 0 (need low 6 0) ≡ 0 → need zeroed p (need low k p) ≡ p
your-passed true true k p e = refl
your-passed true false k p e = absurd (omega arith)
your-passed false low k p e = refl

-- 4 and Length, and not 28 where Length is above 24
pub place-used : (m : List ℕ) → cc_refusal m ≡ 0 → cc_place m ≡ cc_end m
unfolding your_refusal your_place cc_place
place-used m e =
    let s = cc-says m e in
    control-place cc_channel m _ s.control
    ∙ your-passed (eqb (number_at 4 m 12) 0) (ltb (flag_octet m / 64) 2) _ _ s.your
    ∙ min-eq_right s.fits

-- an accepted CC that is cut where its octets end
cc-front : (m : List ℕ) → CcSays m → CcSays (take (cc_end m) m)
cc-front m s =
    let n = cc_end m in
    let f : 28 ≤ n = omega (arith, s.control.whole) in
    record {
      control = control-front m n s.fits f cc_channel s.control;
      your = rw (get_or-take n m 5 0 (omega arith), at_front_lem 4 n m 12 (omega arith)) s.your;
      fits = rw (get_or-take n m 7 0 (omega arith), length-take-le n m s.fits) (le_refl n);
    }

-- and before
cc-cut : (m : List ℕ) (n : ℕ) → CcSays m → n < cc_end m → cc_refusal (take n m) ≡ 3
unfolding cc_refusal
cc-cut m n s h =
    let le : n ≤ length m = omega (arith, s.fits) in
    below n 28 (λ low. control-cut cc_channel m n _ le low s.control)
    (λ high.
    let l : length_of (take n m) ≡ length_of m = get_or-take n m 7 0 (omega arith) in
    rw (
      control-passes cc_channel (take n m) (control-front m n le high cc_channel s.control),
      get_or-take n m 5 0 (omega arith),
      at_front_lem 4 n m 12 (omega arith),
      s.your,
      lt-ltb (length (take n m)) (4 + length_of (take n m)) (omega (arith, length-take-le n m le)),
    ))

pub used-exactly : (m : List ℕ) → cc_refusal m ≡ 0 → Used read_cc cc_refusal cc_place m
unfolding read_cc
used-exactly m e =
    let s = cc-says m e in
    let f : 28 ≤ cc_end m = omega (arith, s.control.whole) in
    record {
      same = rw (place-used m e, e, cc-passes (take (cc_end m) m) (cc-front m s), packet-front m (cc_end m) s.fits f);
      fewer = λ n h. cc-cut m n s (rw (place-used m e) at h);
    }
