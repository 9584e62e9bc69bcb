-- What is written reads back to the same fields, and a plain message that is read and written again is the same octets.
-- Assumes nothing.
use mathlib.Core.Path.{◌≡◌, refl, sym, ap, ◌∙◌}
use mathlib.Core.Bool.{Bool, true, false}
use mathlib.Core.List.{List, [], ◌∷◌, ◌++◌}
use Prim.Native.Nat.{ℕ, ◌+◌, ◌*◌, ◌/◌, ◌%◌, ◌^◌, ◌≤◌, ◌<◌}
use native.Mathlib.Omega.{arith}
use lib.ListN.{length, get_or}
use lib.Dec.{eqb}
use borrow.Author.Tests.{lt-ltb, ne_eqb}
use Rattle.octets.specs.Numbers.{number_at, octets_of}
use Rattle.octets.specs.Choice.{bit_of, accepted}
use Rattle.octets.proofs.Numbers.{read_of, run, of_at, run-all}
use Rattle.octets.proofs.Chain.{bit-back, bit-again}
use Rattle.gach.specs.Header.{cc_channel, channel_of}
use Rattle.gach.proofs.Says.{ChannelSays}
use Rattle.bfd.specs.declared.Packet.{Packet}
use Rattle.bfd.specs.Packet.{version_octet, flag_octet, length_of, packet_of, Sized}
use Rattle.bfd.specs.Reception.{your_refusal, cc_refusal, read_cc}
use Rattle.bfd.specs.Octets.{flags_of, packet_octets, cc_octets, field_refusal, cc_field_refusal, Plain}
use Rattle.bfd.proofs.Says.{ControlSays, CcSays, cc-says, cc-passes, FieldsSay, cc-fields-say}

bit-small : (mark : Bool) → bit_of mark < 2
bit-small true = omega arith
bit-small false = omega arith

-- a packet from its fields
rebuilt : (p : Packet) {diagnostic' state' multiplier' my' your' transmit' receive' echo' : ℕ} {poll' fin' independent' demand' : Bool}
    → diagnostic' ≡ p.diagnostic → state' ≡ p.state → poll' ≡ p.poll → fin' ≡ p.fin → independent' ≡ p.independent → demand' ≡ p.demand
    → multiplier' ≡ p.multiplier → my' ≡ p.my → your' ≡ p.your → transmit' ≡ p.transmit → receive' ≡ p.receive → echo' ≡ p.echo
    → record {
      diagnostic = diagnostic';
      state = state';
      poll = poll';
      fin = fin';
      independent = independent';
      demand = demand';
      multiplier = multiplier';
      my = my';
      your = your';
      transmit = transmit';
      receive = receive';
      echo = echo';
    } ≡ p
rebuilt p e0 e1 e2 e3 e4 e5 e6 e7 e8 e9 e10 e11 = rw (e0, e1, e2, e3, e4, e5, e6, e7, e8, e9, e10, e11)

-- the octet of state and flags, read back bit by bit
record FlagsSay (x : ℕ) (p : Packet) : Type 0 where
  state : x / 64 ≡ p.state
  poll : x / 32 % 2 ≡ bit_of p.poll
  fin : x / 16 % 2 ≡ bit_of p.fin
  independent : x / 8 % 2 ≡ bit_of p.independent
  demand : x / 2 % 2 ≡ bit_of p.demand
  authentication : x / 4 % 2 ≡ 0
  multipoint : x % 2 ≡ 0

flags-say : (p : Packet) → p.state < 4 → FlagsSay (flags_of p) p
flags-say p h =
    let b1 = bit-small p.poll in
    let b2 = bit-small p.fin in
    let b3 = bit-small p.independent in
    let b4 = bit-small p.demand in
    record {
      state = omega arith;
      poll = omega arith;
      fin = omega arith;
      independent = omega arith;
      demand = omega arith;
      authentication = omega arith;
      multipoint = omega arith;
    }

module _ (channel : ℕ) (p : Packet) (rest : List ℕ) (f : FieldsSay p) (s : Sized p) where
  -- the fields of written octets, whatever stands behind them
  pub fields_back : packet_of (packet_octets channel p rest) ≡ p
  unfolding packet_octets packet_of
  fields_back =
      let m = packet_octets channel p rest in
      let x = flags-say p f.state in
      let diagnostic : version_octet m % 32 ≡ p.diagnostic = omega arith in
      rebuilt p diagnostic x.state (bit-back _ _ x.poll) (bit-back _ _ x.fin) (bit-back _ _ x.independent) (bit-back _ _ x.demand) refl
      (read_of 4 p.my [] s.my) (read_of 4 p.your [] s.your) (read_of 4 p.transmit [] s.transmit) (read_of 4 p.receive [] s.receive)
      (read_of 4 p.echo [] s.echo)

  pub written-says : channel < 65536 → ControlSays channel (packet_octets channel p rest)
  unfolding packet_octets
  written-says h =
      let m = packet_octets channel p rest in
      let x = flags-say p f.state in
      let my : number_at 4 m 8 ≡ p.my = read_of 4 p.my [] s.my in
      record {
        header = record { long = omega arith; nibble = refl; version = refl; channel = read_of 2 channel [] h };
        long = omega arith;
        version = omega arith;
        unauthenticated = x.authentication;
        point_to_point = x.multipoint;
        multiplier = f.multiplier;
        whole = omega arith;
        my = λ z. f.my (sym my ∙ z);
      }

-- what is written reads back to the same fields, whatever stands behind it
pub read-written : (p : Packet) (pad : List ℕ) → Sized p → cc_field_refusal p ≡ 0 → read_cc (cc_octets p ++ pad) ≡ accepted p
unfolding read_cc packet_octets
read-written p pad s e =
    let f = cc-fields-say p e in
    let m = packet_octets cc_channel p pad in
    let x = flags-say p f.0.state in
    let your : number_at 4 m 12 ≡ p.your = read_of 4 p.your [] s.your in
    let says : CcSays m =
    record {
      control = written-says cc_channel p pad f.0 s (omega arith);
      your = rw (x.state, your) f.1;
      fits = omega arith;
    } in
    rw (cc-passes m says, fields_back cc_channel p pad f.0 s)

-- refusal 10 is for no other fields: a packet in range that would be read is written
pub packet-exactly : (channel : ℕ) (p : Packet) (rest : List ℕ) → Sized p → p.diagnostic < 32 → p.state < 4
    → ControlSays channel (packet_octets channel p rest) → field_refusal p ≡ 0
unfolding packet_octets field_refusal
packet-exactly channel p rest s d h says =
    let my : number_at 4 (packet_octets channel p rest) 8 ≡ p.my = read_of 4 p.my [] s.my in
    rw (lt-ltb _ _ d, lt-ltb _ _ h, ne_eqb _ _ says.multiplier, ne_eqb p.my 0 (λ z. says.my (my ∙ z)))

pub refused-exactly : (p : Packet) → Sized p → p.diagnostic < 32 → p.state < 4 → cc_refusal (cc_octets p) ≡ 0 → cc_field_refusal p ≡ 0
unfolding packet_octets cc_field_refusal
refused-exactly p s d h e =
    let m = cc_octets p in
    let says = cc-says m e in
    let x = flags-say p h in
    let your : number_at 4 m 12 ≡ p.your = read_of 4 p.your [] s.your in
    let y : your_refusal p.state p.your ≡ 0 = rw (x.state, your) at says.your in
    rw (packet-exactly cc_channel p [] s d h says.control, y)

sum : (x x2 x4 x8 x16 x32 x64 p f c a d m : ℕ) → x ≡ x2 * 2 + m → x2 ≡ x4 * 2 + d → x4 ≡ x8 * 2 + a → x8 ≡ x16 * 2 + c
    → x16 ≡ x32 * 2 + f → x32 ≡ x64 * 2 + p → a ≡ 0 → m ≡ 0 → x64 * 64 + p * 32 + f * 16 + c * 8 + d * 2 ≡ x
sum x x2 x4 x8 x16 x32 x64 p f c a d m e0 e1 e2 e3 e4 e5 e6 e7 = omega arith

-- the octet of state and flags, written from what was read
flags-again : (x : ℕ) → x < 256 → x / 4 % 2 ≡ 0 → x % 2 ≡ 0
    → x / 64 % 4 * 64 + bit_of (eqb (x / 32 % 2) 1) * 32 + bit_of (eqb (x / 16 % 2) 1) * 16 + bit_of (eqb (x / 8 % 2) 1) * 8 + bit_of (eqb (x / 2 % 2) 1) * 2 ≡ x
flags-again x b a m =
    let s : x / 64 % 4 ≡ x / 64 = omega arith in
    rw (s, bit-again (x / 32 % 2) (omega arith), bit-again (x / 16 % 2) (omega arith), bit-again (x / 8 % 2) (omega arith), bit-again (x / 2 % 2) (omega arith))
    (sum x (x / 2) (x / 4) (x / 8) (x / 16) (x / 32) (x / 64) (x / 32 % 2) (x / 16 % 2) (x / 8 % 2) (x / 4 % 2) (x / 2 % 2) (x % 2)
    (omega arith) (omega arith) (omega arith) (omega arith) (omega arith) (omega arith) a m)

eight : {a0 a1 a2 a3 a4 a5 a6 a7 b0 b1 b2 b3 b4 b5 b6 b7 : ℕ} {s t : List ℕ} → a0 ≡ b0 → a1 ≡ b1 → a2 ≡ b2 → a3 ≡ b3 → a4 ≡ b4 → a5 ≡ b5 → a6 ≡ b6
    → a7 ≡ b7 → s ≡ t → a0 ∷ a1 ∷ a2 ∷ a3 ∷ a4 ∷ a5 ∷ a6 ∷ a7 ∷ s ≡ b0 ∷ b1 ∷ b2 ∷ b3 ∷ b4 ∷ b5 ∷ b6 ∷ b7 ∷ t
eight e0 e1 e2 e3 e4 e5 e6 e7 e = cc

-- the octets of a packet that was read are the message's own, one by one
pub octets-again : (own : ℕ) (m rest : List ℕ) → ((i : ℕ) → get_or m i 0 < 256) → get_or m 1 0 ≡ 0 → length_of m ≡ 24 → ControlSays own m
    → packet_octets own (packet_of m) rest ≡ run 28 m 0 rest
unfolding packet_octets packet_of
octets-again own m rest o unread len says =
    let h = says.header in
    let c : get_or m 2 0 * 256 + get_or m 3 0 ≡ own = omega (arith, h.channel) in
    eight {b0 = get_or m 0 0} {b1 = get_or m 1 0} {b2 = get_or m 2 0} {b3 = get_or m 3 0} {b4 = get_or m 4 0} {b5 = get_or m 5 0} {b6 = get_or m 6 0} {b7 = get_or m 7 0}
    (omega (arith, h.nibble, h.version)) (omega arith) (omega (arith, o 2, o 3)) (omega (arith, o 2, o 3))
    (omega (arith, o 4, says.version)) (flags-again (get_or m 5 0) (o 5) says.unauthenticated says.point_to_point) refl (omega arith)
    (of_at 4 m 8 _ o
    ∙ ap (run 4 m 8) (of_at 4 m 12 _ o ∙ ap (run 4 m 12) (of_at 4 m 16 _ o ∙ ap (run 4 m 16) (of_at 4 m 20 _ o ∙ ap (run 4 m 20) (of_at 4 m 24 _ o)))))

-- a plain message that is read, written again, is the same octets
pub written_read : (m : List ℕ) → Plain m → cc_refusal m ≡ 0 → cc_octets (packet_of m) ≡ m
written_read m plain e =
    octets-again cc_channel m [] plain.octets plain.unread plain.len (cc-says m e).control ∙ run-all 28 m plain.size

-- edge k: 10000022 20400318 00000011 00000000 000f4240 000f4240 00000000
pub edge-k : cc_octets
    (record {
      diagnostic = 0;
      state = 1;
      poll = false;
      fin = false;
      independent = false;
      demand = false;
      multiplier = 3;
      my = 17;
      your = 0;
      transmit = 1000000;
      receive = 1000000;
      echo = 0;
    })
    ≡ 0x10 ∷ 0x00 ∷ 0x00 ∷ 0x22 ∷ 0x20 ∷ 0x40 ∷ 0x03 ∷ 0x18 ∷ 0x00 ∷ 0x00 ∷ 0x00 ∷ 0x11 ∷ 0x00 ∷ 0x00 ∷ 0x00 ∷ 0x00
    ∷ 0x00 ∷ 0x0f ∷ 0x42 ∷ 0x40 ∷ 0x00 ∷ 0x0f ∷ 0x42 ∷ 0x40 ∷ 0x00 ∷ 0x00 ∷ 0x00 ∷ 0x00 ∷ []
unfolding packet_octets
edge-k = refl
