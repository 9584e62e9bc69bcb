-- The fields of a BFD control packet behind the G-ACh header (RFC 5880, 4.1).
-- Assumes nothing.
use Rattle.std.specs.Prelude.{ℕ, ◌/◌, ◌%◌, ◌^◌, ◌<◌, List, get_or, eqb}
use Rattle.octets.specs.Numbers.{number_at}
use Rattle.bfd.specs.declared.Packet.{Packet}

-- version (3 bits) and diagnostic (5)
abbrev pub version_octet : List ℕ → ℕ
version_octet m = get_or m 4 0

-- state (2 bits), P, F, C, A, D, M
abbrev pub flag_octet : List ℕ → ℕ
flag_octet m = get_or m 5 0

-- Length: the octets of the packet, counted from its version
abbrev pub length_of : List ℕ → ℕ
length_of m = get_or m 7 0

unfoldable pub packet_of : List ℕ → Packet
packet_of m =
    record {
      diagnostic = version_octet m % 32;
      state = flag_octet m / 64;
      poll = eqb (flag_octet m / 32 % 2) 1;
      fin = eqb (flag_octet m / 16 % 2) 1;
      independent = eqb (flag_octet m / 8 % 2) 1;
      demand = eqb (flag_octet m / 2 % 2) 1;
      multiplier = get_or m 6 0;
      my = number_at 4 m 8;
      your = number_at 4 m 12;
      transmit = number_at 4 m 16;
      receive = number_at 4 m 20;
      echo = number_at 4 m 24;
    }

-- the fields that are octets and 32-bit numbers in the code, as its types have them
pub record Sized (p : Packet) : Type 0 where
  pub multiplier : p.multiplier < 256
  pub my : p.my < 256 ^ 4
  pub your : p.your < 256 ^ 4
  pub transmit : p.transmit < 256 ^ 4
  pub receive : p.receive < 256 ^ 4
  pub echo : p.echo < 256 ^ 4
