-- What a message whose header is not refused says, and a header that was written.
-- Assumes nothing.
use mathlib.Core.Path.{◌≡◌, ◌∙◌}
use mathlib.Core.List.{List}
use Prim.Native.Nat.{ℕ, ◌/◌, ◌%◌, ◌≤◌}
use native.Mathlib.Omega.{arith}
use lib.ListN.{length, get_or}
use lib.Dec.{ltb, eqb}
use borrow.Author.Tests.{ltb-false, eqb-true, le-ltb, eq-eqb}
use Rattle.octets.proofs.Chain.{need-passed, bar-passed, or_else-passed, need-most, bar-most}
use Rattle.gach.specs.Header.{channel_of, header_refusal, channel_refusal}

pub record ChannelSays (own : ℕ) (m : List ℕ) : Type 0 where
  pub long : 4 ≤ length m
  pub nibble : get_or m 0 0 / 16 ≡ 1
  pub version : get_or m 0 0 % 16 ≡ 0
  pub channel : channel_of m ≡ own

pub channel-says : (own : ℕ) (m : List ℕ) → channel_refusal own m ≡ 0 → ChannelSays own m
unfolding header_refusal channel_refusal
channel-says own m e =
    let a = or_else-passed _ _ e in
    let b = bar-passed _ _ _ a.0 in
    let c = need-passed _ _ _ b.1 in
    let d = need-passed _ _ _ c.1 in
    let f = need-passed _ _ _ a.1 in
    record {
      long = ltb-false _ _ b.0;
      nibble = eqb-true _ _ c.0;
      version = eqb-true _ _ d.0;
      channel = eqb-true _ _ f.0;
    }

pub channel-passes : (own : ℕ) (m : List ℕ) → ChannelSays own m → channel_refusal own m ≡ 0
unfolding header_refusal channel_refusal
channel-passes own m s =
    rw (le-ltb (length m) 4 s.long, eq-eqb _ _ s.nibble, eq-eqb _ _ s.version, eq-eqb _ _ s.channel)

-- no refusal of a header is above 5
pub header-most : (m : List ℕ) → header_refusal m ≤ 5
unfolding header_refusal
header-most m =
    bar-most 5 (ltb (length m) 4) (omega arith)
    (need-most 5 (eqb (get_or m 0 0 / 16) 1) (omega arith) (need-most 5 (eqb (get_or m 0 0 % 16) 0) (omega arith) (omega arith)))

pub channel-most : (own : ℕ) (m : List ℕ) → channel_refusal own m ≤ 5
unfolding channel_refusal
channel-most own m =
    need-most 5 (eqb (header_refusal m) 0) (header-most m) (need-most 5 (eqb (channel_of m) own) (omega arith) (omega arith))
