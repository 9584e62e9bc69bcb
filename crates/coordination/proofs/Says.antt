-- What a DHC message that is not refused says, and a message that says so.
-- Assumes nothing.
use mathlib.Core.Path.{◌≡◌, refl}
use mathlib.Core.Bool.{Bool, true, false}
use mathlib.Core.List.{List}
use Prim.Native.Nat.{ℕ, zero, suc, ◌≤◌}
use lib.ListN.{length}
use lib.Dec.{ltb, eqb-suc-zero}
use borrow.Author.Tests.{ne_eqb, ltb-false, le-ltb}
use Rattle.octets.specs.Choice.{bar, or_else, accepted, refused}
use Rattle.octets.proofs.Chain.{bar-passed, or_else-passed}
use Rattle.gach.specs.Header.{channel_refusal}
use Rattle.gach.proofs.Says.{ChannelSays, channel-says, channel-passes}
use Rattle.coordination.specs.declared.tlv.Tlvs.{Tlvs}
use Rattle.coordination.specs.Message.{dhc_channel, tlvs_end, tlvs_in, front_then, front_refusal, tlvs_refusal, refusal_with, dhc_refusal, dhc_of, read_dhc}

-- what a message that is not refused before its TLVs says
pub record Says (m : List ℕ) : Type 0 where
  pub channel : ChannelSays dhc_channel m
  pub long : 12 ≤ length m
  pub fits : tlvs_end m ≤ length m

pub says : (m : List ℕ) (t : Tlvs) → refusal_with m t ≡ 0 → Says m
unfolding refusal_with
says m t e =
    let a = or_else-passed (channel_refusal dhc_channel m) _ e in
    let b = bar-passed _ _ _ a.1 in
    let c = bar-passed _ _ _ b.1 in
    record { channel = channel-says dhc_channel m a.0; long = ltb-false _ _ b.0; fits = ltb-false _ _ c.0 }

pub says-tlvs : (m : List ℕ) (t : Tlvs) → refusal_with m t ≡ 0 → tlvs_refusal t ≡ 0
unfolding refusal_with
says-tlvs m t e =
    let a = or_else-passed (channel_refusal dhc_channel m) _ e in
    let b = bar-passed (ltb (length m) 12) 2 _ a.1 in
    (bar-passed (ltb (length m) (tlvs_end m)) 2 (tlvs_refusal t) b.1).1

-- a message that says so is refused for its TLVs alone
pub passes : (m : List ℕ) (t : Tlvs) → Says m → refusal_with m t ≡ tlvs_refusal t
unfolding refusal_with
passes m t s =
    rw (channel-passes dhc_channel m s.channel, le-ltb (length m) 12 s.long, le-ltb (length m) (tlvs_end m) s.fits)

pub dhc-says : (m : List ℕ) → dhc_refusal m ≡ 0 → Says m
unfolding dhc_refusal
dhc-says m e = says m (tlvs_in m) e

-- the TLVs come last
chained : (a : ℕ) (b d : Bool) (rest : ℕ) → or_else a (bar b 3 (bar d 3 rest)) ≡ or_else (or_else a (bar b 3 (bar d 3 0))) rest
chained (suc a) b d rest = rw (eqb-suc-zero a, eqb-suc-zero a)
chained zero true d rest = refl
chained zero false true rest = refl
chained zero false false rest = refl

pub front-first : (m : List ℕ) (rest : ℕ) → front_then m rest ≡ or_else (front_refusal m) rest
unfolding front_refusal
front-first m rest = chained (channel_refusal dhc_channel m) (ltb (length m) 12) (ltb (length m) (tlvs_end m)) rest

-- what reading says, refused and read
module _ (m : List ℕ) (n : ℕ) (e : n ≡ dhc_refusal m) where
  pub refused-with : (n ≡ 0 → ⊥) → refused n ≡ read_dhc m
  unfolding read_dhc
  refused-with h = rw (← e, ne_eqb n 0 h)

  pub read_whole : n ≡ 0 → accepted (dhc_of m) ≡ read_dhc m
  unfolding read_dhc
  read_whole z = rw (← e, z)
