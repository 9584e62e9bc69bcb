-- What a fault message that is not refused says, and a message that says so.
-- Assumes nothing.
use mathlib.Core.Path.{◌≡◌, refl}
use mathlib.Core.Bool.{Bool, true, false}
use mathlib.Core.List.{List}
use Prim.Native.Nat.{ℕ, zero, suc, ◌/◌, ◌≤◌}
use lib.ListN.{length, get_or}
use lib.Dec.{ltb, eqb, eqb-suc-zero}
use borrow.Author.Tests.{ne_eqb, ltb-false, leb-true, eqb-true, le-ltb, le-leb, eq-eqb}
use Rattle.octets.specs.Choice.{bar, or_else, accepted, refused}
use Rattle.octets.proofs.Chain.{need-passed, bar-passed, or_else-passed}
use Rattle.gach.specs.Header.{fault_channel, channel_refusal}
use Rattle.gach.proofs.Says.{ChannelSays, channel-says, channel-passes}
use Rattle.fault.specs.declared.tlv.Tlvs.{Tlvs}
use Rattle.fault.specs.Message.{range_refusal, head_refusal, tlvs_end, tlvs_in, front_then, front_refusal, tlvs_refusal, refusal_with, fault_refusal, fault_of, read_fault}

-- a type and a refresh time that are not refused
pub record RangeSays (kind refresh : ℕ) : Type 0 where
  pub kind_low : 1 ≤ kind
  pub kind_high : kind ≤ 2
  pub refresh_low : 1 ≤ refresh
  pub refresh_high : refresh ≤ 20

pub range-says : (n kind refresh : ℕ) → range_refusal (suc n) kind refresh ≡ 0 → RangeSays kind refresh
unfolding range_refusal
range-says n kind refresh e =
    let a = need-passed _ _ _ e in
    let b = need-passed _ _ _ a.1 in
    let c = need-passed _ _ _ b.1 in
    let d = need-passed _ _ _ c.1 in
    record {
      kind_low = leb-true _ _ a.0;
      kind_high = leb-true _ _ b.0;
      refresh_low = leb-true _ _ c.0;
      refresh_high = leb-true _ _ d.0;
    }

pub range-passes : (n kind refresh : ℕ) → RangeSays kind refresh → range_refusal n kind refresh ≡ 0
unfolding range_refusal
range-passes n kind refresh s =
    rw (le-leb 1 kind s.kind_low, le-leb kind 2 s.kind_high, le-leb 1 refresh s.refresh_low, le-leb refresh 20 s.refresh_high)

-- what a message that is not refused says
pub record Says (m : List ℕ) : Type 0 where
  pub channel : ChannelSays fault_channel m
  pub long : 9 ≤ length m
  pub version : get_or m 4 0 / 16 ≡ 1
  pub range : RangeSays (get_or m 5 0) (get_or m 7 0)
  pub fits : tlvs_end m ≤ length m

pub says : (m : List ℕ) (t : Tlvs) → refusal_with m t ≡ 0 → Says m
unfolding refusal_with head_refusal
says m t e =
    let a = or_else-passed (channel_refusal fault_channel m) _ e in
    let b = bar-passed _ _ _ a.1 in
    let c = or_else-passed (head_refusal m) _ b.1 in
    let d = bar-passed _ _ _ c.1 in
    let v = need-passed _ _ _ c.0 in
    record {
      channel = channel-says fault_channel m a.0;
      long = ltb-false _ _ b.0;
      version = eqb-true _ _ v.0;
      range = range-says 7 _ _ v.1;
      fits = ltb-false _ _ d.0;
    }

pub says-bad : (m : List ℕ) (t : Tlvs) → refusal_with m t ≡ 0 → t.bad ≡ 0
unfolding refusal_with
says-bad m t e =
    let a = or_else-passed (channel_refusal fault_channel m) _ e in
    let b = bar-passed (ltb (length m) 9) 2 _ a.1 in
    let c = or_else-passed (head_refusal m) _ b.1 in
    let d = bar-passed (ltb (length m) (tlvs_end m)) 2 (tlvs_refusal t) c.1 in
    eqb-true _ _ (need-passed (eqb t.bad 0) 7 0 d.1).0

pub passes : (m : List ℕ) (t : Tlvs) → Says m → t.bad ≡ 0 → refusal_with m t ≡ 0
unfolding refusal_with head_refusal
passes m t s e =
    rw (
      channel-passes fault_channel m s.channel,
      le-ltb (length m) 9 s.long,
      eq-eqb _ _ s.version,
      range-passes 8 _ _ s.range,
      le-ltb (length m) (tlvs_end m) s.fits,
      e,
    )

pub fault-says : (m : List ℕ) → fault_refusal m ≡ 0 → Says m
unfolding fault_refusal
fault-says m e = says m (tlvs_in m) e

-- the TLVs come last
chained : (a : ℕ) (b : Bool) (h : ℕ) (d : Bool) (rest : ℕ)
    → or_else a (bar b 3 (or_else h (bar d 3 rest))) ≡ or_else (or_else a (bar b 3 (or_else h (bar d 3 0)))) rest
chained (suc a) b h d rest = rw (eqb-suc-zero a, eqb-suc-zero a)
chained zero true h d rest = refl
chained zero false (suc h) d rest = rw (eqb-suc-zero h, eqb-suc-zero h)
chained zero false zero true rest = refl
chained zero false zero false rest = refl

pub front-first : (m : List ℕ) (rest : ℕ) → front_then m rest ≡ or_else (front_refusal m) rest
unfolding front_refusal
front-first m rest = chained (channel_refusal fault_channel m) (ltb (length m) 9) (head_refusal m) (ltb (length m) (tlvs_end m)) rest

-- what reading says, refused and read
module _ (m : List ℕ) (n : ℕ) (e : n ≡ fault_refusal m) where
  pub refused-with : (n ≡ 0 → ⊥) → refused n ≡ read_fault m
  unfolding read_fault
  refused-with h = rw (← e, ne_eqb n 0 h)

  pub read_whole : n ≡ 0 → accepted (fault_of m) ≡ read_fault m
  unfolding read_fault
  read_whole z = rw (← e, z)
