-- The MEP-ID that the reader hands out: where its numbers stand in the message, that it can be written, and that what is nobody's field is 0.
-- Assumes nothing.
use mathlib.Core.Path.{◌≡◌, sym, ap, ◌∙◌}
use mathlib.Core.Bool.{true}
use mathlib.Core.List.{List}
use Prim.Native.Nat.{ℕ, ◌+◌, ◌≤◌}
use native.Mathlib.Omega.{arith}
use lib.ListN.{get_or, drop}
use lib.Seq.{get_or-drop}
use Rattle.octets.specs.Numbers.{number_at}
use Rattle.cv.specs.Forms.{value_length, mep_fits}
use Rattle.cv.specs.MepId.{mep_id_at, stretch_at, mep_octets, plain_mep, MepSized}
use Rattle.cv.specs.Cv.{mep_at, kind_at, len_at, agi_length_at, cv_refusal, source_of, mep_part}
use Rattle.cv.proofs.Forms.{Formed, fixed, pseudowire, formed-long, formed-length, formed-fits}
use Rattle.cv.proofs.Octets.{Small, small-take, number_small}
use Rattle.cv.proofs.Says.{MepSays, cv-says, stretch-length, stretch-number, stretch-octet, stretch-kind, stretch-len, stretch-formed, part-source}
use Rattle.cv.proofs.MepIds.{octets-back, octets-again}
use Rattle.cv.proofs.RoundTrip.{part-reads}

-- a pseudowire's length has room for the AGI type and length
agi-room : {kind len agi : ℕ} → Formed kind len agi → 2 ≤ kind → 14 ≤ len
agi-room (fixed h e) w = absurd (omega arith)
agi-room (pseudowire k e m) w = omega arith

module _ (m : List ℕ) (e : cv_refusal m ≡ 0) where
  says : MepSays m (mep_at m)
  says = (cv-says m e).mep

  -- of every type
  pub source-kind : (source_of m).kind ≡ kind_at m
  source-kind = stretch-kind m (mep_at m) says

  pub source-global : (source_of m).global ≡ number_at 4 m (mep_at m + 4)
  source-global = stretch-number m (mep_at m) says 4 4 (omega (arith, formed-long says.form))

  pub source-node : (source_of m).node ≡ number_at 4 m (mep_at m + 8)
  source-node = stretch-number m (mep_at m) says 4 8 (omega (arith, formed-long says.form))

  pub source-local : (source_of m).local ≡ number_at 4 m (mep_at m + 12)
  source-local = stretch-number m (mep_at m) says 4 12 (omega (arith, formed-long says.form))

  -- the length is the one that would be written
  pub source-length : value_length (source_of m).kind (source_of m).size ≡ len_at m
  source-length = formed-length (stretch-formed m (mep_at m) says) ∙ stretch-len m (mep_at m) says

  -- of a pseudowire
  pub source-group : 2 ≤ kind_at m → (source_of m).group ≡ get_or m (mep_at m + 16) 0
  source-group w = stretch-octet m (mep_at m) says 16 (omega (arith, agi-room says.form w))

  pub source-size : 2 ≤ kind_at m → (source_of m).size ≡ agi_length_at m
  source-size w = stretch-octet m (mep_at m) says 17 (omega (arith, agi-room says.form w))

  -- what is read can be written
  pub source_fits : mep_fits (source_of m).kind (source_of m).size ≡ true
  source_fits = formed-fits (stretch-formed m (mep_at m) says)

  -- its octets are those of the part, the AGI's among them
  pub source-octets : Small m → mep_octets (source_of m) ≡ mep_part m
  source-octets o = ap mep_octets (sym (part-source m e)) ∙ part-reads m o e

  stretch-small : Small m → Small (stretch_at m (mep_at m))
  stretch-small o = small-take (4 + len_at m) (drop (mep_at m) m) (λ i. rw (get_or-drop (mep_at m) m i 0) (o (mep_at m + i)))

  pub source-sized : Small m → MepSized (source_of m)
  source-sized o =
      let s = stretch_at m (mep_at m) in
      let small = stretch-small o in
      record {
        first = number_small 8 s 18 small;
        second = number_small 8 s 26 small;
        third = number_small 8 s 34 small;
        fourth = number_small 8 s 42 small;
        global = number_small 4 s 4 small;
        node = number_small 4 s 8 small;
        local = number_small 4 s 12 small;
        kind = number_small 2 s 0 small;
        group = small 16;
        size = small 17;
      }

  -- what the type does not use, and the octets behind the AGI's length, are 0
  pub source-plain : Small m → plain_mep (source_of m) ≡ source_of m
  source-plain o =
      let s = stretch_at m (mep_at m) in
      let size = stretch-length m (mep_at m) says in
      let again : mep_octets (source_of m) ≡ s = octets-again s (stretch-small o) (stretch-formed m (mep_at m) says) (rw (stretch-len m (mep_at m) says) size) in
      sym (octets-back (source_of m) (source-sized o) source_fits) ∙ ap (λ (l : List ℕ). mep_id_at l 0) again
