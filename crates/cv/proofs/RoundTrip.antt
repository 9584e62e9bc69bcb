-- What is written reads back to the same fields, and a plain message that is read and written again is the same octets; every
-- MEP-ID type at once.
-- Assumes nothing.
use mathlib.Core.Path.{◌≡◌, sym, ap, ◌∙◌}
use mathlib.Core.Bool.{true}
use mathlib.Core.List.{List, ◌++◌}
use Prim.Native.Nat.{ℕ, ◌+◌, ◌≤◌, ◌<◌}
use native.Mathlib.Omega.{arith}
use lib.ListN.{length, get_or, take, drop, length-append, length-drop, take-append-drop, get_or-append}
use lib.Seq.{take_at, take_all, get_or-drop}
use Rattle.octets.specs.Numbers.{number_at}
use Rattle.octets.specs.Choice.{accepted, answer}
use Rattle.octets.proofs.Numbers.{run_take}
use Rattle.octets.proofs.Cuts.{at_first}
use Rattle.octets.proofs.Chain.{need-passed, or_else-passed}
use Rattle.gach.specs.Header.{cv_channel}
use Rattle.bfd.specs.declared.Packet.{Packet}
use Rattle.bfd.specs.Packet.{packet_of, Sized}
use Rattle.bfd.specs.Octets.{packet_octets}
use Rattle.bfd.proofs.Says.{FieldsSay, fields-say}
use Rattle.bfd.proofs.RoundTrip.{fields_back, written-says, packet-exactly, octets-again as packet-again}
use Rattle.cv.specs.declared.MepId.{MepId}
use Rattle.cv.specs.Forms.{value_length, mep_fits}
use Rattle.cv.specs.MepId.{mep_id_at, stretch_at, mep_octets, plain_mep, read_mep, MepSized}
use Rattle.cv.specs.Cv.{mep_at, len_at, cv_refusal, source_of, mep_part, read_cv, verification_of, cv_octets, cv_field_refusal, Plain}
use Rattle.cv.proofs.Forms.{Formed, formed-at, formed-long, formed-fits}
use Rattle.cv.proofs.Octets.{Small, small-take}
use Rattle.cv.proofs.Says.{MepSays, mep-passes, CvSays, cv-says, cv-passes, stretch-length, stretch-len, stretch-formed, part-accepted, part-source}
use Rattle.cv.proofs.MepIds.{octets-back, octets-again, mep-kind, mep-len, mep-agi, mep-whole, mep-formed}

-- the octets s of a MEP-ID, and padding
module _ (s pad : List ℕ) (form : Formed (number_at 2 s 0) (number_at 2 s 2) (get_or s 17 0)) (size : length s ≡ 4 + number_at 2 s 2) where
  long : 16 ≤ length s
  long = omega (arith, size, formed-long form)

  here-kind : number_at 2 (s ++ pad) 0 ≡ number_at 2 s 0
  here-kind = at_first 2 s pad 0 (omega (arith, long))

  here-len : number_at 2 (s ++ pad) 2 ≡ number_at 2 s 2
  here-len = at_first 2 s pad 2 (omega (arith, long))

  -- they are not refused
  alone-says : MepSays (s ++ pad) 0
  alone-says =
      record {
        room = omega (arith, here-len, size, length-append s pad);
        form =
            rw (here-kind, here-len)
            (formed-at (get_or (s ++ pad) 17 0) form (λ w. get_or-append s pad 0 17 (omega (arith, size))));
      }

  -- and are what is read, without the padding
  alone-stretch : stretch_at (s ++ pad) 0 ≡ s
  alone-stretch = ap (λ (n : ℕ). take (4 + n) (s ++ pad)) here-len ∙ take_at s pad (4 + number_at 2 s 2) size

  -- the same behind a packet
  message-says : (p : Packet) → FieldsSay p → Sized p → CvSays (packet_octets cv_channel p (s ++ pad))
  unfolding packet_octets
  message-says p f sized =
      record {
        control = written-says cv_channel p (s ++ pad) f sized (omega arith);
        mep = record { room = omega (arith, alone-says.room); form = alone-says.form };
      }

  message-stretch : (p : Packet) → stretch_at (packet_octets cv_channel p (s ++ pad)) 28 ≡ s
  unfolding packet_octets
  message-stretch p = alone-stretch

-- a MEP-ID in range that is written reads back alone, whatever stands behind it
pub read-mep-written : (id : MepId) (pad : List ℕ) → MepSized id → mep_fits id.kind id.size ≡ true → read_mep (mep_octets id ++ pad) ≡ accepted (plain_mep id)
unfolding read_mep
read-mep-written id pad t fits =
    let s = mep_octets id in
    let m = s ++ pad in
    ap (λ (n : ℕ). answer n (mep_id_at (stretch_at m 0) 0)) (mep-passes m 0 (alone-says s pad (mep-formed id t fits) (mep-whole id t)))
    ∙ ap (λ (l : List ℕ). accepted (mep_id_at l 0)) (alone-stretch s pad (mep-formed id t fits) (mep-whole id t))
    ∙ ap (λ (i : MepId). accepted i) (octets-back id t fits)

-- the part of an accepted CV reads alone to the MEP-ID of the message
pub read-mep-part : (m : List ℕ) → cv_refusal m ≡ 0 → read_mep (mep_part m) ≡ accepted (source_of m)
unfolding read_mep
read-mep-part m e =
    let says = (cv-says m e).mep in
    let s = stretch_at m (mep_at m) in
    let size = stretch-length m (mep_at m) says in
    let len = stretch-len m (mep_at m) says in
    let whole : stretch_at s 0 ≡ s = take_all (4 + number_at 2 s 2) s (omega (arith, size, len)) in
    let alone : MepSays s 0 = record { room = omega (arith, size, len); form = stretch-formed m (mep_at m) says } in
    ap read_mep (part-accepted m e)
    ∙ ap (λ (n : ℕ). answer n (mep_id_at (stretch_at s 0) 0)) (mep-passes s 0 alone)
    ∙ ap (λ (l : List ℕ). accepted (mep_id_at l 0)) whole

cv-fields-say : (p : Packet) (id : MepId) → cv_field_refusal p id ≡ 0 → FieldsSay p × (mep_fits id.kind id.size ≡ true)
unfolding cv_field_refusal
cv-fields-say p id e =
    let a = or_else-passed _ _ e in
    let b = need-passed (mep_fits id.kind id.size) _ _ a.1 in
    (fields-say p a.0, b.0)

-- a CV that is written, whatever stands behind it
module _ (p : Packet) (id : MepId) (pad : List ℕ) (s : Sized p) (t : MepSized id) (e : cv_field_refusal p id ≡ 0) where
  -- it is accepted
  pub written-accepted : cv_refusal (cv_octets p id ++ pad) ≡ 0
  unfolding packet_octets
  written-accepted =
      let f = cv-fields-say p id e in
      cv-passes (packet_octets cv_channel p (mep_octets id ++ pad)) (message-says (mep_octets id) pad (mep-formed id t f.1) (mep-whole id t) p f.0 s)

  -- its part is the MEP-ID's octets
  pub written-part : mep_part (cv_octets p id ++ pad) ≡ mep_octets id
  unfolding packet_octets
  written-part =
      let f = cv-fields-say p id e in
      part-accepted (packet_octets cv_channel p (mep_octets id ++ pad)) written-accepted
      ∙ message-stretch (mep_octets id) pad (mep-formed id t f.1) (mep-whole id t) p

  -- and reads to the MEP-ID, with nought where nobody's field is
  pub mep-back : mep_id_at (mep_part (cv_octets p id ++ pad)) 0 ≡ plain_mep id
  mep-back = ap (λ (l : List ℕ). mep_id_at l 0) written-part ∙ octets-back id t (cv-fields-say p id e).1

  packet-back : packet_of (cv_octets p id ++ pad) ≡ p
  unfolding packet_octets
  packet-back = fields_back cv_channel p (mep_octets id ++ pad) (cv-fields-say p id e).0 s

  -- what is written reads back to the same packet and MEP-ID
  pub read-written : read_cv (cv_octets p id ++ pad) ≡ accepted (record { packet = p; mep = plain_mep id })
  unfolding read_cv
  read-written =
      let m = cv_octets p id ++ pad in
      ap (λ (n : ℕ). answer n (verification_of m)) written-accepted
      ∙ ap (λ (q : Packet). accepted (record { packet = q; mep = source_of m })) packet-back
      ∙ ap (λ (i : MepId). accepted (record { packet = p; mep = i })) (sym (part-source m written-accepted) ∙ mep-back)

-- refusal 10 is for no other fields: what is in range and would be read is written
pub refused-exactly : (p : Packet) (id : MepId) → Sized p → MepSized id → p.diagnostic < 32 → p.state < 4 → cv_refusal (cv_octets p id) ≡ 0 → cv_field_refusal p id ≡ 0
unfolding packet_octets cv_field_refusal
refused-exactly p id s t d h e =
    let m = cv_octets p id in
    let says = cv-says m e in
    let here : Formed (number_at 2 (mep_octets id) 0) (number_at 2 (mep_octets id) 2) (get_or (mep_octets id) 17 0) = says.mep.form in
    let form : Formed id.kind (value_length id.kind id.size) (get_or (mep_octets id) 17 0) = rw (mep-kind id t, mep-len id t) at here in
    let own : Formed id.kind (value_length id.kind id.size) id.size = formed-at id.size form (λ w. sym (mep-agi id t (omega arith))) in
    rw (packet-exactly cv_channel p (mep_octets id) s d h says.control, formed-fits own)

-- the octets of the MEP-ID that was read are the part's: every number of it stands in the message, and none from behind it
pub part-reads : (m : List ℕ) → Small m → cv_refusal m ≡ 0 → mep_octets (mep_id_at (mep_part m) 0) ≡ mep_part m
part-reads m o e =
    let small : Small (stretch_at m (mep_at m)) = small-take (4 + len_at m) (drop (mep_at m) m) (λ i. rw (get_or-drop (mep_at m) m i 0) (o (mep_at m + i))) in
    let form = stretch-formed m (mep_at m) (cv-says m e).mep in
    let size = stretch-length m (mep_at m) (cv-says m e).mep in
    rw (part-accepted m e) (octets-again (stretch_at m (mep_at m)) small form (rw (stretch-len m (mep_at m) (cv-says m e).mep) size))

-- a plain message that is read, written again, is the same octets
pub written_read : (m : List ℕ) → Plain m → cv_refusal m ≡ 0 → cv_octets (packet_of m) (mep_id_at (mep_part m) 0) ≡ m
written_read m plain e =
    let o = plain.octets in
    let says = cv-says m e in
    let at : mep_at m ≡ 28 = omega (arith, plain.len) in
    let rest : mep_part m ≡ drop 28 m =
    part-accepted m e
    ∙ ap (λ (k : ℕ). take (4 + len_at m) (drop k m)) at
    ∙ take_all (4 + len_at m) (drop 28 m) (omega (arith, length-drop 28 m, plain.size)) in
    ap (packet_octets cv_channel (packet_of m)) (part-reads m o e ∙ rest)
    ∙ packet-again cv_channel m (drop 28 m) o plain.unread plain.len says.control
    ∙ run_take 28 m (drop 28 m) says.control.long
    ∙ take-append-drop 28 m
