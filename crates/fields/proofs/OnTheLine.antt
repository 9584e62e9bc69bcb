-- Every field that an exported reader hands out, and every field that an exported writer is handed, stands in the octets at its own place. So two fields that are
-- taken for each other are noticed, even where definition and code do so alike, in reading and in writing.
-- Assumes nothing.
use mathlib.Core.Path.{◌≡◌, refl, sym, ap, subst, ◌∙◌}
use mathlib.Core.List.{List, [], ◌++◌}
use Prim.Native.Nat.{ℕ, zero, suc, ◌+◌, ◌*◌, ◌/◌, ◌%◌, ◌≤◌, ◌<◌}
use native.Mathlib.Omega.{arith}
use lib.Dec.{eqb, eqb-suc-zero}
use lib.ListN.{get_or, take, drop, length-drop}
use lib.Seq.{length-take-le, take-add, drop_at, drop-drop}
use Rattle.octets.specs.Choice.{Answer, accepted, refused, number, answer, bit_of}
use Rattle.octets.specs.Numbers.{number_at}
use Rattle.octets.proofs.Numbers.{read_of}
use Rattle.octets.proofs.Cuts.{at_rest_lem}
use Rattle.octets.proofs.Chain.{bit-again, or_else-passed}
use Rattle.bfd.specs.declared.Packet.{Packet}
use Rattle.bfd.specs.Packet.{flag_octet, packet_of, Sized}
use Rattle.bfd.specs.Reception.{cc_refusal, read_cc, cc_place, cc_reading}
use Rattle.bfd.specs.Octets.{cc_octets}
use Rattle.cv.specs.declared.MepId.{MepId}
use Rattle.cv.specs.declared.Verification.{Verification}
use Rattle.cv.specs.Forms.{mep_refusal}
use Rattle.cv.specs.MepId.{mep_id_at, stretch_at, plain_mep, read_mep, MepSized}
use Rattle.cv.specs.Cv.{mep_at, len_at, read_cv, cv_refusal, verification_of, cv_place, cv_octets}
use Rattle.cv.proofs.Forms.{Formed, fixed, pseudowire, formed-long}
use Rattle.cv.proofs.Says.{MepSays, mep-says, cv-says, stretch-number, stretch-octet, stretch-kind, stretch-len, stretch-formed}
use Rattle.fault.specs.Octets.{fault_octets, field_refusal}
use Rattle.fault.specs.Plain.{Sized as FaultSized}
use Rattle.fields.specs.declared.fields.PacketFields.{PacketFields}
use Rattle.fields.specs.declared.fields.FaultFields.{FaultFields}
use Rattle.fields.specs.declared.readers.CcRead.{CcRead}
use Rattle.fields.specs.declared.readers.CvRead.{CvRead}
use Rattle.fields.specs.Fields.{packet_fields, packet_from, fault_from, fault_marks}
use Rattle.fields.specs.Messages.{cc_by, cc_read, cv_by, cv_read_of, mep_read, cc_write_refusal, cv_write_refusal, fault_write_refusal}
use Rattle.fields.specs.OnTheLine.{PacketStands, agi_in, AgiStands, MepStands, IfIdStands, GlobalIdStands, FaultStands}
use Rattle.fields.proofs.Messages.{cc-there-and-back, cv-there-and-back, MarksSay, marks-say}

-- an answer of 0 is accepted, with the values behind it
read-accepted : {A : Type 0} (n : ℕ) (a : A) → number (answer n a) ≡ 0 → (n ≡ 0) × (answer n a ≡ accepted a)
read-accepted zero a e = (refl, refl)
read-accepted (suc n) a e = absurd (omega (arith, rw (eqb-suc-zero n) at e))

cc-number : (place : ℕ) (x : Answer Packet) → (cc_by place x).answer ≡ number x
cc-number place (accepted p) = refl
cc-number place (refused n) = refl

cv-number : (part octets place : ℕ) (x : Answer Verification) → (cv_by part octets place x).answer ≡ number x
cv-number part octets place (accepted p) = refl
cv-number part octets place (refused n) = refl

mep-number : (x : Answer MepId) → (mep_read x).answer ≡ number x
mep-number (accepted id) = refl
mep-number (refused n) = refl

packet-stands : (m : List ℕ) → PacketStands m (packet_fields (packet_of m))
unfolding packet_of
packet-stands m =
    let x = flag_octet m in
    record {
      diagnostic = refl;
      state = refl;
      poll = sym (bit-again (x / 32 % 2) (omega arith));
      fin = sym (bit-again (x / 16 % 2) (omega arith));
      independent = sym (bit-again (x / 8 % 2) (omega arith));
      demand = sym (bit-again (x / 2 % 2) (omega arith));
      multiplier = refl;
      my = refl;
      your = refl;
      transmit = refl;
      receive = refl;
      echo = refl;
    }

-- what the reader of a CC hands out under 0
pub cc-read-stands : (m : List ℕ) → (cc_read (cc_reading m)).answer ≡ 0 → PacketStands m (cc_read (cc_reading m)).packet
unfolding read_cc
cc-read-stands m e =
    let r = read-accepted (cc_refusal m) (packet_of m) (sym (cc-number (cc_place m) (read_cc m)) ∙ e) in
    subst (λ (x : Answer Packet). PacketStands m (cc_by (cc_place m) x).packet) (sym r.1) (packet-stands m)

-- a MEP-ID that is read from its own octets, which are not refused
module _ (s : List ℕ) (at : ℕ) (says : MepSays s at) where
  abbrev here : MepId
  here = mep_id_at (stretch_at s at) 0

  -- the first four numbers, whatever its type
  at_least : (i : ℕ) → i + 4 ≤ 16 → number_at 4 s (at + i) ≡ number_at 4 (stretch_at s at) i
  at_least i h = sym (stretch-number s at says 4 i (omega (arith, formed-long says.form)))

  -- a word of the AGI is read from the octets of the AGI alone
  word_stands : (i : ℕ) → number_at 2 s (at + 2) ≡ 14 + here.size → number_at 8 (agi_in s at here) i ≡ number_at 8 (stretch_at s at) (18 + i)
  word_stands i e =
      let n : 4 + number_at 2 s (at + 2) ≡ 18 + here.size = omega (arith, e) in
      sym
      (ap (λ (k : ℕ). number_at 8 (take k (drop at s)) (18 + i)) n
      ∙ sym (at_rest_lem 8 18 (take (18 + here.size) (drop at s)) i)
      ∙ ap (λ (l : List ℕ). number_at 8 l i)
      (ap (drop 18) (take-add 18 here.size (drop at s))
      ∙ drop_at (take 18 (drop at s)) (take here.size (drop 18 (drop at s))) 18 (length-take-le 18 (drop at s) (omega (arith, length-drop at s, says.room)))
      ∙ ap (take here.size) (drop-drop 18 at s)))

  agi-stands : here.kind ≡ 2 → number_at 2 s (at + 2) ≡ 14 + here.size → AgiStands s at here
  agi-stands k e =
      record {
        length = e;
        group = sym (stretch-octet s at says 16 (omega (arith, e)));
        size = sym (stretch-octet s at says 17 (omega (arith, e)));
        first = word_stands 0 e;
        second = word_stands 8 e;
        third = word_stands 16 e;
        fourth = word_stands 24 e;
      }

  mep-stands : MepStands s at here
  mep-stands =
      record {
        known = (by_form (stretch-formed s at says)).0;
        kind = sym (stretch-kind s at says);
        fixed = (by_form (stretch-formed s at says)).1;
        global = at_least 4 (omega arith);
        node = at_least 8 (omega arith);
        local = at_least 12 (omega arith);
        agi = λ k. agi-stands k ((by_form (stretch-formed s at says)).2 k);
      }
    where
      by_form : Formed here.kind (number_at 2 (stretch_at s at) 2) here.size
          → (here.kind < 3) × (here.kind < 2 → number_at 2 s (at + 2) ≡ 12) × (here.kind ≡ 2 → number_at 2 s (at + 2) ≡ 14 + here.size)
      by_form (fixed h e) = (omega arith, (λ k. sym (stretch-len s at says) ∙ e), (λ k. absurd (omega arith)))
      by_form (pseudowire k e b) = (omega arith, (λ h. absurd (omega arith)), (λ h. sym (stretch-len s at says) ∙ e))

-- and the reader of a CV: the packet, and the MEP-ID from the place that it hands out
pub cv-read-stands : (m : List ℕ) → (cv_read_of m).answer ≡ 0
    → PacketStands m (cv_read_of m).packet × MepStands m (cv_read_of m).part (cv_read_of m).mep
unfolding read_cv
cv-read-stands m e =
    let r = read-accepted (cv_refusal m) (verification_of m) (sym (cv-number (mep_at m) (4 + len_at m) (cv_place m) (read_cv m)) ∙ e) in
    subst (λ (x : Answer Verification). PacketStands m (cv_by (mep_at m) (4 + len_at m) (cv_place m) x).packet × MepStands m (cv_by (mep_at m) (4 + len_at m) (cv_place m) x).part (cv_by (mep_at m) (4 + len_at m) (cv_place m) x).mep)
    (sym r.1) (packet-stands m, mep-stands m (mep_at m) (cv-says m r.0).mep)

-- and the reader of a MEP-ID alone
pub mep-read-stands : (s : List ℕ) → (mep_read (read_mep s)).answer ≡ 0 → MepStands s 0 (mep_read (read_mep s)).mep
unfolding read_mep
mep-read-stands s e =
    let r = read-accepted (mep_refusal s 0) (mep_id_at (stretch_at s 0) 0) (sym (mep-number (read_mep s)) ∙ e) in
    subst (λ (x : Answer MepId). MepStands s 0 (mep_read x).mep) (sym r.1) (mep-stands s 0 (mep-says s 0 r.0))

-- what the writer of a CC is handed, and does not refuse
pub cc-written-stands : (f : PacketFields) (pad : List ℕ) → Sized (packet_from f) → cc_write_refusal f ≡ 0 → PacketStands (cc_octets (packet_from f) ++ pad) f
cc-written-stands f pad s e =
    let m = cc_octets (packet_from f) ++ pad in
    let back = cc-there-and-back f pad s e in
    subst (λ (r : CcRead). PacketStands m r.packet) back (cc-read-stands m (ap (λ (r : CcRead). r.answer) back))

pub cv-written-stands : (f : PacketFields) (id : MepId) (pad : List ℕ) → Sized (packet_from f) → MepSized id → cv_write_refusal f id ≡ 0
    → PacketStands (cv_octets (packet_from f) id ++ pad) f × MepStands (cv_octets (packet_from f) id ++ pad) 28 (plain_mep id)
cv-written-stands f id pad s t e =
    let m = cv_octets (packet_from f) id ++ pad in
    let back = cv-there-and-back f id pad s t e m refl in
    subst (λ (r : CvRead). PacketStands m r.packet × MepStands m r.part r.mep) back (cv-read-stands m (ap (λ (r : CvRead). r.answer) back))

-- the flags of a written fault message, bit by bit
flags-stand : (l r : ℕ) → l < 2 → r < 2
    → ((bit_of (eqb l 1) * 2 + bit_of (eqb r 1)) / 2 % 2 ≡ l) × ((bit_of (eqb l 1) * 2 + bit_of (eqb r 1)) % 2 ≡ r)
flags-stand l r h k = rw (bit-again l h, bit-again r k) (omega arith, omega arith)

module _ (node interface global kind linkdown removed refresh : ℕ) (pad : List ℕ) where
  abbrev fields : ℕ → ℕ → FaultFields
  fields i g =
      record { node = node; interface = interface; global = global; kind = kind; linkdown = linkdown; removed = removed; refresh = refresh; ifid = i; globalid = g }

  abbrev octets : ℕ → ℕ → List ℕ
  octets i g = fault_octets (fault_from (fields i g)) ++ pad

  total-stands : (i g : ℕ) → i < 2 → g < 2 → get_or (octets i g) 8 0 ≡ i * 10 + g * 6
  unfolding fault_octets
  total-stands zero zero h k = refl
  total-stands zero (suc zero) h k = refl
  total-stands (suc zero) zero h k = refl
  total-stands (suc zero) (suc zero) h k = refl
  total-stands (suc (suc i)) g h k = absurd (omega arith)
  total-stands zero (suc (suc g)) h k = absurd (omega arith)
  total-stands (suc zero) (suc (suc g)) h k = absurd (omega arith)

  if-id-stands : (i g : ℕ) → i ≡ 1 → FaultSized (fault_from (fields i g)) → IfIdStands (octets i g) 9 (fields i g)
  unfolding fault_octets
  if-id-stands zero g e s = absurd (omega arith)
  if-id-stands (suc zero) g e s =
      record { kind = refl; size = refl; node = read_of 4 node [] s.interface.0; interface = read_of 4 interface [] s.interface.1 }
  if-id-stands (suc (suc i)) g e s = absurd (omega arith)

  global-id-stands : (i g : ℕ) → i < 2 → g ≡ 1 → FaultSized (fault_from (fields i g)) → GlobalIdStands (octets i g) (9 + i * 10) (fields i g)
  unfolding fault_octets
  global-id-stands i zero h e s = absurd (omega arith)
  global-id-stands zero (suc zero) h e s = record { kind = refl; size = refl; global = read_of 4 global [] s.global }
  global-id-stands (suc zero) (suc zero) h e s = record { kind = refl; size = refl; global = read_of 4 global [] s.global }
  global-id-stands (suc (suc i)) (suc g) h e s = absurd (omega arith)
  global-id-stands zero (suc (suc g)) h e s = absurd (omega arith)
  global-id-stands (suc zero) (suc (suc g)) h e s = absurd (omega arith)

  fault-stands : (i g : ℕ) → MarksSay (fields i g) → FaultSized (fault_from (fields i g)) → FaultStands (octets i g) (fields i g)
  unfolding fault_octets
  fault-stands i g m s =
      let flags = flags-stand linkdown removed m.linkdown m.removed in
      record {
        kind = refl;
        linkdown = flags.0;
        removed = flags.1;
        refresh = refl;
        total = total-stands i g m.node.bit m.global.bit;
        if-id = λ e. if-id-stands i g e s;
        global-id = λ e. global-id-stands i g m.node.bit e s;
      }

-- what the writer of a fault message is handed, and does not refuse. What its reader hands out is the same again (`fault-there-and-back`)
pub fault-written-stands : (f : FaultFields) (pad : List ℕ) → FaultSized (fault_from f) → fault_write_refusal f ≡ 0 → FaultStands (fault_octets (fault_from f) ++ pad) f
fault-written-stands f pad s e =
    fault-stands f.node f.interface f.global f.kind f.linkdown f.removed f.refresh pad f.ifid f.globalid
    (marks-say f (or_else-passed (fault_marks f) (field_refusal (fault_from f)) e).0) s
