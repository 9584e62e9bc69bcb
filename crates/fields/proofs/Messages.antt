-- What a host gains by the exported readers and writers: fields go to numbers and back, what is written reads back and uses the octets that were written, and the part that the reader of a
-- CV hands out is the caller's own stretch.
-- Assumes nothing.
use mathlib.Core.Path.{◌≡◌, refl, sym, ap, ◌∙◌}
use mathlib.Core.Bool.{true}
use mathlib.Core.List.{List, ◌++◌}
use Prim.Native.Nat.{ℕ, zero, suc, ◌+◌, ◌<◌}
use native.Mathlib.Omega.{arith}
use lib.Dec.{leb, eqb}
use lib.ListN.{length, take, drop}
use borrow.Author.Tests.{eq-eqb, eqb-true, leb-true}
use Rattle.octets.specs.Choice.{bit_of, accepted}
use Rattle.octets.proofs.Chain.{bit-back, bit-again, need-passed, or_else-passed, answer-accepted}
use Rattle.bfd.specs.declared.Packet.{Packet}
use Rattle.bfd.specs.Packet.{packet_of, Sized}
use Rattle.bfd.specs.Reception.{cc_refusal, read_cc, cc_end, cc_reading}
use Rattle.bfd.specs.Octets.{packet_octets, cc_octets, cc_field_refusal}
use Rattle.bfd.proofs.RoundTrip as bfd
use Rattle.bfd.proofs.Used as cc-octets
use Rattle.cv.specs.declared.MepId.{MepId}
use Rattle.cv.specs.declared.Verification.{Verification}
use Rattle.cv.specs.Forms.{value_length, mep_fits}
use Rattle.cv.specs.MepId.{mep_octets, plain_mep, read_mep, MepSized}
use Rattle.cv.specs.Cv.{mep_at, len_at, mep_part, part_at, verification_of, read_cv, cv_refusal, cv_end, cv_reading, cv_size, cv_octets, cv_field_refusal}
use Rattle.cv.proofs.Octets.{mep-length}
use Rattle.cv.proofs.Says.{part_length}
use Rattle.cv.proofs.RoundTrip as cv
use Rattle.cv.proofs.Used as cv-octets
use Rattle.fault.specs.declared.Fault.{Fault}
use Rattle.fault.specs.Identifiers.{OptionalIfId}
use Rattle.fault.specs.Identifiers.{NoIfId}
use Rattle.std.specs.Prelude.{Some}
use Rattle.fault.specs.Identifiers.{OptionalGlobalId}
use Rattle.fault.specs.Identifiers.{NoGlobalId, AGlobalId}
use Rattle.fault.specs.Message.{tlvs_end, fault_refusal, fault_of, read_fault, fault_reading}
use Rattle.fault.specs.Octets.{fault_octets, field_refusal}
use Rattle.fault.specs.Plain.{Sized as FaultSized}
use Rattle.fault.proofs.RoundTrip as fault
use Rattle.fault.proofs.Earliest as fault-octets
use Rattle.rules.specs.Conditions.{if_id_mark, node_of, interface_of, global_id_mark, global_of}
use Rattle.rules.proofs.Bools.{split}
use Rattle.fields.specs.declared.fields.PacketFields.{PacketFields}
use Rattle.fields.specs.declared.fields.FaultFields.{FaultFields}
use Rattle.fields.specs.declared.readers.CcRead.{CcRead}
use Rattle.fields.specs.declared.readers.CvRead.{CvRead}
use Rattle.fields.specs.declared.readers.FaultRead.{FaultRead}
use Rattle.fields.specs.Fields.{packet_fields, packet_from, packet_marks, fault_fields, fault_from, if_id_from, global_id_from, marked_refusal, fault_marks}
use Rattle.fields.specs.Messages.{cc_read, cv_read, cv_read_of, mep_read, fault_read, cc_write_refusal, cv_write_refusal, fault_write_refusal}

-- a packet in numbers, and back
pub packet-back : (p : Packet) → packet_from (packet_fields p) ≡ p
packet-back p =
    rw (bit-back p.poll (bit_of p.poll) refl, bit-back p.fin (bit_of p.fin) refl, bit-back p.independent (bit_of p.independent) refl, bit-back p.demand (bit_of p.demand) refl)

-- a mark that is not refused
mark : (x rest : ℕ) → (leb x 1 ≡ true) × (rest ≡ 0) → bit_of (eqb x 1) ≡ x
mark x rest e = let h = leb-true x 1 e.0 in bit-again x (omega (arith, h))

-- fields whose marks are not refused, as a packet and back
pub fields_back : (f : PacketFields) → packet_marks f ≡ 0 → packet_fields (packet_from f) ≡ f
unfolding packet_marks
fields_back f e =
    let p = need-passed (leb f.poll 1) 9 _ e in
    let q = need-passed (leb f.fin 1) 9 _ p.1 in
    let r = need-passed (leb f.independent 1) 9 _ q.1 in
    let s = need-passed (leb f.demand 1) 9 _ r.1 in
    rw (mark f.poll _ p, mark f.fin _ q, mark f.independent _ r, mark f.demand _ s)

-- what the reader of a CC says of an accepted one: its fields, and as the place the octets that it uses
pub cc-accepted : (m : List ℕ) (p : Packet) → read_cc m ≡ accepted p → cc_read (cc_reading m) ≡ record { place = cc_end m; answer = 0; packet = packet_fields p }
unfolding read_cc
cc-accepted m p e =
    let r = answer-accepted (cc_refusal m) p (packet_of m) (sym e) in
    rw (cc-octets.place-used m r.0, e)

pub cv-accepted : (m : List ℕ) (part octets : ℕ) (v : Verification) → read_cv m ≡ accepted v
    → cv_read part octets (cv_reading m) ≡ record { place = cv_end m; answer = 0; part = part; octets = octets; packet = packet_fields v.packet; mep = v.mep }
unfolding read_cv
cv-accepted m part octets v e =
    let r = answer-accepted (cv_refusal m) v (verification_of m) (sym e) in
    rw (cv-octets.place-used m r.0, e)

pub fault-accepted : (m : List ℕ) (f : Fault) → read_fault m ≡ accepted f → fault_read (fault_reading m) ≡ record { place = tlvs_end m; answer = 0; fault = fault_fields f }
unfolding read_fault
fault-accepted m f e =
    let r = answer-accepted (fault_refusal m) f (fault_of m) (sym e) in
    rw (fault-octets.place-used m r.0, e)

-- what a host writes, a host reads, whatever stands behind it; the octets that were written are those used
pub cc-there-and-back : (f : PacketFields) (pad : List ℕ) → Sized (packet_from f) → cc_write_refusal f ≡ 0
    → cc_read (cc_reading (cc_octets (packet_from f) ++ pad)) ≡ record { place = 28; answer = 0; packet = f }
unfolding packet_octets
cc-there-and-back f pad s e =
    let o = or_else-passed (packet_marks f) (cc_field_refusal (packet_from f)) e in
    cc-accepted (cc_octets (packet_from f) ++ pad) (packet_from f) (bfd.read-written (packet_from f) pad s o.1)
    ∙ ap {B = CcRead} (λ (g : PacketFields). record { place = 28; answer = 0; packet = g }) (fields_back f o.0)

told : {place place' part part' octets octets' : ℕ} {f g : PacketFields} (id : MepId) → place ≡ place' → part ≡ part' → octets ≡ octets' → f ≡ g
    → ◌≡◌ {A = CvRead} (record { place = place; answer = 0; part = part; octets = octets; packet = f; mep = id }) (record { place = place'; answer = 0; part = part'; octets = octets'; packet = g; mep = id })
told id a b c d = rw (a, b, c, d)

-- the length that stands in a written CV
written-length : (p : Packet) (id : MepId) (pad : List ℕ) → Sized p → MepSized id → cv_field_refusal p id ≡ 0
    → 4 + len_at (cv_octets p id ++ pad) ≡ 4 + value_length id.kind id.size
written-length p id pad s t e =
    sym (part_length (cv_octets p id ++ pad) (cv.written-accepted p id pad s t e)) ∙ ap length (cv.written-part p id pad s t e) ∙ mep-length id

-- the same for a CV, of any MEP-ID: its part stands behind the packet in as many octets as were written, and what is nobody's field reads as nought
pub cv-there-and-back : (f : PacketFields) (id : MepId) (pad : List ℕ) → Sized (packet_from f) → MepSized id → cv_write_refusal f id ≡ 0
    → (m : List ℕ) → m ≡ cv_octets (packet_from f) id ++ pad
    → cv_read_of m ≡ record { place = cv_size id; answer = 0; part = 28; octets = 4 + value_length id.kind id.size; packet = f; mep = plain_mep id }
unfolding packet_octets
cv-there-and-back f id pad s t e m is =
    let o = or_else-passed (packet_marks f) (cv_field_refusal (packet_from f) id) e in
    let long : 4 + len_at m ≡ 4 + value_length id.kind id.size = rw is (written-length (packet_from f) id pad s t o.1) in
    let at : mep_at m ≡ 28 = rw is in
    cv-accepted m (mep_at m) (4 + len_at m) _ (ap read_cv is ∙ cv.read-written (packet_from f) id pad s t o.1)
    ∙ told (plain_mep id) (omega (arith, at, long)) at long (fields_back f o.0)

-- the octets of a MEP-ID in range, read alone
pub mep-there-and-back : (id : MepId) (pad : List ℕ) → MepSized id → mep_fits id.kind id.size ≡ true
    → mep_read (read_mep (mep_octets id ++ pad)) ≡ record { answer = 0; mep = plain_mep id }
mep-there-and-back id pad t fits = ap mep_read (cv.read-mep-written id pad t fits)

if-id-back : (i : OptionalIfId) → if_id_from (if_id_mark i) (node_of i) (interface_of i) ≡ i
if-id-back NoIfId = refl
if-id-back (Some i) = refl

global-id-back : (g : OptionalGlobalId) → global_id_from (global_id_mark g) (global_of g) ≡ g
global-id-back NoGlobalId = refl
global-id-back (AGlobalId n) = refl

-- a fault message in numbers, and back
pub fault-back : (f : Fault) → fault_from (fault_fields f) ≡ f
fault-back f =
    rw (bit-back f.linkdown (bit_of f.linkdown) refl, bit-back f.removed (bit_of f.removed) refl, if-id-back f.interface, global-id-back f.global)

-- a mark and a number that are not refused: the mark is 0 or 1, and behind 0 the number is 0
pub record Marked (mark number : ℕ) : Type 0 where
  pub bit : mark < 2
  pub nothing : mark ≡ 0 → number ≡ 0

marked : (mark number : ℕ) → marked_refusal mark number ≡ 0 → Marked mark number
unfolding marked_refusal
marked zero number e = record { bit = omega arith; nothing = λ z. eqb-true number 0 (need-passed (eqb number 0) 9 0 e).0 }
marked (suc zero) number e = record { bit = omega arith; nothing = λ z. omega arith }
marked (suc (suc mark)) number e =
    let h = leb-true (suc (suc mark)) 1 (need-passed (leb (suc (suc mark)) 1) 9 _ e).0 in
    record { bit = omega arith; nothing = λ z. omega arith }

-- the marks of fields that are not refused
pub record MarksSay (f : FaultFields) : Type 0 where
  pub linkdown : f.linkdown < 2
  pub removed : f.removed < 2
  pub node : Marked f.ifid f.node
  pub interface : Marked f.ifid f.interface
  pub global : Marked f.globalid f.global

pub marks-say : (f : FaultFields) → fault_marks f ≡ 0 → MarksSay f
unfolding fault_marks
marks-say f e =
    let l = need-passed (leb f.linkdown 1) 9 _ e in
    let r = need-passed (leb f.removed 1) 9 _ l.1 in
    let low : f.linkdown < 2 = omega (arith, leb-true f.linkdown 1 l.0) in
    let low' : f.removed < 2 = omega (arith, leb-true f.removed 1 r.0) in
    let ids = or_else-passed _ _ r.1 in
    let if-id = or_else-passed _ _ ids.0 in
    record {
      linkdown = low;
      removed = low';
      node = marked f.ifid f.node if-id.0;
      interface = marked f.ifid f.interface if-id.1;
      global = marked f.globalid f.global ids.1;
    }

-- an IF_ID and a Global_ID that are not refused, as the message has them and back
if-id-again : (mark node interface : ℕ) → Marked mark node → Marked mark interface
    → (if_id_mark (if_id_from mark node interface) ≡ mark) × (node_of (if_id_from mark node interface) ≡ node) × (interface_of (if_id_from mark node interface) ≡ interface)
if-id-again zero node interface m n = (refl, sym (m.nothing refl), sym (n.nothing refl))
if-id-again (suc zero) node interface m n = (refl, refl, refl)
if-id-again (suc (suc mark)) node interface m n = absurd (omega (arith, m.bit))

global-id-again : (mark global : ℕ) → Marked mark global
    → (global_id_mark (global_id_from mark global) ≡ mark) × (global_of (global_id_from mark global) ≡ global)
global-id-again zero global m = (refl, sym (m.nothing refl))
global-id-again (suc zero) global m = (refl, refl)
global-id-again (suc (suc mark)) global m = absurd (omega (arith, m.bit))

-- fields that are not refused for a mark, as a fault message and back
pub fault-fields-back : (f : FaultFields) → fault_marks f ≡ 0 → fault_fields (fault_from f) ≡ f
fault-fields-back f e =
    let m = marks-say f e in
    let i = if-id-again f.ifid f.node f.interface m.node m.interface in
    let g = global-id-again f.globalid f.global m.global in
    rw (bit-again f.linkdown m.linkdown, bit-again f.removed m.removed, i.0, i.1, i.2, g.0, g.1)

-- a written fault message ends where its own total has it
written-end : (f : Fault) (i : OptionalIfId) (g : OptionalGlobalId) (pad : List ℕ) → f.interface ≡ i → f.global ≡ g
    → tlvs_end (fault_octets f ++ pad) ≡ length (fault_octets f)
unfolding fault_octets
written-end f NoIfId NoGlobalId pad d e = rw (d, e)
written-end f NoIfId (AGlobalId n) pad d e = rw (d, e)
written-end f (Some i) NoGlobalId pad d e = rw (d, e)
written-end f (Some i) (AGlobalId k) pad d e = rw (d, e)

-- what a host writes, a host reads, whatever stands behind it: no field is lost
pub fault-there-and-back : (f : FaultFields) (pad : List ℕ) → FaultSized (fault_from f) → fault_write_refusal f ≡ 0
    → fault_read (fault_reading (fault_octets (fault_from f) ++ pad)) ≡ record { place = length (fault_octets (fault_from f)); answer = 0; fault = f }
fault-there-and-back f pad s e =
    let m = fault_from f in
    let o = or_else-passed (fault_marks f) (field_refusal m) e in
    fault-accepted (fault_octets m ++ pad) m (fault.read-written m pad s o.1)
    ∙ rw (written-end m m.interface m.global pad refl refl, fault-fields-back f o.0)

-- the stretch of a CV stands from the place that its reader hands out, in as many octets; of a refused one it is empty
pub part-stands : (m : List ℕ)
    → mep_part m ≡ take (cv_read_of m).octets (drop (cv_read_of m).part m)
unfolding mep_part read_cv
part-stands m = split (eqb (cv_refusal m) 0) (λ e. rw e) (λ e. rw e)

-- and read alone it is the MEP-ID that the reader of the CV hands out
pub part-alone : (m : List ℕ) → cv_refusal m ≡ 0 → mep_read (read_mep (mep_part m)) ≡ record { answer = 0; mep = (cv_read_of m).mep }
unfolding read_cv
part-alone m e = ap mep_read (cv.read-mep-part m e) ∙ rw (eq-eqb (cv_refusal m) 0 e)

-- and where `cv::mep_part` says that its part lies, of a refused message too
pub part_lies : (m : List ℕ) → (cv_read_of m).part ≡ part_at m
unfolding part_at read_cv
part_lies m = split (eqb (cv_refusal m) 0) (λ e. rw e) (λ e. rw e)
