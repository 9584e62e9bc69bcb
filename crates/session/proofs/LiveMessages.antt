-- What a received message does by its small result is what the readers, the classes and the steps say together: the same answer, the same
-- record.
-- Assumes nothing.
use Prim.Native.Nat.{ℕ}
use native.Mathlib.Omega.{arith}
use mathlib.Core.Path.{◌≡◌, refl, sym, ap, ◌∙◌}
use mathlib.Core.Bool.{Bool, true, false, not, ◌||◌}
use mathlib.Core.List.{List}
use lib.Dec.{eqb}
use borrow.Author.Tests.{eqb-true, eqb-false, eq-eqb, ne_eqb}
use Rattle.octets.specs.Choice.{or_else, accepted, refused}
use Rattle.octets.proofs.Chain.{and_both, or_else-passed, answer-accepted, answer-refused}
use Rattle.gach.specs.Header.{cc_channel, cv_channel, fault_channel, channel_of, header_refusal, channel_refusal}
use Rattle.gach.specs.Kinds.{kind_refusal}
use Rattle.bfd.specs.declared.Packet.{Packet}
use Rattle.bfd.specs.Packet.{packet_of}
use Rattle.bfd.specs.Reception.{cc_body_refusal}
use Rattle.bfd.proofs.Says.{cc-behind}
use Rattle.cv.specs.declared.MepId.{MepId}
use Rattle.cv.specs.MepId.{same_mep_id}
use Rattle.cv.specs.Cv.{cv_body_refusal, source_of}
use Rattle.cv.proofs.Says.{cv-behind, part-source}
use Rattle.fault.specs.declared.Fault.{Fault}
use Rattle.fault.specs.Message.{fault_refusal, fault_of, read_fault}
use Rattle.coordination.specs.Message.{dhc_channel, refusal_with, dhc_refusal}
use Rattle.message.specs.declared.Message.{Message}
use Rattle.message.specs.declared.Message.TheVariants.{ContinuityCheck, ConnectivityVerification, FaultManagement}
use Rattle.message.specs.Message.{unheard_dhc, message_refusal, message_of}
use Rattle.rules.specs.Received.{foreign, received_as}
use Rattle.rules.proofs.Bools.{split}
use Rattle.conditions.specs.Taking.{fault_answer}
use Rattle.session.specs.declared.Session.{Session}
use Rattle.session.specs.declared.acts.Acted.{Acted}
use Rattle.session.specs.declared.acts.Faulted.{Faulted}
use Rattle.session.specs.Queries.{group_at}
use Rattle.session.specs.Steps.{heard_cc, heard_cv, crossed_at, fault_taken}
use Rattle.session.specs.Reception.{bfd_answer, received_answer, received_by}
use Rattle.session.specs.Live.{received_number, received_record, behind, is_fault, other_refusal, live_of, put_live, with_live, acted_of, acted_under, acted_by, cc_acted, cv_acted, bfd_acted, with_fault, faulted_of, faulted_under, faulted_by, fault_acted}

-- a crossed CC, and a crossed CV
abbrev pub cc_crosses : Session → List ℕ → Bool
cc_crosses s m = foreign s.settings.discriminator (packet_of m).your

abbrev pub cv_crosses : Session → List ℕ → Bool
cv_crosses s m = foreign s.settings.discriminator (packet_of m).your || not (same_mep_id (source_of m) s.settings.expected)

-- every BFD message that is read has one answer
cc-answer : (s : Session) (reading : ℕ) (p : Packet) → received_answer s reading (received_as s.settings (ContinuityCheck p)) ≡ bfd_answer s
unfolding received_as
cc-answer s reading p = split (foreign s.settings.discriminator p.your) (λ a. rw a) (λ a. rw a)

cv-answer : (s : Session) (reading : ℕ) (p : Packet) (id : MepId)
    → received_answer s reading (received_as s.settings (ConnectivityVerification p id)) ≡ bfd_answer s
unfolding received_as
cv-answer s reading p id =
    split (foreign s.settings.discriminator p.your || not (same_mep_id id s.settings.expected)) (λ a. rw a) (λ a. rw a)

module _ (s : Session) (m : List ℕ) (reading : ℕ) where
  -- the cases of a message whose header is a CC's
  pub cc-refused : (n : ℕ) → n ≡ or_else (cc_body_refusal m) (bfd_answer s) → (n ≡ 0 → ⊥) → acted_of s n ≡ cc_acted s m reading
  unfolding cc_acted
  cc-refused n e h = rw (cc-answer s reading (packet_of m), ← e, ne_eqb n 0 h)

  pub cc-crossed : or_else (cc_body_refusal m) (bfd_answer s) ≡ 0 → cc_crosses s m ≡ true → acted_of (crossed_at s reading) 0 ≡ cc_acted s m reading
  unfolding cc_acted received_as
  cc-crossed e a = rw (a, e)

  pub cc-heard : or_else (cc_body_refusal m) (bfd_answer s) ≡ 0 → cc_crosses s m ≡ false
      → acted_of (heard_cc s reading (packet_of m)) 0 ≡ cc_acted s m reading
  unfolding cc_acted received_as
  cc-heard e a = rw (a, e)

  -- and a CV's
  pub cv-refused : (n : ℕ) → n ≡ or_else (cv_body_refusal m) (bfd_answer s) → (n ≡ 0 → ⊥) → acted_of s n ≡ cv_acted s m reading
  unfolding cv_acted
  cv-refused n e h = rw (cv-answer s reading (packet_of m) (source_of m), ← e, ne_eqb n 0 h)

  pub cv-crossed : or_else (cv_body_refusal m) (bfd_answer s) ≡ 0 → cv_crosses s m ≡ true → acted_of (crossed_at s reading) 0 ≡ cv_acted s m reading
  unfolding cv_acted received_as
  cv-crossed e a = rw (a, e)

  pub cv-heard : or_else (cv_body_refusal m) (bfd_answer s) ≡ 0 → cv_crosses s m ≡ false → acted_of (heard_cv s reading) 0 ≡ cv_acted s m reading
  unfolding cv_acted received_as
  cv-heard e a = rw (a, e)

  -- a fault message, read and refused
  pub fault-read : (f : Fault) → accepted f ≡ read_fault m → faulted_by s reading 0 f ≡ fault_acted s m reading
  unfolding read_fault fault_acted
  fault-read f e =
      let a = answer-accepted (fault_refusal m) f (fault_of m) e in
      rw (a.0, a.1)

  pub fault-refused : (n : ℕ) → refused n ≡ read_fault m → faulted_of s n ≡ fault_acted s m reading
  unfolding read_fault fault_acted
  fault-refused n e =
      let a = answer-refused (fault_refusal m) n (fault_of m) e in
      rw (a.0, ne_eqb n 0 a.1, ne_eqb n 0 a.1)

-- what a small result leaves out is as it was: of the group, a loss and a crossed message move the PW alone
crossed-back : (s : Session) (reading : ℕ) → put_live s (live_of (crossed_at s reading)) ≡ crossed_at s reading
unfolding crossed_at group_at
crossed-back s reading = refl

cc-back : (s : Session) (reading : ℕ) (p : Packet) → put_live s (live_of (heard_cc s reading p)) ≡ heard_cc s reading p
unfolding heard_cc group_at
cc-back s reading p = refl

cv-back : (s : Session) (reading : ℕ) → put_live s (live_of (heard_cv s reading)) ≡ heard_cv s reading
unfolding heard_cv group_at
cv-back s reading = refl

fault-back : (s : Session) (reading : ℕ) (f : Fault) → with_fault s (faulted_of (fault_taken s reading f) 0) ≡ fault_taken s reading f
unfolding fault_taken group_at
fault-back s reading f = refl

-- under every answer
bfd-under : (n : ℕ) (s next : Session) → put_live s (live_of next) ≡ next → with_live s (acted_under n s next) ≡ behind n s next
bfd-under n s next back = split (eqb n 0) (λ e. rw e back) (λ e. rw e)

fault-under : (n : ℕ) (s next : Session) → with_fault s (faulted_of next 0) ≡ next → with_fault s (faulted_under n s next) ≡ behind n s next
fault-under n s next back = split (eqb n 0) (λ e. rw e back) (λ e. rw e)

-- the same answer and the same record
abbrev BfdAgrees : Session → Acted → ℕ → Session → Type 0
BfdAgrees s a n r = (a.answer ≡ n) × (with_live s a ≡ r)

abbrev FaultAgrees : Session → Faulted → ℕ → Session → Type 0
FaultAgrees s f n r = (f.answer ≡ n) × (with_fault s f ≡ r)

module _ (s : Session) (m : List ℕ) (reading : ℕ) where
  -- what a message is matters only where it is read
  number-as : (n : ℕ) (x : Message) → message_refusal m ≡ n → (n ≡ 0 → message_of m ≡ x)
      → received_number s m reading ≡ or_else n (received_answer s reading (received_as s.settings x))
  unfolding received_number
  number-as n x e f = split (eqb n 0) (λ z. rw (e, f (eqb-true _ _ z))) (λ z. rw (e, z))

  record-as : (n : ℕ) (x : Message) → message_refusal m ≡ n → (n ≡ 0 → message_of m ≡ x)
      → received_record s m reading
      ≡ behind (or_else n (received_answer s reading (received_as s.settings x))) s (received_by s reading (received_as s.settings x))
  unfolding received_record
  record-as n x e f =
      split (eqb n 0)
      (λ z. rw (number-as n x e f, f (eqb-true _ _ z)))
      (λ z. rw (number-as n x e f, z, z))

  bfd-agrees : (n : ℕ) (x : Message) → message_refusal m ≡ n → (n ≡ 0 → message_of m ≡ x)
      → put_live s (live_of (received_by s reading (received_as s.settings x))) ≡ received_by s reading (received_as s.settings x)
      → BfdAgrees s (acted_by s reading n (received_as s.settings x)) (received_number s m reading) (received_record s m reading)
  bfd-agrees n x e f back =
      let r = received_as s.settings x in
      (sym (number-as n x e f), bfd-under (or_else n (received_answer s reading r)) s (received_by s reading r) back ∙ sym (record-as n x e f))

  -- a message that is refused by its header
  header-agrees : (n : ℕ) → message_refusal m ≡ n → (n ≡ 0 → ⊥)
      → BfdAgrees s (acted_of s n) (received_number s m reading) (received_record s m reading)
  header-agrees n e h =
      let none : n ≡ 0 → message_of m ≡ message_of m = λ z. refl in
      (sym (number-as n _ e none ∙ rw (ne_eqb n 0 h)), sym (record-as n _ e none ∙ rw (ne_eqb n 0 h, ne_eqb n 0 h)))

  cc-is-back : (p : Packet)
      → put_live s (live_of (received_by s reading (received_as s.settings (ContinuityCheck p))))
      ≡ received_by s reading (received_as s.settings (ContinuityCheck p))
  unfolding received_as
  cc-is-back p =
      split (foreign s.settings.discriminator p.your) (λ a. rw a (crossed-back s reading)) (λ a. rw a (cc-back s reading p))

  cv-is-back : (p : Packet) (id : MepId)
      → put_live s (live_of (received_by s reading (received_as s.settings (ConnectivityVerification p id))))
      ≡ received_by s reading (received_as s.settings (ConnectivityVerification p id))
  unfolding received_as
  cv-is-back p id =
      split (foreign s.settings.discriminator p.your || not (same_mep_id id s.settings.expected))
      (λ a. rw a (crossed-back s reading))
      (λ a. rw a (cv-back s reading))

  -- a message on another channel is no DHC message
  no-dhc : (channel : ℕ) → channel_of m ≡ channel → eqb (channel_of m) dhc_channel ≡ eqb channel dhc_channel
  no-dhc channel e = ap (λ (c : ℕ). eqb c dhc_channel) e

  module _ (header : header_refusal m ≡ 0) where
    own-channel : (channel : ℕ) → channel_of m ≡ channel → channel_refusal channel m ≡ 0
    unfolding channel_refusal
    own-channel channel e = rw (header, eq-eqb _ _ e)

    -- on a CC's channel
    cc-refusal-is : eqb (channel_of m) cc_channel ≡ true → message_refusal m ≡ cc_body_refusal m
    unfolding message_refusal kind_refusal
    cc-refusal-is e = rw (no-dhc cc_channel (eqb-true _ _ e), header, e) (cc-behind m (own-channel cc_channel (eqb-true _ _ e)))

    cc-message-is : eqb (channel_of m) cc_channel ≡ true → message_of m ≡ ContinuityCheck (packet_of m)
    unfolding message_of
    cc-message-is e = rw e

    cc-agrees : eqb (channel_of m) cc_channel ≡ true
        → BfdAgrees s (cc_acted s m reading) (received_number s m reading) (received_record s m reading)
    unfolding cc_acted
    cc-agrees e =
        bfd-agrees (cc_body_refusal m) (ContinuityCheck (packet_of m)) (cc-refusal-is e) (λ z. cc-message-is e) (cc-is-back (packet_of m))

    -- on a CV's channel
    cv-refusal-is : eqb (channel_of m) cc_channel ≡ false → eqb (channel_of m) cv_channel ≡ true → message_refusal m ≡ cv_body_refusal m
    unfolding message_refusal kind_refusal
    cv-refusal-is d e = rw (no-dhc cv_channel (eqb-true _ _ e), header, d, e) (cv-behind m (own-channel cv_channel (eqb-true _ _ e)))

    cv-message-is : eqb (channel_of m) cc_channel ≡ false → eqb (channel_of m) cv_channel ≡ true → cv_body_refusal m ≡ 0
        → message_of m ≡ ConnectivityVerification (packet_of m) (source_of m)
    unfolding message_of
    cv-message-is d e z =
        rw (d, e, part-source m (cv-behind m (own-channel cv_channel (eqb-true _ _ e)) ∙ z))

    cv-agrees : eqb (channel_of m) cc_channel ≡ false → eqb (channel_of m) cv_channel ≡ true
        → BfdAgrees s (cv_acted s m reading) (received_number s m reading) (received_record s m reading)
    unfolding cv_acted
    cv-agrees d e =
        let id = source_of m in
        bfd-agrees (cv_body_refusal m) (ConnectivityVerification (packet_of m) id) (cv-refusal-is d e) (cv-message-is d e) (cv-is-back (packet_of m) id)

    -- on none of the three
    other-refusal-is : eqb (channel_of m) cc_channel ≡ false → eqb (channel_of m) cv_channel ≡ false → eqb (channel_of m) fault_channel ≡ false
        → message_refusal m ≡ other_refusal m
    unfolding message_refusal kind_refusal
    other-refusal-is d e f = rw (header, d, e, f)

  -- whose header is refused
  header-refusal-is : (header_refusal m ≡ 0 → ⊥) → message_refusal m ≡ header_refusal m
  unfolding message_refusal kind_refusal unheard_dhc dhc_refusal refusal_with channel_refusal
  header-refusal-is h =
      let no = ne_eqb (header_refusal m) 0 h in
      split (eqb (channel_of m) dhc_channel) (λ d. simp (d, no)) (λ d. simp (d, no))

  -- on a fault message's channel
  fault-refusal-is : header_refusal m ≡ 0 → channel_of m ≡ fault_channel → message_refusal m ≡ fault_refusal m
  unfolding message_refusal kind_refusal
  fault-refusal-is h e = rw (no-dhc fault_channel e, h, e)

  fault-message-is : channel_of m ≡ fault_channel → message_of m ≡ FaultManagement (fault_of m)
  unfolding message_of
  fault-message-is e = rw e

  fault-agrees : header_refusal m ≡ 0 → channel_of m ≡ fault_channel
      → FaultAgrees s (fault_acted s m reading) (received_number s m reading) (received_record s m reading)
  unfolding fault_acted received_as
  fault-agrees h e =
      let n = fault_refusal m in
      let x = FaultManagement (fault_of m) in
      let r = fault-refusal-is h e in
      let f : n ≡ 0 → message_of m ≡ x = λ z. fault-message-is e in (
        sym (number-as n x r f),
        fault-under (or_else n (fault_answer s.conditions (fault_of m) reading)) s (fault_taken s reading (fault_of m)) (fault-back s reading (fault_of m))
            ∙ sym (record-as n x r f),
      )

-- what is none of the three is refused
other-refuses : (m : List ℕ) → other_refusal m ≡ 0 → ⊥
unfolding unheard_dhc
other-refuses m e =
    split (eqb (channel_of m) dhc_channel)
    (λ d. omega (arith, (or_else-passed (dhc_refusal m) 24 (rw d at e)).1))
    (λ d. absurd (omega (arith, rw d at e)))

-- every message but a fault message
pub bfd-acts : (s : Session) (m : List ℕ) (reading : ℕ) → is_fault m ≡ false
    → ((bfd_acted s m reading).answer ≡ received_number s m reading) × (with_live s (bfd_acted s m reading) ≡ received_record s m reading)
unfolding is_fault bfd_acted
bfd-acts s m reading f =
    split (eqb (header_refusal m) 0)
    (λ h.
    let header = eqb-true _ _ h in
    rw h
    (split (eqb (channel_of m) cc_channel)
    (λ d. rw d (cc-agrees s m reading header d))
    (λ d. rw d
    (split (eqb (channel_of m) cv_channel)
    (λ e. rw e (cv-agrees s m reading header d e))
    (λ e. rw e (header-agrees s m reading (other_refusal m) (other-refusal-is s m reading header d e (rw h at f)) (other-refuses m)))))))
    (λ h. rw h (header-agrees s m reading (header_refusal m) (header-refusal-is s m reading (eqb-false _ _ h)) (eqb-false _ _ h)))

-- every fault message
pub fault-acts : (s : Session) (m : List ℕ) (reading : ℕ) → is_fault m ≡ true
    → ((fault_acted s m reading).answer ≡ received_number s m reading) × (with_fault s (fault_acted s m reading) ≡ received_record s m reading)
unfolding is_fault
fault-acts s m reading f =
    let a = and_both _ _ f in
    fault-agrees s m reading (eqb-true _ _ a.0) (eqb-true _ _ a.1)
