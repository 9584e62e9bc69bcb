-- What the code takes from a capture's record, by value, is what the run takes from its call, where that is accepted.
-- Assumes nothing.
use Prim.Native.Nat.{ℕ}
use mathlib.Core.Path.{◌≡◌, refl, sym, ap, ◌∙◌}
use mathlib.Core.Bool.{Bool, true, false, cond, not, ◌||◌}
use mathlib.Core.Option.{Option, none, some, map}
use mathlib.Core.List.{List}
use lib.Dec.{eqb}
use lib.ListN.{get_or}
use borrow.Author.Tests.{eqb-true, eq-eqb, ne_eqb}
use Rattle.octets.specs.Numbers.{number_at}
use Rattle.gach.specs.Header.{cc_channel, cv_channel, channel_of}
use Rattle.bfd.specs.declared.Packet.{Packet}
use Rattle.bfd.specs.Packet.{packet_of}
use Rattle.cv.specs.MepId.{mep_id_at, same_mep_id}
use Rattle.cv.specs.Cv.{mep_part}
use Rattle.message.specs.Message.{message_of}
use Rattle.rules.specs.declared.Settings.{Settings}
use Rattle.rules.specs.Received.{foreign, received_as}
use Rattle.rules.specs.declared.Received.TheVariants.{CrossedMessage, HeardCc, HeardCv}
use Rattle.rules.specs.Calls.{Act, Call, On, is_accepted, number_only}
use Rattle.rules.proofs.Bools.{split}
use Rattle.session.specs.declared.Session.{Session}
use Rattle.table.specs.Places.{first_hit}
use Rattle.table.specs.Table.{Table, open_of, in_order, find, absent, asked, answer}
use Rattle.table.proofs.Found.{first-label}
use Rattle.capture.specs.declared.Record.{Record}
use Rattle.capture.specs.Records.{act_of, call_of, settings_in}
use Rattle.cause.proofs.Recorded.{act-found, at_place}
use Rattle.interval.specs.Spacing.{Event, Nothing, Forgotten, Heard, if_heard_cc, act_event, call_event}
use Rattle.interval.specs.Records.{cc_event, message_event, own_event, record_event}
use Rattle.interval.specs.Pacing.{settings_for}

-- where Your stands in a CC
pub your-at : (b : List ℕ) → number_at 4 b 12 ≡ (packet_of b).your
unfolding packet_of
your-at b = refl

-- ---- a message by its channel
module _ (s : Session) (t : ℕ) where
  by-cc : (p : Packet) (x : Bool) → if_heard_cc t s.settings.period (cond x CrossedMessage (HeardCc p)) ≡ cc_event x t s.settings.period
  by-cc p true = refl
  by-cc p false = refl

  by-cv : (x : Bool) → if_heard_cc t s.settings.period (cond x CrossedMessage HeardCv) ≡ Nothing
  by-cv true = refl
  by-cv false = refl

  pub cc-heard : (b : List ℕ) → channel_of b ≡ cc_channel → message_event s t b ≡ cc_event (foreign s.settings.discriminator (packet_of b).your) t s.settings.period
  unfolding message_of received_as
  cc-heard b e = rw (eq-eqb (channel_of b) cc_channel e) (by-cc (packet_of b) (foreign s.settings.discriminator (packet_of b).your))

  pub other-heard : (b : List ℕ) → (channel_of b ≡ cc_channel → ⊥) → message_event s t b ≡ Nothing
  unfolding message_of received_as
  other-heard b d =
      split (eqb (channel_of b) cv_channel)
      (λ e. rw (ne_eqb (channel_of b) cc_channel d, e) (by-cv (foreign s.settings.discriminator (packet_of b).your || not (same_mep_id (mep_id_at (mep_part b) 0) s.settings.expected))))
      (λ e. rw (ne_eqb (channel_of b) cc_channel d, e))

-- ---- a record of the label, from kind 2 on
own-act : (r : Record) (before : Session) (body : List ℕ) → eqb r.kind 1 ≡ false → own_event before r body ≡ act_event before.settings (act_of r.kind body r.time)
unfolding own_event
own-act r before body i =
    split (eqb r.kind 2) (λ z. rw (i, z))
    (λ a. split (eqb r.kind 3) (λ z. rw (i, a, z))
    (λ b. split (eqb r.kind 4) (λ z. let k : r.kind ≡ 4 = eqb-true r.kind 4 z in rw k)
    (λ c. split (eqb r.kind 5) (λ z. rw (i, a, b, c, z))
    (λ d. split (eqb r.kind 6) (λ z. rw (i, a, b, c, d, z))
    (λ e. split (eqb r.kind 7) (λ z. rw (i, a, b, c, d, e, z)) (λ z. rw (i, a, b, c, d, e, z)))))))

-- a record of another label
other-call : (l : ℕ) (o : Option Settings) (r : Record) (body : List ℕ) → eqb r.label l ≡ false → Nothing ≡ call_event l o (call_of r body)
unfolding call_of settings_in
other-call l o r body e =
    split (eqb r.kind 0) (λ z. rw z) (λ a. split (eqb r.kind 1) (λ z. rw (a, z, e)) (λ b. rw (a, b, e)))

module _ (t : Table) (ordered : in_order t ≡ true) (l : ℕ) (r : Record) (body : List ℕ) (y : is_accepted (answer t (call_of r body)) ≡ true) where
  -- the record that a search finds: in the whole set for a record of the label, in none for another
  abbrev pub sought : Bool → Session
  sought own = get_or t.row (first_hit l 0 (cond own t.occupied 0) t.row) absent

  asked-so : (c : Call) → is_accepted (answer t c) ≡ true → is_accepted (asked t c) ≡ true
  unfolding answer
  asked-so c z = ap (λ (b : Bool). is_accepted (cond b (asked t c) (number_only c 26))) (sym ordered) ∙ z

  -- an accepted act on the label finds the session's record
  act-sought : (b : Act) → is_accepted (answer t (On l b)) ≡ true → find l (open_of t) ≡ some (sought true)
  unfolding asked
  act-sought b z =
      let w = act-found t.clock (find l (open_of t)) l b (asked-so (On l b) z) in
      w.1 ∙ ap some (sym (ap (λ (p : ℕ). get_or t.row p absent) (first-label t ordered l) ∙ at_place l t.occupied t.row w.0 w.1))

  own-tick : r.kind ≡ 0 → own_event (sought true) r body ≡ call_event l (settings_for l t) (call_of r body)
  unfolding call_of own_event
  own-tick k = rw k

  own_open : r.label ≡ l → r.kind ≡ 1 → own_event (sought true) r body ≡ call_event l (settings_for l t) (call_of r body)
  unfolding call_of own_event settings_in
  own_open e k = rw (k, eq-eqb r.label l e)

  -- the call from kind 2 on
  on_call : r.label ≡ l → eqb r.kind 0 ≡ false → eqb r.kind 1 ≡ false → call_of r body ≡ On l (act_of r.kind body r.time)
  unfolding call_of
  on_call e a b = rw (a, b, e)

  own_on : eqb r.kind 1 ≡ false → (d : Call) → d ≡ On l (act_of r.kind body r.time) → is_accepted (answer t d) ≡ true
      → own_event (sought true) r body ≡ call_event l (settings_for l t) d
  own_on b d f z =
      let act : Act = act_of r.kind body r.time in
      let w : find l (open_of t) ≡ some (sought true) = act-sought act (ap (λ (c : Call). is_accepted (answer t c)) (sym f) ∙ z) in
      rw (f, eq-eqb l l refl, w) (own-act r (sought true) body b)

  own-call : r.label ≡ l → own_event (sought true) r body ≡ call_event l (settings_for l t) (call_of r body)
  own-call e =
      split (eqb r.kind 0) (λ z. own-tick (eqb-true r.kind 0 z))
      (λ a. split (eqb r.kind 1) (λ z. own_open e (eqb-true r.kind 1 z)) (λ b. own_on b (call_of r body) (on_call e a b) y))

  by-label : (own : Bool) → eqb r.label l ≡ own → cond own (own_event (sought own) r body) Nothing ≡ call_event l (settings_for l t) (call_of r body)
  by-label true e = own-call (eqb-true r.label l e)
  by-label false e = other-call l (settings_for l t) r body e

  pub event-is : record_event (sought (eqb r.label l)) l r body ≡ call_event l (settings_for l t) (call_of r body)
  unfolding record_event
  event-is = by-label (eqb r.label l) refl
