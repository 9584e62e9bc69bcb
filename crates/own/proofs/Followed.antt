-- The record of a label, kept by itself, is what the table has of it: after every accepted record of a log.
-- Assumes nothing.
use Prim.Native.Nat.{ℕ, ◌≤◌}
use native.Mathlib.Omega.{arith}
use mathlib.Core.Path.{◌≡◌, refl, sym, ap, ◌∙◌}
use mathlib.Core.Bool.{true, false, cond, ◌&&◌}
use mathlib.Core.Option.{Option, none, some, map}
use mathlib.Core.List.{List, [], ◌∷◌}
use lib.Dec.{eqb, leb}
use borrow.Author.Tests.{eqb-true, eq-eqb, ne_eqb, leb-true}
use Rattle.octets.proofs.Chain.{and_both, bar-passed}
use Rattle.message.specs.Message.{message_of}
use Rattle.rules.specs.Times.{late}
use Rattle.rules.specs.declared.Settings.{Settings}
use Rattle.rules.specs.Settings.{label_fits, discriminator_fits, period_fits, circuit_fits, ends_fit, choices_fit, settings_fit}
use Rattle.rules.specs.Received.{received_as}
use Rattle.rules.specs.Calls.{Act, Close, Lock, Unlock, Receive, ReportOn, WriteCc, WriteCv, Open, On, is_accepted}
use Rattle.rules.proofs.Bools.{split}
use Rattle.session.specs.declared.Session.{Session}
use Rattle.session.specs.Steps.{new_session, locked_at, unlocked_at, reply_settled}
use Rattle.session.specs.Live.{received_number, received_record}
use Rattle.session.specs.Soundness.{session_sound}
use Rattle.session.proofs.Sound.{sound-says}
use Rattle.session.proofs.Received.{received-keeps}
use Rattle.table.specs.Places.{has_label}
use Rattle.table.proofs.Every.{every-cons}
use Rattle.table.proofs.Order.{order-says, order-kept}
use Rattle.table.specs.Table.{Table, open_of, every, in_order, find, act_answer, asked, answer, receiving, receive_answer, next}
use Rattle.capture.specs.declared.Record.{Record}
use Rattle.capture.specs.Records.{settings_in, act_of, call_of}
use Rattle.own.specs.Own.{own_act, own_acted}
use Rattle.own.proofs.Own.{own-next}
use Rattle.own.specs.Records.{held_in, effect_by, own_by, record_after}

-- a record that keeps its settings is there where it was
held_kept : (f : Session → Session) (s : Session) → (f s).settings ≡ s.settings → held_in (f s) ≡ map f (held_in s)
held_kept f s k =
    ap (λ (n : ℕ). cond (eqb n 0) none (some (f s))) (λ i. (k i).label)
    ∙ split (eqb s.settings.label 0) (λ e. rw e) (λ e. rw e)

-- an open is of its own label
opened-label : (l : ℕ) (body : List ℕ) → (settings_in l body).label ≡ l
unfolding settings_in
opened-label l body = refl

opened-held : (l : ℕ) (body : List ℕ) (u : ℕ) → eqb l 0 ≡ false → held_in (new_session (settings_in l body) u) ≡ some (new_session (settings_in l body) u)
unfolding new_session settings_in
opened-held l body u e = rw e

opened-acts : (l m : ℕ) (body : List ℕ) (u : ℕ) (o : Option Session)
    → own_acted l (Open (settings_in m body) u) o ≡ cond (eqb m l) (some (new_session (settings_in m body) u)) o
opened-acts l m body u o = ap (λ (n : ℕ). cond (eqb n l) (some (new_session (settings_in m body) u)) o) (opened-label m body)

-- of none every act leaves none
none-acts : (a : Act) → own_act a none ≡ none
none-acts (Close u) = refl
none-acts (Lock u) = refl
none-acts (Unlock u) = refl
none-acts (Receive m u) = refl
none-acts ReportOn = refl
none-acts (WriteCc b) = refl
none-acts (WriteCv b) = refl

-- a message that the record takes
received-taken : (s : Session) (m : List ℕ) (u : ℕ) → received_number s m u ≡ 0 → received_record s m u ≡ receiving m u s
unfolding received_record
received-taken s m u e = rw e

module _ (r : Record) (body : List ℕ) (s : Session) where
  -- a message that is received is one that the record takes
  abbrev Taken : Type 0
  Taken = eqb s.settings.label 0 ≡ false → eqb r.kind 5 ≡ true → received_number s body r.time ≡ 0

  -- an act on an open session
  effect-acts : Taken → eqb r.kind 2 ≡ false → eqb s.settings.label 0 ≡ false
      → held_in (effect_by s r body) ≡ own_act (act_of r.kind body r.time) (some s)
  unfolding effect_by
  effect-acts taken two h =
      split (eqb r.kind 3)
      (λ e. rw (two, e) (unfold locked_at in rw h))
      (λ three. split (eqb r.kind 4)
      (λ e. rw (two, three, e) (unfold unlocked_at in rw h))
      (λ four. split (eqb r.kind 5)
      (λ e. rw (two, three, four, e, received-taken s body r.time (taken h e))
      (held_kept (receiving body r.time) s (received-keeps s r.time (received_as s.settings (message_of body))) ∙ rw h))
      (λ five. split (eqb r.kind 6)
      (λ e. rw (two, three, four, five, e, ap (λ (k : ℕ). eqb k 7) (eqb-true r.kind 6 e), h))
      (λ six. split (eqb r.kind 7)
      (λ e. rw (two, three, four, five, six, e) (unfold reply_settled in rw h))
      (λ seven. rw (two, three, four, five, six, seven, h))))))

  -- a record of the label, no tick
  own-acts : Taken → eqb r.label 0 ≡ false → eqb r.kind 0 ≡ false → held_in (own_by s r body) ≡ own_acted r.label (call_of r body) (held_in s)
  unfolding own_by call_of
  own-acts taken named zero =
      let same = eq-eqb r.label r.label refl in
      split (eqb r.kind 1)
      (λ e. rw (zero, e) (opened-held r.label body r.time named ∙ sym (opened-acts r.label r.label body r.time (held_in s) ∙ rw same)))
      (λ one. split (eqb r.kind 2)
      (λ e. rw (zero, one, e, same) (unfold new_session in refl))
      (λ two. split (eqb s.settings.label 0)
      (λ e. rw (zero, one, two, e, same, e) (rw two at (sym (none-acts (act_of r.kind body r.time)))))
      (λ h. rw (zero, one, two, h, same) (rw two at (effect-acts taken two h)))))

  -- what is called on another label
  other-acts : (l : ℕ) → eqb r.kind 0 ≡ false → eqb r.label l ≡ false → own_acted l (call_of r body) (held_in s) ≡ held_in s
  unfolding call_of
  other-acts l zero other =
      split (eqb r.kind 1)
      (λ e. rw (zero, e) (opened-acts l r.label body r.time (held_in s) ∙ rw other))
      (λ one. rw (zero, one, other))

  -- any record
  pub record-acts : (l : ℕ) → (eqb r.label l ≡ true → Taken) → eqb l 0 ≡ false → held_in (record_after r body l s) ≡ own_acted l (call_of r body) (held_in s)
  unfolding record_after
  record-acts l taken named =
      split (eqb r.kind 0)
      (λ e. rw e (unfold call_of in rw e))
      (λ zero. split (eqb r.label l)
      (λ e.
      let same = eqb-true r.label l e in
      rw (zero, e) (own-acts (taken e) (ap (λ (m : ℕ). eqb m 0) same ∙ named) zero ∙ ap (λ (m : ℕ). own_acted m (call_of r body) (held_in s)) same))
      (λ other. rw (zero, other) (sym (other-acts l zero other))))

-- of label 0 nothing is ever there
pub record-unnamed : (r : Record) (body : List ℕ) (s : Session) → eqb s.settings.label 0 ≡ true → eqb (record_after r body 0 s).settings.label 0 ≡ true
unfolding record_after own_by
record-unnamed r body s h =
    split (eqb r.kind 0)
    (λ e. rw e h)
    (λ zero. split (eqb r.label 0)
    (λ e. split (eqb r.kind 1)
    (λ one. rw (zero, e, one) (unfold new_session settings_in in e))
    (λ one. split (eqb r.kind 2) (λ two. rw (zero, e, one, two) (unfold new_session in refl)) (λ two. rw (zero, e, one, two, h) h)))
    (λ other. rw (zero, other) h))

received-call : (r : Record) (body : List ℕ) → eqb r.kind 5 ≡ true → call_of r body ≡ On r.label (Receive body r.time)
unfolding call_of
received-call r body five =
    let at : (n : ℕ) → eqb r.kind n ≡ eqb 5 n = λ n. ap (λ (k : ℕ). eqb k n) (eqb-true r.kind 5 five) in
    rw (at 0, at 1, at 2, at 3, at 4, five)

-- a message that the table takes is one that the record takes
message-taken : (t : Table) (l : ℕ) (r : Record) (body : List ℕ) (s : Session) → in_order t ≡ true → is_accepted (answer t (call_of r body)) ≡ true
    → r.label ≡ l → find l (open_of t) ≡ some s → eqb r.kind 5 ≡ true → received_number s body r.time ≡ 0
unfolding answer asked act_answer received_number
message-taken t l r body s o a same e five =
    let b = rw (received-call r body five, same, o) at a in
    let p = (bar-passed (late t.clock r.time) 0 (receive_answer (find l (open_of t)) body r.time) (eqb-true _ 0 b)).1 in
    sym (ap (λ (x : Option Session). receive_answer x body r.time) e) ∙ p

-- what the table has of the label, after an accepted record
named-follows : (t : Table) (l : ℕ) (r : Record) (body : List ℕ) (s : Session) → in_order t ≡ true → eqb l 0 ≡ false
    → is_accepted (answer t (call_of r body)) ≡ true → find l (open_of t) ≡ held_in s → find l (open_of (next t (call_of r body))) ≡ held_in (record_after r body l s)
named-follows t l r body s o named a e =
    own-next t l (call_of r body) o ∙ rw a
    (ap (own_acted l (call_of r body)) e
    ∙ sym (record-acts r body s l (λ same h. message-taken t l r body s o a (eqb-true r.label l same) (e ∙ rw h)) named))

-- no label that fits is 0, so no sound record has it
label-fits : (g : Settings) → settings_fit g ≡ true → 16 ≤ g.label
unfolding settings_fit
label-fits g e =
    let circuit = (and_both (circuit_fits g.label g.discriminator g.period) (ends_fit g.own.kind g.own.size g.expected.kind g.expected.size && choices_fit g.followlink g.followlock g.mode) e).0 in
    let both = (and_both (label_fits g.label && discriminator_fits g.discriminator) (period_fits g.period) circuit).0 in
    let label = (and_both (label_fits g.label) (discriminator_fits g.discriminator) both).0 in
    leb-true 16 g.label (and_both (leb 16 g.label) (leb g.label 1048575) label).0

sound-named : (r : Session) (clock : ℕ) → session_sound r clock ≡ true → has_label 0 r ≡ false
sound-named r clock e = ne_eqb r.settings.label 0 (λ z. omega (arith, label-fits r.settings (sound-says r clock e).settings))

none-unnamed : (clock : ℕ) (rs : List Session) → every (λ r. session_sound r clock) rs ≡ true → find 0 rs ≡ none
unfolding find
none-unnamed clock [] e = refl
none-unnamed clock (r ∷ rs) e =
    let w = and_both (session_sound r clock) (every (λ x. session_sound x clock) rs) (sym (every-cons (λ x. session_sound x clock) r rs) ∙ e) in
    rw (sound-named r clock w.0) (none-unnamed clock rs w.1)

-- so label 0 is open in no table in order
pub unnamed-closed : (t : Table) → in_order t ≡ true → find 0 (open_of t) ≡ none
unnamed-closed t o = none-unnamed t.clock (open_of t) (order-says t o).sound

-- a record that is none has label 0
none-label : (s : Session) → held_in s ≡ none → eqb s.settings.label 0 ≡ true
none-label s e = split (eqb s.settings.label 0) (λ z. z) (λ z. absurd (let w : some s ≡ none = rw z at e in let q : ◌≡◌ {A = ℕ} 0 1 = cc in omega arith))

-- whatever the label
pub record-follows : (t : Table) (l : ℕ) (r : Record) (body : List ℕ) (s : Session) → in_order t ≡ true
    → is_accepted (answer t (call_of r body)) ≡ true → find l (open_of t) ≡ held_in s → find l (open_of (next t (call_of r body))) ≡ held_in (record_after r body l s)
record-follows t l r body s o a e =
    split (eqb l 0)
    (λ z.
    let zeroth = eqb-true l 0 z in
    let c = call_of r body in
    let h : held_in s ≡ none = sym e ∙ ap (λ (k : ℕ). find k (open_of t)) zeroth ∙ unnamed-closed t o in
    let k : held_in (record_after r body 0 s) ≡ none = rw (record-unnamed r body s (none-label s h)) in
    ap (λ (k : ℕ). find k (open_of (next t c))) zeroth ∙ unnamed-closed (next t c) (order-kept t c o) ∙ sym k ∙ ap (λ (k : ℕ). held_in (record_after r body k s)) (sym zeroth))
    (λ named. named-follows t l r body s o named a e)
