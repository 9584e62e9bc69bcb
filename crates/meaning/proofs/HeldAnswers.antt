-- A crossing or a followed condition holds a session down: of what is answered after every list of calls.
-- Assumes nothing.
use Prim.Native.Nat.{ℕ, ◌+◌, ◌*◌, ◌/◌, ◌%◌, ◌≤◌}
use native.Mathlib.Omega.{arith}
use mathlib.Core.Path.{◌≡◌, refl, sym, ap, ◌∙◌, subst}
use mathlib.Core.Bool.{Bool, true, false, cond, ◌||◌}
use mathlib.Core.Option.{Option, none, some}
use mathlib.Core.List.{List, [], ◌++◌}
use mathlib.Core.Logic.{◌⊎◌, inl, inr, ⊎_elim}
use lib.ListN.{length, drop}
use lib.Dec.{eqb}
use Rattle.octets.specs.Choice.{bit_of}
use Rattle.octets.specs.Writing.{writing}
use Rattle.gach.specs.Header.{cc_channel, cv_channel}
use Rattle.bfd.specs.declared.Packet.{Packet}
use Rattle.bfd.specs.Packet.{packet_of}
use Rattle.bfd.specs.Octets.{packet_octets, cc_octets}
use Rattle.cv.specs.declared.MepId.{MepId}
use Rattle.cv.specs.MepId.{mep_octets}
use Rattle.cv.specs.Cv.{cv_octets}
use Rattle.rules.specs.States.{reported, is_coming_up, down_by_neighbor}
use Rattle.rules.specs.Modes.{is_coordinated}
use Rattle.rules.specs.Diagnostics.{diagnostic_of}
use Rattle.rules.specs.Calls.{Act, Close, Lock, Unlock, Receive, ReportOn, WriteCc, WriteCv, Call, Tick, Open, On, Said, is_accepted, writes}
use Rattle.rules.proofs.Bools.{split, both_true, or_left, no_way}
use Rattle.rules.proofs.States.{reported-up}
use Rattle.session.specs.declared.Session.{Session}
use Rattle.table.specs.Table.{answer}
use Rattle.meaning.specs.Stories.{Story, opened, lock, unlock, got, wrote_cc, settings_of}
use Rattle.meaning.specs.Standing.{locked, crossing, loss, followed, defect, held, owed, state_at, report, diagnostic, packet, cc_written, cv_written}
use Rattle.meaning.specs.Histories.{History, start, after, act_reading, reading, act_told, told, clock_of, story}
use Rattle.meaning.specs.Answers.{report_said, write_said, act_said, says_of, says}
use Rattle.meaning.specs.Worlds.{World, play, begin, past_of, table_after, Right}
use Rattle.meaning.specs.HoldDown.{ReadBy, IsCoordinated, WrittenDown, HeldDown}
use Rattle.meaning.proofs.Timer.{in-time}
use Rattle.meaning.proofs.Demand.{Good, answered, good-play, good-begin}
use Rattle.meaning.proofs.HoldDown.{held_down}

-- 1. No reading of an open label's story is above the clock.

read-later : {now : ℕ} (later : ℕ) → now ≤ later → (s : Story) → ReadBy now s → ReadBy later s
unfolding ReadBy
read-later later h (opened g t) b = omega arith
read-later later h (lock s t) b = (omega (arith, b.0), read-later later h s b.1)
read-later later h (unlock s t) b = (omega (arith, b.0), read-later later h s b.1)
read-later later h (got s m t) b = (omega (arith, b.0), read-later later h s b.1)
read-later later h (wrote_cc s) b = read-later later h s b

-- of a story, where there is one
abbrev OpenBy : ℕ → Option Story → Type 0
OpenBy now none = Unit {0}
OpenBy now (some s) = ReadBy now s

open-later : {now : ℕ} (later : ℕ) → now ≤ later → (o : Option Story) → OpenBy now o → OpenBy later o
open-later later h none b = tt
open-later later h (some s) b = read-later later h s b

act_by : (now : ℕ) (a : Act) → now ≤ act_reading a now → (o : Option Story) → OpenBy now o → OpenBy (act_reading a now) (act_told a o)
unfolding ReadBy
act_by now (Close t) h o b = tt
act_by now (Lock t) h none b = tt
act_by now (Lock t) h (some s) b = (omega arith, read-later t h s b)
act_by now (Unlock t) h none b = tt
act_by now (Unlock t) h (some s) b = (omega arith, read-later t h s b)
act_by now (Receive m t) h none b = tt
act_by now (Receive m t) h (some s) b = (omega arith, read-later t h s b)
act_by now ReportOn h o b = b
act_by now (WriteCc x) h none b = tt
act_by now (WriteCc x) h (some s) b = b
act_by now (WriteCv x) h o b = b

call_by : (l now : ℕ) (c : Call) → now ≤ reading c now → (o : Option Story) → OpenBy now o → OpenBy (reading c now) (told l c o)
unfolding ReadBy
call_by l now (Tick t) h o b = open-later t h o b
call_by l now (Open g t) h o b = split (eqb g.label l) (λ e. rw e (omega arith)) (λ e. rw e (open-later t h o b))
call_by l now (On m a) h o b = split (eqb m l) (λ e. rw e (act_by now a h o b)) (λ e. rw e (open-later (act_reading a now) h o b))

clock-by : (h : History) → Right h → (l : ℕ) → OpenBy (clock_of h) (story l h)
unfolding Right clock_of story
clock-by start r l = tt
clock-by (after h c a) r l =
    split (is_accepted a)
    (λ e. rw e (call_by l (clock_of h) c (in-time h c (ap is_accepted (sym r.1) ∙ e)) (story l h) (clock-by h r.0 l)))
    (λ e. rw e (clock-by h r.0 l))

-- 2. What is reported and written of a story.

bit-true : (b : Bool) → bit_of b ≡ 1 → b ≡ true
bit-true true e = refl
bit-true false e = absurd (omega arith)

-- a coordinated session with a defect is held
defect-held : (now : ℕ) (s : Story) → IsCoordinated (some s) → crossing now s || followed now s ≡ true → held now s ≡ true
unfolding held defect
defect-held now s c k = both_true (ap is_coordinated c) k

report-down : (now : ℕ) (s : Story) → ReadBy now s → IsCoordinated (some s) → (report now s).crossing ≡ 1 → (report now s).state ≤ 1
unfolding report
report-down now s b c k =
    reported-up (state_at now s) (held_down now s b (defect-held now s c (or_left (followed now s) (bit-true (crossing now s) k))))

-- diagnostic 9 and diagnostic 5, as they stand in an octet, are for a crossing and a followed condition
defect-told : (locked crossing followed loss neighbor : Bool)
    → ((32 + diagnostic_of locked crossing followed loss neighbor % 32) % 32 ≡ 9) ⊎ ((32 + diagnostic_of locked crossing followed loss neighbor % 32) % 32 ≡ 5)
    → crossing || followed ≡ true
defect-told true crossing followed loss neighbor k = absurd (⊎_elim (λ e. omega arith) (λ e. omega arith) k)
defect-told false true followed loss neighbor k = refl
defect-told false false true loss neighbor k = refl
defect-told false false false true neighbor k = absurd (⊎_elim (λ e. omega arith) (λ e. omega arith) k)
defect-told false false false false true k = absurd (⊎_elim (λ e. omega arith) (λ e. omega arith) k)
defect-told false false false false false k = absurd (⊎_elim (λ e. omega arith) (λ e. omega arith) k)

-- a state of 0 or 1 in the octet of state and flags
state-octet : (n : ℕ) (fin : Bool) → n ≤ 1 → (n % 4 * 64 + 0 * 32 + bit_of fin * 16 + 0 * 8 + 0 * 2) / 64 ≤ 1
state-octet n true h = omega arith
state-octet n false h = omega arith

packet-down : (channel now : ℕ) (s : Story) (fin : Bool) (rest : List ℕ) → ReadBy now s → IsCoordinated (some s) → WrittenDown (packet_octets channel (packet now s fin) rest)
unfolding packet_of packet_octets packet diagnostic
packet-down channel now s fin rest b c k =
    let up = held_down now s b (defect-held now s c (defect-told (locked s) (crossing now s) (followed now s) (loss now s) (down_by_neighbor (state_at now s)) k)) in
    state-octet (reported (state_at now s)) fin (reported-up (state_at now s) up)

-- an accepted write has its octets at the buffer's front
front : (octets b : List ℕ) → is_accepted (writes (writing 0 octets b)) ≡ true → (writes (writing 0 octets b)).buffer ≡ octets ++ drop (length octets) b
unfolding writing
front octets b e = rw e

cc-front : (p : Packet) (pad : List ℕ) → cc_octets p ++ pad ≡ packet_octets cc_channel p pad
unfolding packet_octets
cc-front p pad = refl

cv-front : (p : Packet) (id : MepId) (pad : List ℕ) → cv_octets p id ++ pad ≡ packet_octets cv_channel p (mep_octets id ++ pad)
unfolding packet_octets
cv-front p id pad = refl

cc-down : (now : ℕ) (c : Call) (b : List ℕ) (o : Option Story) → OpenBy now o → IsCoordinated o → is_accepted (write_said c (cc_written now) b o) ≡ true
    → WrittenDown (write_said c (cc_written now) b o).buffer
unfolding cc_written
cc-down now c b none r k e = no_way e refl
cc-down now c b (some s) r k e =
    let octets = cc_octets (packet now s (owed s)) in
    subst WrittenDown (sym (front octets b e ∙ cc-front (packet now s (owed s)) (drop (length octets) b)))
    (packet-down cc_channel now s (owed s) (drop (length octets) b) r k)

cv-down : (now : ℕ) (c : Call) (b : List ℕ) (o : Option Story) → OpenBy now o → IsCoordinated o → is_accepted (write_said c (cv_written now) b o) ≡ true
    → WrittenDown (write_said c (cv_written now) b o).buffer
unfolding cv_written
cv-down now c b none r k e = no_way e refl
cv-down now c b (some s) r k e =
    let id = (settings_of s).own in
    let octets = cv_octets (packet now s false) id in
    subst WrittenDown (sym (front octets b e ∙ cv-front (packet now s false) id (drop (length octets) b)))
    (packet-down cv_channel now s false (mep_octets id ++ drop (length octets) b) r k)

shown-down : (now : ℕ) (c : Call) (o : Option Story) → OpenBy now o → IsCoordinated o → (report_said c now o).report.crossing ≡ 1 → (report_said c now o).report.state ≤ 1
shown-down now c none r k e = omega arith
shown-down now c (some s) r k e = report-down now s r k e

-- 3. What the paper says to a report and to a write.

module _ (h : History) (l : ℕ) (r : Right h) where
  by-report : IsCoordinated (story l h) → (says h (On l ReportOn)).report.crossing ≡ 1 → (says h (On l ReportOn)).report.state ≤ 1
  unfolding says says_of act_said
  by-report = shown-down (clock_of h) (On l ReportOn) (story l h) (clock-by h r l)

  by-cc : (b : List ℕ) → IsCoordinated (story l h) → is_accepted (says h (On l (WriteCc b))) ≡ true → WrittenDown (says h (On l (WriteCc b))).buffer
  unfolding says says_of act_said
  by-cc b = cc-down (clock_of h) (On l (WriteCc b)) b (story l h) (clock-by h r l)

  by-cv : (b : List ℕ) → IsCoordinated (story l h) → is_accepted (says h (On l (WriteCv b))) ≡ true → WrittenDown (says h (On l (WriteCv b))).buffer
  unfolding says says_of act_said
  by-cv b = cv-down (clock_of h) (On l (WriteCv b)) b (story l h) (clock-by h r l)

-- 4. After every list of calls.

pub held-answers : (row : List Session) → length row ≡ 64 → (cs : List Call) → HeldDown row cs
unfolding past_of table_after
held-answers row e cs =
    record {
      told = λ l now s o h k. held_down now s (read-later now h s (subst (OpenBy (clock_of past)) o (clock-by past G.right l))) k;
      reported = λ l. said-down l;
      cc = λ l b. said-cc l b;
      cv = λ l b. said-cv l b;
    }
  where
    w : World
    w = play (begin row) cs

    past : History
    past = w.past

    G : Good w
    G = good-play (begin row) cs (good-begin row e)

    said : (c : Call) → answer w.table c ≡ says past c
    said = answered past w.table G.in_step

    said-down : (l : ℕ) → IsCoordinated (story l past) → (answer w.table (On l ReportOn)).report.crossing ≡ 1 → (answer w.table (On l ReportOn)).report.state ≤ 1
    said-down l k = subst (λ (x : Said). x.report.crossing ≡ 1 → x.report.state ≤ 1) (sym (said (On l ReportOn))) (by-report past l G.right k)

    said-cc : (l : ℕ) (b : List ℕ) → IsCoordinated (story l past) → is_accepted (answer w.table (On l (WriteCc b))) ≡ true → WrittenDown (answer w.table (On l (WriteCc b))).buffer
    said-cc l b k = subst (λ (x : Said). is_accepted x ≡ true → WrittenDown x.buffer) (sym (said (On l (WriteCc b)))) (by-cc past l G.right b k)

    said-cv : (l : ℕ) (b : List ℕ) → IsCoordinated (story l past) → is_accepted (answer w.table (On l (WriteCv b))) ≡ true → WrittenDown (answer w.table (On l (WriteCv b))).buffer
    said-cv l b k = subst (λ (x : Said). is_accepted x ≡ true → WrittenDown x.buffer) (sym (said (On l (WriteCv b)))) (by-cv past l G.right b k)
