-- No line is longer than 160 octets: the four shapes, and every line for what a table answers.
-- Assumes nothing.
use Prim.Native.Nat.{ℕ, ◌+◌, ◌*◌, ◌≤◌, ◌<◌}
use native.Mathlib.Omega.{arith}
use mathlib.Core.Path.{◌≡◌, refl}
use mathlib.Core.Bool.{Bool, true, false}
use mathlib.Core.Option.{Option, none, some}
use mathlib.Core.List.{List, [], ◌∷◌, ◌++◌}
use lib.Dec.{eqb, ltb}
use lib.ListN.{length, drop, length-append, length-drop}
use borrow.Author.Tests.{ltb-true, ltb-false}
use Rattle.octets.specs.Choice.{bit_of}
use Rattle.octets.specs.Writing.{writing}
use Rattle.octets.proofs.Writing.{short, fits}
use Rattle.message.specs.Message.{message_place}
use Rattle.rules.specs.declared.State.{State}
use Rattle.rules.specs.declared.State.TheVariants.{AdminDown, Down, NeighborDown, Init, Up}
use Rattle.rules.specs.States.{reported}
use Rattle.rules.specs.Diagnostics.{loss_alarm, remote_defect, report_of}
use Rattle.rules.specs.Calls.{Close, Lock, Unlock, Receive, ReportOn, WriteCc, WriteCv, Call, Tick, Open, On, no_report, lent}
use Rattle.rules.proofs.Bools.{split}
use Rattle.conditions.specs.Standing.{count_at}
use Rattle.session.specs.declared.Session.{Session}
use Rattle.session.specs.Queries.{locked_in, crossing_at, loss_at, state_at, report_at, cc_octets_at, cv_octets_at}
use Rattle.table.specs.Table.{Table, open_of, find, in_order, act_answer, report_answer, write_answer, asked, answer}
use Rattle.capture.specs.Lines.{digits, hex, spaced, seven_numbers, answer_text, call_text, place_text, is_readers, plain_line, placed_line, report_line, octets_line, line}
use Rattle.capture.proofs.Digits.{digits-short, one-digit}
use Rattle.capture.proofs.LineSaid.{Exact}

-- a digit is one octet
spaced-digit : (n : ℕ) → n < 10 → length (spaced n) ≡ 2
spaced-digit n h = rw (one-digit 19 n h)

hex-length : (octets : List ℕ) → length (hex octets) ≡ 2 * length octets
unfolding hex
hex-length [] = refl
hex-length (b ∷ bs) = omega (arith, hex-length bs)

hex-short : (octets : List ℕ) → length octets ≤ 44 → length (32 ∷ hex octets) ≤ 89
hex-short octets h = omega (arith, hex-length octets)

bit-digit : (b : Bool) → bit_of b < 10
bit-digit true = omega arith
bit-digit false = omega arith

state-digit : (s : State) → reported s < 10
state-digit AdminDown = omega arith
state-digit Down = omega arith
state-digit NeighborDown = omega arith
state-digit Init = omega arith
state-digit Up = omega arith

seven-parts : (a b c d e f g : List ℕ)
    → length (a ++ b ++ c ++ d ++ e ++ f ++ g) ≡ length a + length b + length c + length d + length e + length f + length g
seven-parts a b c d e f g = simp length-append

-- a report has six digits and a count
of-short : (state : State) (crossing loss rdi : Bool) (conditions : ℕ) → length (seven_numbers (report_of state crossing loss rdi conditions)) ≤ 33
unfolding seven_numbers
of-short state crossing loss rdi conditions = let r = report_of state crossing loss rdi conditions in
    rw (seven-parts (spaced r.state) (spaced r.crossing) (spaced r.loss) (spaced r.alarm) (spaced r.rdi) (spaced r.blocked) (spaced r.conditions))
    (omega (
      arith,
      spaced-digit r.state (state-digit state),
      spaced-digit r.crossing (bit-digit crossing),
      spaced-digit r.loss (bit-digit loss),
      spaced-digit r.alarm (bit-digit (loss_alarm loss conditions)),
      spaced-digit r.rdi (bit-digit rdi),
      digits-short 20 r.conditions,
    ))

numbers-short : (s : Session) (now : ℕ) → length (seven_numbers (report_at s now)) ≤ 33
unfolding report_at
numbers-short s now =
    of-short (state_at s now) (crossing_at s now) (loss_at s now) (remote_defect (locked_in s) (loss_at s now) s.peer.diagnostic) (count_at s.conditions now)

-- number, answer, and a text of at most 89 octets behind them
parts-short : (number answer : ℕ) (text : List ℕ) → length text ≤ 89 → length (answer_text number answer ++ text ++ 10 ∷ []) ≤ 160
parts-short number answer text h =
    simp length-append (omega (arith, digits-short 20 number, digits-short 20 answer))

pub plain-short : (number answer : ℕ) → length (plain_line number answer) ≤ 160
unfolding plain_line
plain-short number answer = simp length-append (omega (arith, digits-short 20 number, digits-short 20 answer))

pub report-short : (number : ℕ) (s : Session) (now : ℕ) → length (report_line number (report_at s now)) ≤ 160
unfolding report_line
report-short number s now = parts-short number 0 (seven_numbers (report_at s now)) (omega (arith, numbers-short s now))

pub octets-short : (number : ℕ) (octets : List ℕ) → length octets ≤ 44 → length (octets_line number octets) ≤ 160
unfolding octets_line
octets-short number octets h = parts-short number 0 (32 ∷ hex octets) (hex-short octets h)

-- a space and a number
spaced-short : (n : ℕ) → length (spaced n) ≤ 89
spaced-short n = omega (arith, digits-short 20 n)

pub placed-short : (number answer place : ℕ) → length (placed_line number answer place) ≤ 160
unfolding placed_line
placed-short number answer place = parts-short number answer (spaced place) (spaced-short place)

-- ---- what a table answers, where a lent buffer has the length of what is written
-- writing keeps a buffer's length
written-length : (octets b : List ℕ) → length (writing 0 octets b).buffer ≡ length b
written-length octets b =
    split (ltb (length b) (length octets))
    (λ s. rw (short octets b (ltb-true (length b) (length octets) s)))
    (λ s.
    rw (fits octets b (ltb-false (length b) (length octets) s), length-append octets (drop (length octets) b), length-drop (length octets) b)
    (omega (arith, ltb-false (length b) (length octets) s)))

none-short : length (seven_numbers no_report) ≤ 89
unfolding seven_numbers digits
none-short = omega arith

report-said : (c : Call) (clock : ℕ) (o : Option Session) → length (seven_numbers (report_answer c clock o).report) ≤ 89
report-said c clock none = none-short
report-said c clock (some r) = omega (arith, numbers-short r clock)

write-said : (c : Call) (b : List ℕ) (octets : Session → List ℕ) → length b ≤ 44 → (o : Option Session) → lent c ≡ b
    → length (32 ∷ hex (write_answer c octets b o).buffer) ≤ 89
write-said c b octets h none l = rw l (hex-short b h)
write-said c b octets h (some r) l = hex-short (writing 0 (octets r) b).buffer (omega (arith, written-length (octets r) b))

text-short : (t : Table) (c : Call) → Exact c → length (call_text c (answer t c)) ≤ 89
unfolding answer asked act_answer
text-short t (Tick u) x = omega arith
text-short t (Open g u) x = omega arith
text-short t (On l (Close u)) x = omega arith
text-short t (On l (Lock u)) x = omega arith
text-short t (On l (Unlock u)) x = omega arith
text-short t (On l (Receive m u)) x = omega arith
text-short t (On l ReportOn) x =
    split (in_order t)
    (λ e. rw e (report-said (On l ReportOn) t.clock (find l (open_of t))))
    (λ e. rw e none-short)
text-short t (On l (WriteCc b)) x =
    split (in_order t)
    (λ e. rw e (write-said (On l (WriteCc b)) b (λ r. cc_octets_at r t.clock) (omega (arith, x)) (find l (open_of t)) refl))
    (λ e. rw e (hex-short b (omega (arith, x))))
text-short t (On l (WriteCv b)) x =
    split (in_order t)
    (λ e. rw e (write-said (On l (WriteCv b)) b (λ r. cv_octets_at r t.clock) (omega (arith, x)) (find l (open_of t)) refl))
    (λ e. rw e (hex-short b (omega (arith, x))))

-- whatever the number
place_short : (c : Call) (n : ℕ) → length (place_text c n) ≤ 89
place_short (Tick u) n = omega arith
place_short (Open g u) n = omega arith
place_short (On l (Close u)) n = omega arith
place_short (On l (Lock u)) n = omega arith
place_short (On l (Unlock u)) n = omega arith
place_short (On l (Receive m u)) n =
    split (is_readers n)
    (λ r. rw r (spaced-short (message_place m)))
    (λ r. rw r (omega arith))
place_short (On l ReportOn) n = omega arith
place_short (On l (WriteCc b)) n = omega arith
place_short (On l (WriteCv b)) n = omega arith

pub line-short : (number : ℕ) (t : Table) (c : Call) → Exact c → length (line number c (answer t c)) ≤ 160
unfolding line
line-short number t c x =
    let a = answer t c in
    split (eqb a.number 0)
    (λ e. rw e (parts-short number a.number (call_text c a) (text-short t c x)))
    (λ e. rw e (parts-short number a.number (place_text c a.number) (place_short c a.number)))
