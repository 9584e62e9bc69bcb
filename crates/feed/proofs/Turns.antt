-- The feed's loop with no model: what a test that there is more says, one turn of the definition, and that 26 is asked once.
-- Assumes nothing.
use mathlib.Core.Path.{◌≡◌, refl, sym, ap, subst, ◌∙◌}
use mathlib.Core.Bool.{Bool, true, false, not, cond, ◌&&◌}
use Prim.Native.Nat.{ℕ, zero, suc, ◌^◌, ◌<◌, ◌≤◌, ◌+◌, ◌-◌}
use mathlib.Core.List.{List}
use native.Mathlib.Omega.{arith}
use lib.Dec.{T as Holds, eqb, ltb, leb, nltb→le}
use lib.ListN.{length, take, drop, replicate, length-drop}
use lib.Seq.{length-take-le}
use borrow.Author.Tests.{eqb-true, eqb-false, ne_eqb, le-ltb, leb-true, leb-false}
use Rattle.octets.specs.Writing.{writing}
use Rattle.octets.proofs.Writing.{refused}
use Rattle.message.specs.Message.{message_place}
use Rattle.rules.specs.Calls.{Close, Lock, Unlock, Receive, ReportOn, WriteCc, WriteCv, Call, Tick, Open, On, Said, is_accepted, reporting, writes}
use Rattle.rules.proofs.Bools.{split, no_way}
use Rattle.session.specs.declared.Session.{Session}
use Rattle.table.specs.declared.Head.{Head}
use Rattle.table.specs.Table.{Table, in_order, answer, next}
use Rattle.table.proofs.Order.{order_same}
use Rattle.step.specs.declared.Outcome.{Outcome}
use Rattle.step.specs.Stepping.{table_of}
use Rattle.step.specs.Saying.{cv_told, said_of, Steps}
use Rattle.capture.specs.declared.Record.{Record}
use Rattle.capture.specs.declared.Next.TheVariants.{Whole, Broken, Short, End}
use Rattle.capture.specs.Records.{record_in, record_from, body_in, settings_in, call_of, call_in, next_in, next_of, is_broken, is_whole, size_of}
use Rattle.capture.specs.Lines.{line, numbered, is_readers, plain_line, placed_line, report_line, octets_line}
use Rattle.capture.specs.Typing.{Put, typed}
use Rattle.capture.proofs.LineSaid.{is_plain, has_place, line_refused, line_plain, line-placed, line-report, line-cc, line-cv, written}
use Rattle.feed.specs.Feeding.{longest, more_of, head_of, Flow, call_next, turn_of, go_on, feed_of}
use Rattle.feed.specs.Calling.{body_at, Whole as Lengths, Calls, is_unread, refused_line, line_by, behind_of, Answered, answered}
use Rattle.feed.specs.declared.Fed.{Fed}
use Rattle.feed.proofs.Going

both : (t u : Bool) → Holds (t && u) → Holds t × Holds u
both true u h = (tt, h)
both false u h = absurd h

-- ---- a whole record has 16 octets at least, and they stand in the input
by_tests : (a b c d : Bool) (r : Record) → Holds (is_whole (cond a End (cond b Short (cond c Broken (cond d Short (Whole r))))))
    → (Holds (not b) × Holds (not d)) × (size_of (cond a End (cond b Short (cond c Broken (cond d Short (Whole r))))) ≡ 16 + r.size)
by_tests true b c d r h = absurd h
by_tests false true c d r h = absurd h
by_tests false false true d r h = absurd h
by_tests false false false true r h = absurd h
by_tests false false false false r h = ((tt, tt), refl)

whole-of : (n : ℕ) (r : Record) → Holds (is_whole (next_of n r)) → ((16 ≤ n) × (16 + r.size ≤ n)) × (size_of (next_of n r) ≡ 16 + r.size)
whole-of n r h = ((nltb→le n 16 k.0.0, nltb→le n (16 + r.size) k.0.1), k.1)
  where
    k : (Holds (not (ltb n 16)) × Holds (not (ltb n (16 + r.size)))) × (size_of (next_of n r) ≡ 16 + r.size)
    k = by_tests (eqb n 0) (ltb n 16) (is_broken r.kind r.size) (ltb n (16 + r.size)) r h

whole_in : (s : List ℕ) → Holds (is_whole (next_in s)) → ((16 ≤ length s) × (16 + (record_in s).size ≤ length s)) × (size_of (next_in s) ≡ 16 + (record_in s).size)
unfolding next_in
whole_in s h = whole-of (length s) (record_in s) h

stands : (f : Fed) (input : List ℕ) (room : ℕ) → Holds (more_of f input room) → Holds (is_whole (next_in (drop f.used input)))
unfolding more_of
stands f input room h = (both (is_whole (next_in (drop f.used input))) (leb longest (room - f.written)) h).0

-- a whole record that stands next
module _ (f : Fed) (input : List ℕ) (h : Holds (is_whole (next_in (drop f.used input)))) where
  abbrev s : List ℕ
  s = drop f.used input

  in-full : ((16 ≤ length s) × (16 + (record_in s).size ≤ length s)) × (size_of (next_in s) ≡ 16 + (record_in s).size)
  in-full = whole_in s h

  -- what is read at its place is the record
  pub record-read : record_from s ≡ record_in s
  record-read = rw (le-ltb (length s) 16 in-full.0.0)

  pub whole-says : (f.used + 16 ≤ length input) × (16 ≤ size_of (next_in s))
  whole-says = (omega (arith, in-full.0.0, length-drop f.used input), omega (arith, in-full.1))

  pub behind-is : behind_of (length input) f.used (record_in s).size ≡ f.used + size_of (next_in s)
  behind-is =
      let no : ltb (length input - f.used) (16 + (record_in s).size) ≡ false = le-ltb (length input - f.used) (16 + (record_in s).size) (omega (arith, in-full.0.1, length-drop f.used input)) in
      rw (no, in-full.1)

pub more-says : (f : Fed) (input : List ℕ) (room : ℕ) → Holds (more_of f input room) → (f.used + 16 ≤ length input) × (16 ≤ size_of (next_in (drop f.used input)))
more-says f input room h = whole-says f input (stands f input room h)

-- ---- the line of an outcome is that of what is said
never : (t : Bool) → t && false ≡ false
never true = refl
never false = refl

module _ (number : ℕ) (o : Outcome) (n : Lengths o) where
  plain-said : (c : Call) → is_plain c ≡ true → (said_of c o).number ≡ o.answer
  plain-said (Tick u) p = refl
  plain-said (Open g u) p = refl
  plain-said (On l (Close u)) p = refl
  plain-said (On l (Lock u)) p = refl
  plain-said (On l (Unlock u)) p = refl
  plain-said (On l (Receive m u)) p = refl
  plain-said (On l ReportOn) p = no_way p refl
  plain-said (On l (WriteCc b)) p = no_way p refl
  plain-said (On l (WriteCv b)) p = no_way p refl

  -- a refusal
  refused-said : (c : Call) → eqb o.answer 0 ≡ false → (said_of c o).number ≡ o.answer
  refused-said (Tick u) z = refl
  refused-said (Open g u) z = refl
  refused-said (On l (Close u)) z = refl
  refused-said (On l (Lock u)) z = refl
  refused-said (On l (Unlock u)) z = refl
  refused-said (On l (Receive m u)) z = refl
  refused-said (On l ReportOn) z = rw z
  refused-said (On l (WriteCc b)) z = ap (λ (a : Said). a.number) (ap writes (refused o.told.cc b o.answer (eqb-false o.answer 0 z)))
  refused-said (On l (WriteCv b)) z = ap (λ (a : Said). a.number) (ap writes (refused (cv_told o.told) b o.answer (eqb-false o.answer 0 z)))

  -- a refusal with no place is its number
  refused-line : (c : Call) → eqb o.answer 0 ≡ false → has_place c o.answer ≡ false → plain_line number o.answer ≡ line number c (said_of c o)
  refused-line c z p =
      let k = refused-said c z in
      sym (line_refused number c (said_of c o) (λ e. eqb-false o.answer 0 z (sym k ∙ e)) (ap (has_place c) k ∙ p) ∙ ap (plain_line number) k)

  plain-line : (c : Call) → is_plain c ≡ true → has_place c o.answer ≡ false → plain_line number o.answer ≡ line number c (said_of c o)
  plain-line c p q =
      let k = plain-said c p in
      sym (line_plain number c (said_of c o) p (ap (has_place c) k ∙ q) ∙ ap (plain_line number) k)

  -- a message that its reader refuses has its place
  placed-line : (l : ℕ) (m : List ℕ) (u : ℕ) → is_readers o.answer ≡ true → placed_line number o.answer (message_place m) ≡ line number (On l (Receive m u)) (said_of (On l (Receive m u)) o)
  placed-line l m u p = sym (line-placed number l m u (said_of (On l (Receive m u)) o) p)

  -- the octets of an accepted write are the whole buffer
  cc-said : (l : ℕ) → eqb o.answer 0 ≡ true → said_of (On l (WriteCc (replicate 28 0))) o ≡ writes (record { answer = 0; buffer = o.told.cc })
  cc-said l z = ap writes (ap (λ (k : ℕ). writing k o.told.cc (replicate 28 0)) (eqb-true o.answer 0 z) ∙ written o.told.cc (replicate 28 0) (sym n.0))

  cv-said : (l : ℕ) → eqb o.answer 0 ≡ true → said_of (On l (WriteCv (replicate 44 0))) o ≡ writes (record { answer = 0; buffer = take 44 o.told.cv.octets })
  cv-said l z =
      let e = eqb-true o.answer 0 z in
      let octets = o.told.cv.octets in
      ap (λ (k : ℕ). writes (writing o.answer (take k octets) (replicate 44 0))) (n.2 e)
      ∙ ap (λ (k : ℕ). writes (writing k (take 44 octets) (replicate 44 0))) e
      ∙ ap writes (written (take 44 octets) (replicate 44 0) (sym (length-take-le 44 octets (omega (arith, n.1)))))

  report-line : (l : ℕ) → eqb o.answer 0 ≡ true → report_line number o.told.report ≡ line number (On l ReportOn) (said_of (On l ReportOn) o)
  report-line l z =
      let a : said_of (On l ReportOn) o ≡ reporting o.told.report = rw z in
      sym (ap (line number (On l ReportOn)) a ∙ line-report number l (reporting o.told.report) refl)

  cc-line : (l : ℕ) → eqb o.answer 0 ≡ true → octets_line number o.told.cc ≡ line number (On l (WriteCc (replicate 28 0))) (said_of (On l (WriteCc (replicate 28 0))) o)
  cc-line l z =
      let c = On l (WriteCc (replicate 28 0)) in
      sym (ap (line number c) (cc-said l z) ∙ line-cc number l (writes (record { answer = 0; buffer = o.told.cc })) refl (replicate 28 0))

  cv-line : (l : ℕ) → eqb o.answer 0 ≡ true → octets_line number (take 44 o.told.cv.octets) ≡ line number (On l (WriteCv (replicate 44 0))) (said_of (On l (WriteCv (replicate 44 0))) o)
  cv-line l z =
      let c = On l (WriteCv (replicate 44 0)) in
      sym (ap (line number c) (cv-said l z) ∙ line-cv number l (writes (record { answer = 0; buffer = take 44 o.told.cv.octets })) refl (replicate 44 0))

  module _ (r : Record) (body : List ℕ) where
    abbrev c : Call
    c = call_of r body

    -- what holds of the calls of kinds 0 to 5 holds of a record's below 6
    low-kind : (P : Call → Type 0) → leb 6 r.kind ≡ false → P (Tick r.time) → P (Open (settings_in r.label body) r.time)
        → P (On r.label (Close r.time)) → P (On r.label (Lock r.time)) → P (On r.label (Unlock r.time))
        → (eqb r.kind 5 ≡ true → P (On r.label (Receive body r.time))) → P c
    unfolding call_of
    low-kind P k tick opened close lock unlock receive =
        let low : r.kind < 6 = leb-false 6 r.kind k in
        split (eqb r.kind 0)
        (λ a. rw a tick)
        (λ a. split (eqb r.kind 1)
        (λ b. rw (a, b) opened)
        (λ b. split (eqb r.kind 2)
        (λ d. rw (a, b, d) close)
        (λ d. split (eqb r.kind 3)
        (λ e. rw (a, b, d, e) lock)
        (λ e. split (eqb r.kind 4)
        (λ f. rw (a, b, d, e, f) unlock)
        (λ f. split (eqb r.kind 5)
        (λ g. rw (a, b, d, e, f, g) (receive g))
        (λ g. absurd (omega (arith, low, eqb-false r.kind 0 a, eqb-false r.kind 1 b, eqb-false r.kind 2 d, eqb-false r.kind 3 e, eqb-false r.kind 4 f, eqb-false r.kind 5 g))))))))

    -- they tell nothing
    plain-kind : leb 6 r.kind ≡ false → is_plain c ≡ true
    plain-kind k = low-kind (λ (d : Call). is_plain d ≡ true) k refl refl refl refl refl (λ _. refl)

    above : (i : ℕ) → i < 6 → leb 6 r.kind ≡ true → eqb r.kind i ≡ false
    above i l k = ne_eqb r.kind i (λ e. omega (arith, l, leb-true 6 r.kind k, e))

    told-kind : leb 6 r.kind ≡ true → c ≡ On r.label (cond (eqb r.kind 6) ReportOn (cond (eqb r.kind 7) (WriteCc (replicate 28 0)) (WriteCv (replicate 44 0))))
    unfolding call_of
    told-kind k = rw (above 0 (omega arith) k, above 1 (omega arith) k, above 2 (omega arith) k, above 3 (omega arith) k, above 4 (omega arith) k, above 5 (omega arith) k)

    received : eqb r.kind 5 ≡ true → c ≡ On r.label (Receive body r.time)
    unfolding call_of
    received k = rw (eqb-true r.kind 5 k)

    -- no other line has a place
    placeless : (n : ℕ) → is_unread r.kind n ≡ false → has_place c n ≡ false
    placeless n e =
        split (leb 6 r.kind)
        (λ h. rw (told-kind h) (split (eqb r.kind 6) (λ a. rw a) (λ a. split (eqb r.kind 7) (λ b. rw (a, b)) (λ b. rw (a, b)))))
        (λ h. low-kind (λ (d : Call). has_place d n ≡ false) h refl refl refl refl refl (λ k. sym (ap (λ (t : Bool). t && is_readers n) k) ∙ e))

    placed-is : is_unread r.kind o.answer ≡ true → placed_line number o.answer (message_place body) ≡ line number c (said_of c o)
    placed-is e =
        split (eqb r.kind 5)
        (λ k. rw (received k) (placed-line r.label body r.time (sym (ap (λ (t : Bool). t && is_readers o.answer) k) ∙ e)))
        (λ k. no_way e (ap (λ (t : Bool). t && is_readers o.answer) k))

    refused-is : eqb o.answer 0 ≡ false → refused_line number r.kind o.answer body ≡ line number c (said_of c o)
    unfolding refused_line
    refused-is z =
        split (is_unread r.kind o.answer)
        (λ e. rw e (placed-is e))
        (λ e. rw e (refused-line c z (placeless o.answer e)))

    -- no reader refuses with 0
    accepted-is : eqb o.answer 0 ≡ true → leb 6 r.kind ≡ false → plain_line number 0 ≡ line number c (said_of c o)
    accepted-is z k =
        let none : o.answer ≡ 0 = eqb-true o.answer 0 z in
        ap (plain_line number) (sym none) ∙ plain-line c (plain-kind k) (placeless o.answer (rw none (never (eqb r.kind 5))))

    pub line-is : line_by number r.kind o body ≡ line number c (said_of c o)
    unfolding line_by
    line-is =
        split (eqb o.answer 0)
        (λ z. split (leb 6 r.kind)
        (λ k. rw (z, k, told-kind k)
        (split (eqb r.kind 6)
        (λ a. rw a (report-line r.label z))
        (λ a. split (eqb r.kind 7)
        (λ b. rw (a, b) (cc-line r.label z))
        (λ b. rw (a, b) (cv-line r.label z)))))
        (λ k. rw (z, k) (accepted-is z k)))
        (λ z. rw z (refused-is z))

    -- what is said is accepted exactly where the outcome's answer is 0
    pub said-accepted : is_accepted (said_of c o) ≡ eqb o.answer 0
    said-accepted =
        split (eqb o.answer 0)
        (λ z. split (leb 6 r.kind)
        (λ k. rw (told-kind k)
        (split (eqb r.kind 6)
        (λ a. rw (a, z))
        (λ a. split (eqb r.kind 7)
        (λ b. rw (a, b) (ap is_accepted (cc-said r.label z) ∙ sym z))
        (λ b. rw (a, b) (ap is_accepted (cv-said r.label z) ∙ sym z)))))
        (λ k. ap (λ (n : ℕ). eqb n 0) (plain-said c (plain-kind k))))
        (λ z. ap (λ (n : ℕ). eqb n 0) (refused-said c z))

-- ---- one turn of the definition
abbrev pub flow : List Session → Fed → List ℕ → Flow
flow row f out = record { row = row; fed = f; out = out }

-- how far it is fed, by its parts
abbrev pub fed_by : Fed → Head → ℕ → ℕ → Fed
fed_by f head used written = record { head = head; number = numbered f.number; used = used; written = written }

abbrev put-by : List ℕ → Fed → Table → Call → Put
put-by out f t c = typed (record { buffer = out; at = f.written }) (line (numbered f.number) c (answer t c))

-- what comes of it, from the step
turn_by : (input : List ℕ) (row : List Session) (f : Fed) (out : List ℕ) (r : Record) → r ≡ record_in (drop f.used input) → (o : Outcome) (zs : List Session)
    → Steps row f.head (call_of r (body_at input f r)) (record { outcome = o; row = zs }) → Lengths o
    → (g : Fed) (ps : List ℕ) → record { fed = g; out = ps } ≡ answered out f input r o → Holds (more_of f input (length out)) → flow zs g ps ≡ turn_of input (flow row f out)
unfolding turn_of answered call_in
turn_by input row f out r e o zs w n g ps a h =
    let s = drop f.used input in
    let t = table_of row f.head in
    let c = call_of r (body_at input f r) in
    let same : c ≡ call_next input f = ap (λ (q : Record). call_of q (body_in s q.size)) e in
    let told : line_by (numbered f.number) r.kind o (body_at input f r) ≡ line (numbered f.number) c (answer t c) = line-is (numbered f.number) o n r (body_at input f r) ∙ ap (line (numbered f.number) c) w.0 in
    let used : behind_of (length input) f.used r.size ≡ f.used + size_of (next_in s) = ap (λ (q : Record). behind_of (length input) f.used q.size) e ∙ behind-is f input (stands f input (length out) h) in
    ap (λ (y : Answered). flow zs y.fed y.out) a
    ∙ ap (λ (l : List ℕ). flow zs (fed_by f o.head (behind_of (length input) f.used r.size) (typed (record { buffer = out; at = f.written }) l).at) (typed (record { buffer = out; at = f.written }) l).buffer) told
    ∙ ap (λ (u : ℕ). flow zs (fed_by f o.head u (put-by out f t c).at) (put-by out f t c).buffer) used
    ∙ ap (λ (x : Table). flow x.row (fed_by f (head_of x) (f.used + size_of (next_in s)) (put-by out f t c).at) (put-by out f t c).buffer) w.1
    ∙ ap (λ (d : Call). flow (next t d).row (fed_by f (head_of (next t d)) (f.used + size_of (next_in s)) (put-by out f t d).at) (put-by out f t d).buffer) same

-- a record, its call and its line are one turn
pub is-turn : (input : List ℕ) (row : List Session) (f : Fed) (out : List ℕ) (sound : Bool) (r : Record) → r ≡ record_from (drop f.used input) → (o : Outcome) (zs : List Session) → Calls row f r input sound o zs
    → (g : Fed) (ps : List ℕ) → record { fed = g; out = ps } ≡ answered out f input r o
    → sound ≡ in_order (table_of row f.head) → Holds (more_of f input (length out)) → length input < 2 ^ 64 → length row < 2 ^ 64 → flow zs g ps ≡ turn_of input (flow row f out)
is-turn input row f out sound r e o zs called g ps a mark h short long =
    let w = called mark (more-says f input (length out) h).0 short long in
    turn_by input row f out r (e ∙ record-read f input (stands f input (length out) h)) o zs w.0 w.1 g ps a h

-- octets are taken, whatever is known of the row
pub turn-takes : (input : List ℕ) (f : Fed) (out : List ℕ) (r : Record) → r ≡ record_from (drop f.used input) → (o : Outcome) (g : Fed) (ps : List ℕ) → record { fed = g; out = ps } ≡ answered out f input r o
    → Holds (more_of f input (length out)) → f.used < g.used
unfolding answered
turn-takes input f out r e o g ps a h =
    let s = drop f.used input in
    let used : g.used ≡ f.used + size_of (next_in s) = ap (λ (y : Answered). y.fed.used) a ∙ ap (λ (q : Record). behind_of (length input) f.used q.size) (e ∙ record-read f input (stands f input (length out) h)) ∙ behind-is f input (stands f input (length out) h) in
    omega (arith, used, (more-says f input (length out) h).1)

-- one turn, where a record stands next and there is room for its line
pub turned : (input : List ℕ) (row : List Session) (f : Fed) (out : List ℕ) (sound : Bool) → more_of f input (length out) ≡ true → length input < 2 ^ 64 → length row < 2 ^ 64
    → (r : Record) → r ≡ record_from (drop f.used input) → (o : Outcome) (zs : List Session) → Calls row f r input sound o zs → (g : Fed) (ps : List ℕ) → record { fed = g; out = ps } ≡ answered out f input r o
    → (f.used < g.used) × (sound ≡ in_order (table_of row f.head) → flow zs g ps ≡ turn_of input (flow row f out))
turned input row f out sound more short long r er o zs called g ps a =
    let h : Holds (more_of f input (length out)) = subst (λ (t : Bool). Holds t) (sym more) tt in
    (turn-takes input f out r er o g ps a h, λ mark. is-turn input row f out sound r er o zs called g ps a mark h short long)

-- ---- 26 is asked once: the mark of a row is its mark after a turn
pub turn-mark : (input : List ℕ) (x : Flow) → in_order (table_of (turn_of input x).row (turn_of input x).fed.head) ≡ in_order (table_of x.row x.fed.head)
unfolding turn_of
turn-mark input x = order_same (table_of x.row x.fed.head) (call_next input x.fed)

-- how far the input is used then
pub turn-used : (input : List ℕ) (x : Flow) → (turn_of input x).fed.used ≡ x.fed.used + size_of (next_in (drop x.fed.used input))
unfolding turn_of
turn-used input x = refl

-- where there is no more, nothing more is done; where there is, one record
pub stops : (input : List ℕ) (n : ℕ) (x : Flow) → more_of x.fed input (length x.out) ≡ false → go_on input n x ≡ x
unfolding go_on
stops input zero x h = refl
stops input (suc n) x h = ap (λ (t : Bool). cond t (go_on input n (turn_of input x)) x) h

pub goes_on_lem : (input : List ℕ) (n : ℕ) (x : Flow) → more_of x.fed input (length x.out) ≡ true → go_on input (suc n) x ≡ go_on input n (turn_of input x)
unfolding go_on
goes_on_lem input n x h = ap (λ (t : Bool). cond t (go_on input n (turn_of input x)) x) h

pub begins : (row : List Session) (f : Fed) (input out : List ℕ) → go_on input (length input) (flow row f out) ≡ feed_of row f input out
unfolding feed_of
begins row f input out = refl

-- ---- the loop, as its invariant has it: what `Going` says of any such loop, of this one
abbrev pub order-of : Flow → Bool
order-of x = in_order (table_of x.row x.fed.head)

abbrev pub used-of : Flow → ℕ
used-of x = x.fed.used

abbrev pub end-of : List ℕ → Flow → Flow
end-of input z = feed_of z.row z.fed input z.out

abbrev pub After : Bool → List ℕ → Flow → Flow → Type 0
After mark input z x = Going.After (length input) used-of order-of (go_on input) (end-of input) mark z x
