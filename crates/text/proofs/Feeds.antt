-- What a feed writes is text of the capture: the lines of the records that it takes, as the meaning has them, and the text of what it leaves follows behind.
-- Assumes nothing.
use Prim.Native.Nat.{ℕ, zero, suc, ◌+◌, ◌-◌, ◌≤◌, ◌<◌}
use native.Mathlib.Omega.{arith}
use mathlib.Core.Path.{◌≡◌, refl, sym, ap, subst, ◌∙◌}
use mathlib.Core.Bool.{true, false}
use mathlib.Core.List.{List, [], ◌∷◌, ◌++◌, append_assoc, append-nil}
use lib.Dec.{eqb, ltb, leb}
use lib.ListN.{length, take, drop, length-set, length-append, length-drop}
use lib.Seq.{drop-drop, take_at, length-take-le}
use borrow.Author.Tests.{ltb-true, ltb-false, leb-true, le-leb}
use Rattle.octets.proofs.Chain.{and_both}
use Rattle.rules.specs.Calls.{Act, Close, Lock, Unlock, Receive, ReportOn, WriteCc, WriteCv, Call, Tick, Open, On, Said, is_accepted}
use Rattle.rules.proofs.Bools.{split, both_true}
use Rattle.session.specs.declared.Session.{Session}
use Rattle.table.specs.declared.Head.{Head}
use Rattle.table.specs.Table.{Table, answer, next, done, act_done, altered, added, closed}
use Rattle.step.specs.Stepping.{table_of}
use Rattle.capture.specs.Records.{next_in, act_of, call_of, call_in, record_in, body_in, is_whole, size_of}
use Rattle.capture.specs.Lines.{line, numbered}
use Rattle.capture.proofs.LineSaid.{Exact, ExactAct}
use Rattle.capture.proofs.LineShort.{line-short}
use Rattle.capture.proofs.Typing.{typed-fits}
use Rattle.feed.specs.declared.Fed.{Fed}
use Rattle.feed.specs.Feeding.{longest, more_of, head_of, Flow, call_next, turn_of, go_on, feed_of}
use Rattle.meaning.specs.Histories.{History, after}
use Rattle.meaning.specs.Answers.{says}
use Rattle.text.specs.Text.{Parsed, parsed, lines_after}
use Rattle.text.proofs.Parsing.{whole-size, next-front, call-front, drop-front, parsed-whole}
use Rattle.text.proofs.Reached.{Reached, reached-says, reached-next}

-- ---- a record lends buffers of the length that is written
exact-act : (kind : ℕ) (body : List ℕ) (time : ℕ) → ExactAct (act_of kind body time)
exact-act kind body time =
    split (eqb kind 2)
    (λ a. rw a tt)
    (λ a. split (eqb kind 3)
    (λ b. rw (a, b) tt)
    (λ b. split (eqb kind 4)
    (λ d. rw (a, b, d) tt)
    (λ d. split (eqb kind 5)
    (λ e. rw (a, b, d, e) tt)
    (λ e. split (eqb kind 6)
    (λ f. rw (a, b, d, e, f) tt)
    (λ f. split (eqb kind 7)
    (λ g. rw (a, b, d, e, f, g) refl)
    (λ g. rw (a, b, d, e, f, g) refl))))))

exact-call : (s : List ℕ) → Exact (call_in s)
unfolding call_in call_of
exact-call s =
    let r = record_in s in
    split (eqb r.kind 0)
    (λ a. rw a tt)
    (λ a. split (eqb r.kind 1)
    (λ b. rw (a, b) tt)
    (λ b. rw (a, b) (exact-act r.kind (body_in s r.size) r.time)))

-- ---- a call leaves as many records as there were
act-rows : (t : Table) (l : ℕ) (a : Act) → length (act_done t l a).row ≡ length t.row
unfolding act_done altered closed
act-rows t l (Close u) = refl
act-rows t l (Lock u) = length-set t.row _ _
act-rows t l (Unlock u) = length-set t.row _ _
act-rows t l (Receive m u) = length-set t.row _ _
act-rows t l ReportOn = refl
act-rows t l (WriteCc b) = length-set t.row _ _
act-rows t l (WriteCv b) = refl

done-rows : (t : Table) (c : Call) → length (done t c).row ≡ length t.row
unfolding done added
done-rows t (Tick u) = refl
done-rows t (Open g u) = length-set t.row _ _
done-rows t (On l a) = act-rows t l a

pub next-rows : (t : Table) (c : Call) → length (next t c).row ≡ length t.row
unfolding next
next-rows t c = split (is_accepted (answer t c)) (λ e. rw e (done-rows t c)) (λ e. rw e)

-- ---- the text of what comes, by one record
-- a line has its end
line-some : (n : ℕ) (c : Call) (a : Said) → 1 ≤ length (line n c a)
unfolding line
line-some n c a = simp length-append (omega arith)

module _ (h : History) (n : ℕ) (s f : List ℕ) (e : is_whole (next_in s) ≡ true) where
  -- the calls of s and then of what comes behind: the first is that of s
  first-parsed : parsed (s ++ f) ≡ record {
    calls = call_in s ∷ (parsed (drop (size_of (next_in s)) s ++ f)).calls;
    rest = (parsed (drop (size_of (next_in s)) s ++ f)).rest;
  }
  first-parsed =
      let w : is_whole (next_in (s ++ f)) ≡ true = ap is_whole (next-front s f e) ∙ e in
      parsed-whole (s ++ f) w ∙ rw (next-front s f e, call-front s f e, drop-front s f e)

  first-line : lines_after h n (parsed (s ++ f)).calls
      ≡ line (numbered n) (call_in s) (says h (call_in s))
      ++ lines_after (after h (call_in s) (says h (call_in s))) (numbered n) (parsed (drop (size_of (next_in s)) s ++ f)).calls
  unfolding lines_after
  first-line = ap (λ (p : Parsed). lines_after h n p.calls) first-parsed

-- ---- what a feed leaves
-- from the flow x after the history h to the flow y: the lines put, the history then, and for all octets to come
pub record Went (input : List ℕ) (h : History) (x y : Flow) : Type 0 where
  pub lines : List ℕ
  pub past : History
  pub reached : Reached past (table_of y.row y.fed.head)
  pub rows : length y.row ≡ length x.row
  pub room : length y.out ≡ length x.out
  pub written : y.fed.written ≡ x.fed.written + length lines
  pub within : y.fed.written ≤ length y.out
  pub used : x.fed.used ≤ y.fed.used
  -- each record has a line
  pub some : x.fed.used < y.fed.used → x.fed.written < y.fed.written
  pub put : take y.fed.written y.out ≡ take x.fed.written x.out ++ lines
  pub text : (future : List ℕ) → lines_after h x.fed.number (parsed (drop x.fed.used input ++ future)).calls
      ≡ lines ++ lines_after past y.fed.number (parsed (drop y.fed.used input ++ future)).calls
  pub rest : (future : List ℕ) → (parsed (drop x.fed.used input ++ future)).rest ≡ (parsed (drop y.fed.used input ++ future)).rest

module _ (input : List ℕ) where
  -- nothing
  stayed : (h : History) (x : Flow) → Reached h (table_of x.row x.fed.head) → x.fed.written ≤ length x.out → Went input h x x
  stayed h x r l =
      record {
        lines = [];
        past = h;
        reached = r;
        rows = refl;
        room = refl;
        written = omega arith;
        within = l;
        used = omega arith;
        some = λ l. absurd (omega arith);
        put = sym (append-nil (take x.fed.written x.out));
        text = λ future. refl;
        rest = λ future. refl;
      }

  -- one feed behind another
  onward : {h : History} {x y z : Flow} (a : Went input h x y) → Went input a.past y z → Went input h x z
  onward {h} {x} {y} {z} a b =
      record {
        lines = a.lines ++ b.lines;
        past = b.past;
        reached = b.reached;
        rows = b.rows ∙ a.rows;
        room = b.room ∙ a.room;
        written = omega (arith, a.written, b.written, length-append a.lines b.lines);
        within = b.within;
        used = omega (arith, a.used, b.used);
        some = λ l.
            split (ltb x.fed.used y.fed.used)
            (λ e. omega (arith, a.some (ltb-true x.fed.used y.fed.used e), b.written))
            (λ e. omega (arith, a.written, b.some (omega (arith, ltb-false x.fed.used y.fed.used e, a.used))));
        put = b.put ∙ ap (λ (l : List ℕ). l ++ b.lines) a.put ∙ append_assoc (take x.fed.written x.out) a.lines b.lines;
        text = λ future. a.text future ∙ ap (λ (l : List ℕ). a.lines ++ l) (b.text future) ∙ sym (append_assoc a.lines b.lines _);
        rest = λ future. a.rest future ∙ b.rest future;
      }

  -- one record: its line is put, and row and head are as its call leaves them
  abbrev after_one : Flow → List ℕ → List Session → Head → Flow
  after_one x text row head =
      record {
        row = row;
        fed = record { head = head; number = numbered x.fed.number; used = x.fed.used + size_of (next_in (drop x.fed.used input)); written = x.fed.written + length text };
        out = take x.fed.written x.out ++ text ++ drop (x.fed.written + length text) x.out;
      }

  module _ (h : History) (x : Flow) (text : List ℕ) (row : List Session) (head : Head) where
    abbrev c : Call
    c = call_in (drop x.fed.used input)

    one-record : is_whole (next_in (drop x.fed.used input)) ≡ true
        → text ≡ line (numbered x.fed.number) c (says h c) → Reached (after h c (says h c)) (table_of row head)
        → length row ≡ length x.row → x.fed.written + length text ≤ length x.out → Went input h x (after_one x text row head)
    one-record w t r k l =
        let s = drop x.fed.used input in
        let before = length-take-le x.fed.written x.out (omega arith) in
        let same : length (after_one x text row head).out ≡ length x.out =
        simp (length-append, length-drop) (omega (arith, before)) in
        let behind = drop-drop (size_of (next_in s)) x.fed.used input in
        record {
          lines = text;
          past = after h c (says h c);
          reached = r;
          rows = k;
          room = same;
          written = refl;
          within = omega (arith, same);
          used = omega arith;
          some = λ u. omega (arith, ap length t, line-some (numbered x.fed.number) c (says h c));
          put = take_at (take x.fed.written x.out ++ text) _ (x.fed.written + length text) (length-append (take x.fed.written x.out) text ∙ rw before);
          text = λ future. first-line h x.fed.number s future w ∙ rw (behind, t);
          rest = λ future. ap (λ (p : Parsed). p.rest) (first-parsed h x.fed.number s future w) ∙ rw behind;
        }

  -- what a test that there is more says
  more-whole : (x : Flow) → more_of x.fed input (length x.out) ≡ true
      → (is_whole (next_in (drop x.fed.used input)) ≡ true) × (x.fed.written + 160 ≤ length x.out)
  unfolding more_of
  more-whole x m =
      let both = and_both (is_whole (next_in (drop x.fed.used input))) (leb longest (length x.out - x.fed.written)) m in
      (both.0, omega (arith, leb-true 160 (length x.out - x.fed.written) both.1))

  -- the line has room
  turn_is : (x : Flow) → let t = table_of x.row x.fed.head in let c = call_next input x.fed in
      x.fed.written + length (line (numbered x.fed.number) c (answer t c)) ≤ length x.out
      → turn_of input x ≡ after_one x (line (numbered x.fed.number) c (answer t c)) (next t c).row (head_of (next t c))
  unfolding turn_of
  turn_is x l = rw (typed-fits (record { buffer = x.out; at = x.fed.written }) _ l)

  turned : (h : History) (x : Flow) → Reached h (table_of x.row x.fed.head) → length x.row ≡ 64 → x.fed.written ≤ length x.out
      → more_of x.fed input (length x.out) ≡ true → Went input h x (turn_of input x)
  turned h x r k l m =
      let s = drop x.fed.used input in
      let c = call_in s in
      let t = table_of x.row x.fed.head in
      let text = line (numbered x.fed.number) c (answer t c) in
      let there = more-whole x m in
      let fits : x.fed.written + length text ≤ length x.out = omega (arith, there.1, line-short (numbered x.fed.number) t c (exact-call s)) in
      subst (λ (y : Flow). Went input h x y) (sym (turn_is x fits))
      (one-record h x text (next t c).row (head_of (next t c)) there.0 (ap (line (numbered x.fed.number) c) (reached-says r c)) (reached-next r c) (next-rows t c) fits)

  -- at most n records
  goes : (n : ℕ) (x : Flow) → more_of x.fed input (length x.out) ≡ true → go_on input (suc n) x ≡ go_on input n (turn_of input x)
  unfolding go_on
  goes n x m = rw m

  stops : (n : ℕ) (x : Flow) → more_of x.fed input (length x.out) ≡ false → go_on input n x ≡ x
  unfolding go_on
  stops zero x m = refl
  stops (suc n) x m = rw m

  none : (x : Flow) → go_on input zero x ≡ x
  unfolding go_on
  none x = refl

  went_on : (n : ℕ) (h : History) (x : Flow) → Reached h (table_of x.row x.fed.head) → length x.row ≡ 64 → x.fed.written ≤ length x.out
      → Went input h x (go_on input n x)
  went_on zero h x r k l = subst (λ (y : Flow). Went input h x y) (sym (none x)) (stayed h x r l)
  went_on (suc n) h x r k l =
      split (more_of x.fed input (length x.out))
      (λ m.
      let a = turned h x r k l m in
      subst (λ (y : Flow). Went input h x y) (sym (goes n x m)) (onward a (went_on n a.past (turn_of input x) a.reached (a.rows ∙ k) a.within)))
      (λ m. subst (λ (y : Flow). Went input h x y) (sym (stops (suc n) x m)) (stayed h x r l))

  -- where there is more, octets are used
  turn-used : (x : Flow) → (turn_of input x).fed.used ≡ x.fed.used + size_of (next_in (drop x.fed.used input))
  unfolding turn_of
  turn-used x = refl

  took : (n : ℕ) (h : History) (x : Flow) → Reached h (table_of x.row x.fed.head) → length x.row ≡ 64 → x.fed.written ≤ length x.out
      → more_of x.fed input (length x.out) ≡ true → x.fed.used < (go_on input (suc n) x).fed.used
  took n h x r k l m =
      let a = turned h x r k l m in
      let b = went_on n a.past (turn_of input x) a.reached (a.rows ∙ k) a.within in
      rw (goes n x m) (omega (arith, b.used, turn-used x, (whole-size (drop x.fed.used input) (more-whole x m).0).0))

-- ---- a feed
module _ (row : List Session) (f : Fed) (input out : List ℕ) (h : History) (r : Reached h (table_of row f.head)) (k : length row ≡ 64) where
  abbrev from-here : Flow
  from-here = record { row = row; fed = f; out = out }

  pub feed-went : f.written ≤ length out → Went input h from-here (feed_of row f input out)
  unfolding feed_of
  feed-went l = went_on input (length input) h from-here r k l

  -- a whole record that stands next, with room for a line, is taken
  pub feed-took : f.written + 160 ≤ length out → is_whole (next_in (drop f.used input)) ≡ true → f.used < (feed_of row f input out).fed.used
  unfolding feed_of more_of
  feed-took l w =
      let m = both_true w (le-leb 160 (length out - f.written) (omega arith)) in
      let some : length input ≡ suc (length input - 1) = omega (arith, (whole-size (drop f.used input) w).0, (whole-size (drop f.used input) w).1, length-drop f.used input) in
      rw some (took input (length input - 1) h from-here r k (omega arith) m)
