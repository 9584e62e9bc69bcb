-- However the reads cut the input and however much each write takes: the octets taken are the text of the whole input.
-- Assumes nothing.
use Prim.Native.Nat.{ℕ, ◌+◌, ◌-◌, ◌≤◌, ◌<◌, min}
use native.Mathlib.Omega.{arith}
use mathlib.Core.Path.{◌≡◌, refl, sym, ap, subst, ◌∙◌}
use mathlib.Core.Bool.{Bool, true, false, ◌||◌}
use mathlib.Core.List.{List, [], ◌∷◌, ◌++◌, append_assoc, append-nil}
use lib.Dec.{eqb}
use lib.ListN.{length, take, drop, length-append, length-drop}
use lib.Seq.{length-take-le, drop-drop, take-add, take-take}
use borrow.Author.Tests.{eqb-false}
use Rattle.octets.specs.Choice.{bit_of}
use Rattle.rules.proofs.Bools.{split}
use Rattle.text.specs.Text.{text_after, text_of}
use Rattle.pump.specs.declared.Pump.{Pump}
use Rattle.pump.specs.Pumping.{Pumped, starting, pending_in, got_of, took_of, input_in, turn_of}
use Rattle.pump.specs.Watching.{CallAnswer, Came, Took, Watched, before_calls, one_call, watched, AnswersCall, AllAnswered, Front, MayCome, TextWritten}
use Rattle.pump.proofs.Shifting.{joined, joined_length, so-many, read-in}
use Rattle.pump.proofs.Between.{Fresh, Going, Ended, Stage, Places, Sound, Settled, wants-read, wants-write, wants-nothing, bit-small, none-pending}
use Rattle.pump.proofs.Keeping.{After, turn-after}

-- ---- a call
-- the octets that a write took stand before those that are left
module _ (p : Pump) (out : List ℕ) (order : p.from ≤ p.to) (fits : p.to ≤ length out) where
  pending-length : length (pending_in p out) ≡ p.to - p.from
  pending-length = length-take-le (p.to - p.from) (drop p.from out) (omega (arith, length-drop p.from out))

  module _ (n : ℕ) (few : n ≤ length (pending_in p out)) where
    so_far : min (p.from + n) p.to ≡ p.from + n
    so_far = omega (arith, pending-length)

    written_on : take n (pending_in p out) ++ take (p.to - min (p.from + n) p.to) (drop (min (p.from + n) p.to) out) ≡ pending_in p out
    written_on =
        let rest = drop p.from out in
        let m = p.to - (p.from + n) in
        let all : p.to - p.from ≡ n + m = omega (arith, pending-length) in
        ap (λ (k : ℕ). take n (pending_in p out) ++ take (p.to - k) (drop k out)) so_far
        ∙ ap (λ (l : List ℕ). take n (pending_in p out) ++ take m l) (sym (drop-drop n p.from out))
        ∙ ap (λ (l : List ℕ). l ++ take m (drop n rest)) (ap (λ (k : ℕ). take n (take k rest)) all ∙ take-take n (n + m) rest (omega arith))
        ∙ sym (take-add n m rest)
        ∙ ap (λ (k : ℕ). take k rest) (sym all)

-- what holds between two calls
record Holds (x : Watched) : Type 0 where
  sound : Sound x.core x.came x.written
  settled : Settled x.core

-- octets that came and that were taken, and the end: each call adds to them
abbrev weight : Watched → ℕ
weight x = length x.came + length x.written + bit_of x.core.pump.closed

record Stepped (x : Watched) (a : CallAnswer) : Type 0 where
  holds : Holds (one_call x a)
  grows : weight x < weight (one_call x a)

module _ (x : Watched) (i : Holds x) where
  abbrev q : Pump
  q = x.core.pump

  abbrev within : Places x.core
  within = i.sound.places

  -- a read
  module _ (n : ℕ) (part : List ℕ) (a : AnswersCall x.core (Came n part)) where
    abbrev came' : List ℕ
    came' = x.came ++ take n part

    abbrev got : Pumped
    got = record { pump = got_of q n (length (joined q.have x.core.buf part)); buf = joined q.have x.core.buf part; out = x.core.out }

    got-places : Places got
    unfolding got_of
    got-places =
        let len = joined_length q.have x.core.buf n part within.there a.1 a.2 in
        let many = so-many q.have x.core.buf n part within.there a.1 a.2 in
        record { big = omega (arith, len, within.big); wide = within.wide; there = omega (arith, len, many, within.there); order = within.order; fits = within.fits }

    got-input : input_in got.pump got.buf ≡ input_in q x.core.buf ++ take n part
    unfolding got_of
    got-input = read-in q.have x.core.buf n part within.there a.1 a.2

    got-going : Going x.core x.came x.written → Going got came' x.written
    unfolding got_of
    got-going g =
        record {
          past = g.past;
          reached = g.reached;
          rows = g.rows;
          text = λ future.
              ap (λ (l : List ℕ). (x.written ++ pending_in q x.core.out) ++ text_after g.past q.table.fed.number (l ++ future)) got-input
              ∙ ap (λ (l : List ℕ). (x.written ++ pending_in q x.core.out) ++ text_after g.past q.table.fed.number l)
              (append_assoc (input_in q x.core.buf) (take n part) future)
              ∙ g.text (take n part ++ future)
              ∙ ap text_of (sym (append_assoc x.came (take n part) future));
        }

    got-fresh : Fresh x.core x.came x.written → Fresh got came' x.written
    unfolding got_of
    got-fresh f = record { table = f.table; all = ap (λ (l : List ℕ). l ++ take n part) f.all ∙ sym got-input; none = f.none; idle = f.idle }

    got-stage : Stage q.over q.begun got came' x.written
    got-stage =
        let on = (wants-read q a.0).1 in
        let s = subst (λ (b : Bool). Stage b q.begun x.core x.came x.written) on i.sound.stage in
        subst (λ (b : Bool). Stage b q.begun got came' x.written) (sym on)
        (split q.begun
        (λ b. subst (λ (v : Bool). Stage false v got came' x.written) (sym b) (got-going (subst (λ (v : Bool). Stage false v x.core x.came x.written) b s)))
        (λ b. subst (λ (v : Bool). Stage false v got came' x.written) (sym b) (got-fresh (subst (λ (v : Bool). Stage false v x.core x.came x.written) b s))))

    got-after : After came' x.written (q.closed || eqb n 0) (turn_of got.pump got.buf got.out)
    unfolding got_of
    got-after = turn-after came' x.written (q.closed || eqb n 0) got (record { places = got-places; stage = got-stage }) refl

    got-step : Stepped x (Came n part)
    unfolding one_call
    got-step =
        let t = got-after in
        let unended = (i.settled a.0).1 in
        let more = length-append x.came (take n part) in
        let some = length-take-le n part a.2 in
        record {
          holds = record { sound = t.sound; settled = t.settled };
          grows =
              split (eqb n 0)
              (λ e. rw (t.closing, unended, e) (omega (arith, more)))
              (λ e. rw (t.closing, unended, e) (omega (arith, more, some, eqb-false n 0 e)));
        }

  -- a write
  module _ (n : ℕ) (a : AnswersCall x.core (Took n)) where
    abbrev written' : List ℕ
    written' = x.written ++ take n (pending_in q x.core.out)

    abbrev took : Pumped
    took = record { pump = took_of q n; buf = x.core.buf; out = x.core.out }

    took-places : Places took
    unfolding took_of
    took-places =
        let far = so_far q x.core.out within.order within.fits n a.2 in
        let len = pending-length q x.core.out within.order within.fits in
        record { big = within.big; wide = within.wide; there = within.there; order = omega (arith, far, len, a.2); fits = within.fits }

    -- what was taken and what is left
    took-text : written' ++ pending_in took.pump took.out ≡ x.written ++ pending_in q x.core.out
    unfolding took_of
    took-text =
        append_assoc x.written (take n (pending_in q x.core.out)) _
        ∙ ap (λ (l : List ℕ). x.written ++ l) (written_on q x.core.out within.order within.fits n a.2)

    took-going : Going x.core x.came x.written → Going took x.came written'
    unfolding took_of
    took-going g =
        record {
          past = g.past;
          reached = g.reached;
          rows = g.rows;
          text = λ future.
              ap (λ (l : List ℕ). l ++ text_after g.past q.table.fed.number (input_in q x.core.buf ++ future)) took-text ∙ g.text future;
        }

    took-ended : Ended x.core x.came x.written → Ended took x.came written'
    unfolding took_of
    took-ended e = record { text = λ future end. took-text ∙ e.text future end }

    took-stage : Stage q.over q.begun took x.came written'
    took-stage =
        split q.over
        (λ o. subst (λ (b : Bool). Stage b q.begun took x.came written') (sym o)
        (took-ended (subst (λ (b : Bool). Stage b q.begun x.core x.came x.written) o i.sound.stage)))
        (λ o.
        let s = subst (λ (b : Bool). Stage b q.begun x.core x.came x.written) o i.sound.stage in
        subst (λ (b : Bool). Stage b q.begun took x.came written') (sym o)
        (split q.begun
        (λ b. subst (λ (v : Bool). Stage false v took x.came written') (sym b) (took-going (subst (λ (v : Bool). Stage false v x.core x.came x.written) b s)))
        (λ b.
        let f : Fresh x.core x.came x.written = subst (λ (v : Bool). Stage false v x.core x.came x.written) b s in
        absurd (omega (arith, f.idle, wants-write q a.0)))))

    took-after : After x.came written' q.closed (turn_of took.pump took.buf took.out)
    unfolding took_of
    took-after = turn-after x.came written' q.closed took (record { places = took-places; stage = took-stage }) refl

    took-step : Stepped x (Took n)
    unfolding one_call
    took-step =
        let t = took-after in
        let more = length-append x.written (take n (pending_in q x.core.out)) in
        let some = length-take-le n (pending_in q x.core.out) a.2 in
        record { holds = record { sound = t.sound; settled = t.settled }; grows = rw t.closing (omega (arith, more, some, a.1)) }

  step : (a : CallAnswer) → AnswersCall x.core a → Stepped x a
  step (Came n part) a = got-step n part a
  step (Took n) a = took-step n a

  -- ---- what holds then
  holds-written : TextWritten x
  holds-written =
      record {
        front = front_of_lem i.sound.stage;
        whole = λ e future end.
            let w = wants-nothing q e in
            let s : Ended x.core x.came x.written = subst (λ (b : Bool). Stage b q.begun x.core x.came x.written) w.1 i.sound.stage in
            sym (ap (λ (l : List ℕ). x.written ++ l) (none-pending q x.core.out w.0) ∙ append-nil x.written) ∙ s.text future end;
        reads = i.settled;
        writes = λ e. omega (arith, wants-write q e, pending-length q x.core.out within.order within.fits);
      }
    where
      by-marks : (over begun : Bool) → Stage over begun x.core x.came x.written → (future : List ℕ) → MayCome x future → Front x.written (text_of (x.came ++ future))
      by-marks true begun s future end = record { behind = pending_in q x.core.out; joined = s.text future end }
      by-marks false true s future end =
          record {
            behind = pending_in q x.core.out ++ text_after s.past q.table.fed.number (input_in q x.core.buf ++ future);
            joined = sym (append_assoc x.written (pending_in q x.core.out) _) ∙ s.text future;
          }
      by-marks false false s future end = record { behind = text_of (x.came ++ future); joined = ap (λ (l : List ℕ). l ++ text_of (x.came ++ future)) s.none }

      front_of_lem : Stage q.over q.begun x.core x.came x.written → (future : List ℕ) → MayCome x future → Front x.written (text_of (x.came ++ future))
      front_of_lem s = by-marks q.over q.begun s

-- ---- every list of answers
all_hold : (x : Watched) → Holds x → (answers : List CallAnswer) → AllAnswered x answers → Holds (watched x answers) × (weight x + length answers ≤ weight (watched x answers))
unfolding watched AllAnswered
all_hold x i [] a = (i, omega arith)
all_hold x i (b ∷ later) a =
    let s = step x i b a.0 in
    let t = all_hold (one_call x b) s.holds later a.1 in
    (t.0, omega (arith, s.grows, t.1))

-- one answer more
pub watched-more : (x : Watched) (answers : List CallAnswer) (a : CallAnswer) → watched x (answers ++ a ∷ []) ≡ one_call (watched x answers) a
unfolding watched
watched-more x [] a = refl
watched-more x (b ∷ later) a = watched-more (one_call x b) later a

pub answered-more : (x : Watched) (answers : List CallAnswer) (a : CallAnswer) → AllAnswered x answers → AnswersCall (watched x answers).core a → AllAnswered x (answers ++ a ∷ [])
unfolding watched AllAnswered
answered-more x [] a h k = (k, tt)
answered-more x (b ∷ later) a h k = (h.0, answered-more (one_call x b) later a h.1 k)

first_holds : (buf out : List ℕ) → 2064 ≤ length buf → 160 ≤ length out → Holds (before_calls buf out)
unfolding before_calls starting
first_holds buf out b o =
    record {
      sound = record {
        places = record { big = b; wide = o; there = omega arith; order = omega arith; fits = omega arith };
        stage = record { table = refl; all = refl; none = refl; idle = omega arith };
      };
      settled = λ e. (omega (arith, b), refl);
    }

module _ (buf out : List ℕ) (b : 2064 ≤ length buf) (o : 160 ≤ length out) (answers : List CallAnswer) (a : AllAnswered (before_calls buf out) answers) where
  -- the theorem: with a buffer for a whole record and one for a line, for every list of answers of the two calls
  pub text-written : TextWritten (watched (before_calls buf out) answers)
  text-written = holds-written (watched (before_calls buf out) answers) (all_hold (before_calls buf out) (first_holds buf out b o) answers a).0

  -- and no list goes on for ever: each call but the one that finds the end brings an octet of the input or takes one of its text
  pub watch-ends : (future : List ℕ) → MayCome (watched (before_calls buf out) answers) future →
      let input = (watched (before_calls buf out) answers).came ++ future in length answers ≤ length input + length (text_of input) + 1
  unfolding before_calls
  watch-ends future end =
      let x = watched (before_calls buf out) answers in
      let f = text-written.front future end in
      omega (
        arith,
        (all_hold (before_calls buf out) (first_holds buf out b o) answers a).1,
        length-append x.came future,
        ap length f.joined,
        length-append x.written f.behind,
        bit-small x.core.pump.closed,
      )
