-- One turn of the core keeps what holds between two system calls.
-- Assumes nothing.
use Prim.Native.Nat.{ℕ, ◌-◌, ◌≤◌, ◌<◌}
use native.Mathlib.Omega.{arith}
use mathlib.Core.Path.{◌≡◌, refl, sym, ap, subst, ◌∙◌}
use mathlib.Core.Bool.{Bool, true, false, cond, not}
use mathlib.Core.Logic.{⊎_elim}
use mathlib.Core.List.{List, [], ◌++◌, append_assoc, append-nil}
use lib.Dec.{ltb}
use lib.ListN.{length, take, drop, replicate, length-drop, length-replicate}
use lib.Seq.{sets, length-sets, length-take-le, drop-append-le}
use borrow.Author.Tests.{ltb-true, ltb-false, not-true}
use Rattle.octets.proofs.Chain.{and_both}
use Rattle.rules.proofs.Bools.{split, or_cases, refuted, forced, true-false, both_true}
use Rattle.table.specs.Table.{absent, emptied}
use Rattle.step.specs.Stepping.{table_of}
use Rattle.capture.specs.Records.{header_fits, next_in, is_whole}
use Rattle.owner.specs.declared.Feeding.{Feeding}
use Rattle.feed.specs.Feeding.{Flow, feed_of}
use Rattle.meaning.specs.Histories.{start}
use Rattle.text.specs.Text.{bad_header, ending, text_after, text_of}
use Rattle.text.specs.Putting.{empty_table}
use Rattle.text.proofs.Reached.{Reached, reached-start}
use Rattle.text.proofs.Feeds.{Went, feed-went, feed-took}
use Rattle.text.proofs.Going.{text-parts}
use Rattle.pump.specs.declared.Pump.{Pump}
use Rattle.pump.specs.Pumping.{Pumped, pending_in, input_in, same, last_words, finished_of, moved_to, at_front, lines_put, cannot_mend, is_over, fed_to, fed_on, header_read, is_waiting, headed, is_ready, fed_behind, turn_of}
use Rattle.pump.proofs.Mending.{text-none, text-broken, waits-short, header-long, header-front}
use Rattle.pump.proofs.Turning.{already, not-begun, writes-first, no_more, goes_on_lem, feeds, rests}
use Rattle.pump.proofs.Between.{Fresh, Going, Stage, Places, Sound, Settled, wants-in, over-settled, write-settled, neither, put_front, from_front, none-pending, ending-short, text-bad}

-- ---- one turn
module _ (came written : List ℕ) (closed : Bool) where
  -- what holds behind it; it does not change whether the input has ended
  pub record After (c : Pumped) : Type 0 where
    pub sound : Sound c came written
    pub settled : Settled c
    pub closing : c.pump.closed ≡ closed

  -- by a test
  either : (b : Bool) (x y : Pumped) → (b ≡ true → After x) → (b ≡ false → After y) → After (cond b x y)
  either true x y t f = t refl
  either false x y t f = f refl

  either-behind : (b : Bool) (x y : Pumped) → (b ≡ true → After (fed_behind x)) → (b ≡ false → After (fed_behind y)) → After (fed_behind (cond b x y))
  either-behind true x y t f = t refl
  either-behind false x y t f = f refl

  -- behind the header
  module _ (c : Pumped) (i : Places c) (k : c.pump.closed ≡ closed) (idle : c.pump.to ≤ c.pump.from) (on : c.pump.over ≡ false)
      (begun : c.pump.begun ≡ true) (g : Going c came written) where
    abbrev p : Pump
    p = c.pump

    abbrev input : List ℕ
    input = input_in p c.buf

    abbrev y : Flow
    y = feed_of p.table.row (at_front p.table).fed input c.out

    went : Went input g.past (record { row = p.table.row; fed = (at_front p.table).fed; out = c.out }) y
    unfolding at_front
    went = feed-went p.table.row (at_front p.table).fed input c.out g.past g.reached g.rows (omega arith)

    as_many : length input ≡ p.have
    as_many = length-take-le p.have c.buf i.there

    text-now : (future : List ℕ) → written ++ text_after g.past p.table.fed.number (input ++ future) ≡ text_of (came ++ future)
    text-now future =
        ap (λ (l : List ℕ). l ++ text_after g.past p.table.fed.number (input ++ future))
        (sym (ap (λ (l : List ℕ). written ++ l) (none-pending p c.out idle) ∙ append-nil written))
        ∙ g.text future

    -- records were taken
    abbrev left : List ℕ
    left = drop y.fed.used input

    left-fits : length left ≤ length c.buf
    left-fits = omega (arith, length-drop y.fed.used input, as_many, i.there)

    lines-put : take (y.fed.written - 0) (drop 0 y.out) ≡ went.lines
    unfolding at_front
    lines-put = let z : y.fed.written - 0 ≡ y.fed.written = omega arith in rw z went.put

    lines-text : (future : List ℕ) → text_after g.past p.table.fed.number (input ++ future) ≡ went.lines ++ text_after went.past y.fed.number (left ++ future)
    unfolding at_front
    lines-text future =
        text-parts g.past went.past p.table.fed.number y.fed.number (input ++ future) (left ++ future) went.lines (went.text future) (went.rest future)

    abbrev fed : Pumped
    fed = record { pump = lines_put p y (length left); buf = moved_to c.buf input y.fed.used; out = y.out }

    fed-going : Going fed came written
    fed-going =
        record {
          past = went.past;
          reached = went.reached;
          rows = went.rows ∙ g.rows;
          text = λ future.
              ap (λ (l : List ℕ). (written ++ l) ++ text_after went.past y.fed.number (input_in fed.pump fed.buf ++ future)) lines-put
              ∙ ap (λ (l : List ℕ). (written ++ went.lines) ++ text_after went.past y.fed.number (l ++ future)) (put_front left c.buf left-fits)
              ∙ append_assoc written went.lines (text_after went.past y.fed.number (left ++ future))
              ∙ ap (λ (l : List ℕ). written ++ l) (sym (lines-text future))
              ∙ text-now future;
        }

    fed-after : 0 < y.fed.used → After fed
    unfolding at_front
    fed-after l =
        record {
          sound = record {
            places = record {
              big = omega (arith, i.big, length-sets c.buf 0 left);
              wide = omega (arith, i.wide, went.room);
              there = omega (arith, left-fits, length-sets c.buf 0 left);
              order = omega arith;
              fits = went.within;
            };
            stage = fed-going;
          };
          settled = write-settled fed.pump (went.some l);
          closing = k;
        }

    -- none was taken: no whole record stands there
    module _ (none : y.fed.used ≤ 0) where
      not-whole : is_whole (next_in input) ≡ false
      unfolding at_front
      not-whole =
          refuted (is_whole (next_in input)) (λ w. omega (arith, feed-took p.table.row (at_front p.table).fed input c.out g.past g.reached g.rows (omega (arith, i.wide)) w))

      abbrev words : List ℕ
      words = ending input

      abbrev last : Pumped
      last = record { pump = last_words p (length words); buf = c.buf; out = sets y.out 0 words }

      last-is : is_over p.closed (next_in input) ≡ true → (future : List ℕ) → (p.closed ≡ true → future ≡ [])
          → text_after g.past p.table.fed.number (input ++ future) ≡ words
      last-is o future end =
          ⊎_elim {C = text_after g.past p.table.fed.number (input ++ future) ≡ words}
          (λ e. ap (λ (f : List ℕ). text_after g.past p.table.fed.number (input ++ f)) (end e)
          ∙ ap (text_after g.past p.table.fed.number) (append-nil input) ∙ text-none g.past p.table.fed.number input not-whole)
          (λ e. text-broken g.past p.table.fed.number input future e)
          (or_cases p.closed (cannot_mend (next_in input)) o)

      words-fit : length words ≤ length y.out
      words-fit = omega (arith, ending-short input, i.wide, went.room)

      last-after : is_over p.closed (next_in input) ≡ true → After last
      last-after o =
          record {
            sound = record {
              places = record {
                big = i.big;
                wide = omega (arith, i.wide, went.room, length-sets y.out 0 words);
                there = i.there;
                order = omega arith;
                fits = omega (arith, words-fit, length-sets y.out 0 words);
              };
              stage = record {
                text = λ future end.
                    ap (λ (l : List ℕ). written ++ l) (from_front words y.out words-fit ∙ sym (last-is o future end)) ∙ text-now future;
              };
            };
            settled = over-settled last.pump refl;
            closing = k;
          }

      abbrev waiting : Pumped
      waiting = same p c.buf y.out

      waiting-going : Going waiting came written
      waiting-going =
          record {
            past = g.past;
            reached = g.reached;
            rows = g.rows;
            text = λ future.
                ap (λ (l : List ℕ). l ++ text_after g.past p.table.fed.number (input ++ future))
                (ap (λ (l : List ℕ). written ++ l) (none-pending p y.out idle) ∙ append-nil written)
                ∙ text-now future;
          }

      waiting-after : is_over p.closed (next_in input) ≡ false → After waiting
      waiting-after o =
          record {
            sound = record {
              places = record { big = i.big; wide = omega (arith, i.wide, went.room); there = i.there; order = i.order; fits = omega (arith, i.fits, went.room) };
              stage =
                  subst (λ (b : Bool). Stage b p.begun waiting came written) (sym on)
                  (subst (λ (b : Bool). Stage false b waiting came written) (sym begun) waiting-going);
            };
            settled = λ e. (
              omega (arith, waits-short input not-whole (neither p.closed (cannot_mend (next_in input)) o).1, as_many, i.big),
              (neither p.closed (cannot_mend (next_in input)) o).0,
            );
            closing = k;
          }

    feed-after : After (fed_on p c.buf c.out)
    unfolding fed_on fed_to finished_of
    feed-after =
        either (ltb 0 y.fed.used) fed _
        (λ e. fed-after (ltb-true 0 y.fed.used e))
        (λ e. either (is_over p.closed (next_in input)) (finished_of p c.buf y.out (ending input)) (same p c.buf y.out)
        (λ o. last-after (ltb-false 0 y.fed.used e) o)
        (λ o. waiting-after (ltb-false 0 y.fed.used e) o))

  -- before it
  module _ (c : Pumped) (i : Places c) (k : c.pump.closed ≡ closed) (idle : c.pump.to ≤ c.pump.from) (on : c.pump.over ≡ false)
      (first : c.pump.begun ≡ false) (f : Fresh c came written) where
    abbrev first-input : List ℕ
    first-input = input_in c.pump c.buf

    all_there : length first-input ≡ c.pump.have
    all_there = length-take-le c.pump.have c.buf i.there

    -- it is to come
    coming-after : is_waiting c.pump.closed (length first-input) ≡ true → After c
    coming-after e =
        let both = and_both (not c.pump.closed) (ltb (length first-input) 8) e in
        record {
          sound = record {
            places = i;
            stage =
                subst (λ (b : Bool). Stage b c.pump.begun c came written) (sym on)
                (subst (λ (b : Bool). Stage false b c came written) (sym first) f);
          };
          settled = λ w. (omega (arith, ltb-true (length first-input) 8 both.1, all_there, i.big), not-true c.pump.closed both.0);
          closing = k;
        }

    -- it is right
    module _ (h : header_fits first-input ≡ true) where
      abbrev behind : List ℕ
      behind = drop 8 first-input

      abbrev read : Pumped
      read = record { pump = header_read c.pump (length behind); buf = moved_to c.buf first-input 8; out = c.out }

      behind-fits : length behind ≤ length c.buf
      behind-fits = omega (arith, length-drop 8 first-input, all_there, i.there)

      text-of : (future : List ℕ) → text_of (first-input ++ future) ≡ text_after start 0 (behind ++ future)
      unfolding text_of
      text-of future =
          let l = header-long first-input h in
          rw (header-front first-input future l, h) (ap (text_after start 0) (drop-append-le 8 first-input future l))

      read-going : Going read came written
      unfolding empty_table emptied
      read-going =
          record {
            past = start;
            reached = subst (λ (t : Feeding). Reached start (table_of t.row t.fed.head)) (sym f.table) (reached-start (replicate 64 absent) (length-replicate 64 absent));
            rows = ap (λ (t : Feeding). length t.row) f.table ∙ length-replicate 64 absent;
            text = λ future.
                ap (λ (l : List ℕ). l ++ text_after start c.pump.table.fed.number (input_in read.pump read.buf ++ future))
                (ap (λ (l : List ℕ). l ++ pending_in c.pump c.out) f.none ∙ none-pending c.pump c.out idle)
                ∙ ap (λ (t : Feeding). text_after start t.fed.number (input_in read.pump read.buf ++ future)) f.table
                ∙ ap (λ (l : List ℕ). text_after start 0 (l ++ future)) (put_front behind c.buf behind-fits)
                ∙ sym (text-of future) ∙ ap (λ (l : List ℕ). text_of (l ++ future)) (sym f.all);
          }

      read-after : After (fed_on read.pump read.buf read.out)
      read-after =
          feed-after read
          (record {
            big = omega (arith, i.big, length-sets c.buf 0 behind);
            wide = i.wide;
            there = omega (arith, behind-fits, length-sets c.buf 0 behind);
            order = i.order;
            fits = i.fits;
          })
          k idle on refl read-going

    -- it is wrong
    module _ (w : is_waiting c.pump.closed (length first-input) ≡ false) (h : header_fits first-input ≡ false) where
      abbrev wrong : Pumped
      wrong = record { pump = last_words c.pump (length bad_header); buf = c.buf; out = sets c.out 0 bad_header }

      wrong-text : (future : List ℕ) → (c.pump.closed ≡ true → future ≡ []) → text_of (first-input ++ future) ≡ bad_header
      wrong-text future end =
          split (ltb (length first-input) 8)
          (λ s.
          let over : c.pump.closed ≡ true = forced c.pump.closed (λ n. true-false (both_true {a = not c.pump.closed} (rw n) s) w) in
          ap (λ (l : List ℕ). text_of (first-input ++ l)) (end over) ∙ ap text_of (append-nil first-input) ∙ text-bad first-input h)
          (λ s. text-bad (first-input ++ future) (header-front first-input future (ltb-false (length first-input) 8 s) ∙ h))

      wrong-after : After wrong
      wrong-after =
          let n : length bad_header ≤ length c.out = omega (arith, i.wide) in
          record {
            sound = record {
              places = record {
                big = i.big;
                wide = omega (arith, i.wide, length-sets c.out 0 bad_header);
                there = i.there;
                order = omega arith;
                fits = omega (arith, n, length-sets c.out 0 bad_header);
              };
              stage = record {
                text = λ future end.
                    ap (λ (l : List ℕ). l ++ pending_in wrong.pump wrong.out) f.none ∙ from_front bad_header c.out n
                    ∙ sym (wrong-text future end) ∙ ap (λ (l : List ℕ). text_of (l ++ future)) (sym f.all);
              };
            };
            settled = over-settled wrong.pump refl;
            closing = k;
          }

    head-after : After (fed_behind (headed c.pump c.buf c.out))
    unfolding headed finished_of
    head-after =
        either-behind (is_waiting c.pump.closed (length first-input)) c _
        (λ w. subst After (rests c (ap (λ (b : Bool). is_ready b c.pump.over) first)) (coming-after w))
        (λ w. either-behind (header_fits first-input) (record { pump = header_read c.pump (length (drop 8 first-input)); buf = moved_to c.buf first-input 8; out = c.out })
        (finished_of c.pump c.buf c.out bad_header)
        (λ h. subst After (feeds (read h) (ap not on)) (read-after h))
        (λ h. subst After (rests (wrong w h) (ap (λ (b : Bool). is_ready b true) first)) (wrong-after w h)))

  -- a turn
  pub turn-after : (c : Pumped) → Sound c came written → c.pump.closed ≡ closed → After (turn_of c.pump c.buf c.out)
  turn-after c i k =
      wants-in c.pump
      (λ l w. subst After (writes-first c.pump c.buf c.out l) (record { sound = i; settled = write-settled c.pump l; closing = k }))
      (λ l o w. subst After (no_more c.pump c.buf c.out l o) (record { sound = i; settled = over-settled c.pump o; closing = k }))
      (λ l o w.
      let s = subst (λ (b : Bool). Stage b c.pump.begun c came written) o i.stage in
      subst After (goes_on_lem c.pump c.buf c.out l o)
      (split c.pump.begun
      (λ b.
      subst (λ (x : Pumped). After (fed_behind x)) (already c.pump c.buf c.out b)
      (subst After (feeds c (both_true b (ap not o))) (feed-after c i.places k l o b (subst (λ (v : Bool). Stage false v c came written) b s))))
      (λ b.
      subst (λ (x : Pumped). After (fed_behind x)) (not-begun c.pump c.buf c.out b)
      (head-after c i.places k l o b (subst (λ (v : Bool). Stage false v c came written) b s)))))
