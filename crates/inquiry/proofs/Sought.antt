-- However a capture is cut by the reads: what is held is the run over the first records of what came, and the text at the end is that of the capture.
-- Assumes nothing.
use Prim.Native.Nat.{ℕ, ◌+◌, ◌-◌, ◌^◌, ◌≤◌, ◌<◌, min}
use native.Mathlib.Omega.{arith}
use mathlib.Core.Path.{◌≡◌, refl, sym, ap, subst, ◌∙◌}
use mathlib.Core.Bool.{Bool, true, false, cond}
use mathlib.Core.List.{List, [], ◌∷◌, ◌++◌}
use lib.Dec.{ltb}
use lib.ListN.{length, take, drop, replicate, length-drop}
use lib.Seq.{sets, length-sets, length-take-le, drop-append-le}
use borrow.Author.Tests.{ltb-true, ltb-false}
use Rattle.rules.specs.Calls.{Call}
use Rattle.rules.proofs.Bools.{no_way}
use Rattle.table.specs.Table.{absent, emptied}
use Rattle.capture.specs.Records.{header_fits, next_in}
use Rattle.text.specs.Text.{Parsed, parsed_by}
use Rattle.text.proofs.Parsing.{by-none}
use Rattle.cause.specs.Tracing.{Trace, trace_step, trace_all, trace_start}
use Rattle.cause.proofs.Answers.{trace-joined}
use Rattle.trace.specs.Tracing.{Trail, trace_of}
use Rattle.trace.proofs.Turns.{trail}
use Rattle.trace.proofs.Traces.{Runs, trace-runs}
use Rattle.pump.proofs.Mending.{header-long, header-front}
use Rattle.pump.proofs.Between.{put_front}
use Rattle.pump.proofs.Shifting.{joined as with_part, joined_length, read-in}
use Rattle.inquiry.specs.declared.search.Search.{Search}
use Rattle.inquiry.specs.Searching.{Searched, Begun, start_of, input_in, same, holding, bad_one, header_read, headed, at_front, is_settled, traced_on, searched_on, got_of}
use Rattle.inquiry.specs.Sought.{run_of, Unread, Wrong, Traced, Stage, Waiting, Refused, Reading, Sought}
use Rattle.inquiry.proofs.Portions.{further, joined, more-behind}
use Rattle.inquiry.proofs.OneRead.{already, not-begun, traces, rests, goes_on_lem}

-- the number of a run is that of its calls
pub trace-number : (l : ℕ) (x : Trace) (cs : List Call) → (trace_all l x cs).number ≡ x.number + length cs
unfolding trace_all trace_step
trace-number l x [] = omega arith
trace-number l x (c ∷ cs) = trace-number l (trace_step l x c) cs ∙ omega arith

module _ (l upto : ℕ) (short : upto < 2 ^ 64) (first : List ℕ) where
  abbrev begins : Trace
  begins = trace_start (replicate 64 absent) first

  -- ---- records
  -- of a table that has run over the first records of s: what is left of s with more octets behind it is traced
  module _ (s : Search) (buf kept behind more : List ℕ) (run : run_of s.asked kept ≡ trace_all l begins (parsed_by upto behind).calls)
      (input : input_in s buf ≡ (parsed_by upto behind).rest ++ more) (label : s.asked.tracing.label ≡ l) (bound : s.asked.tracing.upto ≡ upto)
      (there : s.have ≤ length buf) where
    abbrev y : Trail
    y = trace_of s.asked.row (at_front s.asked.tracing) (input_in s buf) kept

    abbrev p : Parsed
    p = parsed_by upto behind

    abbrev rest : List ℕ
    rest = drop y.tracing.fed.used (input_in s buf)

    runs : Runs (input_in s buf) (trail s.asked.row (at_front s.asked.tracing) kept) y
    unfolding at_front
    runs = trace-runs s.asked.row (at_front s.asked.tracing) (input_in s buf) kept (omega (arith, bound, short))

    number : s.asked.tracing.fed.number ≡ length p.calls
    unfolding trace_start
    number = ap (λ (t : Trace). t.number) run ∙ trace-number l begins p.calls ∙ omega arith

    lacking : parsed_by (s.asked.tracing.upto - s.asked.tracing.fed.number) (drop 0 (input_in s buf)) ≡ further upto p more
    lacking = rw (bound, number, input)

    whole : parsed_by upto (behind ++ more) ≡ joined p (further upto p more)
    whole = more-behind upto behind more

    run_on : run_of (record { row = y.row; tracing = y.tracing }) y.kept ≡ trace_all l begins (parsed_by upto (behind ++ more)).calls
    unfolding at_front
    run_on =
        runs.run
        ∙ ap (λ (k : ℕ). trace_all k (run_of s.asked kept) (parsed_by (s.asked.tracing.upto - s.asked.tracing.fed.number) (drop 0 (input_in s buf))).calls) label
        ∙ ap (λ (q : Parsed). trace_all l (run_of s.asked kept) q.calls) lacking
        ∙ ap (λ (t : Trace). trace_all l t (further upto p more).calls) run
        ∙ sym (trace-joined l begins p.calls (further upto p more).calls)
        ∙ ap (λ (q : Parsed). trace_all l begins q.calls) (sym whole)

    left-on : rest ≡ (parsed_by upto (behind ++ more)).rest
    unfolding at_front
    left-on = runs.left ∙ ap (λ (q : Parsed). q.rest) lacking ∙ ap (λ (q : Parsed). q.rest) (sym whole)

    rest-short : length rest ≤ length buf
    rest-short = omega (arith, length-drop y.tracing.fed.used (input_in s buf), length-take-le s.have buf there)

    same-label : y.tracing.label ≡ l
    unfolding at_front
    same-label = runs.label ∙ label

    same-bound : y.tracing.upto ≡ upto
    unfolding at_front
    same-bound = runs.upto ∙ bound

    pub traced-on : Traced l upto first (behind ++ more) (traced_on s buf kept)
    unfolding traced_on
    traced-on =
        record {
          run = run_on;
          left = put_front rest buf rest-short ∙ left-on;
          label = same-label;
          bound = same-bound;
          begun = refl;
          good = refl;
          settled = ap (λ (r : List ℕ). is_settled (next_in r)) left-on;
        }

    pub traced-fits : (length (traced_on s buf kept).buf ≡ length buf) × ((traced_on s buf kept).search.have ≤ length buf)
    unfolding traced_on
    traced-fits = (length-sets buf 0 rest, rest-short)

  -- ---- before the first read
  pub sought-start : (buf : List ℕ) → 2064 ≤ length buf → Sought l upto first [] (same (start_of l upto) buf first)
  unfolding start_of
  sought-start buf big =
      record {
        big = big;
        there = omega arith;
        stage = Waiting (record { few = omega arith; nothing = refl; all = refl; unkept = refl });
      }

  -- ---- one read
  -- nothing was traced of no octets
  none-parsed : parsed_by upto [] ≡ record { calls = []; rest = [] }
  unfolding next_in
  none-parsed = by-none upto [] refl

  module _ (came : List ℕ) (x : Searched) (i : Sought l upto first came x) (n : ℕ) (part : List ℕ) (on : x.search.over ≡ false)
      (room : length part ≡ length x.buf - x.search.have) (few : n ≤ length part) where
    abbrev s : Search
    s = x.search

    abbrev buf : List ℕ
    buf = with_part s.have x.buf part

    abbrev came' : List ℕ
    came' = came ++ take n part

    abbrev have : ℕ
    have = min (s.have + n) (length buf)

    abbrev held : Search
    held = holding s have

    buf-length : length buf ≡ length x.buf
    buf-length = joined_length s.have x.buf n part i.there room few

    have-fits : have ≤ length buf
    have-fits = omega arith

    there-now : input_in held buf ≡ input_in s x.buf ++ take n part
    there-now = read-in s.have x.buf n part i.there room few

    -- what a read that traces leaves
    keeps : (q : Search) (b : List ℕ) → length b ≡ length x.buf → (behind more : List ℕ) → header_fits came' ≡ true → drop 8 came' ≡ behind ++ more
        → run_of q.asked x.kept ≡ trace_all l begins (parsed_by upto behind).calls → input_in q b ≡ (parsed_by upto behind).rest ++ more
        → q.asked.tracing.label ≡ l → q.asked.tracing.upto ≡ upto → q.have ≤ length b → Sought l upto first came' (traced_on q b x.kept)
    keeps q b k behind more h d run input label bound there =
        let t = traced-fits q b x.kept behind more run input label bound there in
        record {
          big = omega (arith, t.0, k, i.big);
          there = omega (arith, t.0, t.1);
          stage = Reading h (subst (λ (o : List ℕ). Traced l upto first o (traced_on q b x.kept)) (sym d) (traced-on q b x.kept behind more run input label bound there));
        }

    -- the header is read: on from what was left
    reading : header_fits came ≡ true → Traced l upto first (drop 8 came) x → Sought l upto first came' (got_of s n buf x.kept)
    reading h t =
        let long = header-long came h in
        let b : Begun = record { search = held; buf = buf } in
        subst (Sought l upto first came') (traces b x.kept t.begun ∙ goes_on_lem s n buf x.kept on have refl held refl b (already held buf t.begun))
        (keeps held buf buf-length (drop 8 came) (take n part) (header-front came (take n part) long ∙ h) (drop-append-le 8 came (take n part) long)
        t.run (there-now ∙ ap (λ (o : List ℕ). o ++ take n part) t.left) t.label t.bound have-fits)

    -- it is not
    module _ (u : Unread l upto first came x) where
      all_there : input_in held buf ≡ came'
      all_there = there-now ∙ ap (λ (o : List ℕ). o ++ take n part) u.all

      is_held : held ≡ holding (start_of l upto) (length came')
      is_held =
          let count : have ≡ length came' = sym (length-take-le have buf have-fits) ∙ ap length all_there in
          ap (λ (k : ℕ). holding s k) count ∙ ap (λ (q : Search). holding q (length came')) u.nothing

      not_yet : s.begun ≡ false
      unfolding start_of
      not_yet = ap (λ (q : Search). q.begun) u.nothing

      -- by what stands there now
      abbrev After : Begun → Type 0
      After b = Sought l upto first came' (searched_on b x.kept)

      waiting : ltb (length (input_in held buf)) 8 ≡ true → After (record { search = held; buf = buf })
      waiting e =
          subst (Sought l upto first came') (rests (record { search = held; buf = buf }) x.kept not_yet)
          (record {
            big = omega (arith, buf-length, i.big);
            there = have-fits;
            stage = Waiting (record { few = omega (arith, ltb-true (length (input_in held buf)) 8 e, ap length all_there); nothing = is_held; all = all_there; unkept = u.unkept });
          })

      wrong : ltb (length (input_in held buf)) 8 ≡ false → header_fits (input_in held buf) ≡ false → After (record { search = bad_one held; buf = buf })
      wrong e h =
          subst (Sought l upto first came') (rests (record { search = bad_one held; buf = buf }) x.kept not_yet)
          (record {
            big = omega (arith, buf-length, i.big);
            there = have-fits;
            stage =
                Refused
                (record {
                  there = omega (arith, ltb-false (length (input_in held buf)) 8 e, ap length all_there);
                  unfit = ap header_fits (sym all_there) ∙ h;
                  nothing = ap (λ (q : Search). bad_one (holding q have)) u.nothing;
                  unkept = u.unkept;
                });
          })

      abbrev behind : List ℕ
      behind = drop 8 (input_in held buf)

      abbrev moved : List ℕ
      moved = sets buf 0 behind

      behind-short : length behind ≤ length buf
      behind-short = omega (arith, length-drop 8 (input_in held buf), length-take-le have buf have-fits)

      started : run_of held.asked x.kept ≡ trace_all l begins (parsed_by upto []).calls
      unfolding start_of trace_start emptied trace_all
      started =
          ap (λ (q : Search). run_of q.asked x.kept) u.nothing ∙ ap (run_of (start_of l upto).asked) u.unkept
          ∙ ap (λ (p : Parsed). trace_all l begins p.calls) (sym none-parsed)

      right : header_fits (input_in held buf) ≡ true → After (record { search = header_read held (length behind); buf = moved })
      unfolding searched_on start_of
      right h =
          keeps (header_read held (length behind)) moved (length-sets buf 0 behind ∙ buf-length) [] behind (ap header_fits (sym all_there) ∙ h) (ap (drop 8) (sym all_there))
          started
          (put_front behind buf behind-short ∙ ap (λ (p : Parsed). p.rest ++ behind) (sym none-parsed))
          (ap (λ (q : Search). q.asked.tracing.label) u.nothing) (ap (λ (q : Search). q.asked.tracing.upto) u.nothing)
          (omega (arith, behind-short, length-sets buf 0 behind))

      either : (b : Bool) (c d : Begun) → (b ≡ true → After c) → (b ≡ false → After d) → After (cond b c d)
      either true c d t f = t refl
      either false c d t f = f refl

      headed-after : After (headed held buf)
      unfolding headed
      headed-after =
          either (ltb (length (input_in held buf)) 8) (record { search = held; buf = buf }) _
          waiting
          (λ e. either (header_fits (input_in held buf)) (record { search = header_read held (length behind); buf = moved }) (record { search = bad_one held; buf = buf })
          right
          (wrong e))

      unread : Sought l upto first came' (got_of s n buf x.kept)
      unread = subst (Sought l upto first came') (goes_on_lem s n buf x.kept on have refl held refl (headed held buf) (not-begun held buf not_yet)) headed-after

    refused_over : {A : Type 0} → Wrong l upto first came x → A
    unfolding start_of
    refused_over w = no_way (ap (λ (q : Search). q.over) w.nothing) on

    by-stage : Stage l upto first came x → Sought l upto first came' (got_of s n buf x.kept)
    by-stage (Waiting u) = unread u
    by-stage (Refused w) = refused_over w
    by-stage (Reading h t) = reading h t

    pub sought-got : Sought l upto first came' (got_of s n buf x.kept)
    sought-got = by-stage i.stage
