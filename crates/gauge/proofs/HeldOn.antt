-- However a capture is cut by the reads: what is held is the run over the records of what came.
-- Assumes nothing.
use Prim.Native.Nat.{ℕ, ◌+◌, ◌-◌, ◌≤◌, min}
use native.Mathlib.Omega.{arith}
use mathlib.Core.Path.{◌≡◌, refl, sym, ap, subst, ◌∙◌}
use mathlib.Core.Bool.{Bool, true, false, cond}
use mathlib.Core.List.{List, [], ◌++◌}
use lib.Dec.{ltb}
use lib.ListN.{length, take, drop, replicate, length-drop}
use lib.Seq.{sets, length-sets, length-take-le, drop-append-le}
use borrow.Author.Tests.{ltb-true, ltb-false}
use Rattle.rules.proofs.Bools.{no_way}
use Rattle.table.specs.Table.{absent, emptied}
use Rattle.capture.specs.Records.{header_fits, next_in}
use Rattle.text.specs.Text.{Parsed, parsed}
use Rattle.text.proofs.Parsing.{parsed-none}
use Rattle.interval.specs.Pacing.{Run, run_all, run_start}
use Rattle.interval.proofs.Spaced.{run-append}
use Rattle.pace.specs.Pacing.{Trail, pace_of}
use Rattle.pace.proofs.Turns.{trail}
use Rattle.pace.proofs.Paces.{Runs, pace-runs}
use Rattle.pump.specs.Pumping.{cannot_mend}
use Rattle.pump.proofs.Mending.{header-long, header-front}
use Rattle.pump.proofs.Between.{put_front}
use Rattle.pump.proofs.Shifting.{joined as with_part, joined_length, read-in}
use Rattle.gauge.specs.declared.input.Gauge.{Gauge}
use Rattle.gauge.specs.Gauging.{Gauged, same, start_of, input_in, holding, settled, header_read, headed, at_front, paced_on, gauged_on, got_of}
use Rattle.gauge.specs.Held.{run_of, Unread, Wrong, Paced, Stage, Waiting, Refused, Reading, Held}
use Rattle.gauge.proofs.Portions.{further, joined, more-behind}
use Rattle.gauge.proofs.OneRead.{already, not-begun, paces, rests, goes_on_lem}

module _ (l : ℕ) where
  abbrev begins : Run
  begins = run_start (replicate 64 absent)

  -- ---- records
  -- of a table that has run over the records of s: what is left of s with more octets behind it is paced
  module _ (s : Gauge) (buf behind more : List ℕ) (run : run_of s.asked ≡ run_all l begins (parsed behind).calls)
      (input : input_in s buf ≡ (parsed behind).rest ++ more) (label : s.asked.pacing.label ≡ l) (there : s.have ≤ length buf) where
    abbrev y : Trail
    y = pace_of s.asked.row (at_front s.asked.pacing) (input_in s buf)

    abbrev p : Parsed
    p = parsed behind

    abbrev rest : List ℕ
    rest = drop y.pacing.fed.used (input_in s buf)

    runs : Runs (input_in s buf) (trail s.asked.row (at_front s.asked.pacing)) y
    runs = pace-runs s.asked.row (at_front s.asked.pacing) (input_in s buf)

    standing : parsed (drop 0 (input_in s buf)) ≡ further p more
    standing = ap parsed input

    whole : parsed (behind ++ more) ≡ joined p (further p more)
    whole = more-behind behind more

    run_on : run_of (record { row = y.row; pacing = y.pacing }) ≡ run_all l begins (parsed (behind ++ more)).calls
    unfolding at_front
    run_on =
        runs.run
        ∙ ap (λ (k : ℕ). run_all k (run_of s.asked) (parsed (drop 0 (input_in s buf))).calls) label
        ∙ ap (λ (q : Parsed). run_all l (run_of s.asked) q.calls) standing
        ∙ ap (λ (t : Run). run_all l t (further p more).calls) run
        ∙ sym (run-append l begins p.calls (further p more).calls)
        ∙ ap (λ (q : Parsed). run_all l begins q.calls) (sym whole)

    left-on : rest ≡ (parsed (behind ++ more)).rest
    unfolding at_front
    left-on = runs.left ∙ ap (λ (q : Parsed). q.rest) standing ∙ ap (λ (q : Parsed). q.rest) (sym whole)

    rest-short : length rest ≤ length buf
    rest-short = omega (arith, length-drop y.pacing.fed.used (input_in s buf), length-take-le s.have buf there)

    same-label : y.pacing.label ≡ l
    unfolding at_front
    same-label = runs.label ∙ label

    pub paced-on : Paced l (behind ++ more) (paced_on s buf)
    unfolding paced_on
    paced-on =
        record {
          run = run_on;
          left = put_front rest buf rest-short ∙ left-on;
          label = same-label;
          begun = refl;
          over = ap (λ (r : List ℕ). cannot_mend (next_in r)) left-on;
        }

    pub paced-fits : (length (paced_on s buf).buf ≡ length buf) × ((paced_on s buf).gauge.have ≤ length buf)
    unfolding paced_on
    paced-fits = (length-sets buf 0 rest, rest-short)

  -- ---- before the first read
  pub held_start : (buf : List ℕ) → 2064 ≤ length buf → Held l [] (same (start_of l) buf)
  unfolding start_of
  held_start buf big = record { big = big; there = omega arith; stage = Waiting (record { few = omega arith; nothing = refl; all = refl }) }

  -- ---- one read
  -- nothing was paced of no octets
  none-parsed : parsed [] ≡ record { calls = []; rest = [] }
  unfolding next_in
  none-parsed = parsed-none [] refl

  module _ (came : List ℕ) (x : Gauged) (i : Held l came x) (n : ℕ) (part : List ℕ) (on : x.gauge.over ≡ false)
      (room : length part ≡ length x.buf - x.gauge.have) (few : n ≤ length part) where
    abbrev s : Gauge
    s = x.gauge

    abbrev buf : List ℕ
    buf = with_part s.have x.buf part

    abbrev came' : List ℕ
    came' = came ++ take n part

    abbrev have : ℕ
    have = min (s.have + n) (length buf)

    abbrev held : Gauge
    held = holding s have

    buf-length : length buf ≡ length x.buf
    buf-length = joined_length s.have x.buf n part i.there room few

    have-fits : have ≤ length buf
    have-fits = omega arith

    there-now : input_in held buf ≡ input_in s x.buf ++ take n part
    there-now = read-in s.have x.buf n part i.there room few

    -- what a read that paces leaves
    keeps : (q : Gauge) (b : List ℕ) → length b ≡ length x.buf → (behind more : List ℕ) → header_fits came' ≡ true → drop 8 came' ≡ behind ++ more
        → run_of q.asked ≡ run_all l begins (parsed behind).calls → input_in q b ≡ (parsed behind).rest ++ more
        → q.asked.pacing.label ≡ l → q.have ≤ length b → Held l came' (paced_on q b)
    keeps q b k behind more h d run input label there =
        let t = paced-fits q b behind more run input label there in
        record {
          big = omega (arith, t.0, k, i.big);
          there = omega (arith, t.0, t.1);
          stage = Reading h (subst (λ (o : List ℕ). Paced l o (paced_on q b)) (sym d) (paced-on q b behind more run input label there));
        }

    -- the header is read: on from what was left
    reading : header_fits came ≡ true → Paced l (drop 8 came) x → Held l came' (got_of s n buf)
    reading h t =
        let long = header-long came h in
        let b : Gauged = same held buf in
        subst (Held l came') (paces b t.begun ∙ goes_on_lem s n buf on have refl held refl b (already held buf t.begun))
        (keeps held buf buf-length (drop 8 came) (take n part) (header-front came (take n part) long ∙ h) (drop-append-le 8 came (take n part) long)
        t.run (there-now ∙ ap (λ (o : List ℕ). o ++ take n part) t.left) t.label have-fits)

    -- it is not
    module _ (u : Unread l came x) where
      all_there : input_in held buf ≡ came'
      all_there = there-now ∙ ap (λ (o : List ℕ). o ++ take n part) u.all

      is_held : held ≡ holding (start_of l) (length came')
      is_held =
          let count : have ≡ length came' = sym (length-take-le have buf have-fits) ∙ ap length all_there in
          ap (λ (k : ℕ). holding s k) count ∙ ap (λ (q : Gauge). holding q (length came')) u.nothing

      not_yet : s.begun ≡ false
      unfolding start_of
      not_yet = ap (λ (q : Gauge). q.begun) u.nothing

      -- by what stands there now
      abbrev After : Gauged → Type 0
      After b = Held l came' (gauged_on b)

      waiting : ltb (length (input_in held buf)) 8 ≡ true → After (same held buf)
      waiting e =
          subst (Held l came') (rests (same held buf) not_yet)
          (record {
            big = omega (arith, buf-length, i.big);
            there = have-fits;
            stage = Waiting (record { few = omega (arith, ltb-true (length (input_in held buf)) 8 e, ap length all_there); nothing = is_held; all = all_there });
          })

      wrong : ltb (length (input_in held buf)) 8 ≡ false → header_fits (input_in held buf) ≡ false → After (same (settled held) buf)
      wrong e h =
          subst (Held l came') (rests (same (settled held) buf) not_yet)
          (record {
            big = omega (arith, buf-length, i.big);
            there = have-fits;
            stage =
                Refused
                (record {
                  there = omega (arith, ltb-false (length (input_in held buf)) 8 e, ap length all_there);
                  unfit = ap header_fits (sym all_there) ∙ h;
                  nothing = ap (λ (q : Gauge). settled (holding q have)) u.nothing;
                });
          })

      abbrev behind : List ℕ
      behind = drop 8 (input_in held buf)

      abbrev moved : List ℕ
      moved = sets buf 0 behind

      behind-short : length behind ≤ length buf
      behind-short = omega (arith, length-drop 8 (input_in held buf), length-take-le have buf have-fits)

      started : run_of held.asked ≡ run_all l begins (parsed []).calls
      unfolding start_of run_start emptied run_all
      started = ap (λ (q : Gauge). run_of q.asked) u.nothing ∙ ap (λ (p : Parsed). run_all l begins p.calls) (sym none-parsed)

      right : header_fits (input_in held buf) ≡ true → After (same (header_read held (length behind)) moved)
      unfolding gauged_on start_of
      right h =
          keeps (header_read held (length behind)) moved (length-sets buf 0 behind ∙ buf-length) [] behind (ap header_fits (sym all_there) ∙ h) (ap (drop 8) (sym all_there))
          started
          (put_front behind buf behind-short ∙ ap (λ (p : Parsed). p.rest ++ behind) (sym none-parsed))
          (ap (λ (q : Gauge). q.asked.pacing.label) u.nothing)
          (omega (arith, behind-short, length-sets buf 0 behind))

      either : (b : Bool) (c d : Gauged) → (b ≡ true → After c) → (b ≡ false → After d) → After (cond b c d)
      either true c d t f = t refl
      either false c d t f = f refl

      headed-after : After (headed held buf)
      unfolding headed
      headed-after =
          either (ltb (length (input_in held buf)) 8) (same held buf) _
          waiting
          (λ e. either (header_fits (input_in held buf)) (same (header_read held (length behind)) moved) (same (settled held) buf)
          right
          (wrong e))

      unread : Held l came' (got_of s n buf)
      unread = subst (Held l came') (goes_on_lem s n buf on have refl held refl (headed held buf) (not-begun held buf not_yet)) headed-after

    refused_over : {A : Type 0} → Wrong l came x → A
    unfolding start_of
    refused_over w = no_way (ap (λ (q : Gauge). q.over) w.nothing) on

    by-stage : Stage l came x → Held l came' (got_of s n buf)
    by-stage (Waiting u) = unread u
    by-stage (Refused w) = refused_over w
    by-stage (Reading h t) = reading h t

    pub held-got : Held l came' (got_of s n buf)
    held-got = by-stage i.stage
