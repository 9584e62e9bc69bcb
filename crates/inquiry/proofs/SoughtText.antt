-- The text at the end of a search is that of the whole capture: once the search is over, whatever else the capture holds; else of what came, once the input has ended.
-- Assumes nothing.
use Prim.Native.Nat.{ℕ, ◌≤◌, ◌<◌}
use native.Mathlib.Omega.{arith}
use mathlib.Core.Path.{◌≡◌, refl, sym, ap, ◌∙◌}
use mathlib.Core.Bool.{true, false, cond}
use mathlib.Core.Option.{Option, none, some}
use mathlib.Core.List.{List, [], ◌∷◌, ◌++◌, append-nil}
use lib.Dec.{ltb}
use lib.ListN.{length, get_or, take, drop, replicate, length-replicate}
use lib.Seq.{length-take-le, drop-append-le}
use Rattle.rules.specs.Calls.{Call}
use Rattle.rules.proofs.Bools.{split, no_way, refuted}
use Rattle.session.specs.declared.Session.{Session}
use Rattle.table.specs.Places.{first_hit, place_of}
use Rattle.table.specs.Table.{Table, absent, emptied, find, open_of, in_order}
use Rattle.table.proofs.Found.{first-label}
use Rattle.step.proofs.TableStep.{place_found}
use Rattle.capture.specs.Records.{header_fits, next_in}
use Rattle.meaning.specs.Histories.{start}
use Rattle.meaning.specs.Edges.{told-all}
use Rattle.meaning.proofs.Sim.{sim-order}
use Rattle.text.specs.Text.{Parsed, parsed_by, parsed}
use Rattle.text.proofs.Feeds.{next-rows}
use Rattle.cause.specs.declared.Thing.{Thing}
use Rattle.cause.specs.Pasts.{past_up_to}
use Rattle.cause.specs.Tracing.{Trace, trace_step, trace_all, trace_start}
use Rattle.cause.proofs.Answers.{follows-calls}
use Rattle.trace.specs.declared.asked.Asked.{Asked}
use Rattle.trace.specs.Asking.{found_by, found_in}
use Rattle.trace.proofs.Traces.{first-calls}
use Rattle.pump.proofs.Mending.{header-long, header-front}
use Rattle.inquiry.specs.declared.search.Search.{Search}
use Rattle.inquiry.specs.Vocabulary.{w_bad_header, w_line}
use Rattle.inquiry.specs.Words.{answer_words, capture_note, why_text}
use Rattle.inquiry.specs.Telling.{telling_from}
use Rattle.inquiry.specs.Searching.{Searched, start_of, input_in, holding, bad_one, ended_of, note_of, text_of}
use Rattle.inquiry.specs.Sought.{run_of, Unread, Wrong, Traced, Stage, Waiting, Refused, Reading, Sought, MayCome, TextOf}
use Rattle.inquiry.proofs.Portions.{settled-next, settled-parsed, unsettled-short, note-is}
use Rattle.inquiry.proofs.OneRead.{ends-begun}
use Rattle.inquiry.proofs.Told.{telling-of}
use Rattle.inquiry.proofs.Sought.{trace-number}

-- ---- the record that is found is the open one with the label
pub found_in_lem : (t : Table) → in_order t ≡ true → length t.row ≡ 64 → (l : ℕ)
    → cond (ltb (first_hit l 0 t.occupied t.row) 64) (some (get_or t.row (first_hit l 0 t.occupied t.row) absent)) none ≡ find l (open_of t)
found_in_lem t e rows l =
    let place = place_of l t.occupied t.row in
    ap (λ (p : ℕ). cond (ltb p 64) (some (get_or t.row p absent)) none) (first-label t e l)
    ∙ ap (λ (n : ℕ). cond (ltb place n) (some (get_or t.row place absent)) none) (sym rows)
    ∙ sym (place_found l t.occupied t.row absent)

-- a run leaves as many records as there were
pub trace-rows : (l : ℕ) (x : Trace) (cs : List Call) → length (trace_all l x cs).table.row ≡ length x.table.row
unfolding trace_all trace_step
trace-rows l x [] = refl
trace-rows l x (c ∷ cs) = trace-rows l (trace_step l x c) cs ∙ next-rows x.table c

-- ---- the text of a capture
why-fits : (l : ℕ) (thing : Thing) (upto : ℕ) (s : List ℕ) → header_fits s ≡ true →
    let p = parsed_by upto (drop 8 s) in
    why_text l thing upto s ≡ answer_words (told-all start (take upto (parsed (drop 8 s)).calls)) l thing ++ note_of (next_in p.rest) (length p.calls)
unfolding why_text past_up_to capture_note
why-fits l thing upto s h =
    rw h (ap (λ (o : List ℕ). answer_words (told-all start (take upto (parsed (drop 8 s)).calls)) l thing ++ o) (note-is upto (drop 8 s)))

why-unfit : (l : ℕ) (thing : Thing) (upto : ℕ) (s : List ℕ) → header_fits s ≡ false → why_text l thing upto s ≡ answer_words start l thing ++ (w_bad_header ++ w_line)
unfolding why_text past_up_to capture_note
why-unfit l thing upto s h = rw h refl

module _ (l upto : ℕ) (first : List ℕ) (wide : 2048 ≤ length first) where
  abbrev row : List Session
  row = replicate 64 absent

  abbrev begins : Trace
  begins = trace_start row first

  full : length row ≡ 64
  full = length-replicate 64 absent

  -- ---- the words, of a run over the first k records of s
  module _ (k : ℕ) (s : List ℕ) (a : Asked) (kept : List ℕ) (run : run_of a kept ≡ trace_all l begins (take k (parsed s).calls)) (label : a.tracing.label ≡ l)
      (thing : Thing) where
    abbrev z : Trace
    z = trace_all l begins (take k (parsed s).calls)

    z-order : in_order z.table ≡ true
    z-order = sim-order (follows-calls row full first (take k (parsed s).calls) l).in_step

    z-rows : length z.table.row ≡ 64
    unfolding trace_start emptied
    z-rows = trace-rows l begins (take k (parsed s).calls) ∙ full

    found : found_in (found_by a) ≡ find l (open_of z.table)
    unfolding found_by
    found =
        ap (λ (m : ℕ). cond (ltb (first_hit m 0 a.tracing.fed.head.occupied a.row) 64) (some (get_or a.row (first_hit m 0 a.tracing.fed.head.occupied a.row) absent)) none) label
        ∙ ap (λ (t : Trace). cond (ltb (first_hit l 0 t.table.occupied t.table.row) 64) (some (get_or t.table.row (first_hit l 0 t.table.occupied t.table.row) absent)) none) run
        ∙ found_in_lem z.table z-order z-rows l

    words_are : telling_from a.tracing.marks (found_in (found_by a)) a.tracing.fed.head.clock kept a.tracing.label thing
        ≡ answer_words (told-all start (take k (parsed s).calls)) l thing
    words_are =
        ap (λ (o : Option Session). telling_from a.tracing.marks o a.tracing.fed.head.clock kept a.tracing.label thing) found
        ∙ ap (λ (m : ℕ). telling_from a.tracing.marks (find l (open_of z.table)) a.tracing.fed.head.clock kept m thing) label
        ∙ ap (λ (t : Trace). telling_from t.marks (find l (open_of z.table)) t.table.clock t.kept l thing) run
        ∙ telling-of row full first wide k s l thing z refl

  -- ---- a header that does not fit
  unfit-text : (have : ℕ) (buf : List ℕ) (thing : Thing) (s : List ℕ) → header_fits s ≡ false
      → text_of (bad_one (holding (start_of l upto) have)) buf first thing ≡ why_text l thing upto s
  unfolding text_of start_of trace_start emptied trace_all told-all
  unfit-text have buf thing s h =
      ap (λ (o : List ℕ). o ++ (w_bad_header ++ w_line)) (words_are 0 [] (start_of l upto).asked first refl refl thing) ∙ sym (why-unfit l thing upto s h)

  module _ (came : List ℕ) (x : Searched) where
    -- nothing was done, and nothing will come
    unread-text : Unread l upto first came x → x.search.over ≡ false → TextOf l upto came x
    unfolding ended_of start_of
    unread-text u on thing future end =
        let no : header_fits (came ++ future) ≡ false =
        ap (λ (f : List ℕ). header_fits (came ++ f)) (end on) ∙ ap header_fits (append-nil came)
        ∙ refuted (header_fits came) (λ h. omega (arith, header-long came h, u.few)) in
        ap (λ (q : Search). text_of (ended_of q) x.buf x.kept thing) u.nothing
        ∙ ap (λ (k : List ℕ). text_of (bad_one (holding (start_of l upto) (length came))) x.buf k thing) u.unkept
        ∙ unfit-text (length came) x.buf thing (came ++ future) no

    wrong-text : Wrong l upto first came x → TextOf l upto came x
    unfolding ended_of start_of
    wrong-text w thing future end =
        ap (λ (q : Search). text_of (ended_of q) x.buf x.kept thing) w.nothing
        ∙ ap (λ (k : List ℕ). text_of (bad_one (holding (start_of l upto) x.search.have)) x.buf k thing) w.unkept
        ∙ unfit-text x.search.have x.buf thing (came ++ future) (header-front came future w.there ∙ w.unfit)

    -- ---- behind the header
    module _ (h : header_fits came ≡ true) (t : Traced l upto first (drop 8 came) x) where
      abbrev p : Parsed
      p = parsed_by upto (drop 8 came)

      -- what may come changes neither the first records nor what stands behind them
      abbrev Same : List ℕ → Type 0
      Same future =
          ((parsed_by upto (drop 8 came ++ future)).calls ≡ p.calls) × (next_in (parsed_by upto (drop 8 came ++ future)).rest ≡ next_in p.rest)

      same-parsed : (future : List ℕ) → MayCome x future → Same future
      same-parsed future end =
          split x.search.over
          (λ o.
          let settled = sym t.settled ∙ o in
          let e = settled-parsed upto (drop 8 came) future settled in
          (ap (λ (q : Parsed). q.calls) e, ap (λ (q : Parsed). next_in q.rest) e ∙ settled-next p.rest future settled))
          (λ o.
          let e : drop 8 came ++ future ≡ drop 8 came = ap (λ (f : List ℕ). drop 8 came ++ f) (end o) ∙ append-nil (drop 8 came) in
          (ap (λ (s : List ℕ). (parsed_by upto s).calls) e, ap (λ (s : List ℕ). next_in (parsed_by upto s).rest) e))

      number : x.search.asked.tracing.fed.number ≡ length p.calls
      unfolding trace_start
      number = ap (λ (z : Trace). z.number) t.run ∙ trace-number l begins p.calls ∙ omega arith

      told : (thing : Thing) (future : List ℕ) → Same future →
          let q = parsed_by upto (drop 8 came ++ future) in
          text_of x.search x.buf x.kept thing
          ≡ answer_words (told-all start (take upto (parsed (drop 8 came ++ future)).calls)) l thing ++ note_of (next_in q.rest) (length q.calls)
      unfolding text_of
      told thing future e =
          let s = drop 8 came ++ future in
          let run = t.run ∙ ap (trace_all l begins) (sym e.0 ∙ first-calls upto s) in
          let words = words_are upto s x.search.asked x.kept run t.label thing in
          let next : next_in (input_in x.search x.buf) ≡ next_in (parsed_by upto s).rest = ap next_in t.left ∙ sym e.1 in
          let count : x.search.asked.tracing.fed.number ≡ length (parsed_by upto s).calls = number ∙ ap length (sym e.0) in
          rw (t.good, words, next, count)

      reading-text : TextOf l upto came x
      reading-text thing future end =
          let long = header-long came h in
          let d = drop-append-le 8 came future long in
          ap (λ (q : Search). text_of q x.buf x.kept thing) (ends-begun x.search t.begun)
          ∙ told thing future (same-parsed future end)
          ∙ ap (λ (s : List ℕ). answer_words (told-all start (take upto (parsed s).calls)) l thing ++ note_of (next_in (parsed_by upto s).rest) (length (parsed_by upto s).calls)) (sym d)
          ∙ sym (why-fits l thing upto (came ++ future) (header-front came future long ∙ h))

    is-unread : Unread l upto first came x → x.search.over ≡ false
    unfolding start_of
    is-unread u = ap (λ (q : Search). q.over) u.nothing

    text-by : Stage l upto first came x → TextOf l upto came x
    text-by (Waiting u) = unread-text u (is-unread u)
    text-by (Refused w) = wrong-text w
    text-by (Reading h t) = reading-text h t

    pub sought-text : Sought l upto first came x → TextOf l upto came x
    sought-text i = text-by i.stage

  -- ---- where it is not over there is room for an octet
  module _ (came : List ℕ) (x : Searched) (i : Sought l upto first came x) (on : x.search.over ≡ false) where
    as-there : length (input_in x.search x.buf) ≡ x.search.have
    as-there = length-take-le x.search.have x.buf i.there

    room_by : Stage l upto first came x → x.search.have < length x.buf
    unfolding start_of
    room_by (Waiting u) = omega (arith, u.few, ap length u.all, as-there, i.big)
    room_by (Refused w) = no_way (ap (λ (q : Search). q.over) w.nothing) on
    room_by (Reading h t) =
        omega (arith, unsettled-short (parsed_by upto (drop 8 came)).rest (sym t.settled ∙ on), ap length t.left, as-there, i.big)

    pub room : x.search.have < length x.buf
    room = room_by i.stage
