-- The line at the end is that of the whole capture; and where more may come that matters, there is room for it.
-- Assumes nothing.
use Prim.Native.Nat.{ℕ, ◌<◌}
use native.Mathlib.Omega.{arith}
use mathlib.Core.Path.{◌≡◌, sym, ap, ◌∙◌}
use mathlib.Core.Bool.{true, false}
use mathlib.Core.List.{List, [], ◌++◌, append-nil}
use lib.ListN.{length, drop, replicate, length-replicate}
use lib.Seq.{length-take-le, drop-append-le}
use Rattle.rules.specs.Calls.{Call}
use Rattle.rules.proofs.Bools.{split, no_way, refuted}
use Rattle.table.specs.Table.{absent}
use Rattle.capture.specs.Records.{header_fits}
use Rattle.meaning.specs.Histories.{start}
use Rattle.meaning.specs.Edges.{told-all}
use Rattle.text.specs.Text.{parsed}
use Rattle.cause.specs.Pasts.{past_of}
use Rattle.account.specs.Accounts.{finished_of}
use Rattle.interval.specs.Spacing.{spacing_of}
use Rattle.interval.specs.Pacing.{Run, run_all, run_start}
use Rattle.interval.proofs.Spaced.{spacing-is}
use Rattle.pump.proofs.Mending.{header-long, header-front, waits-short}
use Rattle.gauge.specs.declared.input.Gauge.{Gauge}
use Rattle.gauge.specs.Words.{spacing_line, spacing_text}
use Rattle.gauge.specs.Gauging.{Gauged, start_of, input_in, text_of}
use Rattle.gauge.specs.Held.{Unread, Wrong, Paced, Stage, Waiting, Refused, Reading, Held, MayCome, TextOf}
use Rattle.gauge.proofs.Portions.{none_left, broken-parsed}

-- ---- the line of a capture
fits-text : (l : ℕ) (s : List ℕ) → header_fits s ≡ true → spacing_text l s ≡ spacing_line (spacing_of l (told-all start (parsed (drop 8 s)).calls))
unfolding spacing_text past_of
fits-text l s h = rw h

unfit-text : (l : ℕ) (s : List ℕ) → header_fits s ≡ false → spacing_text l s ≡ spacing_line (spacing_of l start)
unfolding spacing_text past_of
unfit-text l s h = rw h

module _ (l : ℕ) where
  abbrev begins : Run
  begins = run_start (replicate 64 absent)

  -- of calls that a table has run over
  run-text : (g : Gauge) (cs : List Call) → g.asked.pacing.pace.account ≡ (run_all l begins cs).pace.account → text_of g ≡ spacing_line (spacing_of l (told-all start cs))
  unfolding text_of
  run-text g cs e = ap (λ a. spacing_line (finished_of a)) e ∙ ap spacing_line (spacing-is l (replicate 64 absent) (length-replicate 64 absent) cs)

  -- of none
  none-text : (g : Gauge) → g.asked ≡ (start_of l).asked → text_of g ≡ spacing_line (spacing_of l start)
  unfolding start_of run_start run_all told-all
  none-text g e = run-text g [] (ap (λ a. a.pacing.pace.account) e)

  module _ (came : List ℕ) (x : Gauged) where
    -- nothing was done, and nothing will come
    unread-text : Unread l came x → x.gauge.over ≡ false → TextOf l came x
    unread-text u on future end =
        let no : header_fits (came ++ future) ≡ false =
        ap (λ (f : List ℕ). header_fits (came ++ f)) (end on) ∙ ap header_fits (append-nil came)
        ∙ refuted (header_fits came) (λ h. omega (arith, header-long came h, u.few)) in
        none-text x.gauge (ap (λ (q : Gauge). q.asked) u.nothing) ∙ sym (unfit-text l (came ++ future) no)

    wrong-text : Wrong l came x → TextOf l came x
    wrong-text w future end =
        none-text x.gauge (ap (λ (q : Gauge). q.asked) w.nothing)
        ∙ sym (unfit-text l (came ++ future) (header-front came future w.there ∙ w.unfit))

    -- ---- behind the header
    module _ (h : header_fits came ≡ true) (t : Paced l (drop 8 came) x) where
      -- what may come changes no record
      same-calls : (future : List ℕ) → MayCome x future → (parsed (drop 8 came ++ future)).calls ≡ (parsed (drop 8 came)).calls
      same-calls future end =
          split x.gauge.over
          (λ o. broken-parsed (drop 8 came) future (sym t.over ∙ o))
          (λ o. ap (λ (s : List ℕ). (parsed s).calls) (ap (λ (f : List ℕ). drop 8 came ++ f) (end o) ∙ append-nil (drop 8 came)))

      reading-text : TextOf l came x
      reading-text future end =
          let long = header-long came h in
          run-text x.gauge (parsed (drop 8 came)).calls (ap (λ (r : Run). r.pace.account) t.run)
          ∙ ap (λ (cs : List Call). spacing_line (spacing_of l (told-all start cs))) (sym (same-calls future end))
          ∙ ap (λ (s : List ℕ). spacing_line (spacing_of l (told-all start (parsed s).calls))) (sym (drop-append-le 8 came future long))
          ∙ sym (fits-text l (came ++ future) (header-front came future long ∙ h))

    is-unread : Unread l came x → x.gauge.over ≡ false
    unfolding start_of
    is-unread u = ap (λ (q : Gauge). q.over) u.nothing

    text-by : Stage l came x → TextOf l came x
    text-by (Waiting u) = unread-text u (is-unread u)
    text-by (Refused w) = wrong-text w
    text-by (Reading h t) = reading-text h t

    pub held-text : Held l came x → TextOf l came x
    held-text i = text-by i.stage

  -- ---- where it is not over there is room for an octet
  module _ (came : List ℕ) (x : Gauged) (i : Held l came x) (on : x.gauge.over ≡ false) where
    as-there : length (input_in x.gauge x.buf) ≡ x.gauge.have
    as-there = length-take-le x.gauge.have x.buf i.there

    room_by : Stage l came x → x.gauge.have < length x.buf
    unfolding start_of
    room_by (Waiting u) = omega (arith, u.few, ap length u.all, as-there, i.big)
    room_by (Refused w) = no_way (ap (λ (q : Gauge). q.over) w.nothing) on
    room_by (Reading h t) =
        let rest = (parsed (drop 8 came)).rest in
        omega (arith, waits-short rest (none_left (drop 8 came)) (sym t.over ∙ on), ap length t.left, as-there, i.big)

    pub room : x.gauge.have < length x.buf
    room = room_by i.stage
