-- One turn with no model: what the parts of the code answer, put together, is what the definition of a turn gives.
-- Assumes nothing.
use Prim.Native.Nat.{ℕ, ◌≤◌, ◌<◌}
use native.Mathlib.Omega.{arith}
use mathlib.Core.Path.{◌≡◌, refl, sym, ap, ◌∙◌}
use mathlib.Core.Bool.{Bool, true, false, cond}
use mathlib.Core.List.{List, []}
use lib.Dec.{ltb}
use lib.ListN.{length, take}
use lib.Seq.{sets}
use borrow.Author.Tests.{lt-ltb, le-ltb, ltb-true, ltb-false, eq-eqb, ne_eqb}
use Rattle.rules.proofs.Bools.{split}
use Rattle.capture.specs.Records.{header_fits, next_in, is_whole}
use Rattle.owner.specs.declared.Feeding.{Feeding}
use Rattle.feed.specs.Feeding.{Flow, more_of, feed_of}
use Rattle.feed.proofs.Turns.{stops, begins}
use Rattle.text.specs.Text.{cut, bad_header, ending}
use Rattle.pump.specs.declared.Pump.{Pump}
use Rattle.pump.specs.Pumping.{Pumped, Within, Shifted, same, last_words, finished_of, at_front, lines_put, is_over, unfed_to, fed_to, fed_on, header_read, is_waiting, headed, begun_on, is_ready, fed_behind, turn_of}

module _ (p : Pump) (buf out : List ℕ) (n : ℕ) (w : Within p.have buf n) where
  -- so many octets of input are there
  input-length : length (take p.have buf) ≡ n
  input-length = ap length (sym w.same-part) ∙ sym w.count

  -- something is left where there is any
  ending-is : cond (ltb 0 n) cut [] ≡ ending (take p.have buf)
  ending-is =
      split (ltb 0 n)
      (λ e. rw (e, ne_eqb (length (take p.have buf)) 0 (λ z. omega (arith, ltb-true 0 n e, input-length))))
      (λ e. rw (e, eq-eqb (length (take p.have buf)) 0 (omega (arith, ltb-false 0 n e, input-length))))

  -- ---- behind the header
  module _ (v u : Feeding) (after : List ℕ) (front : v ≡ at_front p.table)
      (e : record { row = u.row; fed = u.fed; out = after } ≡ feed_of v.row v.fed (take n buf) out) where
    abbrev flow : Flow
    flow = record { row = u.row; fed = u.fed; out = after }

    fed : fed_to p buf flow ≡ fed_on p buf out
    unfolding fed_on at_front
    fed =
        ap (fed_to p buf)
        (e ∙ ap (λ (t : Feeding). feed_of t.row t.fed (take n buf) out) front
        ∙ ap (λ (s : List ℕ). feed_of p.table.row (at_front p.table).fed s out) w.same-part)

    -- records were taken
    pub lines : 0 < u.fed.used → (have : ℕ) (buf' : List ℕ) → Shifted buf u.fed.used n have buf'
        → record { pump = lines_put p flow have; buf = buf'; out = after } ≡ fed_on p buf out
    unfolding fed_to
    lines l have buf' s = rw (s.count, s.moved, w.same-part, ← fed, lt-ltb 0 u.fed.used l)

    -- none was
    pub took-none : u.fed.used ≤ 0 → unfed_to p buf after ≡ fed_on p buf out
    unfolding fed_to
    took-none none = rw (← fed, le-ltb 0 u.fed.used none)

  -- no whole record is there
  abbrev fresh : Feeding
  fresh = at_front p.table

  none-stands : is_whole (next_in (take n buf)) ≡ false → more_of fresh.fed (take n buf) (length out) ≡ false
  unfolding more_of at_front
  none-stands e = rw e

  none-used : fresh.fed.used ≡ 0
  unfolding at_front
  none-used = refl

  pub none-fed : is_whole (next_in (take n buf)) ≡ false → unfed_to p buf out ≡ fed_on p buf out
  none-fed e =
      let x : Flow = record { row = fresh.row; fed = fresh.fed; out = out } in
      took-none fresh fresh out refl (sym (stops (take n buf) (length (take n buf)) x (none-stands e)) ∙ begins fresh.row fresh.fed (take n buf) out) (omega (arith, none-used))

  -- how the text ends
  pub ends : is_over p.closed (next_in (take n buf)) ≡ true → (q : Pump) (out' : List ℕ)
      → (q ≡ last_words p (length (cond (ltb 0 n) cut []))) × (out' ≡ sets out 0 (cond (ltb 0 n) cut []))
      → record { pump = q; buf = buf; out = out' } ≡ unfed_to p buf out
  unfolding finished_of
  ends o q out' s = rw (s.0, s.1, ending-is, ← w.same-part, o)

  -- more is to be read
  pub stays : is_over p.closed (next_in (take n buf)) ≡ false → same p buf out ≡ unfed_to p buf out
  stays o = rw (← w.same-part, o)

  -- ---- the header
  pub waits : is_waiting p.closed n ≡ true → same p buf out ≡ headed p buf out
  unfolding headed
  waits e = rw (input-length, e)

  module _ (there : is_waiting p.closed n ≡ false) where
    pub wrong : header_fits (take n buf) ≡ false → (q : Pump) (out' : List ℕ) → (q ≡ last_words p (length bad_header)) × (out' ≡ sets out 0 bad_header)
        → record { pump = q; buf = buf; out = out' } ≡ headed p buf out
    unfolding headed finished_of
    wrong h q out' s = rw (s.0, s.1, input-length, there, ← w.same-part, h)

    pub right : header_fits (take n buf) ≡ true → (have : ℕ) (buf' : List ℕ) → Shifted buf 8 n have buf' → (q : Pump) → q ≡ header_read p have
        → record { pump = q; buf = buf'; out = out } ≡ headed p buf out
    unfolding headed
    right h have buf' s q e = rw (e, s.count, s.moved, input-length, there, ← w.same-part, h)

-- ---- a turn
-- by a test
chosen : {b : Bool} (x y : Pumped) → b ≡ true → cond b x y ≡ x
chosen x y e = rw e

refused : {b : Bool} (x y : Pumped) → b ≡ false → cond b x y ≡ y
refused x y e = rw e

module _ (p : Pump) (buf out : List ℕ) where
  -- the header is read already, or it is not
  pub already : p.begun ≡ true → same p buf out ≡ begun_on p buf out
  unfolding begun_on
  already b = sym (chosen (same p buf out) (headed p buf out) b)

  pub not-begun : p.begun ≡ false → headed p buf out ≡ begun_on p buf out
  unfolding begun_on
  not-begun b = sym (refused (same p buf out) (headed p buf out) b)

  pub writes-first : p.from < p.to → same p buf out ≡ turn_of p buf out
  unfolding turn_of
  writes-first l = sym (chosen (same p buf out) _ (lt-ltb p.from p.to l))

  module _ (written : p.to ≤ p.from) where
    pub no_more : p.over ≡ true → same p buf out ≡ turn_of p buf out
    unfolding turn_of
    no_more o = sym (refused (same p buf out) _ (le-ltb p.from p.to written) ∙ chosen (same p buf out) _ o)

    pub goes_on_lem : p.over ≡ false → fed_behind (begun_on p buf out) ≡ turn_of p buf out
    unfolding turn_of
    goes_on_lem o =
        sym (refused (same p buf out) _ (le-ltb p.from p.to written) ∙ refused (same p buf out) (fed_behind (begun_on p buf out)) o)

-- records are fed behind the header, or not
pub feeds : (x : Pumped) → is_ready x.pump.begun x.pump.over ≡ true → fed_on x.pump x.buf x.out ≡ fed_behind x
unfolding fed_behind
feeds x r = sym (chosen (fed_on x.pump x.buf x.out) x r)

pub rests : (x : Pumped) → is_ready x.pump.begun x.pump.over ≡ false → x ≡ fed_behind x
unfolding fed_behind
rests x r = sym (refused (fed_on x.pump x.buf x.out) x r)

module _ (p : Pump) (buf out : List ℕ) (written : p.to ≤ p.from) (on : p.over ≡ false) (x : Pumped) (b : x ≡ begun_on p buf out) where
  pub turn-rests : is_ready x.pump.begun x.pump.over ≡ false → x ≡ turn_of p buf out
  turn-rests r = rests x r ∙ ap fed_behind b ∙ goes_on_lem p buf out written on

  pub turn-feeds : is_ready x.pump.begun x.pump.over ≡ true → (y : Pumped) → y ≡ fed_on x.pump x.buf x.out → y ≡ turn_of p buf out
  turn-feeds r y e = e ∙ feeds x r ∙ ap fed_behind b ∙ goes_on_lem p buf out written on
