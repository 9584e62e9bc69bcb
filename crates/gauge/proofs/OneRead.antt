-- One read with no model: what the parts of the code answer, put together, is what the definition of a read gives.
-- Assumes nothing.
use Prim.Native.Nat.{ℕ, ◌+◌, ◌≤◌, ◌<◌, min}
use native.Mathlib.Omega.{arith}
use mathlib.Core.Path.{◌≡◌, sym, ap, ◌∙◌}
use mathlib.Core.Bool.{Bool, true, false, cond}
use mathlib.Core.List.{List}
use lib.ListN.{length, take, drop, length-drop}
use lib.Seq.{length-sets, length-take-le}
use borrow.Author.Tests.{lt-ltb, le-ltb}
use Rattle.capture.specs.declared.Next.{Next}
use Rattle.capture.specs.Records.{header_fits, next_in}
use Rattle.pace.specs.declared.asked.Asked.{Asked}
use Rattle.pace.specs.Pacing.{Trail, pace_of}
use Rattle.pump.specs.Pumping.{Within, Shifted, cannot_mend}
use Rattle.pump.proofs.Between.{put_front}
use Rattle.gauge.specs.declared.input.Gauge.{Gauge}
use Rattle.gauge.specs.Gauging.{Gauged, same, input_in, holding, settled, header_read, headed, begun_on, at_front, paced_to, paced_on, gauged_on, got_of}

-- by a test
chosen : {A : Type 0} {b : Bool} (x y : A) → b ≡ true → cond b x y ≡ x
chosen x y e = rw e

refused : {A : Type 0} {b : Bool} (x y : A) → b ≡ false → cond b x y ≡ y
refused x y e = rw e

-- what was moved stands at the front, and fits
module _ (buf : List ℕ) (from to have : ℕ) (after : List ℕ) (fits : to ≤ length buf) (s : Shifted buf from to have after) where
  moved-short : length (drop from (take to buf)) ≤ length buf
  moved-short = omega (arith, length-drop from (take to buf), length-take-le to buf fits)

  pub moved-fits : have ≤ length after
  moved-fits = rw (s.count, s.moved) (omega (arith, moved-short, length-sets buf 0 (drop from (take to buf))))

  pub moved-is : take have after ≡ drop from (take to buf)
  moved-is = rw (s.count, s.moved) (put_front (drop from (take to buf)) buf moved-short)

module _ (s : Gauge) (buf : List ℕ) (n : ℕ) (w : Within s.have buf n) where
  -- so many octets of input are there
  input-length : length (take s.have buf) ≡ n
  input-length = ap length (sym w.same-part) ∙ sym w.count

  -- ---- the header
  pub waits : n < 8 → same s buf ≡ headed s buf
  unfolding headed
  waits l = rw (lt-ltb (length (take s.have buf)) 8 (omega (arith, input-length)))

  module _ (there : 8 ≤ n) where
    pub wrong : header_fits (take n buf) ≡ false → (q : Gauge) → q ≡ settled s → same q buf ≡ headed s buf
    unfolding headed
    wrong h q e = rw (e, le-ltb (length (take s.have buf)) 8 (omega (arith, input-length)), ← w.same-part, h)

    pub right : header_fits (take n buf) ≡ true → (have : ℕ) (buf' : List ℕ) → Shifted buf 8 n have buf' → (q : Gauge) → q ≡ header_read s have
        → same q buf' ≡ headed s buf
    unfolding headed
    right h have buf' m q e = rw (e, m.count, m.moved, le-ltb (length (take s.have buf)) 8 (omega (arith, input-length)), ← w.same-part, h)

  -- ---- records
  module _ (v u : Asked) (front : v ≡ record { row = s.asked.row; pacing = at_front s.asked.pacing })
      (e : record { row = u.row; pacing = u.pacing } ≡ pace_of v.row v.pacing (take n buf)) where
    abbrev trail : Trail
    trail = record { row = u.row; pacing = u.pacing }

    is-trail : trail ≡ pace_of s.asked.row (at_front s.asked.pacing) (input_in s buf)
    is-trail =
        e ∙ ap (λ (a : Asked). pace_of a.row a.pacing (take n buf)) front
        ∙ ap (λ (i : List ℕ). pace_of s.asked.row (at_front s.asked.pacing) i) w.same-part

    pub paced : (have : ℕ) (buf' : List ℕ) → Shifted buf u.pacing.fed.used n have buf' → (next : Next) → next ≡ next_in (drop 0 (take have buf'))
        → (over : Bool) → over ≡ cannot_mend next → record { gauge = record { asked = u; have = have; begun = true; over = over }; buf = buf' } ≡ paced_on s buf
    unfolding paced_on
    paced have buf' m next en over eo =
        let rest = drop u.pacing.fed.used (take n buf) in
        let ends : over ≡ cannot_mend (next_in rest) = eo ∙ ap cannot_mend en ∙ ap (λ (r : List ℕ). cannot_mend (next_in r)) (moved-is buf u.pacing.fed.used n have buf' w.fits m) in
        rw (ends, m.count, m.moved)
        (ap (λ (i : List ℕ). paced_to buf trail (drop u.pacing.fed.used i)) w.same-part
        ∙ ap (λ (y : Trail). paced_to buf y (drop y.pacing.fed.used (input_in s buf))) is-trail)

-- ---- the header is read already, or it is not
module _ (s : Gauge) (buf : List ℕ) where
  pub already : s.begun ≡ true → same s buf ≡ begun_on s buf
  unfolding begun_on
  already b = sym (chosen (same s buf) (headed s buf) b)

  pub not-begun : s.begun ≡ false → headed s buf ≡ begun_on s buf
  unfolding begun_on
  not-begun b = sym (refused (same s buf) (headed s buf) b)

-- ---- behind the header
module _ (b : Gauged) where
  pub paces : b.gauge.begun ≡ true → paced_on b.gauge b.buf ≡ gauged_on b
  unfolding gauged_on
  paces t = sym (chosen (paced_on b.gauge b.buf) b t)

  pub rests : b.gauge.begun ≡ false → b ≡ gauged_on b
  unfolding gauged_on
  rests t = sym (refused (paced_on b.gauge b.buf) b t)

-- ---- a read
module _ (s : Gauge) (n : ℕ) (buf : List ℕ) where
  pub no_more : s.over ≡ true → same s buf ≡ got_of s n buf
  unfolding got_of
  no_more o = sym (chosen (same s buf) _ o)

  pub goes_on_lem : s.over ≡ false → (have : ℕ) → have ≡ min (s.have + n) (length buf) → (held : Gauge) → held ≡ holding s have
      → (b : Gauged) → b ≡ begun_on held buf → gauged_on b ≡ got_of s n buf
  unfolding got_of
  goes_on_lem on have many held hold b began =
      ap gauged_on (began ∙ ap (λ (h : Gauge). begun_on h buf) (hold ∙ ap (holding s) many))
      ∙ sym (refused (same s buf) _ on)
