-- One read with no model: what the parts of the code answer, put together, is what the definition of a read gives.
-- Assumes nothing.
use Prim.Native.Nat.{ℕ, ◌+◌, ◌≤◌, ◌<◌, min}
use native.Mathlib.Omega.{arith}
use mathlib.Core.Path.{◌≡◌, sym, ap, ◌∙◌}
use mathlib.Core.Bool.{Bool, true, false, cond}
use mathlib.Core.List.{List, ◌++◌}
use lib.ListN.{length, take, drop, length-drop}
use lib.Seq.{length-sets, length-take-le}
use borrow.Author.Tests.{lt-ltb, le-ltb}
use Rattle.capture.specs.declared.Next.{Next}
use Rattle.capture.specs.Records.{header_fits, next_in}
use Rattle.capture.specs.Typing.{Put, typed}
use Rattle.capture.proofs.Typing.{then}
use Rattle.cause.specs.declared.Thing.{Thing}
use Rattle.trace.specs.declared.asked.Asked.{Asked}
use Rattle.trace.specs.declared.asked.Found.{Found}
use Rattle.trace.specs.Tracing.{Trail, trace_of}
use Rattle.trace.specs.Asking.{found_by, found_in}
use Rattle.pump.specs.Pumping.{Within, Shifted}
use Rattle.pump.proofs.Between.{put_front}
use Rattle.inquiry.specs.declared.search.Search.{Search}
use Rattle.inquiry.specs.Vocabulary.{w_bad_header, w_line}
use Rattle.inquiry.specs.Telling.{telling_from}
use Rattle.inquiry.specs.Searching.{Begun, input_in, same, holding, bad_one, header_read, headed, begun_on, at_front, is_settled, traced_to, traced_on, searched_on, got_of, ended_of, note_of, text_of}

-- by a test
chosen : {A : Type 0} {b : Bool} (x y : A) → b ≡ true → cond b x y ≡ x
chosen x y e = rw e

refused : {A : Type 0} {b : Bool} (x y : A) → b ≡ false → cond b x y ≡ y
refused x y e = rw e

-- what was moved stands at the front, and fits
module _ (buf : List ℕ) (from to have : ℕ) (after : List ℕ) (fits : to ≤ length buf) (s : Shifted buf from to have after) where
  moved-short : length (drop from (take to buf)) ≤ length buf
  moved-short = omega (arith, length-drop from (take to buf), length-take-le to buf fits)

  pub moved-fits : have ≤ length after
  moved-fits = rw (s.count, s.moved) (omega (arith, moved-short, length-sets buf 0 (drop from (take to buf))))

  pub moved-is : take have after ≡ drop from (take to buf)
  moved-is = rw (s.count, s.moved) (put_front (drop from (take to buf)) buf moved-short)

module _ (s : Search) (buf : List ℕ) (n : ℕ) (w : Within s.have buf n) where
  -- so many octets of input are there
  input-length : length (take s.have buf) ≡ n
  input-length = ap length (sym w.same-part) ∙ sym w.count

  -- ---- the header
  pub waits : n < 8 → record { search = s; buf = buf } ≡ headed s buf
  unfolding headed
  waits l = rw (lt-ltb (length (take s.have buf)) 8 (omega (arith, input-length)))

  module _ (there : 8 ≤ n) where
    pub wrong : header_fits (take n buf) ≡ false → (q : Search) → q ≡ bad_one s → record { search = q; buf = buf } ≡ headed s buf
    unfolding headed
    wrong h q e = rw (e, le-ltb (length (take s.have buf)) 8 (omega (arith, input-length)), ← w.same-part, h)

    pub right : header_fits (take n buf) ≡ true → (have : ℕ) (buf' : List ℕ) → Shifted buf 8 n have buf' → (q : Search) → q ≡ header_read s have
        → record { search = q; buf = buf' } ≡ headed s buf
    unfolding headed
    right h have buf' m q e = rw (e, m.count, m.moved, le-ltb (length (take s.have buf)) 8 (omega (arith, input-length)), ← w.same-part, h)

  -- ---- records
  module _ (kept : List ℕ) (v u : Asked) (kept' : List ℕ) (front : v ≡ record { row = s.asked.row; tracing = at_front s.asked.tracing })
      (e : record { row = u.row; tracing = u.tracing; kept = kept' } ≡ trace_of v.row v.tracing (take n buf) kept) where
    abbrev trail : Trail
    trail = record { row = u.row; tracing = u.tracing; kept = kept' }

    is-trail : trail ≡ trace_of s.asked.row (at_front s.asked.tracing) (input_in s buf) kept
    is-trail =
        e ∙ ap (λ (a : Asked). trace_of a.row a.tracing (take n buf) kept) front
        ∙ ap (λ (i : List ℕ). trace_of s.asked.row (at_front s.asked.tracing) i kept) w.same-part

    pub traced : (have : ℕ) (buf' : List ℕ) → Shifted buf u.tracing.fed.used n have buf' → (next : Next) → next ≡ next_in (drop 0 (take have buf'))
        → (over : Bool) → over ≡ is_settled next
        → record { search = record { asked = u; have = have; begun = true; over = over; bad = false }; buf = buf'; kept = kept' } ≡ traced_on s buf kept
    unfolding traced_on
    traced have buf' m next en over eo =
        let rest = drop u.tracing.fed.used (take n buf) in
        let settled : over ≡ is_settled (next_in rest) = eo ∙ ap is_settled en ∙ ap (λ (r : List ℕ). is_settled (next_in r)) (moved-is buf u.tracing.fed.used n have buf' w.fits m) in
        rw (settled, m.count, m.moved)
        (ap (λ (i : List ℕ). traced_to s buf trail (drop u.tracing.fed.used i)) w.same-part
        ∙ ap (λ (y : Trail). traced_to s buf y (drop y.tracing.fed.used (input_in s buf))) is-trail)

-- ---- the header is read already, or it is not
module _ (s : Search) (buf : List ℕ) where
  pub already : s.begun ≡ true → record { search = s; buf = buf } ≡ begun_on s buf
  unfolding begun_on
  already b = sym (chosen (record { search = s; buf = buf }) (headed s buf) b)

  pub not-begun : s.begun ≡ false → headed s buf ≡ begun_on s buf
  unfolding begun_on
  not-begun b = sym (refused (record { search = s; buf = buf }) (headed s buf) b)

-- ---- behind the header
module _ (b : Begun) (kept : List ℕ) where
  pub traces : b.search.begun ≡ true → traced_on b.search b.buf kept ≡ searched_on b kept
  unfolding searched_on
  traces t = sym (chosen (traced_on b.search b.buf kept) (same b.search b.buf kept) t)

  pub rests : b.search.begun ≡ false → same b.search b.buf kept ≡ searched_on b kept
  unfolding searched_on
  rests t = sym (refused (traced_on b.search b.buf kept) (same b.search b.buf kept) t)

-- ---- a read
module _ (s : Search) (n : ℕ) (buf kept : List ℕ) where
  pub no_more : s.over ≡ true → same s buf kept ≡ got_of s n buf kept
  unfolding got_of
  no_more o = sym (chosen (same s buf kept) _ o)

  pub goes_on_lem : s.over ≡ false → (have : ℕ) → have ≡ min (s.have + n) (length buf) → (held : Search) → held ≡ holding s have
      → (b : Begun) → b ≡ begun_on held buf → searched_on b kept ≡ got_of s n buf kept
  unfolding got_of
  goes_on_lem on have many held hold b began =
      ap (λ (x : Begun). searched_on x kept) (began ∙ ap (λ (h : Search). begun_on h buf) (hold ∙ ap (holding s) many))
      ∙ sym (refused (same s buf kept) _ on)

-- ---- the end of the input
module _ (s : Search) where
  pub ends-begun : s.begun ≡ true → ended_of s ≡ s
  unfolding ended_of
  ends-begun b = chosen s (bad_one s) b

  pub ends-unread : s.begun ≡ false → ended_of s ≡ bad_one s
  unfolding ended_of
  ends-unread b = refused s (bad_one s) b

-- ---- the text
module _ (s : Search) (buf kept : List ℕ) (thing : Thing) (p q r : Put) (f : Found) (found : f ≡ found_by s.asked)
    (told : q ≡ typed p (telling_from s.asked.tracing.marks (found_in f) s.asked.tracing.fed.head.clock kept s.asked.tracing.label thing)) where
  abbrev words : Found → List ℕ
  words g = telling_from s.asked.tracing.marks (found_in g) s.asked.tracing.fed.head.clock kept s.asked.tracing.label thing

  as-found : q ≡ typed p (words (found_by s.asked))
  as-found = told ∙ ap (λ (g : Found). typed p (words g)) found

  pub bad-text : s.bad ≡ true → r ≡ typed q (w_bad_header ++ w_line) → r ≡ typed p (text_of s buf kept thing)
  unfolding text_of
  bad-text b e = rw b (then p _ _ as-found e)

  pub good-text : s.bad ≡ false → (n : ℕ) → Within s.have buf n → (next : Next) → next ≡ next_in (drop 0 (take n buf))
      → r ≡ typed q (note_of next s.asked.tracing.fed.number) → r ≡ typed p (text_of s buf kept thing)
  unfolding text_of
  good-text b n w next en e =
      rw b
      (then p _ _ as-found
      (e ∙ ap (λ (x : Next). typed q (note_of x s.asked.tracing.fed.number)) (en ∙ ap next_in w.same-part)))
