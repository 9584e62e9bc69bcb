-- What `run` comes to, by its three ways: a wrong header, a text that does not fit, a text that does.
-- Assumes nothing.
use Prim.Native.Nat.{ℕ, ◌≤◌}
use native.Mathlib.Nat.{zero-add}
use mathlib.Core.Path.{◌≡◌, sym, ap, ◌∙◌}
use mathlib.Core.Bool.{true, false}
use mathlib.Core.List.{List}
use lib.Dec.{leb}
use lib.ListN.{length, drop}
use borrow.Author.Tests.{leb-true, leb-false}
use Rattle.octets.specs.Writing.{writing}
use Rattle.octets.proofs.Writing.{short, fits}
use Rattle.octets.proofs.Runs.{front}
use Rattle.capture.specs.Records.{header_fits}
use Rattle.meaning.specs.Histories.{start}
use Rattle.text.specs.declared.Count.{Count}
use Rattle.text.specs.Text.{bad_header, text_after, text_of}
use Rattle.text.specs.Runs.{finished, run_of}
use Rattle.text.specs.Putting.{Putting, putting}

module _ (capture out : List ℕ) where
  -- a wrong header
  pub bad : header_fits capture ≡ false → finished (length bad_header) (writing 0 bad_header out) ≡ run_of capture out
  unfolding run_of text_of
  bad h = rw h

  abbrev text : List ℕ
  text = text_after start 0 (drop 8 capture)

  run_is : header_fits capture ≡ true → run_of capture out ≡ finished (length text) (writing 0 text out)
  unfolding run_of text_of
  run_is h = rw h

  module _ (none : List ℕ) (c : Count) (none' : List ℕ) (counted : record { count = c; out = none' } ≡ putting none 0 (length out) text) where
    counted-fits : c.fits ≡ leb (length text) (length out)
    unfolding putting
    counted-fits = ap (λ (p : Putting). p.count.fits) counted ∙ rw zero-add

    -- a text that does not fit
    pub long : header_fits capture ≡ true → c.fits ≡ false → record { ran = record { answer = 13; written = 0 }; out = out } ≡ run_of capture out
    long h f =
        sym
        (run_is h ∙ ap (finished (length text)) (short text out (leb-false (length text) (length out) (sym counted-fits ∙ f))))

    -- a text that does, put over the buffer's front
    pub done : header_fits capture ≡ true → c.fits ≡ true → (d : Count) (out' : List ℕ) → record { count = d; out = out' } ≡ putting out 0 (length out) text
        → record { ran = record { answer = 0; written = d.octets }; out = out' } ≡ run_of capture out
    unfolding putting
    done h f d out' p =
        let room : leb (length text) (length out) ≡ true = sym counted-fits ∙ f in
        let there : length text ≤ length out = leb-true (length text) (length out) room in
        ap (λ (q : Putting). record { ran = record { answer = 0; written = q.count.octets }; out = q.out }) p
        ∙ (rw (zero-add, room, front text out there))
        ∙ sym (run_is h ∙ ap (finished (length text)) (fits text out there))
