-- One read of `spacing` is one that `gauge`'s theorem speaks of, and so are all of them, one behind the other.
-- Assumes nothing.
use Prim.Native.Nat.{ℕ, ◌-◌, ◌≤◌}
use native.Mathlib.Omega.{arith}
use mathlib.Core.Path.{◌≡◌, sym, ap, subst, ◌∙◌}
use mathlib.Core.Bool.{false}
use mathlib.Core.List.{List, [], ◌++◌}
use lib.Dec.{eqb}
use lib.ListN.{length, take}
use borrow.Author.Tests.{eqb-true, eqb-false}
use borrow.Rule.Slice.PartMut.{mid_of}
use Rattle.std.specs.Prelude.{Result, Ok, Err}
use Rattle.std.specs.Io.{ReadsAtMost}
use Rattle.rules.proofs.Bools.{split}
use Rattle.pump.specs.Pumping.{Within}
use Rattle.syscall.proofs.Answers.{left, part_room, left_is, left-length, left_there}
use Rattle.gauge.specs.declared.input.Gauge.{Gauge}
use Rattle.gauge.specs.Gauging.{Gauged, start_of, got_of}
use Rattle.gauge.specs.Held.{Held, TextFound}
use Rattle.gauge.proofs.HeldOn.{held_start, held-got}
use Rattle.gauge.proofs.HeldText.{held-text, room}
use Rattle.gauge.proofs.Pieces.{held-behind}
use Rattle.spacing.specs.declared.Looked.{Looked}
use Rattle.spacing.specs.Reads.{looking, Stayed, Told, AfterRead, Answer, Alike, ReadMade, Moved, Still, OneRead, Reached}

-- ---- one read
module _ (x : Gauged) (part : List ℕ) (at : ℕ) (w : Within x.gauge.have x.buf at)
    (lent : length part ≡ length (mid_of at (length x.buf - at) x.buf)) (on : x.gauge.over ≡ false) where
  abbrev after : List ℕ
  after = left x.gauge.have x.buf part at w lent

  after_is : after ≡ take x.gauge.have x.buf ++ part
  after_is = left_is x.gauge.have x.buf part at w lent

  module _ (r : Looked) (buf : List ℕ) where
    stays : Stayed (record { gauge = x.gauge; buf = after }) r buf → Alike x (looking r buf)
    stays f =
        let is = f.same-buf ∙ after_is in
        record {
          gauge = f.same-gauge;
          room = ap length is ∙ left-length x.gauge.have x.buf part at w lent;
          there = ap (take x.gauge.have) is ∙ left_there x.gauge.have x.buf part at w lent;
        }

    answers : (n : ℕ) → n ≤ length part → looking r buf ≡ got_of x.gauge n after → Answer x (looking r buf)
    answers n few g =
        record {
          piece = record { octets = n; part = part };
          fits = record { going = on; room = part_room x.gauge.have x.buf part at w lent; few = few };
          leaves = g ∙ ap (λ (l : List ℕ). got_of x.gauge n l) after_is;
        }

    read_told : {E : Type 0} (z : Result ℕ E) → ReadsAtMost z part → Told (record { gauge = x.gauge; buf = after }) z r buf → ReadMade x (looking r buf)
    read_told (Ok n) m t =
        split (eqb n 0)
        (λ none. Still (stays (t.0 (eqb-true n 0 none))))
        (λ some. Moved (answers n m.0 (t.1 (omega (arith, eqb-false n 0 some)))))
    read_told (Err _) m f = Still (stays f)

    pub read_made : {E : Type 0} (z : Result ℕ E) → ReadsAtMost z part → AfterRead (record { gauge = x.gauge; buf = after }) z r buf → OneRead x r buf
    read_made z m a = record { made = read_told z m a.told; goes = a.goes }

-- ---- all reads
module _ (l : ℕ) where
  pub reached-first : (buf : List ℕ) → 2064 ≤ length buf → Reached l (record { gauge = start_of l; buf = buf })
  reached-first buf big = record { came = []; held = held_start l buf big }

  module _ (x : Gauged) (reached : Reached l x) where
    reached-moved : (y : Gauged) → Answer x y → Reached l y
    reached-moved y a =
        let p = a.piece in
        record {
          came = reached.came ++ take p.octets p.part;
          held =
              subst (Held l (reached.came ++ take p.octets p.part)) (sym a.leaves)
              (held-got l reached.came x reached.held p.octets p.part a.fits.going a.fits.room a.fits.few);
        }

    reached-still : (y : Gauged) → Alike x y → Reached l y
    reached-still y a =
        let came = reached.came in
        let behind = held-behind l came x y.buf a.there a.room reached.held in
        record {
          came = came;
          held = subst (λ (s : Gauge). Held l came (record { gauge = s; buf = y.buf })) (sym a.gauge) behind;
        }

    by-made : (y : Gauged) → ReadMade x y → Reached l y
    by-made y (Moved a) = reached-moved y a
    by-made y (Still a) = reached-still y a

    pub reached-next : (r : Looked) (buf : List ℕ) → OneRead x r buf → Reached l (looking r buf)
    reached-next r buf o = by-made (looking r buf) o.made

-- so the line at the end is that of the whole capture; and where the numbers are not known, a read that brings nothing is the end of the input
pub reached-text : (l : ℕ) (x : Gauged) (r : Reached l x) → TextFound l r.came x
reached-text l x r = record { text = held-text l r.came x r.held; reads = room l r.came x r.held }
