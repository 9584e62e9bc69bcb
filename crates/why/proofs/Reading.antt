-- One read of `why` is one that `inquiry`'s theorem speaks of, and so are all of them, one behind the other.
-- Assumes nothing.
use Prim.Native.Nat.{ℕ, ◌-◌, ◌^◌, ◌≤◌, ◌<◌}
use native.Mathlib.Omega.{arith}
use mathlib.Core.Path.{◌≡◌, sym, ap, subst, ◌∙◌}
use mathlib.Core.Bool.{false}
use mathlib.Core.List.{List, [], ◌++◌}
use lib.Dec.{eqb}
use lib.ListN.{length, take}
use borrow.Author.Tests.{eqb-true, eqb-false}
use borrow.Rule.Slice.PartMut.{mid_of}
use Rattle.std.specs.Prelude.{Result, Ok, Err}
use Rattle.std.specs.Io.{ReadsAtMost}
use Rattle.rules.proofs.Bools.{split}
use Rattle.pump.specs.Pumping.{Within}
use Rattle.syscall.proofs.Answers.{left, part_room, left_is, left-length, left_there}
use Rattle.inquiry.specs.declared.search.Search.{Search}
use Rattle.inquiry.specs.Searching.{Searched, start_of, got_of}
use Rattle.inquiry.specs.Sought.{Sought, TextFound}
use Rattle.inquiry.proofs.Sought.{sought-start, sought-got}
use Rattle.inquiry.proofs.SoughtText.{sought-text, room}
use Rattle.inquiry.proofs.Pieces.{sought-behind}
use Rattle.why.specs.declared.Looked.{Looked}
use Rattle.why.specs.Reads.{looking, Stayed, Told, AfterRead, Answer, Alike, ReadMade, Moved, Still, OneRead, Reached}

-- ---- one read
module _ (x : Searched) (part : List ℕ) (at : ℕ) (w : Within x.search.have x.buf at)
    (lent : length part ≡ length (mid_of at (length x.buf - at) x.buf)) (on : x.search.over ≡ false) where
  abbrev after : List ℕ
  after = left x.search.have x.buf part at w lent

  after_is : after ≡ take x.search.have x.buf ++ part
  after_is = left_is x.search.have x.buf part at w lent

  module _ (r : Looked) (buf kept : List ℕ) where
    stays : Stayed (record { search = x.search; buf = after; kept = x.kept }) r buf kept → Alike x (looking r buf kept)
    stays f =
        let is = f.same-buf ∙ after_is in
        record {
          search = f.same-search;
          kept = f.same_kept;
          room = ap length is ∙ left-length x.search.have x.buf part at w lent;
          there = ap (take x.search.have) is ∙ left_there x.search.have x.buf part at w lent;
        }

    answers : (n : ℕ) → n ≤ length part → looking r buf kept ≡ got_of x.search n after x.kept → Answer x (looking r buf kept)
    answers n few g =
        record {
          piece = record { octets = n; part = part };
          fits = record { going = on; room = part_room x.search.have x.buf part at w lent; few = few };
          leaves = g ∙ ap (λ (l : List ℕ). got_of x.search n l x.kept) after_is;
        }

    read_told : {E : Type 0} (z : Result ℕ E) → ReadsAtMost z part → Told (record { search = x.search; buf = after; kept = x.kept }) z r buf kept → ReadMade x (looking r buf kept)
    read_told (Ok n) m t =
        split (eqb n 0)
        (λ none. Still (stays (t.0 (eqb-true n 0 none))))
        (λ some. Moved (answers n m.0 (t.1 (omega (arith, eqb-false n 0 some)))))
    read_told (Err _) m f = Still (stays f)

    pub read_made : {E : Type 0} (z : Result ℕ E) → ReadsAtMost z part → AfterRead (record { search = x.search; buf = after; kept = x.kept }) z r buf kept → OneRead x r buf kept
    read_made z m a = record { made = read_told z m a.told; goes = a.goes }

-- ---- all reads
module _ (l upto : ℕ) (short : upto < 2 ^ 64) (first : List ℕ) where
  pub reached-first : (buf : List ℕ) → 2064 ≤ length buf → Reached l upto first (record { search = start_of l upto; buf = buf; kept = first })
  reached-first buf big = record { came = []; sought = sought-start l upto short first buf big }

  module _ (x : Searched) (reached : Reached l upto first x) where
    reached-moved : (y : Searched) → Answer x y → Reached l upto first y
    reached-moved y a =
        let p = a.piece in
        record {
          came = reached.came ++ take p.octets p.part;
          sought =
              subst (Sought l upto first (reached.came ++ take p.octets p.part)) (sym a.leaves)
              (sought-got l upto short first reached.came x reached.sought p.octets p.part a.fits.going a.fits.room a.fits.few);
        }

    reached-still : (y : Searched) → Alike x y → Reached l upto first y
    reached-still y a =
        let came = reached.came in
        let behind = sought-behind l upto first came x y.buf a.there a.room reached.sought in
        record {
          came = came;
          sought =
              subst (λ (k : List ℕ). Sought l upto first came (record { search = y.search; buf = y.buf; kept = k })) (sym a.kept)
              (subst (λ (s : Search). Sought l upto first came (record { search = s; buf = y.buf; kept = x.kept })) (sym a.search) behind);
        }

    by-made : (y : Searched) → ReadMade x y → Reached l upto first y
    by-made y (Moved a) = reached-moved y a
    by-made y (Still a) = reached-still y a

    pub reached-next : (r : Looked) (buf kept : List ℕ) → OneRead x r buf kept → Reached l upto first (looking r buf kept)
    reached-next r buf kept o = by-made (looking r buf kept) o.made

-- so the text at the end is that of the whole capture; and where the answer is not known, a read that brings nothing is the end of the input
pub reached-text : (l upto : ℕ) (first : List ℕ) → 2048 ≤ length first → (x : Searched) (r : Reached l upto first x) → TextFound l upto r.came x
reached-text l upto first wide x r =
    record { text = sought-text l upto first wide r.came x r.sought; reads = room l upto first wide r.came x r.sought }
