-- The law of pieces: however the reads cut a capture, what is held is what the octets that came give, and the text at the end is one.
-- Assumes nothing.
use Prim.Native.Nat.{ℕ, ◌^◌, ◌≤◌, ◌<◌}
use mathlib.Core.Path.{◌≡◌, sym, ap, ◌∙◌}
use mathlib.Core.List.{List, [], ◌∷◌, ◌++◌, append_assoc, append-nil}
use lib.ListN.{length, take}
use Rattle.cause.specs.declared.Thing.{Thing}
use Rattle.inquiry.specs.Words.{why_text}
use Rattle.inquiry.specs.Searching.{Searched, same, ended_of, text_of}
use Rattle.inquiry.specs.Sought.{Stage, Waiting, Refused, Reading, Sought, Piece, with_piece, MayCome, TextFound, searched, came_in, AllRead, before_reads}
use Rattle.inquiry.proofs.Sought.{sought-start, sought-got}
use Rattle.inquiry.proofs.SoughtText.{sought-text, room}

-- what lies behind the octets that are there does not matter: a read that failed may have left anything there
module _ (l upto : ℕ) (first came : List ℕ) (x : Searched) (buf : List ℕ) (there : take x.search.have buf ≡ take x.search.have x.buf) where
  abbrev y : Searched
  y = same x.search buf x.kept

  stage-behind : Stage l upto first came x → Stage l upto first came y
  stage-behind (Waiting u) = Waiting (record { few = u.few; nothing = u.nothing; all = there ∙ u.all; unkept = u.unkept })
  stage-behind (Refused w) = Refused (record { there = w.there; unfit = w.unfit; nothing = w.nothing; unkept = w.unkept })
  stage-behind (Reading h t) =
      Reading h
      (record {
        run = t.run;
        left = there ∙ t.left;
        label = t.label;
        bound = t.bound;
        begun = t.begun;
        good = t.good;
        settled = t.settled;
      })

  pub sought-behind : length buf ≡ length x.buf → Sought l upto first came x → Sought l upto first came y
  sought-behind e i = record { big = rw e i.big; there = rw e i.there; stage = stage-behind i.stage }

module _ (l upto : ℕ) (short : upto < 2 ^ 64) where
  -- every list of reads
  all-sought : (first came : List ℕ) (x : Searched) (ps : List Piece) → Sought l upto first came x → AllRead x ps
      → Sought l upto first (came ++ came_in ps) (searched x ps)
  unfolding searched came_in AllRead
  all-sought first came x [] i a = rw (append-nil came) i
  all-sought first came x (p ∷ ps) i a =
      let came' = came ++ take p.octets p.part in
      rw (← append_assoc came (take p.octets p.part) (came_in ps))
      (all-sought first came' (with_piece x p) ps (sought-got l upto short first came x i p.octets p.part a.0.going a.0.room a.0.few) a.1)

  module _ (buf first : List ℕ) (big : 2064 ≤ length buf) (wide : 2048 ≤ length first) (ps : List Piece) (a : AllRead (before_reads l upto buf first) ps) where
    pub in_pieces : Sought l upto first (came_in ps) (searched (before_reads l upto buf first) ps)
    in_pieces = all-sought first [] (before_reads l upto buf first) ps (sought-start l upto short first buf big) a

    pub pieces-found : TextFound l upto (came_in ps) (searched (before_reads l upto buf first) ps)
    pieces-found =
        record {
          text = sought-text l upto first wide (came_in ps) (searched (before_reads l upto buf first) ps) in_pieces;
          reads = room l upto first wide (came_in ps) (searched (before_reads l upto buf first) ps) in_pieces;
        }

-- one capture cut in two ways, over any buffers: one text
pub cut-anyhow : (l upto : ℕ) (came other : List ℕ) (x y : Searched) → TextFound l upto came x → TextFound l upto other y
    → (f g : List ℕ) → MayCome x f → MayCome y g → came ++ f ≡ other ++ g → (thing : Thing)
    → text_of (ended_of x.search) x.buf x.kept thing ≡ text_of (ended_of y.search) y.buf y.kept thing
cut-anyhow l upto came other x y a b f g m n e thing = a.text thing f m ∙ ap (why_text l thing upto) e ∙ sym (b.text thing g n)
