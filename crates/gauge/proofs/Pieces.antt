-- The law of pieces: however the reads cut a capture, what is held is what the octets that came give, and the line at the end is one.
-- Assumes nothing.
use Prim.Native.Nat.{ℕ, ◌≤◌}
use mathlib.Core.Path.{◌≡◌, sym, ap, ◌∙◌}
use mathlib.Core.List.{List, [], ◌∷◌, ◌++◌, append_assoc, append-nil}
use lib.ListN.{length, take}
use Rattle.gauge.specs.Words.{spacing_text}
use Rattle.gauge.specs.Gauging.{Gauged, same, text_of}
use Rattle.gauge.specs.Held.{Stage, Waiting, Refused, Reading, Held, Piece, with_piece, MayCome, TextFound, all_got, came_in, AllRead, before_reads}
use Rattle.gauge.proofs.HeldOn.{held_start, held-got}
use Rattle.gauge.proofs.HeldText.{held-text, room}

-- what lies behind the octets that are there does not matter: a read that failed may have left anything there
module _ (l : ℕ) (came : List ℕ) (x : Gauged) (buf : List ℕ) (there : take x.gauge.have buf ≡ take x.gauge.have x.buf) where
  abbrev y : Gauged
  y = same x.gauge buf

  stage-behind : Stage l came x → Stage l came y
  stage-behind (Waiting u) = Waiting (record { few = u.few; nothing = u.nothing; all = there ∙ u.all })
  stage-behind (Refused w) = Refused (record { there = w.there; unfit = w.unfit; nothing = w.nothing })
  stage-behind (Reading h t) = Reading h (record { run = t.run; left = there ∙ t.left; label = t.label; begun = t.begun; over = t.over })

  pub held-behind : length buf ≡ length x.buf → Held l came x → Held l came y
  held-behind e i = record { big = rw e i.big; there = rw e i.there; stage = stage-behind i.stage }

module _ (l : ℕ) where
  -- every list of reads
  all_held : (came : List ℕ) (x : Gauged) (ps : List Piece) → Held l came x → AllRead x ps → Held l (came ++ came_in ps) (all_got x ps)
  unfolding all_got came_in AllRead
  all_held came x [] i a = rw (append-nil came) i
  all_held came x (p ∷ ps) i a =
      let came' = came ++ take p.octets p.part in
      rw (← append_assoc came (take p.octets p.part) (came_in ps))
      (all_held came' (with_piece x p) ps (held-got l came x i p.octets p.part a.0.going a.0.room a.0.few) a.1)

  module _ (buf : List ℕ) (big : 2064 ≤ length buf) (ps : List Piece) (a : AllRead (before_reads l buf) ps) where
    pub in_pieces : Held l (came_in ps) (all_got (before_reads l buf) ps)
    in_pieces = all_held [] (before_reads l buf) ps (held_start l buf big) a

    pub pieces-found : TextFound l (came_in ps) (all_got (before_reads l buf) ps)
    pieces-found =
        record {
          text = held-text l (came_in ps) (all_got (before_reads l buf) ps) in_pieces;
          reads = room l (came_in ps) (all_got (before_reads l buf) ps) in_pieces;
        }

-- one capture cut in two ways, over any buffers: one line
pub cut-anyhow : (l : ℕ) (came other : List ℕ) (x y : Gauged) → TextFound l came x → TextFound l other y
    → (f g : List ℕ) → MayCome x f → MayCome y g → came ++ f ≡ other ++ g → text_of x.gauge ≡ text_of y.gauge
cut-anyhow l came other x y a b f g m n e = a.text f m ∙ ap (spacing_text l) e ∙ sym (b.text g n)
