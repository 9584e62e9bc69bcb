-- The law of pieces: however a capture is cut, and whatever buffers are lent, what is written and what is left come to one text.
-- Assumes nothing.
use Prim.Native.Nat.{ℕ}
use native.Mathlib.Omega.{arith}
use mathlib.Core.Path.{◌≡◌, refl, sym, ap, ◌∙◌}
use mathlib.Core.Bool.{true, false}
use mathlib.Core.List.{List, [], ◌∷◌, ◌++◌, append_assoc, append-nil}
use lib.ListN.{length, take, drop}
use Rattle.session.specs.declared.Session.{Session}
use Rattle.table.specs.Table.{emptied}
use Rattle.step.specs.Stepping.{table_of}
use Rattle.capture.specs.Records.{header_fits, next_in, is_whole}
use Rattle.feed.specs.declared.Fed.{Fed}
use Rattle.feed.specs.Feeding.{Flow, feed_of}
use Rattle.meaning.specs.Histories.{History, start}
use Rattle.text.specs.Text.{Parsed, parsed, lines_after, ending, text_after, text_of}
use Rattle.text.specs.Pieces.{Piece, Stage, beginning, fed_piece, fed_pieces, joined}
use Rattle.text.proofs.Parsing.{parsed-none}
use Rattle.text.proofs.Reached.{Reached, reached-start}
use Rattle.text.proofs.Feeds.{Went, feed-went}

-- a stage x at which these octets have come: the table is in step with a history, and whatever comes, what was written with the lines of what is left and to come,
-- after that history, are the lines of all of it from the start; and the same is left behind them
pub record InPieces (came : List ℕ) (x : Stage) : Type 0 where
  pub past : History
  pub reached : Reached past (table_of x.row x.head)
  pub rows : length x.row ≡ 64
  pub lines : (future : List ℕ) → x.text ++ lines_after past x.number (parsed (x.left ++ future)).calls ≡ lines_after start 0 (parsed (came ++ future)).calls
  pub rest : (future : List ℕ) → (parsed (x.left ++ future)).rest ≡ (parsed (came ++ future)).rest

-- nothing come
none_yet : (row : List Session) → length row ≡ 64 → InPieces [] (beginning row)
unfolding emptied
none_yet row k = record { past = start; reached = reached-start row k; rows = k; lines = λ future. refl; rest = λ future. refl }

-- one piece more
module _ (came : List ℕ) (x : Stage) (p : Piece) (i : InPieces came x) where
  abbrev input : List ℕ
  input = x.left ++ p.octets

  abbrev fed : Fed
  fed = record { head = x.head; number = x.number; used = 0; written = 0 }

  abbrev went : Went input i.past (record { row = x.row; fed = fed; out = p.buffer }) (feed_of x.row fed input p.buffer)
  went = feed-went x.row fed input p.buffer i.past i.reached i.rows (omega arith)

  abbrev y : Flow
  y = feed_of x.row fed input p.buffer

  -- what this feed wrote, and the lines of what is left
  written-now : (future : List ℕ) → take y.fed.written y.out ++ lines_after went.past y.fed.number (parsed (drop y.fed.used input ++ future)).calls
      ≡ lines_after i.past x.number (parsed (x.left ++ (p.octets ++ future))).calls
  written-now future =
      ap (λ (l : List ℕ). l ++ lines_after went.past y.fed.number (parsed (drop y.fed.used input ++ future)).calls) went.put
      ∙ sym (went.text future)
      ∙ ap (λ (l : List ℕ). lines_after i.past x.number (parsed l).calls) (append_assoc x.left p.octets future)

  one_more : InPieces (came ++ p.octets) (fed_piece x p)
  unfolding fed_piece
  one_more =
      record {
        past = went.past;
        reached = went.reached;
        rows = went.rows ∙ i.rows;
        lines = λ future. append_assoc x.text (take y.fed.written y.out) _ ∙ ap (λ (l : List ℕ). x.text ++ l) (written-now future)
            ∙ i.lines (p.octets ++ future) ∙ ap (λ (l : List ℕ). lines_after start 0 (parsed l).calls) (sym (append_assoc came p.octets future));
        rest = λ future. sym (went.rest future) ∙ ap (λ (l : List ℕ). (parsed l).rest) (append_assoc x.left p.octets future)
            ∙ i.rest (p.octets ++ future) ∙ ap (λ (l : List ℕ). (parsed l).rest) (sym (append_assoc came p.octets future));
      }

all_in : (came : List ℕ) (x : Stage) (ps : List Piece) → InPieces came x → InPieces (came ++ joined ps) (fed_pieces x ps)
unfolding fed_pieces joined
all_in came x [] i = rw (append-nil came) i
all_in came x (p ∷ ps) i = rw (← append_assoc came p.octets (joined ps)) (all_in (came ++ p.octets) (fed_piece x p) ps (one_more came x p i))

-- the law: for every list of pieces and buffers
pub in_pieces : (row : List Session) → length row ≡ 64 → (ps : List Piece) → InPieces (joined ps) (fed_pieces (beginning row) ps)
in_pieces row k ps = all_in [] (beginning row) ps (none_yet row k)

-- the same with how it ends: what was written, and the text of what is left and of all that may come, after the history reached, is the text of it all from the start
pub pieces-text : (row : List Session) (k : length row ≡ 64) (ps : List Piece) (future : List ℕ) →
    let x = fed_pieces (beginning row) ps in
    x.text ++ text_after (in_pieces row k ps).past x.number (x.left ++ future) ≡ text_after start 0 (joined ps ++ future)
unfolding text_after
pieces-text row k ps future =
    let i = in_pieces row k ps in
    let x = fed_pieces (beginning row) ps in
    sym (append_assoc x.text (lines_after i.past x.number (parsed (x.left ++ future)).calls) _) ∙ (rw (i.lines future, i.rest future))

-- ---- fed until no whole record is left
module _ (row : List Session) (k : length row ≡ 64) (ps : List Piece) where
  abbrev end : Stage
  end = fed_pieces (beginning row) ps

  module _ (over : is_whole (next_in end.left) ≡ false) where
    -- what is left is what no whole record takes
    pub left_over : end.left ≡ (parsed (joined ps)).rest
    left_over =
        ap (λ (q : Parsed). q.rest) (sym (parsed-none end.left over))
        ∙ ap (λ (l : List ℕ). (parsed l).rest) (sym (append-nil end.left)) ∙ (in_pieces row k ps).rest []
        ∙ ap (λ (l : List ℕ). (parsed l).rest) (append-nil (joined ps))

    -- what was written is a line for each record
    pub all_lines : end.text ≡ lines_after start 0 (parsed (joined ps)).calls
    unfolding lines_after
    all_lines =
        let i = in_pieces row k ps in
        let none : lines_after i.past end.number (parsed (end.left ++ [])).calls ≡ [] =
        ap (λ (l : List ℕ). lines_after i.past end.number (parsed l).calls) (append-nil end.left)
        ∙ ap (λ (q : Parsed). lines_after i.past end.number q.calls) (parsed-none end.left over) in
        sym (append-nil end.text) ∙ ap (λ (l : List ℕ). end.text ++ l) (sym none) ∙ i.lines []
        ∙ ap (λ (l : List ℕ). lines_after start 0 (parsed l).calls) (append-nil (joined ps))

    -- and with how it ends it is the whole text
    pub whole-text : end.text ++ ending end.left ≡ text_after start 0 (joined ps)
    unfolding text_after
    whole-text = rw (all_lines, left_over)

-- one capture cut in two ways, each fed until no whole record is left: one text is written, and the same octets are left
pub cut-anyhow : (row other : List Session) → length row ≡ 64 → length other ≡ 64 → (ps qs : List Piece) → joined ps ≡ joined qs
    → is_whole (next_in (fed_pieces (beginning row) ps).left) ≡ false → is_whole (next_in (fed_pieces (beginning other) qs).left) ≡ false
    → ((fed_pieces (beginning row) ps).text ≡ (fed_pieces (beginning other) qs).text) × ((fed_pieces (beginning row) ps).left ≡ (fed_pieces (beginning other) qs).left)
cut-anyhow row other k l ps qs e p q = (
  all_lines row k ps p ∙ ap (λ (s : List ℕ). lines_after start 0 (parsed s).calls) e ∙ sym (all_lines other l qs q),
  left_over row k ps p ∙ ap (λ (s : List ℕ). (parsed s).rest) e ∙ sym (left_over other l qs q),
)

-- and it is the text that `run` gives for the whole capture
pub pieces-run : (capture : List ℕ) → header_fits capture ≡ true → (row : List Session) → length row ≡ 64 → (ps : List Piece) → joined ps ≡ drop 8 capture
    → is_whole (next_in (fed_pieces (beginning row) ps).left) ≡ false
    → (fed_pieces (beginning row) ps).text ++ ending (fed_pieces (beginning row) ps).left ≡ text_of capture
unfolding text_of
pieces-run capture h row k ps e over = rw h (whole-text row k ps over ∙ ap (text_after start 0) e)
