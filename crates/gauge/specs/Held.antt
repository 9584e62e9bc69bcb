-- What is held once octets of a capture have come, in whatever pieces: the run over the records of what came, and the octets behind them. And the line at its end: that of
-- the whole capture.
-- Assumes nothing.
use Rattle.std.specs.Prelude.{ℕ, ◌-◌, ◌≤◌, ◌<◌, ◌≡◌, true, false, List, [], ◌∷◌, ◌++◌, length, take, drop, replicate}
use Rattle.table.specs.Table.{absent}
use Rattle.step.specs.Stepping.{table_of}
use Rattle.capture.specs.Records.{header_fits, next_in}
use Rattle.text.specs.Text.{parsed}
use Rattle.interval.specs.Pacing.{Run, run_all, run_start}
use Rattle.pace.specs.declared.asked.Asked.{Asked}
use Rattle.pump.specs.Pumping.{cannot_mend}
use Rattle.gauge.specs.Words.{spacing_text}
use Rattle.gauge.specs.Gauging.{Gauged, same, start_of, input_in, holding, settled, got_of, text_of}

-- the table, and what is kept of the label
abbrev pub run_of : Asked → Run
run_of a = record { table = table_of a.row a.pacing.fed.head; pace = a.pacing.pace }

-- ---- what is held
-- the header is not there yet: nothing is done, and all that came is there
pub record Unread (l : ℕ) (came : List ℕ) (x : Gauged) : Type 0 where
  pub few : length came < 8
  pub nothing : x.gauge ≡ holding (start_of l) (length came)
  pub all : input_in x.gauge x.buf ≡ came

-- the header does not fit
pub record Wrong (l : ℕ) (came : List ℕ) (x : Gauged) : Type 0 where
  pub there : 8 ≤ length came
  pub unfit : header_fits came ≡ false
  pub nothing : x.gauge ≡ settled (holding (start_of l) x.gauge.have)

-- behind it: the run over the records, and what is left of the octets behind the header
pub record Paced (l : ℕ) (behind : List ℕ) (x : Gauged) : Type 0 where
  pub run : run_of x.gauge.asked ≡ run_all l (run_start (replicate 64 absent)) (parsed behind).calls
  pub left : input_in x.gauge x.buf ≡ (parsed behind).rest
  pub label : x.gauge.asked.pacing.label ≡ l
  pub begun : x.gauge.begun ≡ true
  pub over : x.gauge.over ≡ cannot_mend (next_in (parsed behind).rest)

pub data Stage (l : ℕ) (came : List ℕ) (x : Gauged) : Type 0 where
  Waiting : Unread l came x → Stage l came x
  Refused : Wrong l came x → Stage l came x
  Reading : header_fits came ≡ true → Paced l (drop 8 came) x → Stage l came x

pub record Held (l : ℕ) (came : List ℕ) (x : Gauged) : Type 0 where
  pub big : 2064 ≤ length x.buf
  pub there : x.gauge.have ≤ length x.buf
  pub stage : Stage l came x

-- ---- one read
-- it was lent the buffer behind the octets that are there, and so many octets came, at the front of that part, which was left as it says
pub record Piece : Type 0 where
  pub octets : ℕ
  pub part : List ℕ

abbrev pub with_piece : Gauged → Piece → Gauged
with_piece x p = got_of x.gauge p.octets (take x.gauge.have x.buf ++ p.part)

-- a read is made as long as something that may come matters, and fills no more than its part
pub record Fits (x : Gauged) (p : Piece) : Type 0 where
  pub going : x.gauge.over ≡ false
  pub room : length p.part ≡ length x.buf - x.gauge.have
  pub few : p.octets ≤ length p.part

-- what may still come: nothing, unless it is over
abbrev pub MayCome : Gauged → List ℕ → Type 0
MayCome x future = x.gauge.over ≡ false → future ≡ []

-- the line at the end is that of the whole capture, with whatever is not read of it
abbrev pub TextOf : ℕ → List ℕ → Gauged → Type 0
TextOf l came x = (future : List ℕ) → MayCome x future → text_of x.gauge ≡ spacing_text l (came ++ future)

-- where it is not over, there is room for an octet, so that a read of none is the end of the input
pub record TextFound (l : ℕ) (came : List ℕ) (x : Gauged) : Type 0 where
  pub text : TextOf l came x
  pub reads : x.gauge.over ≡ false → x.gauge.have < length x.buf

-- ---- all reads
unfoldable pub all_got : Gauged → List Piece → Gauged
all_got x [] = x
all_got x (p ∷ ps) = all_got (with_piece x p) ps

-- all octets that came
unfoldable pub came_in : List Piece → List ℕ
came_in [] = []
came_in (p ∷ ps) = take p.octets p.part ++ came_in ps

-- each read is made where one is to be made
unfoldable pub AllRead : Gauged → List Piece → Type 0
AllRead x [] = Unit {0}
AllRead x (p ∷ ps) = Fits x p × AllRead (with_piece x p) ps

-- before the first read
abbrev pub before_reads : ℕ → List ℕ → Gauged
before_reads l buf = same (start_of l) buf
