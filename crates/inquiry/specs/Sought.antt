-- What a search holds once octets of a capture have come, in whatever pieces: the run over the first records of what came, and the octets behind them. And the text at its
-- end: that of the whole capture.
-- Assumes nothing.
use Rattle.std.specs.Prelude.{ℕ, ◌-◌, ◌≤◌, ◌<◌, ◌≡◌, true, false, List, [], ◌∷◌, ◌++◌, length, take, drop, replicate}
use Rattle.table.specs.Table.{absent}
use Rattle.step.specs.Stepping.{table_of}
use Rattle.capture.specs.Records.{header_fits, next_in}
use Rattle.text.specs.Text.{parsed_by}
use Rattle.cause.specs.declared.Thing.{Thing}
use Rattle.cause.specs.Tracing.{Trace, trace_all, trace_start}
use Rattle.trace.specs.declared.asked.Asked.{Asked}
use Rattle.inquiry.specs.Words.{why_text}
use Rattle.inquiry.specs.Searching.{Searched, start_of, input_in, holding, bad_one, is_settled, got_of, ended_of, text_of}

-- table, marks, octets kept and number of the last record, of a table that is asked
abbrev pub run_of : Asked → List ℕ → Trace
run_of a kept = record { table = table_of a.row a.tracing.fed.head; marks = a.tracing.marks; kept = kept; number = a.tracing.fed.number }

-- ---- what is held. `first` is what the buffer for kept octets held before
-- the header is not there yet: nothing is done, and all that came is there
pub record Unread (l upto : ℕ) (first came : List ℕ) (x : Searched) : Type 0 where
  pub few : length came < 8
  pub nothing : x.search ≡ holding (start_of l upto) (length came)
  pub all : input_in x.search x.buf ≡ came
  pub unkept : x.kept ≡ first

-- the header does not fit
pub record Wrong (l upto : ℕ) (first came : List ℕ) (x : Searched) : Type 0 where
  pub there : 8 ≤ length came
  pub unfit : header_fits came ≡ false
  pub nothing : x.search ≡ bad_one (holding (start_of l upto) x.search.have)
  pub unkept : x.kept ≡ first

-- behind it: the run over the first records, and what is left of the octets behind the header
pub record Traced (l upto : ℕ) (first behind : List ℕ) (x : Searched) : Type 0 where
  pub run : run_of x.search.asked x.kept ≡ trace_all l (trace_start (replicate 64 absent) first) (parsed_by upto behind).calls
  pub left : input_in x.search x.buf ≡ (parsed_by upto behind).rest
  pub label : x.search.asked.tracing.label ≡ l
  pub bound : x.search.asked.tracing.upto ≡ upto
  pub begun : x.search.begun ≡ true
  pub good : x.search.bad ≡ false
  pub settled : x.search.over ≡ is_settled (next_in (parsed_by upto behind).rest)

pub data Stage (l upto : ℕ) (first came : List ℕ) (x : Searched) : Type 0 where
  Waiting : Unread l upto first came x → Stage l upto first came x
  Refused : Wrong l upto first came x → Stage l upto first came x
  Reading : header_fits came ≡ true → Traced l upto first (drop 8 came) x → Stage l upto first came x

pub record Sought (l upto : ℕ) (first came : List ℕ) (x : Searched) : Type 0 where
  pub big : 2064 ≤ length x.buf
  pub there : x.search.have ≤ length x.buf
  pub stage : Stage l upto first came x

-- ---- one read
-- it was lent the buffer behind the octets that are there, and so many octets came, at the front of that part, which was left as it says
pub record Piece : Type 0 where
  pub octets : ℕ
  pub part : List ℕ

abbrev pub with_piece : Searched → Piece → Searched
with_piece x p = got_of x.search p.octets (take x.search.have x.buf ++ p.part) x.kept

-- a read is made as long as something that may come matters, and fills no more than its part
pub record Fits (x : Searched) (p : Piece) : Type 0 where
  pub going : x.search.over ≡ false
  pub room : length p.part ≡ length x.buf - x.search.have
  pub few : p.octets ≤ length p.part

-- what may still come: nothing, unless the search is over
abbrev pub MayCome : Searched → List ℕ → Type 0
MayCome x future = x.search.over ≡ false → future ≡ []

-- the text at the end is that of the whole capture, with whatever is not read of it
abbrev pub TextOf : ℕ → ℕ → List ℕ → Searched → Type 0
TextOf l upto came x =
    (thing : Thing) (future : List ℕ) → MayCome x future → text_of (ended_of x.search) x.buf x.kept thing ≡ why_text l thing upto (came ++ future)

-- where it is not over, there is room for an octet, so that a read of none is the end of the input
pub record TextFound (l upto : ℕ) (came : List ℕ) (x : Searched) : Type 0 where
  pub text : TextOf l upto came x
  pub reads : x.search.over ≡ false → x.search.have < length x.buf

-- ---- all reads
unfoldable pub searched : Searched → List Piece → Searched
searched x [] = x
searched x (p ∷ ps) = searched (with_piece x p) ps

-- all octets that came
unfoldable pub came_in : List Piece → List ℕ
came_in [] = []
came_in (p ∷ ps) = take p.octets p.part ++ came_in ps

-- each read is made where one is to be made
unfoldable pub AllRead : Searched → List Piece → Type 0
AllRead x [] = Unit {0}
AllRead x (p ∷ ps) = Fits x p × AllRead (with_piece x p) ps

-- from two buffers on, before the first read
abbrev pub before_reads : ℕ → ℕ → List ℕ → List ℕ → Searched
before_reads l upto buf first = record { search = start_of l upto; buf = buf; kept = first }
