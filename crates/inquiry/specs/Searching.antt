-- A capture read for a question, in whatever pieces it comes: what is held between two reads, and what a read makes of it. This is what the code is proved to do.
-- Assumes nothing.
use Rattle.std.specs.Prelude.{ℕ, ◌+◌, min, Bool, true, false, cond, List, [], ◌++◌, ltb, length, take, drop, replicate}
use Rattle.std.proofs.lemmas.List.Edits.{sets}
use Rattle.capture.specs.declared.Next.{Next}
use Rattle.capture.specs.declared.Next.TheVariants.{Whole, Broken, Short, End}
use Rattle.capture.specs.Records.{header_fits, next_in}
use Rattle.table.specs.Table.{absent}
use Rattle.cause.specs.declared.Thing.{Thing}
use Rattle.cause.specs.Noting.{anew}
use Rattle.trace.specs.declared.Tracing.{Tracing}
use Rattle.trace.specs.Tracing.{Trail, trace_of}
use Rattle.trace.specs.Asking.{found_by, found_in}
use Rattle.inquiry.specs.declared.search.Search.{Search}
use Rattle.inquiry.specs.Vocabulary.{w_bad_header, w_line}
use Rattle.inquiry.specs.Words.{cut_line}
use Rattle.inquiry.specs.Telling.{telling_from}

-- the search, the buffer for input, and what is kept of the last crossed message
pub record Searched : Type 0 where
  pub search : Search
  pub buf : List ℕ
  pub kept : List ℕ

-- a table made empty, nothing read
unfoldable pub start_of : ℕ → ℕ → Search
start_of l upto =
    record {
      asked =
          record {
            row = replicate 64 absent;
            tracing =
                record {
                  fed = record { head = record { clock = 0; occupied = 0 }; number = 0; used = 0; written = 0 };
                  upto = upto;
                  marks = anew 0;
                  label = l;
                };
          };
      have = 0;
      begun = false;
      over = false;
      bad = false;
    }

-- the octets of input that are there
abbrev pub input_in : Search → List ℕ → List ℕ
input_in s buf = take s.have buf

abbrev pub same : Search → List ℕ → List ℕ → Searched
same s buf kept = record { search = s; buf = buf; kept = kept }

-- so many octets are there
abbrev pub holding : Search → ℕ → Search
holding s have = record { asked = s.asked; have = have; begun = s.begun; over = s.over; bad = s.bad }

-- a header that does not fit: nothing that may come changes that
abbrev pub bad_one : Search → Search
bad_one s = record { asked = s.asked; have = s.have; begun = s.begun; over = true; bad = true }

-- the header is read
abbrev pub header_read : Search → ℕ → Search
header_read s have = record { asked = s.asked; have = have; begun = true; over = s.over; bad = s.bad }

-- the search and the buffer for input
pub record Begun : Type 0 where
  pub search : Search
  pub buf : List ℕ

-- the header, once its octets are there
unfoldable pub headed : Search → List ℕ → Begun
headed s buf =
    let input = input_in s buf in
    cond (ltb (length input) 8) (record { search = s; buf = buf })
    (cond (header_fits input) (record { search = header_read s (length (drop 8 input)); buf = sets buf 0 (drop 8 input) })
    (record { search = bad_one s; buf = buf }))

unfoldable pub begun_on : Search → List ℕ → Begun
begun_on s buf = cond s.begun (record { search = s; buf = buf }) (headed s buf)

-- before the first octet of the input
unfoldable pub at_front : Tracing → Tracing
at_front x =
    record {
      fed = record { head = x.fed.head; number = x.fed.number; used = 0; written = 0 };
      upto = x.upto;
      marks = x.marks;
      label = x.label;
    }

-- nothing that may come changes what is known: a record that none can mend, or one more than was asked for
abbrev pub is_settled : Next → Bool
is_settled (Whole r) = true
is_settled Broken = true
is_settled Short = false
is_settled End = false

-- the whole records are traced, and the octets behind them moved to the buffer's front
abbrev pub traced_to : Search → List ℕ → Trail → List ℕ → Searched
traced_to s buf y rest =
    record {
      search = record { asked = record { row = y.row; tracing = y.tracing }; have = length rest; begun = true; over = is_settled (next_in rest); bad = false };
      buf = sets buf 0 rest;
      kept = y.kept;
    }

unfoldable pub traced_on : Search → List ℕ → List ℕ → Searched
traced_on s buf kept =
    let y = trace_of s.asked.row (at_front s.asked.tracing) (input_in s buf) kept in
    traced_to s buf y (drop y.tracing.fed.used (input_in s buf))

-- behind the header, where it is read
unfoldable pub searched_on : Begun → List ℕ → Searched
searched_on x kept = cond x.search.begun (traced_on x.search x.buf kept) (same x.search x.buf kept)

-- so many octets were read behind those that are there
unfoldable pub got_of : Search → ℕ → List ℕ → List ℕ → Searched
got_of s n buf kept = cond s.over (same s buf kept) (searched_on (begun_on (holding s (min (s.have + n) (length buf))) buf) kept)

-- the input has ended: a header that is not there is a bad one
unfoldable pub ended_of : Search → Search
ended_of s = cond s.begun s (bad_one s)

-- what is said of a capture that is not whole: by what stands behind the last record that was traced, of the number n
abbrev pub note_of : Next → ℕ → List ℕ
note_of (Whole r) n = []
note_of Broken n = cut_line n
note_of Short n = cut_line n
note_of End n = []

-- the text
unfoldable pub text_of : Search → List ℕ → List ℕ → Thing → List ℕ
text_of s buf kept thing =
    let x = s.asked.tracing in
    telling_from x.marks (found_in (found_by s.asked)) x.fed.head.clock kept x.label thing
    ++ cond s.bad (w_bad_header ++ w_line) (note_of (next_in (input_in s buf)) x.fed.number)
