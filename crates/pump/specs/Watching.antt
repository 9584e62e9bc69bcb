-- The loop of `watch` over whatever its two system calls answer, one call at a time, and what it is to write: the text of the whole input.
-- Assumes nothing.
use Rattle.std.specs.Prelude.{ℕ, ◌-◌, ◌≤◌, ◌<◌, ◌≡◌, true, false, List, [], ◌∷◌, ◌++◌, length, take}
use Rattle.text.specs.Text.{text_of}
use Rattle.pump.specs.declared.Wanted.TheVariants.{Read, Write, Nothing}
use Rattle.pump.specs.Pumping.{Pumped, starting, pending_in, wants_of, got_of, took_of, turn_of}

-- what a system call answers. A read is lent the buffer behind the octets that are there: so many octets came, at the front of that part, which was left as
-- it says; none is the end of the input. A write takes so many of the octets that it is handed
pub data CallAnswer : Type 0 where
  Came : (octets : ℕ) (part : List ℕ) → CallAnswer
  Took : (octets : ℕ) → CallAnswer

-- the core with its buffers, all octets that came, and all that were taken
pub record Watched : Type 0 where
  pub core : Pumped
  pub came : List ℕ
  pub written : List ℕ

-- before the first call, with two buffers
unfoldable pub before_calls : List ℕ → List ℕ → Watched
before_calls buf out = record { core = record { pump = starting; buf = buf; out = out }; came = []; written = [] }

-- the core and its buffers with the answer of a call, before the core's turn
abbrev pub with_answer : Pumped → CallAnswer → Pumped
with_answer x (Came n part) =
    let buf = take x.pump.have x.buf ++ part in
    record { pump = got_of x.pump n (length buf); buf = buf; out = x.out }
with_answer x (Took n) = record { pump = took_of x.pump n; buf = x.buf; out = x.out }

-- the core's turn
abbrev pub turned_on : Pumped → Pumped
turned_on x = turn_of x.pump x.buf x.out

-- one call, and one turn of the core behind it
unfoldable pub one_call : Watched → CallAnswer → Watched
one_call x (Came n part) = record { core = turned_on (with_answer x.core (Came n part)); came = x.came ++ take n part; written = x.written }
one_call x (Took n) =
    record {
      core = turned_on (with_answer x.core (Took n));
      came = x.came;
      written = x.written ++ take n (pending_in x.core.pump x.core.out);
    }

unfoldable pub watched : Watched → List CallAnswer → Watched
watched x [] = x
watched x (a ∷ later) = watched (one_call x a) later

-- an answer to the call that is wanted: a read fills no more than its part; a write takes something, and no more than it is handed
abbrev pub AnswersCall : Pumped → CallAnswer → Type 0
AnswersCall x (Came n part) = (wants_of x.pump ≡ Read) × (length part ≡ length x.buf - x.pump.have) × (n ≤ length part)
AnswersCall x (Took n) = (wants_of x.pump ≡ Write) × (1 ≤ n) × (n ≤ length (pending_in x.pump x.out))

-- each answer is one to the call that is wanted then
unfoldable pub AllAnswered : Watched → List CallAnswer → Type 0
AllAnswered x [] = Unit {0}
AllAnswered x (a ∷ later) = AnswersCall x.core a × AllAnswered (one_call x a) later

-- xs stands at the front of ys
pub record Front (xs ys : List ℕ) : Type 0 where
  pub behind : List ℕ
  pub joined : xs ++ behind ≡ ys

-- what is still to come: nothing, once a read has found the end
abbrev pub MayCome : Watched → List ℕ → Type 0
MayCome x future = x.core.pump.closed ≡ true → future ≡ []

-- what holds after every list of answers
pub record TextWritten (x : Watched) : Type 0 where
  -- whatever is still to come, what was taken is a front of the text of it all
  pub front : (future : List ℕ) → MayCome x future → Front x.written (text_of (x.came ++ future))
  -- where nothing more is wanted, it is the whole text
  pub whole : wants_of x.core.pump ≡ Nothing → (future : List ℕ) → MayCome x future → x.written ≡ text_of (x.came ++ future)
  -- a read is wanted only with room for an octet, so that none is the end, and not behind the end
  pub reads : wants_of x.core.pump ≡ Read → (x.core.pump.have < length x.core.buf) × (x.core.pump.closed ≡ false)
  -- a write is handed something
  pub writes : wants_of x.core.pump ≡ Write → 1 ≤ length (pending_in x.core.pump x.core.out)
