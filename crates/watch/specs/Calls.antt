-- The system calls of `watch`: each is one of the loop of which `pump` proves what is written. The contract of a system call gives a bound for the number
-- that it answers, and says nothing of octets. That those read are the input's, and that those taken are written, is left to the two calls themselves.
-- Assumes nothing.
use Rattle.std.specs.Prelude.{ℕ, ◌≤◌, ◌≡◌, ◌≢◌, List, length, take, Result, Ok, Err}
use Rattle.pump.specs.declared.Pump.{Pump}
use Rattle.pump.specs.declared.Wanted.TheVariants.{Write, Nothing}
use Rattle.pump.specs.Pumping.{Pumped, wants_of, got_of, took_of}
use Rattle.pump.specs.Watching.{CallAnswer, before_calls, watched, with_answer, AnswersCall, AllAnswered}
use Rattle.watch.specs.declared.Called.{Called}
use Rattle.watch.specs.declared.Next.TheVariants.{Turn, Stop}

-- ---- what a system call answers, and what is made of it
-- it failed: nothing was moved
abbrev pub Failed : Pump → Called → Type 0
Failed p r = (r.core ≡ p) × (r.next ≢ Turn)

-- the core, with a buffer of that room, takes so many octets as read; none is the end of the input
abbrev pub AfterRead : {E : Type 0} → Pump → ℕ → Result ℕ E → Called → Type 0
AfterRead p room (Ok n) r = r ≡ record { core = got_of p n room; next = Turn }
AfterRead p room (Err e) r = Failed p r

-- it takes so many octets as written; a write that takes none has failed
abbrev pub AfterWrite : {E : Type 0} → Pump → Result ℕ E → Called → Type 0
AfterWrite p (Ok n) r = (n ≡ 0 → Failed p r) × (1 ≤ n → r ≡ record { core = took_of p n; next = Turn })
AfterWrite p (Err e) r = Failed p r

-- ---- one call
-- there is an answer to the call that was wanted, and with it the core and its buffers are these
pub record Answer (x after : Pumped) : Type 0 where
  pub answer : CallAnswer
  pub wanted : AnswersCall x answer
  pub leaves : after ≡ with_answer x answer

-- the core and its buffers are as they were, but that a read that failed may have left anything behind the octets that are there, which the next read is
-- lent again. Where a write is wanted, no read was made, and nothing differs
pub record Alike (x after : Pumped) : Type 0 where
  pub core : after.pump ≡ x.pump
  pub text : after.out ≡ x.out
  pub room : length after.buf ≡ length x.buf
  pub there : take x.pump.have after.buf ≡ take x.pump.have x.buf
  pub behind : wants_of x.pump ≡ Write → after.buf ≡ x.buf

-- what the call that is wanted leaves, and what it says of itself
pub record CallMade (x : Pumped) (r : Called) (buf : List ℕ) : Type 0 where
  pub moving : r.next ≡ Turn → Answer x (record { pump = r.core; buf = buf; out = x.out })
  pub staying : r.next ≢ Turn → Alike x (record { pump = r.core; buf = buf; out = x.out })
  -- it does not go on where nothing was wanted
  pub ending : wants_of x.pump ≡ Nothing → r.next ≡ Stop

-- ---- all calls
-- from two buffers on, there is a list of answers, each one to the call that was wanted then, that leads to this core and these buffers
pub record Reached (buf out : List ℕ) (after : Pumped) : Type 0 where
  pub answers : List CallAnswer
  pub wanted : AllAnswered (before_calls buf out) answers
  pub leaves : Alike (watched (before_calls buf out) answers).core after
