-- The reads of `spacing`, one behind the other. The contract of a read gives a bound for the number that it answers, and says nothing of octets. That those
-- read are the input's is left to the call itself.
-- Assumes nothing.
use Rattle.std.specs.Prelude.{ℕ, ◌≤◌, ◌≡◌, false, List, length, take, Result, Ok, Err}
use Rattle.gauge.specs.Gauging.{Gauged, got_of}
use Rattle.gauge.specs.Held.{Held, Piece, with_piece, Fits}
use Rattle.spacing.specs.declared.Looked.{Looked}
use Rattle.spacing.specs.declared.Next.TheVariants.{Read}

abbrev pub looking : Looked → List ℕ → Gauged
looking r buf = record { gauge = r.gauge; buf = buf }

-- ---- what a read answers, and what is made of it
-- a read that fails and the end of the input leave all as it was
pub record Stayed (x : Gauged) (r : Looked) (buf : List ℕ) : Type 0 where
  pub same-gauge : r.gauge ≡ x.gauge
  pub same-buf : buf ≡ x.buf

abbrev pub Told : {E : Type 0} → Gauged → Result ℕ E → Looked → List ℕ → Type 0
Told x (Ok n) r buf = (n ≡ 0 → Stayed x r buf) × (1 ≤ n → looking r buf ≡ got_of x.gauge n x.buf)
Told x (Err e) r buf = Stayed x r buf

-- another read is made only where the numbers are not known
abbrev pub Goes : Gauged → Looked → Type 0
Goes x r = x.gauge.over ≡ false → r.next ≡ Read → r.gauge.over ≡ false

pub record AfterRead {E : Type 0} (x : Gauged) (z : Result ℕ E) (r : Looked) (buf : List ℕ) : Type 0 where
  pub told : Told x z r buf
  pub goes : Goes x r

-- ---- one read
-- octets came, as `gauge` has it
pub record Answer (x y : Gauged) : Type 0 where
  pub piece : Piece
  pub fits : Fits x piece
  pub leaves : y ≡ with_piece x piece

-- the same over the same octets. A read that failed may have left anything behind them, which the next read is lent again
pub record Alike (x y : Gauged) : Type 0 where
  pub gauge : y.gauge ≡ x.gauge
  pub room : length y.buf ≡ length x.buf
  pub there : take x.gauge.have y.buf ≡ take x.gauge.have x.buf

pub data ReadMade (x y : Gauged) : Type 0 where
  Moved : Answer x y → ReadMade x y
  Still : Alike x y → ReadMade x y

pub record OneRead (x : Gauged) (r : Looked) (buf : List ℕ) : Type 0 where
  pub made : ReadMade x (looking r buf)
  pub goes : Goes x r

-- ---- all reads
-- there are octets that came, and this is what is held of them
pub record Reached (l : ℕ) (x : Gauged) : Type 0 where
  pub came : List ℕ
  pub held : Held l came x
