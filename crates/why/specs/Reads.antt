-- The reads of `why`, one behind the other. The contract of a read gives a bound for the number that it answers, and says nothing of octets. That those
-- read are the input's is left to the call itself.
-- Assumes nothing.
use Rattle.std.specs.Prelude.{ℕ, ◌≤◌, ◌≡◌, false, List, length, take, Result, Ok, Err}
use Rattle.inquiry.specs.Searching.{Searched, got_of}
use Rattle.inquiry.specs.Sought.{Sought, Piece, with_piece, Fits}
use Rattle.why.specs.declared.Looked.{Looked}
use Rattle.why.specs.declared.Next.TheVariants.{Read}

abbrev pub looking : Looked → List ℕ → List ℕ → Searched
looking r buf kept = record { search = r.search; buf = buf; kept = kept }

-- ---- what a read answers, and what is made of it
-- a read that fails and the end of the input leave all as it was
pub record Stayed (x : Searched) (r : Looked) (buf kept : List ℕ) : Type 0 where
  pub same-search : r.search ≡ x.search
  pub same-buf : buf ≡ x.buf
  pub same_kept : kept ≡ x.kept

abbrev pub Told : {E : Type 0} → Searched → Result ℕ E → Looked → List ℕ → List ℕ → Type 0
Told x (Ok n) r buf kept = (n ≡ 0 → Stayed x r buf kept) × (1 ≤ n → looking r buf kept ≡ got_of x.search n x.buf x.kept)
Told x (Err e) r buf kept = Stayed x r buf kept

-- another read is made only where the answer is not known
abbrev pub Goes : Searched → Looked → Type 0
Goes x r = x.search.over ≡ false → r.next ≡ Read → r.search.over ≡ false

pub record AfterRead {E : Type 0} (x : Searched) (z : Result ℕ E) (r : Looked) (buf kept : List ℕ) : Type 0 where
  pub told : Told x z r buf kept
  pub goes : Goes x r

-- ---- one read
-- octets came, as `inquiry` has it
pub record Answer (x y : Searched) : Type 0 where
  pub piece : Piece
  pub fits : Fits x piece
  pub leaves : y ≡ with_piece x piece

-- the same search over the same octets. A read that failed may have left anything behind them, which the next read is lent again
pub record Alike (x y : Searched) : Type 0 where
  pub search : y.search ≡ x.search
  pub kept : y.kept ≡ x.kept
  pub room : length y.buf ≡ length x.buf
  pub there : take x.search.have y.buf ≡ take x.search.have x.buf

pub data ReadMade (x y : Searched) : Type 0 where
  Moved : Answer x y → ReadMade x y
  Still : Alike x y → ReadMade x y

pub record OneRead (x : Searched) (r : Looked) (buf kept : List ℕ) : Type 0 where
  pub made : ReadMade x (looking r buf kept)
  pub goes : Goes x r

-- ---- all reads
-- there are octets that came, and this is what the search holds of them
pub record Reached (l upto : ℕ) (first : List ℕ) (x : Searched) : Type 0 where
  pub came : List ℕ
  pub sought : Sought l upto first came x
