-- What holds between two system calls: what was taken, what is to be written and the text of what is left are the text of the whole input. And what is wanted then.
-- Assumes nothing.
use Prim.Native.Nat.{ℕ, ◌-◌, ◌≤◌, ◌<◌}
use native.Mathlib.Omega.{arith}
use mathlib.Core.Path.{◌≡◌, refl, ap, ◌∙◌}
use mathlib.Core.Bool.{Bool, true, false, ◌||◌}
use mathlib.Core.Logic.{◌⊎◌, inl, inr}
use mathlib.Core.List.{List, [], ◌++◌}
use lib.Dec.{ltb, eqb}
use lib.ListN.{length, take, drop}
use lib.Seq.{sets, take-append_seam}
use borrow.Author.Tests.{ltb-true, ltb-false}
use Rattle.octets.specs.Choice.{bit_of}
use Rattle.octets.proofs.Runs.{front}
use Rattle.rules.proofs.Bools.{split, no_way}
use Rattle.step.specs.Stepping.{table_of}
use Rattle.capture.specs.Records.{header_fits}
use Rattle.meaning.specs.Histories.{History}
use Rattle.text.specs.Text.{bad_header, ending, text_after, text_of}
use Rattle.text.specs.Putting.{empty_table}
use Rattle.text.proofs.Reached.{Reached}
use Rattle.pump.specs.declared.Pump.{Pump}
use Rattle.pump.specs.declared.Wanted.{Wanted}
use Rattle.pump.specs.declared.Wanted.TheVariants.{Read, Write, Nothing}
use Rattle.pump.specs.Pumping.{Pumped, pending_in, wants_of, input_in}

-- ---- what holds between two calls
-- the header is not read yet: nothing is written, and all that came is there
pub record Fresh (c : Pumped) (came written : List ℕ) : Type 0 where
  pub table : c.pump.table ≡ empty_table 0
  pub all : came ≡ input_in c.pump c.buf
  pub none : written ≡ []
  pub idle : c.pump.to ≤ c.pump.from

-- behind the header: the table is in step with a history, and the text of what is left and of what is to come follows
pub record Going (c : Pumped) (came written : List ℕ) : Type 0 where
  pub past : History
  pub reached : Reached past (table_of c.pump.table.row c.pump.table.fed.head)
  pub rows : length c.pump.table.row ≡ 64
  pub text : (future : List ℕ) → (written ++ pending_in c.pump c.out) ++ text_after past c.pump.table.fed.number (input_in c.pump c.buf ++ future)
      ≡ text_of (came ++ future)

-- the last words are there
pub record Ended (c : Pumped) (came written : List ℕ) : Type 0 where
  pub text : (future : List ℕ) → (c.pump.closed ≡ true → future ≡ []) → written ++ pending_in c.pump c.out ≡ text_of (came ++ future)

-- by the marks `over` and `begun`
abbrev pub Stage : Bool → Bool → Pumped → List ℕ → List ℕ → Type 0
Stage true begun c came written = Ended c came written
Stage false true c came written = Going c came written
Stage false false c came written = Fresh c came written

-- places within the buffers
pub record Places (c : Pumped) : Type 0 where
  pub big : 2064 ≤ length c.buf
  pub wide : 160 ≤ length c.out
  pub there : c.pump.have ≤ length c.buf
  pub order : c.pump.from ≤ c.pump.to
  pub fits : c.pump.to ≤ length c.out

pub record Sound (c : Pumped) (came written : List ℕ) : Type 0 where
  pub places : Places c
  pub stage : Stage c.pump.over c.pump.begun c came written

-- a read is wanted only with room, and not behind the end
abbrev pub Settled : Pumped → Type 0
Settled c = wants_of c.pump ≡ Read → (c.pump.have < length c.buf) × (c.pump.closed ≡ false)

-- ---- what is wanted
clash : {A : Type 0} {w : Wanted} → (w ≡ Write) ⊎ (w ≡ Nothing) → w ≡ Read → A
clash (inl d) e = absurd (let z : ◌≡◌ {A = ℕ} 0 1 = cc in omega arith)
clash (inr d) e = absurd (let z : ◌≡◌ {A = ℕ} 0 1 = cc in omega arith)

other : {A : Type 0} {w : Wanted} → w ≡ Write → w ≡ Nothing → A
other d e = absurd (let z : ◌≡◌ {A = ℕ} 0 1 = cc in omega arith)

module _ (p : Pump) where
  pub wants-in : {A : Type 0} → (p.from < p.to → wants_of p ≡ Write → A) → (p.to ≤ p.from → p.over ≡ true → wants_of p ≡ Nothing → A)
      → (p.to ≤ p.from → p.over ≡ false → wants_of p ≡ Read → A) → A
  unfolding wants_of
  wants-in w n r =
      split (ltb p.from p.to)
      (λ a. w (ltb-true p.from p.to a) (rw a))
      (λ a. split p.over
      (λ b. n (ltb-false p.from p.to a) b (rw (a, b)))
      (λ b. r (ltb-false p.from p.to a) b (rw (a, b))))

  pub wants-read : wants_of p ≡ Read → (p.to ≤ p.from) × (p.over ≡ false)
  wants-read e = wants-in (λ l w. clash (inl w) e) (λ l o w. clash (inr w) e) (λ l o w. (l, o))

  pub wants-write : wants_of p ≡ Write → p.from < p.to
  wants-write e = wants-in (λ l w. l) (λ l o w. other e w) (λ l o w. clash (inl e) w)

  pub wants-nothing : wants_of p ≡ Nothing → (p.to ≤ p.from) × (p.over ≡ true)
  wants-nothing e = wants-in (λ l w. other w e) (λ l o w. (l, o)) (λ l o w. clash (inr e) w)

  pub over-settled : p.over ≡ true → {A : Type 0} → wants_of p ≡ Read → A
  over-settled o e = no_way o (wants-read e).1

  pub write-settled : p.from < p.to → {A : Type 0} → wants_of p ≡ Read → A
  write-settled l e = absurd (omega (arith, (wants-read e).0))

pub bit-small : (b : Bool) → bit_of b ≤ 1
bit-small true = omega arith
bit-small false = omega arith

-- neither of two tests
pub neither : (a b : Bool) → a || b ≡ false → (a ≡ false) × (b ≡ false)
neither true b e = no_way refl e
neither false b e = (refl, e)

-- ---- octets at a buffer's front
-- those that were put there
pub put_front : (d l : List ℕ) → length d ≤ length l → take (length d) (sets l 0 d) ≡ d
put_front d l h = ap (take (length d)) (front d l h) ∙ take-append_seam d (drop (length d) l)

-- so are those from 0 on
pub from_front : (d l : List ℕ) → length d ≤ length l → take (length d - 0) (drop 0 (sets l 0 d)) ≡ d
from_front d l h = let z : length d - 0 ≡ length d = omega arith in rw z (put_front d l h)

-- nothing is left to be written
pub none-pending : (p : Pump) (out : List ℕ) → p.to ≤ p.from → pending_in p out ≡ []
none-pending p out l = let z : p.to - p.from ≡ 0 = omega arith in rw z

pub ending-short : (s : List ℕ) → length (ending s) ≤ 4
ending-short s = split (eqb (length s) 0) (λ e. rw e (omega arith)) (λ e. rw e (omega arith))

-- the text where the header is wrong
pub text-bad : (s : List ℕ) → header_fits s ≡ false → text_of s ≡ bad_header
unfolding text_of
text-bad s h = rw h
