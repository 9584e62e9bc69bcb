-- What stands between two records of a log, and the entries of an index: before record 1 and after every 256th record.
-- Assumes nothing.
use Rattle.std.specs.Prelude.{ℕ, zero, suc, ◌*◌, ◌-◌, ◌≤◌, ◌≡◌, true, cond, List, length, drop, eqb}
use Rattle.capture.specs.Records.{record_in}
use Rattle.call_log.specs.declared.Point.{Point}
use Rattle.call_log.specs.Records.{answer_in, is_whole, behind}
use Rattle.call_log.specs.Reading.{clock_after, followed, at_start}

-- the octets behind n records
unfoldable pub rest_after : ℕ → List ℕ → List ℕ
rest_after zero s = s
rest_after (suc n) s = rest_after n (behind s)

-- the label's record and the clock behind n records
unfoldable pub point_after : ℕ → ℕ → List ℕ → Point → Point
point_after zero l s p = p
point_after (suc n) l s p = point_after n l (behind s) (followed l s p)

-- entry k: what stands after record 256 k, and the place of the next record
abbrev pub entry_point : ℕ → List ℕ → ℕ → Point
entry_point l log k = point_after (256 * k) l (drop 8 log) at_start

abbrev pub entry_rest : List ℕ → ℕ → List ℕ
entry_rest log k = rest_after (256 * k) (drop 8 log)

abbrev pub entry_place : List ℕ → ℕ → ℕ
entry_place log k = length log - length (entry_rest log k)

-- the clock behind a record
abbrev pub clock_by : List ℕ → ℕ → ℕ
clock_by s clock = cond (eqb (answer_in s) 0) (clock_after (record_in s) clock) clock

-- n whole records, whose accepted calls never go back in time
unfoldable pub Rises : ℕ → ℕ → List ℕ → Type 0
Rises zero clock s = Unit {0}
Rises (suc n) clock s = (is_whole s ≡ true) × (clock ≤ clock_by s clock) × Rises n (clock_by s clock) (behind s)
