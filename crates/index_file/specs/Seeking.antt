-- The entry of an index file that an answer comes from, and the answer: what the code does. `proofs/Asked.antt` says that it is `ask_of`'s.
-- Assumes nothing.
use Rattle.std.specs.Prelude.{ℕ, min, Bool, cond, List, Result, Ok, Err, eqb, ltb}
use Rattle.octets.specs.declared.refusals.Refusal.{Refusal}
use Rattle.octets.specs.Choice.{need, bar}
use Rattle.octets.specs.Refusals.{number_of}
use Rattle.rules.specs.Times.{latest}
use Rattle.table.specs.Table.{absent}
use Rattle.halving.specs.declared.Found.{Found}
use Rattle.call_log.specs.declared.Told.{Told}
use Rattle.halving.specs.Search.{found}
use Rattle.call_log.specs.Reading.{Answer, entry_fits, refused_with}
use Rattle.indexing.specs.declared.IndexHead.{IndexHead}
use Rattle.indexing.specs.Asking.{head_fits, answer_at}
use Rattle.indexing.specs.Judging.{judged_of}
use Rattle.index_file.specs.declared.Entry.{Entry}
use Rattle.index_file.specs.declared.Used.{Used}
use Rattle.index_file.specs.Files.{head_of, clocks_in, entry_at}

-- whether entry k is in range
abbrev pub fits_in : List ℕ → ℕ → ℕ → ℕ → Bool
fits_in s l size k = entry_fits (entry_at s k).session (entry_at s k).clock (entry_at s k).place l size

-- 1 for a reading above the greatest, 19 for a log with another header, 20
abbrev pub seek_refusal : IndexHead → Bool → ℕ → ℕ → ℕ → ℕ
seek_refusal h marked size l u = bar (ltb latest u) 1 (need marked 19 (need (head_fits h l size 256) 20 0))

-- what is sought: 0, with the entry that is used and how many were looked at, or a refusal, with neither
pub record Sought : Type 0 where
  pub entry : Entry
  pub looked : ℕ
  pub answer : ℕ

abbrev pub no_entry : Entry
no_entry = record { clock = 0; place = 0; session = absent }

abbrev pub refused_by : ℕ → Sought
refused_by n = record { entry = no_entry; looked = 0; answer = n }

-- as the code says it, whatever it is that has the refusal's number
abbrev pub said_by : {N : Type 0} → (N → ℕ) → Result Used N → Sought
said_by n (Ok x) = record { entry = x.entry; looked = x.looked; answer = 0 }
said_by n (Err r) = refused_by (n r)

abbrev pub said_of : Result Used Refusal → Sought
said_of x = said_by number_of x

abbrev pub told_by : {N : Type 0} → (N → ℕ) → Result Told N → Answer
told_by n (Ok t) = record { answer = 0; looked = t.looked; report = t.report }
told_by n (Err r) = refused_with (n r)

-- the entry that is found is used if those looked at and itself are in range
abbrev pub used_in : List ℕ → ℕ → ℕ → ℕ → Found → Sought
used_in s count size l f =
    cond (judged_of (fits_in s l size) f.place 0 count)
    (record { entry = entry_at s f.place; looked = f.looked; answer = 0 })
    (refused_by 20)

unfoldable pub sought_by : List ℕ → ℕ → ℕ → ℕ → ℕ → Sought
sought_by s count size l u = used_in s count size l (found (clocks_in s) u 0 (min count 256))

unfoldable pub sought_in : List ℕ → Bool → ℕ → ℕ → ℕ → Sought
sought_in s marked size l u =
    let refusal = seek_refusal (head_of s) marked size l u in
    cond (eqb refusal 0) (sought_by s (head_of s).count size l u) (refused_by refusal)

-- the answer, from the octets of the log behind the entry's place
unfoldable pub asked_from : Sought → List ℕ → ℕ → ℕ → Answer
asked_from x window l u =
    cond (eqb x.answer 0) (answer_at window 0 x.entry.session x.entry.clock l u x.looked) (refused_with x.answer)
