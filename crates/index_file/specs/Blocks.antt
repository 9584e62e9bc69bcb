-- An index file built from a log block by block: what the code does. `proofs/Streamed.antt` says that it is `build_of`'s index.
-- Assumes nothing.
use Rattle.std.specs.Prelude.{ℕ, zero, suc, min, ◌+◌, ◌-◌, Bool, true, false, cond, List, [], length, eqb, ltb}
use Rattle.std.proofs.lemmas.List.Edits.{sets}
use Rattle.octets.specs.Choice.{need}
use Rattle.octets.specs.declared.refusals.Refusal.{Refusal}
use Rattle.octets.specs.Refusals.{number_of}
use Rattle.call_log.specs.declared.Point.{Point}
use Rattle.call_log.specs.declared.Ended.{Ended}
use Rattle.call_log.specs.Records.{header_fits}
use Rattle.call_log.specs.Reading.{read_to, never, at_start}
use Rattle.indexing.specs.declared.IndexHead.{IndexHead}
use Rattle.index_file.specs.declared.Entry.{Entry}
use Rattle.index_file.specs.declared.Indexing.{Indexing as Made}
use Rattle.index_file.specs.declared.Stage.{Stage}
use Rattle.index_file.specs.declared.Stage.TheVariants.{More, Over, Refused}
use Rattle.index_file.specs.Octets.{entry_octets, head_octets}
use Rattle.index_file.specs.Files.{place_of}
use Rattle.index_file.specs.Windows.{window_of}

-- how far a file is built: what stands before the next entry, the place of the next record of the log there, how many entries there are, the label, 0 or 19, and
-- whether another entry is to be put
pub record Indexing : Type 0 where
  pub point : Point
  pub place : ℕ
  pub count : ℕ
  pub label : ℕ
  pub answer : ℕ
  pub more : Bool

-- as the code says it, whatever it is that has the refusal's number
abbrev pub answer_at : {N : Type 0} → (N → ℕ) → Stage N → ℕ
answer_at n More = 0
answer_at n Over = 0
answer_at n (Refused r) = n r

abbrev pub goes_on : {N : Type 0} → Stage N → Bool
goes_on More = true
goes_on Over = false
goes_on (Refused r) = false

abbrev pub indexing_by : {N : Type 0} → (N → ℕ) → Made N → Indexing
indexing_by n x = record { point = x.point; place = x.place; count = x.count; label = x.label; answer = answer_at n x.stage; more = goes_on x.stage }

abbrev pub indexing_of : Made Refusal → Indexing
indexing_of x = indexing_by number_of x

-- a sum that stays at the greatest number
abbrev pub further : ℕ → ℕ → ℕ
further place n = min (place + n) 18446744073709551615

-- before the first entry; 19 for a log with another header
abbrev pub start_of : List ℕ → ℕ → Indexing
start_of front l = record { point = at_start; place = 8; count = 0; label = l; answer = need (header_fits front) 19 0; more = header_fits front }

-- 256 records were read: another entry stands behind them
abbrev pub onward : Indexing → Ended → ℕ → Indexing
onward x e gone = record { point = e.point; place = further x.place gone; count = min x.count 255 + 1; label = x.label; answer = 0; more = true }

-- the log ended
abbrev pub over_at : Indexing → ℕ → Indexing
over_at x gone = record { point = x.point; place = further x.place gone; count = min x.count 255 + 1; label = x.label; answer = 0; more = false }

-- a cut record, or one too many
abbrev pub refused_at : Indexing → Indexing
refused_at x = record { point = x.point; place = x.place; count = 0; label = x.label; answer = 19; more = false }

-- what the records behind an entry come to, of a window of so many octets
unfoldable pub after_block : Indexing → Ended → ℕ → Indexing
after_block x e size =
    cond (eqb e.spare 0)
    (cond (ltb x.count 255) (onward x e (size - e.left)) (refused_at x))
    (cond (eqb e.left 0) (over_at x size) (refused_at x))

pub record Building : Type 0 where
  pub indexing : Indexing
  pub out : List ℕ

abbrev pub entry_for : Indexing → Entry
entry_for x = record { clock = x.point.clock; place = x.place; session = x.point.session }

-- one entry is put, and the records behind it are read
unfoldable pub block_of : List ℕ → Indexing → List ℕ → Building
block_of out x window =
    record {
      indexing = after_block x (read_to 256 x.label never window x.point) (length window);
      out = sets out (place_of x.count) (entry_octets (entry_for x) []);
    }

-- block by block, n at most, each with a window of the log
unfoldable pub blocks_of : ℕ → List ℕ → Building → Building
blocks_of zero log b = b
blocks_of (suc n) log b = cond b.indexing.more (blocks_of n log (block_of b.out b.indexing (window_of log b.indexing.place))) b

abbrev pub head_built : Indexing → IndexHead
head_built x = record { length = x.place; label = x.label; count = min x.count 256 }

pub record Finished : Type 0 where
  pub size : ℕ
  pub out : List ℕ

-- the head before the entries, and the octets of the file; none beside a refusal
unfoldable pub finished_of : List ℕ → Indexing → Finished
finished_of out x =
    cond (eqb x.answer 0)
    (record { size = place_of x.count; out = sets out 0 (head_octets (head_built x) []) })
    (record { size = 0; out = out })
