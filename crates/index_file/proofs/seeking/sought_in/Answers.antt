use mathlib.Core.Path.{refl}
use Rattle.std.proofs.lemmas.Result.{err_from_is_err_and}
use Rattle.indexing.proofs.Refused.{some_number}
use Rattle.index_file.proofs.Seeks.{sought-good, sought-refused}
use Rattle.index_file.proofs.seeking.sought_in.Goals as goal

pub returns-in_err-seek_refusal : goal.returns-in_err-seek_refusal
returns-in_err-seek_refusal c =
    let a = c.args in
    let p = err_from_is_err_and c.from_residual.result c.from_residual.ensures.1 in
    rw (p.1, p.2)
    (sought-refused a.index.now a.marked a.size a.label a.reading _ c.head_of-h.ensures _ c.in_err-seek_refusal.ensures (some_number c.in_err-seek_refusal.field-0.0) _ refl)

pub returns : goal.returns
returns c = let a = c.args in
    sought-good a.index.now a.marked a.size a.label a.reading _ c.head_of-h.ensures 0 c.in_ok-seek_refusal.ensures refl _ c.sought_by.ensures
