use mathlib.Core.Path.{refl}
use Rattle.index_file.proofs.Seeks.{sought-used, sought-out}
use Rattle.index_file.proofs.seeking.sought_by.Goals as goal

pub returns-then-not-judged : goal.returns-then-not-judged
returns-then-not-judged c = let a = c.args in
    sought-out a.index.now a.count a.size a.label a.reading _ c.clocks_in-clocks.ensures _ c.find-f.ensures
    _ c.judged.ensures c.if-not-judged.true _ refl

pub returns : goal.returns
returns c = let a = c.args in
    sought-used a.index.now a.count a.size a.label a.reading _ c.clocks_in-clocks.ensures _ c.find-f.ensures
    _ c.judged.ensures c.if-not-judged.false _ c.entry_at.ensures
