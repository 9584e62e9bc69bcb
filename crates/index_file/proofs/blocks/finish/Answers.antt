use mathlib.Core.Path.{sym, ap, ◌∙◌}
use mathlib.Core.List.{[]}
use lib.Dec.{eqb}
use lib.Seq.{sets}
use borrow.Author.Tests.{not-false}
use Rattle.indexing.specs.declared.IndexHead.{IndexHead}
use Rattle.index_file.specs.Octets.{head_octets}
use Rattle.index_file.specs.Blocks.{answer_at, finished_of}
use Rattle.index_file.proofs.blocks.finish.Goals as goal

pub returns : goal.returns
unfolding finished_of
returns g c = let a = c.args in
    let octets = c.head_octets-o.ensures ∙ ap (λ (h : IndexHead). head_octets h []) c.head_built.ensures in
    let out = c.put_octets.ensures ∙ ap (sets a.out.now 0) octets in
    let goes = not-false (eqb (answer_at g.N.Numbered.numbered a.x.stage) 0) (sym c.is_refused.ensures ∙ c.if-is_refused.false) in
    rw goes (λ i. record { size = c.place_of.ensures i; out = out i })
