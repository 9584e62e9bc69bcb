use mathlib.Core.Path.{ap, ◌∙◌}
use lib.ListN.{length}
use lib.Seq.{sets}
use native.Mathlib.Omega.{arith}
use Rattle.call_log.specs.declared.Ended.{Ended}
use Rattle.call_log.specs.Reading.{never}
use Rattle.call_log.proofs.Turns.{left-most}
use Rattle.index_file.specs.Blocks.{indexing_by, after_block, block_of}
use Rattle.index_file.proofs.blocks.block.Goals as goal

pub after_block-requires : goal.after_block-requires
after_block-requires g c = let a = c.args in
    omega (arith, ap (λ (e : Ended). e.left) c.read_to-e.ensures, left-most a.x.label never 256 a.window.now a.x.point)

pub returns : goal.returns
unfolding block_of
returns g c = let a = c.args in
    let out = c.put_octets.ensures ∙ (λ i. sets a.out.now (c.place_of.ensures i) (c.entry_octets-o.ensures i)) in
    let indexing = c.after_block.ensures ∙ ap (λ (e : Ended). after_block (indexing_by g.N.Numbered.numbered a.x) e (length a.window.now)) c.read_to-e.ensures in
    λ i. record { indexing = indexing i; out = out i }
