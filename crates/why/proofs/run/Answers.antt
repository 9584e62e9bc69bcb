use mathlib.Core.Path.{refl, ap, ◌∙◌}
use Rattle.inquiry.specs.declared.search.Search.{Search}
use Rattle.inquiry.specs.Searching.{Searched, start_of}
use Rattle.why.specs.declared.Looked.{Looked}
use Rattle.why.proofs.Reading.{reached-first, reached-next}
use Rattle.why.proofs.run.Goals as goal

pub loop-turn-init : goal.loop-turn-init
unfolding start_of
loop-turn-init c =
    let a = c.args in (
      refl,
      refl,
      λ g. ap (λ (r : Looked). r.search.over) c.looks-x.ensures ∙ ap (λ (r : Search). r.over) c.start.ensures,
      rw c.looks-x.ensures (rw c.start.ensures (reached-first a.label a.upto c.ranges.upto.fits a.kept.now a.buf.now c.requires)),
    )

pub read_on-x-requires : goal.read_on-x-requires
read_on-x-requires c = c.loop-turn.invariant.2 c.in-Read.is

pub loop-turn-preserved : goal.loop-turn-preserved
loop-turn-preserved c =
    let a = c.args in
    let i = c.loop-turn.invariant in
    let x : Searched = record { search = c.loop-turn.x.search; buf = c.loop-turn.buf; kept = c.loop-turn.kept } in (
      c.read_on-x.auto.buf ∙ i.0,
      c.read_on-x.auto.kept ∙ i.1,
      c.read_on-x.ensures.goes (i.2 c.in-Read.is),
      reached-next a.label a.upto c.ranges.upto.fits a.kept.now x i.3 c.read_on-x.result _ _ c.read_on-x.ensures,
    )

pub returns-in-Answer : goal.returns-in-Answer
returns-in-Answer c = c.loop-turn.invariant.3

pub returns-after-loop-turn : goal.returns-after-loop-turn
returns-after-loop-turn c = c.loop-turn.invariant.3
