use mathlib.Core.Path.{refl, ap, ◌∙◌}
use Rattle.gauge.specs.declared.input.Gauge.{Gauge}
use Rattle.gauge.specs.Gauging.{Gauged, start_of}
use Rattle.spacing.specs.declared.Looked.{Looked}
use Rattle.spacing.proofs.Reading.{reached-first, reached-next}
use Rattle.spacing.proofs.run.Goals as goal

pub loop-turn-init : goal.loop-turn-init
unfolding start_of
loop-turn-init c =
    let a = c.args in (
      refl,
      λ g. ap (λ (r : Looked). r.gauge.over) c.looks-x.ensures ∙ ap (λ (r : Gauge). r.over) c.start.ensures,
      rw c.looks-x.ensures (rw c.start.ensures (reached-first a.label a.buf.now c.requires)),
    )

pub read_on-x-requires : goal.read_on-x-requires
read_on-x-requires c = c.loop-turn.invariant.1 c.in-Read.is

pub loop-turn-preserved : goal.loop-turn-preserved
loop-turn-preserved c =
    let a = c.args in
    let i = c.loop-turn.invariant in
    let x : Gauged = record { gauge = c.loop-turn.x.gauge; buf = c.loop-turn.buf } in (
      c.read_on-x.auto.buf ∙ i.0,
      c.read_on-x.ensures.goes (i.1 c.in-Read.is),
      reached-next a.label x i.2 c.read_on-x.result _ c.read_on-x.ensures,
    )

pub returns-in-Answer : goal.returns-in-Answer
returns-in-Answer c = c.loop-turn.invariant.2

pub returns-after-loop-turn : goal.returns-after-loop-turn
returns-after-loop-turn c = c.loop-turn.invariant.2
