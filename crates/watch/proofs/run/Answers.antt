use mathlib.Core.Path.{refl, ◌∙◌}
use Rattle.pump.specs.Pumping.{Pumped}
use Rattle.watch.proofs.Calling.{reached-first, reached-turn, reached-same, made_again}
use Rattle.watch.proofs.run.Goals as goal
use Rattle.watch.proofs.run.Goals.{in-Turn, in-Again}

pub loop-turn-init : goal.loop-turn-init
loop-turn-init c = let a = c.args in
    (refl, refl, rw c.start-core.ensures (reached-first a.buf.now a.out.now))

pub loop-turn-preserved : goal.loop-turn-preserved
loop-turn-preserved c =
    let a = c.args in
    let x : Pumped = record { pump = c.loop-turn.core; buf = c.loop-turn.buf; out = c.loop-turn.out } in
    let r = c.call-made.result in
    let i = c.loop-turn.invariant in (
      c.match-made.auto.buf ∙ c.call-made.auto.buf ∙ i.0,
      c.match-made.auto.out ∙ i.1,
      elim c.match-made.branch [
        | in-Turn w ↦
            rw (w.buf-is, w.out-is, w.core-is)
            (reached-turn a.buf.now a.out.now x i.2 r c.call-made.new.buf c.call-made.ensures w.in-Turn.is _ w.turn-core.ensures)
        | in-Again w ↦
            rw (w.buf-is, w.out-is, w.core-is)
            (reached-same a.buf.now a.out.now x i.2 r c.call-made.new.buf c.call-made.ensures (made_again r w.in-Again.is))
      ],
    )
